-- What the cells of an object's groups show: bits one by one, and bits that are taken as a group.
use Rattle.std.proofs.Common.{ℕ, ◌+◌, ◌-◌, ◌<◌, ◌≤◌, ◌≡◌, inl, inr, refl, sym, ap, subst, ◌∙◌, Bool, true, false, pos, arith}
use Rattle.std.specs.Prelude.{◌&&◌, not, nat_eq, if◌then◌else◌}
use Rattle.c_memory.specs.Cells.{bit_of}
use Rattle.c_memory.specs.declared.cells.Cell.{Cell}
use Rattle.c_memory.specs.declared.cells.Cell.TheVariants.{Uninit, Bit}
use Rattle.ival.specs.Forms.{Has, is_empty}
use Rattle.avalue.specs.Members.{Member, uninit, dangling, number, pointer, HasMember}
use Rattle.avalue.specs.declared.value.Value.{Value}
use Rattle.abstract_memory.specs.Values.{all_below, all_zero, has_no_pointers, is_plain, is_uninit, is_zero, loose}
use Rattle.abstract_memory.specs.Objects.{Entry, IsEntry, IsWhole, single, loosened, lifts}
use Rattle.abstract_memory.specs.Members.{Shows, Shown, Fits}
use Rattle.abstract_memory.proofs.Tests.{both_true, either_true, at_all, eq_of}
use Rattle.abstract_memory.proofs.Loose.{Single, loose_kept, zero_member, zero_bits, not_empty, no_pointer, clash}

-- other cells that are the same there
pub frame : (w : ℕ) (v : Value) (m n : ℕ → Cell) (s : ℕ) → ((j : ℕ) → j < w → m (s + j) ≡ n (s + j)) → Shown w v m s → Shown w v n s
frame w v m n s e h = record { member = h.member; is_in = h.is_in; shows = λ j l. subst (Shows w h.member j) (e j l) (h.shows j l) }

pub one_shown : (v : Value) (m : ℕ → Cell) (x : ℕ) → Single v (m x) → Shown 1 v m x
one_shown v m x h = record {
  member = h.member;
  is_in = h.is_in;
  shows = λ (j : ℕ) (l : j < 1). let z : 0 ≡ j = omega (arith, l) in let t : x ≡ x + j = omega (arith, l) in
      subst (λ (k : ℕ). Shows 1 h.member k (m (x + j))) z (subst (λ (k : ℕ). Shows 1 h.member 0 (m k)) t h.shows);
}

pub shown_one : (v : Value) (m : ℕ → Cell) (x : ℕ) → Shown 1 v m x → Single v (m x)
shown_one v m x h = record { member = h.member; is_in = h.is_in; shows = let t : x + 0 ≡ x = omega arith in subst (λ (k : ℕ). Shows 1 h.member 0 (m k)) t (h.shows 0 (omega arith)) }

width_cases : (e : Entry) (b : Bool) → nat_eq e.width 1 ≡ b → (if b then e else single (loose e.value e.width e.place)).width ≡ 1
width_cases e true q = eq_of e.width 1 q
width_cases e false q = refl

pub loosened_width : (e : Entry) → (loosened e).width ≡ 1
unfolding loosened
loosened_width e = width_cases e (nat_eq e.width 1) refl

place_cases : (e : Entry) (b : Bool) → e.place < e.width → nat_eq e.width 1 ≡ b → (if b then e else single (loose e.value e.width e.place)).place ≡ 0
place_cases e true l q = let w = eq_of e.width 1 q in omega (arith, w, l)
place_cases e false l q = refl

pub loosened_place : (e : Entry) → e.place < e.width → (loosened e).place ≡ 0
unfolding loosened
loosened_place e l = place_cases e (nat_eq e.width 1) l refl

uninit_member : (v : Value) (c : Cell) (u : Member) → is_uninit v ≡ true → HasMember v u → Shows 1 u 0 c → (c ≡ Uninit) × (v.uninit ≡ true)
unfolding Shows
uninit_member v c uninit e m h = (h, m)
uninit_member v c dangling e m h =
    let d = both_true (v.uninit && not v.dangling && is_empty v.ints) (has_no_pointers v.ptrs) e in let k = both_true (v.uninit && not v.dangling) (is_empty v.ints) d.0 in
    absurd (clash v.dangling (both_true v.uninit (not v.dangling) k.0).1 m)
uninit_member v c (number x) e m h =
    let d = both_true (v.uninit && not v.dangling && is_empty v.ints) (has_no_pointers v.ptrs) e in let k = both_true (v.uninit && not v.dangling) (is_empty v.ints) d.0 in
    absurd (not_empty v.ints x k.1 m)
uninit_member v c (pointer b o) e m h = absurd (no_pointer v.ptrs b o (both_true (v.uninit && not v.dangling && is_empty v.ints) (has_no_pointers v.ptrs) e).1 m)

zero_cell : (v : Value) (c : Cell) (u : Member) → is_zero v ≡ true → HasMember v u → Shows 1 u 0 c → (c ≡ Bit false) × Has v.ints (pos 0)
unfolding Shows
zero_cell v c uninit e m h =
    let p = both_true (is_plain v) (all_zero v.ints) e in let d = both_true (not v.uninit && not v.dangling) (has_no_pointers v.ptrs) p.0 in
    absurd (clash v.uninit (both_true (not v.uninit) (not v.dangling) d.0).0 m)
zero_cell v c dangling e m h =
    let p = both_true (is_plain v) (all_zero v.ints) e in let d = both_true (not v.uninit && not v.dangling) (has_no_pointers v.ptrs) p.0 in
    absurd (clash v.dangling (both_true (not v.uninit) (not v.dangling) d.0).1 m)
zero_cell v c (number x) e m h =
    let p = both_true (is_plain v) (all_zero v.ints) e in let z = zero_member v.ints x p.1 m in
    (h ∙ ap (λ y. Bit (bit_of y 0)) z ∙ ap Bit (zero_bits 0), subst (λ y. Has v.ints y) z m)
zero_cell v c (pointer b o) e m h =
    let p = both_true (is_plain v) (all_zero v.ints) e in let d = both_true (not v.uninit && not v.dangling) (has_no_pointers v.ptrs) p.0 in
    absurd (no_pointer v.ptrs b o d.1 m)

module _ (size : ℕ) (f : ℕ → Entry) (m : ℕ → Cell) (each : (x : ℕ) → x < size → IsEntry (f x)) (whole : IsWhole size f) (fits : Fits size f m) where
  loosened_cases : (x : ℕ) (b : Bool) → x < size → nat_eq (f x).width 1 ≡ b
      → Single (if b then f x else single (loose (f x).value (f x).width (f x).place)).value (m x)
  loosened_cases x true l e =
      let w = eq_of (f x).width 1 e in let p = (each x l).place in
      shown_one (f x).value m x (subst (λ (t : ℕ). Shown t (f x).value m x) w (fits x l (omega (arith, w, p))))
  loosened_cases x false l e =
      let p = (each x l).place in let q = whole.start x l in
      let start : f ((x + 0) - (f x).place) ≡ record { value = (f x).value; width = (f x).width; place = 0 } = whole.group x 0 l (omega (arith, p)) in
      let in_size : (x + 0) - (f x).place < size = omega (arith, l) in
      let here : Shown (f x).width (f x).value m ((x + 0) - (f x).place) = subst (λ (t : Entry). Shown t.width t.value m ((x + 0) - (f x).place)) start (fits ((x + 0) - (f x).place) in_size (ap (λ (t : Entry). t.place) start)) in
      let there : ((x + 0) - (f x).place) + (f x).place ≡ x = omega (arith, q) in
      loose_kept (f x).value (f x).width (f x).place here.member (m x) p here.is_in (subst (λ (t : ℕ). Shows (f x).width here.member (f x).place (m t)) there (here.shows (f x).place p))

  -- the cell of each bit by itself
  pub loosened_single : (x : ℕ) → x < size → Single (loosened (f x)).value (m x)
  unfolding loosened
  loosened_single x l = loosened_cases x (nat_eq (f x).width 1) l refl

  pub loosened_shown : (x : ℕ) → x < size → Shown (loosened (f x)).width (loosened (f x)).value m x
  loosened_shown x l = subst (λ (t : ℕ). Shown t (loosened (f x)).value m x) (sym (loosened_width (f x))) (one_shown (loosened (f x)).value m x (loosened_single x l))

  bit_single : (x : ℕ) → x < size → nat_eq (f x).width 1 ≡ true → Single (f x).value (m x)
  bit_single x l e =
      let w = eq_of (f x).width 1 e in let p = (each x l).place in
      shown_one (f x).value m x (subst (λ (t : ℕ). Shown t (f x).value m x) w (fits x l (omega (arith, w, p))))

  lift_uninit : (s w : ℕ) → 0 < w → s + w ≤ size → all_below w (λ j. nat_eq (f (s + j)).width 1 && is_uninit (f (s + j)).value) ≡ true → Shown w (f s).value m s
  unfolding Shows
  lift_uninit s w p l e =
      let at : (j : ℕ) → j < w → (m (s + j) ≡ Uninit) × ((f (s + j)).value.uninit ≡ true) = λ (j : ℕ) (k : j < w).
      (let h = both_true (nat_eq (f (s + j)).width 1) (is_uninit (f (s + j)).value) (at_all w (λ i. nat_eq (f (s + i)).width 1 && is_uninit (f (s + i)).value) e j k) in
      let g = bit_single (s + j) (omega (arith, k, l)) h.0 in
      uninit_member (f (s + j)).value (m (s + j)) g.member h.1 g.is_in g.shows) in
      let z : s + 0 ≡ s = omega arith in
      record { member = uninit; is_in = subst (λ (t : ℕ). (f t).value.uninit ≡ true) z (at 0 p).1; shows = λ (j : ℕ) (k : j < w). (at j k).0 }

  lift_zero : (s w : ℕ) → 0 < w → s + w ≤ size → all_below w (λ j. nat_eq (f (s + j)).width 1 && is_zero (f (s + j)).value) ≡ true → Shown w (f s).value m s
  unfolding Shows
  lift_zero s w p l e =
      let at : (j : ℕ) → j < w → (m (s + j) ≡ Bit false) × Has (f (s + j)).value.ints (pos 0) = λ (j : ℕ) (k : j < w).
      (let h = both_true (nat_eq (f (s + j)).width 1) (is_zero (f (s + j)).value) (at_all w (λ i. nat_eq (f (s + i)).width 1 && is_zero (f (s + i)).value) e j k) in
      let g = bit_single (s + j) (omega (arith, k, l)) h.0 in
      zero_cell (f (s + j)).value (m (s + j)) g.member h.1 g.is_in g.shows) in
      let z : s + 0 ≡ s = omega arith in
      record { member = number (pos 0); is_in = subst (λ (t : ℕ). Has (f t).value.ints (pos 0)) z (at 0 p).1; shows = λ (j : ℕ) (k : j < w). (at j k).0 ∙ ap Bit (sym (zero_bits j)) }

  -- bits that may be taken as a group show a member of their value as one
  pub lifted : (s w : ℕ) → 0 < w → s + w ≤ size → lifts f s w ≡ true → Shown w (f s).value m s
  unfolding lifts
  lifted s w p l e =
      elim (either_true (all_below w (λ j. nat_eq (f (s + j)).width 1 && is_uninit (f (s + j)).value)) (all_below w (λ j. nat_eq (f (s + j)).width 1 && is_zero (f (s + j)).value)) e)
      [ inl h ↦ lift_uninit s w p l h | inr h ↦ lift_zero s w p l h ]

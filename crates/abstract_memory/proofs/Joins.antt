-- Join and widening keep the members of both sides.
use Rattle.std.proofs.Common.{ℕ, ◌+◌, ◌-◌, ◌<◌, ◌≤◌, ◌≡◌, ◌⊎◌, inl, inr, refl, sym, subst, ◌∙◌, Bool, true, false, List, ℤ, length, arith}
use Rattle.std.specs.Prelude.{◌&&◌, nat_eq, if◌then◌else◌}
use Rattle.c_memory.specs.declared.cells.Cell.{Cell}
use Rattle.avalue.specs.Members.{Member, HasMember}
use Rattle.avalue.specs.declared.value.Value.{Value}
use Rattle.abstract_memory.specs.Values.{all_below, is_uninit, is_zero, join_values, widen_values}
use Rattle.abstract_memory.specs.Objects.{Entry, Object, IsEntry, IsWhole, IsObject, single, entry_at, loosened, lifts, start_of}
use Rattle.abstract_memory.specs.Joins.{match, merged_at, widen_group}
use Rattle.abstract_memory.specs.Members.{Shown, Fits, HasCells}
use Rattle.abstract_memory.specs.Kept.{JoinKeeps, WideningKeeps}
use Rattle.abstract_memory.proofs.Tests.{at_all, both_true, either_true, eq_of}
use Rattle.abstract_memory.proofs.Values.{join_has}
use Rattle.abstract_memory.proofs.Formed.{IsGroupValue, bit_group, entry_bit, group_value, loosened_formed, widen_has}
use Rattle.abstract_memory.proofs.Listed.{listed_cells}
use Rattle.abstract_memory.proofs.Groups.{loosened_shown, loosened_width, lifted}

abbrev pub Rule : Type 0
Rule = ℕ → Value → Value → Value

-- a rule that has the members of both sides
abbrev pub KeepsGroups : Rule → Type 0
KeepsGroups rule = (w : ℕ) (a b : Value) → 0 < w → w ≤ 64 → IsGroupValue w a → IsGroupValue w b → (u : Member) → HasMember a u ⊎ HasMember b u → HasMember (rule w a b) u

abbrev pub chosen : Rule → (ℕ → Entry) → (ℕ → Entry) → ℕ → Bool → Bool → Bool → Entry
chosen rule f g x same over under =
    if same then record { value = rule (f x).width (f x).value (g x).value; width = (f x).width; place = (f x).place }
    else (if over then record { value = rule (f x).width (f x).value (g (start_of f x)).value; width = (f x).width; place = (f x).place }
    else (if under then record { value = rule (g x).width (f (start_of g x)).value (g x).value; width = (g x).width; place = (g x).place }
    else single (join_values (loosened (f x)).value (loosened (g x)).value)))

pub with_value : (w : ℕ) (a b : Value) (m : ℕ → Cell) (x : ℕ) → ((u : Member) → HasMember a u → HasMember b u) → Shown w a m x → Shown w b m x
with_value w a b m x k h = record { member = h.member; is_in = k h.member h.is_in; shows = h.shows }

-- bits that lift are single
lift_one : (h : ℕ → Entry) (x w : ℕ) (t : Value → Bool) → 0 < w → all_below w (λ j. nat_eq (h (x + j)).width 1 && t (h (x + j)).value) ≡ true → (h x).width ≡ 1
lift_one h x w t p e =
    let d = both_true (nat_eq (h (x + 0)).width 1) (t (h (x + 0)).value) (at_all w (λ j. nat_eq (h (x + j)).width 1 && t (h (x + j)).value) e 0 p) in
    let z : x + 0 ≡ x = omega arith in
    subst (λ (y : ℕ). (h y).width ≡ 1) z (eq_of (h (x + 0)).width 1 d.0)

pub lift_width : (h : ℕ → Entry) (x w : ℕ) → 0 < w → lifts h x w ≡ true → (h x).width ≡ 1
unfolding lifts
lift_width h x w p e =
    elim (either_true (all_below w (λ j. nat_eq (h (x + j)).width 1 && is_uninit (h (x + j)).value)) (all_below w (λ j. nat_eq (h (x + j)).width 1 && is_zero (h (x + j)).value)) e)
    [ inl d ↦ lift_one h x w is_uninit p d | inr d ↦ lift_one h x w is_zero p d ]

module _ (rule : Rule) (size : ℕ) (f g : ℕ → Entry) (m : ℕ → Cell) (ef : (x : ℕ) → x < size → IsEntry (f x)) (eg : (x : ℕ) → x < size → IsEntry (g x))
    (wf : IsWhole size f) (wg : IsWhole size g) (keeps : KeepsGroups rule) where
  -- the values of an entry with place 0 and of one that matches it or lifts to it
  lifted_value : (h : ℕ → Entry) → ((x : ℕ) → x < size → IsEntry (h x)) → (x w : ℕ) → x < size → 0 < w → lifts h x w ≡ true → IsGroupValue w (h x).value
  lifted_value h eh x w l p e = bit_group w (h x).value p (entry_bit (h x) (eh x l) (lift_width h x w p e))

  same_value : (x : ℕ) → x < size → match (f x) (g x) ≡ true → IsGroupValue (f x).width (g x).value
  same_value x l e =
      let w = eq_of (f x).width (g x).width (both_true (nat_eq (f x).width (g x).width) (nat_eq (f x).place (g x).place) e).0 in
      subst (λ (n : ℕ). IsGroupValue n (g x).value) (sym w) (group_value (g x) (eg x l))

  cases_left : Fits size f m → (x : ℕ) → x < size → (same over under : Bool) → match (f x) (g x) ≡ same → lifts g (start_of f x) (f x).width ≡ over → lifts f (start_of g x) (g x).width ≡ under
      → (chosen rule f g x same over under).place ≡ 0 → Shown (chosen rule f g x same over under).width (chosen rule f g x same over under).value m x
  cases_left fits x l true over under e o n p =
      let i = ef x l in let some : 0 < (f x).width = omega (arith, i.place) in
      with_value (f x).width (f x).value (rule (f x).width (f x).value (g x).value) m x
      (λ u h. keeps (f x).width (f x).value (g x).value some i.width (group_value (f x) i) (same_value x l e) u (inl h)) (fits x l p)
  cases_left fits x l false true under e o n p =
      let i = ef x l in let some : 0 < (f x).width = omega (arith, i.place) in
      let z : x - (f x).place ≡ x = omega (arith, p) in
      let k : lifts g x (f x).width ≡ true = subst (λ (y : ℕ). lifts g y (f x).width ≡ true) z o in
      subst (λ (y : ℕ). Shown (f x).width (rule (f x).width (f x).value (g y).value) m x) (sym z)
      (with_value (f x).width (f x).value (rule (f x).width (f x).value (g x).value) m x
      (λ u h. keeps (f x).width (f x).value (g x).value some i.width (group_value (f x) i) (lifted_value g eg x (f x).width l some k) u (inl h)) (fits x l p))
  cases_left fits x l false false true e o n p =
      let i = eg x l in let some : 0 < (g x).width = omega (arith, i.place) in
      let z : x - (g x).place ≡ x = omega (arith, p) in
      let k : lifts f x (g x).width ≡ true = subst (λ (y : ℕ). lifts f y (g x).width ≡ true) z n in
      let r = wg.end x l in
      subst (λ (y : ℕ). Shown (g x).width (rule (g x).width (f y).value (g x).value) m x) (sym z)
      (with_value (g x).width (f x).value (rule (g x).width (f x).value (g x).value) m x
      (λ u h. keeps (g x).width (f x).value (g x).value some i.width (lifted_value f ef x (g x).width l some k) (group_value (g x) i) u (inl h))
      (lifted size f m ef wf fits x (g x).width some (omega (arith, r, p)) k))
  cases_left fits x l false false false e o n p =
      with_value 1 (loosened (f x)).value (join_values (loosened (f x)).value (loosened (g x)).value) m x
      (λ u h. join_has (loosened (f x)).value (loosened (g x)).value (loosened_formed (f x) (ef x l)) (loosened_formed (g x) (eg x l)) u (inl h))
      (subst (λ (t : ℕ). Shown t (loosened (f x)).value m x) (loosened_width (f x)) (loosened_shown size f m ef wf fits x l))

  cases_right : Fits size g m → (x : ℕ) → x < size → (same over under : Bool) → match (f x) (g x) ≡ same → lifts g (start_of f x) (f x).width ≡ over → lifts f (start_of g x) (g x).width ≡ under
      → (chosen rule f g x same over under).place ≡ 0 → Shown (chosen rule f g x same over under).width (chosen rule f g x same over under).value m x
  cases_right fits x l true over under e o n p =
      let i = ef x l in let some : 0 < (f x).width = omega (arith, i.place) in
      let d = both_true (nat_eq (f x).width (g x).width) (nat_eq (f x).place (g x).place) e in
      let w = eq_of (f x).width (g x).width d.0 in
      let q = eq_of (f x).place (g x).place d.1 in
      with_value (f x).width (g x).value (rule (f x).width (f x).value (g x).value) m x
      (λ u h. keeps (f x).width (f x).value (g x).value some i.width (group_value (f x) i) (same_value x l e) u (inr h))
      (subst (λ (t : ℕ). Shown t (g x).value m x) (sym w) (fits x l (sym q ∙ p)))
  cases_right fits x l false true under e o n p =
      let i = ef x l in let some : 0 < (f x).width = omega (arith, i.place) in
      let z : x - (f x).place ≡ x = omega (arith, p) in
      let k : lifts g x (f x).width ≡ true = subst (λ (y : ℕ). lifts g y (f x).width ≡ true) z o in
      let r = wf.end x l in
      subst (λ (y : ℕ). Shown (f x).width (rule (f x).width (f x).value (g y).value) m x) (sym z)
      (with_value (f x).width (g x).value (rule (f x).width (f x).value (g x).value) m x
      (λ u h. keeps (f x).width (f x).value (g x).value some i.width (group_value (f x) i) (lifted_value g eg x (f x).width l some k) u (inr h))
      (lifted size g m eg wg fits x (f x).width some (omega (arith, r, p)) k))
  cases_right fits x l false false true e o n p =
      let i = eg x l in let some : 0 < (g x).width = omega (arith, i.place) in
      let z : x - (g x).place ≡ x = omega (arith, p) in
      let k : lifts f x (g x).width ≡ true = subst (λ (y : ℕ). lifts f y (g x).width ≡ true) z n in
      subst (λ (y : ℕ). Shown (g x).width (rule (g x).width (f y).value (g x).value) m x) (sym z)
      (with_value (g x).width (g x).value (rule (g x).width (f x).value (g x).value) m x
      (λ u h. keeps (g x).width (f x).value (g x).value some i.width (lifted_value f ef x (g x).width l some k) (group_value (g x) i) u (inr h)) (fits x l p))
  cases_right fits x l false false false e o n p =
      with_value 1 (loosened (g x)).value (join_values (loosened (f x)).value (loosened (g x)).value) m x
      (λ u h. join_has (loosened (f x)).value (loosened (g x)).value (loosened_formed (f x) (ef x l)) (loosened_formed (g x) (eg x l)) u (inr h))
      (subst (λ (t : ℕ). Shown t (loosened (g x)).value m x) (loosened_width (g x)) (loosened_shown size g m eg wg fits x l))

  pub merged_keeps : Fits size f m ⊎ Fits size g m → Fits size (merged_at rule f g) m
  unfolding merged_at
  merged_keeps (inl h) x l = cases_left h x l (match (f x) (g x)) (lifts g (start_of f x) (f x).width) (lifts f (start_of g x) (g x).width) refl refl refl
  merged_keeps (inr h) x l = cases_right h x l (match (f x) (g x)) (lifts g (start_of f x) (f x).width) (lifts f (start_of g x) (g x).width) refl refl refl

join_groups : KeepsGroups (λ w. join_values)
join_groups w a b p q h k u o = join_has a b h.formed k.formed u o

-- the other side has the entries of an object of this size
pub entries_as : (a b : Object) → IsObject b → length a ≡ length b → (x : ℕ) → x < length a → IsEntry (entry_at b x)
entries_as a b h e x l = h.entries x (subst (λ (n : ℕ). x < n) e l)

pub whole_as : (a b : Object) → IsObject b → length a ≡ length b → IsWhole (length a) (entry_at b)
whole_as a b h e = subst (λ (n : ℕ). IsWhole n (entry_at b)) (sym e) h.whole

pub fits_as : (a b : Object) (m : ℕ → Cell) → length a ≡ length b → HasCells a m ⊎ HasCells b m → Fits (length a) (entry_at a) m ⊎ Fits (length a) (entry_at b) m
fits_as a b m e (inl h) = inl h
fits_as a b m e (inr h) = inr (subst (λ (n : ℕ). Fits n (entry_at b) m) (sym e) h)

pub join_keeps : JoinKeeps
join_keeps a b m ha hb e o =
    listed_cells (length a) (merged_at (λ w. join_values) (entry_at a) (entry_at b)) m
    (merged_keeps (λ w. join_values) (length a) (entry_at a) (entry_at b) m ha.entries (entries_as a b hb e) ha.whole (whole_as a b hb e) join_groups (fits_as a b m e o))

-- ---- widening

-- single bits are joined, groups widened
widen_group_cases : (thresholds : List ℤ) (w : ℕ) (a b : Value) (c : Bool) → 0 < w → w ≤ 64 → IsGroupValue w a → IsGroupValue w b → (u : Member) → HasMember a u ⊎ HasMember b u
    → HasMember (if c then join_values a b else widen_values thresholds w a b) u
widen_group_cases thresholds w a b true p q h k u o = join_has a b h.formed k.formed u o
widen_group_cases thresholds w a b false p q h k u o = widen_has thresholds w a b p h k u o

widen_groups : (thresholds : List ℤ) → KeepsGroups (widen_group thresholds)
widen_groups thresholds w a b p q h k u o = widen_group_cases thresholds w a b (nat_eq w 1) p q h k u o

pub widen_keeps : WideningKeeps
widen_keeps thresholds a b m ha hb e o =
    listed_cells (length a) (merged_at (widen_group thresholds) (entry_at a) (entry_at b)) m
    (merged_keeps (widen_group thresholds) (length a) (entry_at a) (entry_at b) m ha.entries (entries_as a b hb e) ha.whole (whole_as a b hb e) (widen_groups thresholds) (fits_as a b m e o))

-- What is included has no other members.
use Rattle.std.proofs.Common.{ℕ, ◌-◌, ◌<◌, ◌≡◌, inl, inr, refl, sym, subst, ◌∙◌, Bool, true, false, length, arith}
use Rattle.std.specs.Prelude.{◌&&◌, ◌||◌, nat_eq, nat_lt, if◌then◌else◌}
use Rattle.c_memory.specs.declared.cells.Cell.{Cell}
use Rattle.avalue.specs.Values.{IsWellFormedValue, value_included}
use Rattle.avalue.specs.declared.value.Value.{Value}
use Rattle.avalue.proofs.Members.{included_members}
use Rattle.abstract_memory.specs.Objects.{Entry, IsEntry, IsWhole, entry_at, loosened, lifts, start_of}
use Rattle.abstract_memory.specs.Joins.{match, included_at}
use Rattle.abstract_memory.specs.Members.{Shown, Fits}
use Rattle.abstract_memory.specs.Kept.{InclusionIsSound}
use Rattle.abstract_memory.proofs.Tests.{at_all, both_true, either_true, eq_of}
use Rattle.abstract_memory.proofs.Groups.{loosened_single, one_shown, lifted}
use Rattle.abstract_memory.proofs.Formed.{loosened_formed}
use Rattle.abstract_memory.proofs.Joins.{entries_as, whole_as}

with_included : (w : ℕ) (a b : Value) (m : ℕ → Cell) (x : ℕ) (h : Shown w a m x) → IsWellFormedValue a → IsWellFormedValue b → value_included a b ≡ true → Shown w b m x
with_included w a b m x h i k e = record { member = h.member; is_in = included_members a b i k e h.member h.is_in; shows = h.shows }

module _ (size : ℕ) (f g : ℕ → Entry) (m : ℕ → Cell) (ef : (x : ℕ) → x < size → IsEntry (f x)) (eg : (x : ℕ) → x < size → IsEntry (g x))
    (wf : IsWhole size f) (wg : IsWhole size g) (fits : Fits size f m) where
  grouped : ℕ → Bool
  grouped x = match (f x) (g x) || (nat_lt 1 (g x).width && lifts f (start_of g x) (g x).width)

  as_group : (x : ℕ) → x < size → (g x).place ≡ 0 → grouped x ≡ true → Shown (g x).width (f x).value m x
  unfolding grouped
  as_group x l p e = elim (either_true (match (f x) (g x)) (nat_lt 1 (g x).width && lifts f (start_of g x) (g x).width) e) [
    | inl h ↦
        let d = both_true (nat_eq (f x).width (g x).width) (nat_eq (f x).place (g x).place) h in
        let w = eq_of (f x).width (g x).width d.0 in
        subst (λ (t : ℕ). Shown t (f x).value m x) w (fits x l (eq_of (f x).place (g x).place d.1 ∙ p))
    | inr h ↦
        let d = both_true (nat_lt 1 (g x).width) (lifts f (start_of g x) (g x).width) h in
        let i = eg x l in let r = wg.end x l in
        let z : x - (g x).place ≡ x = omega (arith, p) in
        lifted size f m ef wf fits x (g x).width (omega (arith, i.place)) (omega (arith, r, p)) (subst (λ (y : ℕ). lifts f y (g x).width ≡ true) z d.1)
  ]

  included_cases : (x : ℕ) → x < size → (g x).place ≡ 0 → (b : Bool) → grouped x ≡ b
      → (if b then value_included (f x).value (g x).value else nat_eq (g x).width 1 && value_included (loosened (f x)).value (g x).value) ≡ true
      → Shown (g x).width (g x).value m x
  included_cases x l p true e h = with_included (g x).width (f x).value (g x).value m x (as_group x l p e) (ef x l).formed (eg x l).formed h
  included_cases x l p false e h =
      let d = both_true (nat_eq (g x).width 1) (value_included (loosened (f x)).value (g x).value) h in
      let w = eq_of (g x).width 1 d.0 in
      subst (λ (t : ℕ). Shown t (g x).value m x) (sym w)
      (with_included 1 (loosened (f x)).value (g x).value m x (one_shown (loosened (f x)).value m x (loosened_single size f m ef wf fits x l)) (loosened_formed (f x) (ef x l)) (eg x l).formed d.1)

  pub included_fits : ((x : ℕ) → x < size → included_at f g x ≡ true) → Fits size g m
  unfolding included_at grouped
  included_fits h x l p = included_cases x l p (grouped x) refl (h x l)

pub included_is_sound : InclusionIsSound
included_is_sound a b m ha hb e t h =
    subst (λ (n : ℕ). Fits n (entry_at b) m) e
    (included_fits (length a) (entry_at a) (entry_at b) m ha.entries (entries_as a b hb e) ha.whole (whole_as a b hb e) h
    (λ (x : ℕ) (l : x < length a). at_all (length a) (included_at (entry_at a) (entry_at b)) t x l))

-- Lists of bases.
use Rattle.std.proofs.Common.{◌≡◌, ℕ, zero, suc, ◌<◌, nat_eq, List, [], ◌∷◌, length, slice_index_or, Bool, true, false, refl, sym, ap, ◌∙◌, arith, inl, inr}
use Rattle.std.specs.Prelude.{Contains, ◌||◌}
use Rattle.std.proofs.lemmas.Bool.{cases_eq}
use Rattle.std.proofs.lemmas.Bool.Decides.{nat_tests}
use Rattle.program.specs.Graph.{has}

or_right : (a b : Bool) → b ≡ true → (a || b) ≡ true
or_right true b e = refl
or_right false b e = e

at_place : (xs : List ℕ) (k b : ℕ) → k < length xs → slice_index_or xs k b ≡ b → has xs b ≡ true
at_place [] k b l e = absurd (omega (arith, l))
at_place (x ∷ xs) zero b l e = let here : nat_eq x b ≡ true = grind (arith, nat_tests) in ap (λ (t : Bool). t || has xs b) here
at_place (x ∷ xs) (suc k) b l e = or_right (nat_eq x b) (has xs b) (at_place xs k b (omega (arith, l)) e)

pub has_contained : (xs : List ℕ) (b : ℕ) → Contains xs b → has xs b ≡ true
has_contained xs b h = at_place xs h.0 b h.1 h.2

pub contains_had : (xs : List ℕ) (b : ℕ) → has xs b ≡ true → Contains xs b
contains_had [] b h = absurd (cc)
contains_had (x ∷ xs) b h =
    elim (cases_eq x b) [
      | inl e ↦ (0, omega arith, e)
      | inr e ↦
          let other : nat_eq x b ≡ false = grind (arith, nat_tests) in
          let rest = contains_had xs b (sym (ap (λ (t : Bool). t || has xs b) other) ∙ h) in
          (suc rest.0, omega (arith, rest.1), rest.2)
    ]

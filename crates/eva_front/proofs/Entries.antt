-- The first definition of a name, and a file without one.
use Rattle.std.proofs.Common.{◌≡◌, ℕ, ◌≤◌, true, false, List, length, get_or, All, position, Some, None, subst, arith}
use Rattle.std.specs.Prelude.{slice_get, bytes_eq}
use Rattle.std.proofs.lemmas.Slice.Eq.{bytes_eq-Decides}
use Rattle.std.proofs.lemmas.Option.{get_or_from_slice_get}
use Rattle.std.proofs.lemmas.Grind.{common_steps}
use Rattle.std.proofs.lemmas.List.Quantifiers.{position-Some}
use Rattle.std.proofs.lemmas.List.Sums.{fails_before_first}
use Rattle.std.specs.List.{position_or_len}
use Rattle.normal_form.specs.declared.constant.Returning.{Returning}

same_bytes : (v w : List ℕ) → bytes_eq v w ≡ true → v ≡ w
same_bytes v w h = grind (arith, bytes_eq-Decides v w)

other_bytes : (v w : List ℕ) → bytes_eq v w ≡ false → v ≡ w → ⊥
other_bytes v w h e = grind (arith, bytes_eq-Decides v w)

pub named_at : (entry : List ℕ) (ds : List Returning) (n : ℕ) (d : Returning) → position (λ d. bytes_eq d.name entry) ds ≡ Some n → slice_get ds n ≡ Some d → d.name ≡ entry
named_at entry ds n d h at =
    let p = position-Some (λ (x : Returning). bytes_eq x.name entry) ds n d h in
    let e = get_or_from_slice_get ds n d d at in
    same_bytes d.name entry (subst (λ (x : Returning). bytes_eq x.name entry ≡ true) e p.1)

pub none_named : (entry : List ℕ) (ds : List Returning) → position (λ d. bytes_eq d.name entry) ds ≡ None → All (λ d. d.name ≡ entry → ⊥) ds
none_named entry ds h = λ k d within.
    let past : length ds ≤ position_or_len (λ (x : Returning). bytes_eq x.name entry) ds = grind (arith, common_steps) in
    other_bytes (get_or ds k d).name entry (fails_before_first (λ (x : Returning). bytes_eq x.name entry) ds k d (omega arith))

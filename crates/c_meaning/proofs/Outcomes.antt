-- What one outcome says of another of the same access.
use Rattle.std.proofs.Common.{◌≡◌, Ok, Err, Result, refl}
use Rattle.c_arithmetic.specs.Arithmetic.{and_then}

-- where one thing follows, so does another
pub then_defined : {A B C E : Type 0} (r : Result A E) (b x : B) (c : C) → Ok x ≡ and_then r (λ _. Ok b) → Ok c ≡ and_then r (λ _. Ok c)
then_defined (Ok a) b x c h = refl
then_defined (Err e) b x c h = absurd (cc)

pub then_undefined : {A B C E : Type 0} (r : Result A E) (b : B) (c : C) (e : E) → Err e ≡ and_then r (λ _. Ok b) → Err e ≡ and_then r (λ _. Ok c)
then_undefined (Ok a) b c e h = absurd (cc)
then_undefined (Err k) b c e h = let same : e ≡ k = cc in cc

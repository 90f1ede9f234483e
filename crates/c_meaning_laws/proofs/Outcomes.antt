-- What a defined outcome says of the outcomes that it came from.
use Rattle.std.proofs.Common.{◌≡◌, ℕ, Bool, true, false, Result, Ok, Err, refl, ap}
use Rattle.std.specs.Prelude.{if◌then◌else◌}
use Rattle.program.specs.declared.sites.Kind.{Kind}
use Rattle.c_arithmetic.specs.Arithmetic.{and_then}
use Rattle.c_meaning.specs.Value.{at}

-- both parts are defined, one after the other
pub record Follows {A B E : Type 0} (r : Result A E) (f : A → Result B E) (b : B) : Type 0 where
  pub first : A
  pub is_first : r ≡ Ok first
  pub is_second : f first ≡ Ok b

pub then_ok : {A B E : Type 0} (r : Result A E) (f : A → Result B E) (b : B) → and_then r f ≡ Ok b → Follows r f b
then_ok (Ok a) f b h = record { first = a; is_first = refl; is_second = h }
then_ok (Err e) f b h = absurd (cc)

pub at_ok : {A : Type 0} (s : ℕ) (r : Result A Kind) (a : A) → at s r ≡ Ok a → r ≡ Ok a
at_ok s (Ok b) a h = let same : b ≡ a = cc in ap Ok same
at_ok s (Err k) a h = absurd (cc)

pub else_ok : {A E : Type 0} (t : Bool) (e : E) (r : Result A E) (a : A) → (if t then Err e else r) ≡ Ok a → r ≡ Ok a
else_ok true e r a h = absurd (cc)
else_ok false e r a h = h

pub then_true : {A E : Type 0} (t : Bool) (r : Result A E) (e : E) (a : A) → (if t then r else Err e) ≡ Ok a → (t ≡ true) × (r ≡ Ok a)
then_true true r e a h = (refl, h)
then_true false r e a h = absurd (cc)

-- a defined outcome, where its errors are of this type
abbrev pub ok_in : (E : Type 0) {A : Type 0} → A → Result A E
ok_in E a = Ok a

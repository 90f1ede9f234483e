-- States: an object for each base that is in life, or nothing where no execution comes.
use Rattle.std.specs.Prelude.{ℕ, ◌<◌, ◌≡◌, ◌^◌, List, [], ◌∷◌, length, Option, Some, None, IsSome, Bool, true, false, eqb, nat_lt, ℤ, if◌then◌else◌}
use Rattle.std.specs.List.{All, list_all}
use Rattle.std.specs.List.Sorted.{IsStrictlyIncreasing}
use Rattle.std.specs.Map.{keys_of, lookup}
use Rattle.abstract_memory.specs.Objects.{Object, IsObject, entry_at}
use Rattle.abstract_memory.specs.Joins as object

-- by rising base
abbrev pub Objects : Type 0
Objects = List (ℕ × Object)

pub data AbstractState : Type 0 where
  bottom : AbstractState
  live : Objects → AbstractState

abbrev pub find_object : Objects → ℕ → Option Object
find_object os base = lookup (λ k. eqb k base) os

-- the object of a base; none has no bits
abbrev pub object_or_none : Option Object → Object
object_or_none None = []
object_or_none (Some o) = o

abbrev pub object_at : Objects → ℕ → Object
object_at os base = object_or_none (find_object os base)

-- the pairs with this one at its key
unfoldable pub with_pair : {X : Type 0} → List (ℕ × X) → ℕ → X → List (ℕ × X)
with_pair [] key x = (key, x) ∷ []
with_pair (p ∷ ps) key x =
    if nat_lt key p.0 then (key, x) ∷ p ∷ ps else (if nat_lt p.0 key then p ∷ with_pair ps key x else (key, x) ∷ ps)

-- ---- well-formed and lawful states

pub record AreObjects (os : Objects) : Type 0 where
  pub rising : IsStrictlyIncreasing (keys_of os)
  pub bases : All (λ p. p.0 < 2 ^ 32) os
  pub each : All (λ p. IsObject p.1) os

abbrev pub IsState : AbstractState → Type 0
IsState bottom = Unit {0}
IsState (live os) = AreObjects os

-- each pointer in the object names a base that is there
abbrev pub PointsInto : Objects → Object → Type 0
PointsInto os o = (x : ℕ) → x < length o → All (λ p. IsSome (find_object os p.0)) (entry_at o x).value.ptrs

abbrev pub IsLawfulState : AbstractState → Type 0
IsLawfulState bottom = Unit {0}
IsLawfulState (live os) = All (λ p. PointsInto os p.1) os

-- a base that both have has one size
abbrev pub HaveOneSize : Objects → Objects → Type 0
HaveOneSize os ps = (base : ℕ) (o p : Object) → find_object os base ≡ Some o → find_object ps base ≡ Some p → length o ≡ length p

abbrev pub AgreeOnSizes : AbstractState → AbstractState → Type 0
AgreeOnSizes bottom b = Unit {0}
AgreeOnSizes (live os) bottom = Unit {0}
AgreeOnSizes (live os) (live ps) = HaveOneSize os ps

-- ---- join, widening and inclusion, base by base

-- a base of one side alone keeps its object
unfoldable pub combined : (Object → Object → Object) → Objects → Objects → Objects
combined f [] qs = qs
combined f (p ∷ ps) [] = p ∷ ps
combined f (p ∷ ps) (q ∷ qs) =
    if nat_lt p.0 q.0 then p ∷ combined f ps (q ∷ qs)
    else (if nat_lt q.0 p.0 then q ∷ combined f (p ∷ ps) qs else (p.0, f p.1 q.1) ∷ combined f ps qs)

abbrev pub merge_states : (Object → Object → Object) → AbstractState → AbstractState → AbstractState
merge_states f bottom b = b
merge_states f (live os) bottom = live os
merge_states f (live os) (live ps) = live (combined f os ps)

abbrev pub join_states : AbstractState → AbstractState → AbstractState
join_states a b = merge_states object.join a b

abbrev pub widen_states : List ℤ → AbstractState → AbstractState → AbstractState
widen_states thresholds a b = merge_states (object.widen thresholds) a b

abbrev pub is_included : Object → Option Object → Bool
is_included o None = false
is_included o (Some q) = object.included o q

abbrev pub states_included : AbstractState → AbstractState → Bool
states_included bottom b = true
states_included (live os) bottom = false
states_included (live os) (live ps) = list_all (λ p. is_included p.1 (find_object ps p.0)) os

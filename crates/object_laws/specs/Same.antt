-- What stays where both sides are the same.
use Rattle.std.specs.Prelude.{ℕ, ◌≡◌, List, ℤ, true}
use Rattle.avalue.specs.Values.{IsWellFormedValue, value_included}
use Rattle.avalue.specs.declared.value.Value.{Value}
use Rattle.abstract_memory.specs.Values.{join_values, widen_values}

abbrev pub JoinIsIdempotent : Type 0
JoinIsIdempotent = (v : Value) → IsWellFormedValue v → join_values v v ≡ v

abbrev pub WideningIsIdempotent : Type 0
WideningIsIdempotent = (thresholds : List ℤ) (width : ℕ) (v : Value) → IsWellFormedValue v → widen_values thresholds width v v ≡ v

abbrev pub InclusionIsReflexive : Type 0
InclusionIsReflexive = (v : Value) → IsWellFormedValue v → value_included v v ≡ true

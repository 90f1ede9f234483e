use Rattle.std.proofs.Common.{◌≡◌}
use Rattle.std.specs.Prelude.{drop, ◌++◌}
use Rattle.elab_types.specs.Composite as spec
use Rattle.elab_types.proofs.composition.+composing.Given as goal

abbrev pub invariant-all_composite-loop-x : goal.invariant-all_composite-loop-x
invariant-all_composite-loop-x l = l.composed ++ spec.all_composite (drop l.x-index l.xs) l.left ≡ spec.all_composite l.fn.xs l.fn.ys

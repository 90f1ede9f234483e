use Rattle.std.proofs.Common.{◌≡◌}
use Rattle.std.specs.Prelude.{drop}
use Rattle.elab_types.specs.Compatible as spec
use Rattle.elab_types.proofs.compatible.+alike.Given as goal

abbrev pub invariant-all_alike-loop-x : goal.invariant-all_alike-loop-x
invariant-all_alike-loop-x l = spec.all_alike l.likeness (drop l.x-index l.xs) l.left ≡ spec.all_alike l.fn.likeness l.fn.xs l.fn.ys

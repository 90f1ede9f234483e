use Rattle.std.proofs.Common.{◌≡◌, ◌++◌}
use Rattle.std.specs.Prelude.{drop}
use Rattle.elab_environment.specs.Structs as spec
use Rattle.elab_environment.proofs.structs.declared.Given as goal

abbrev pub invariant-loop-c : goal.invariant-loop-c
invariant-loop-c l = l.all ++ spec.laid (drop l.c-index l.members) ≡ spec.laid l.members

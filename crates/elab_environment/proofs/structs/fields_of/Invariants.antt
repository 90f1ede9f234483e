use Rattle.std.proofs.Common.{◌≡◌, ◌++◌}
use Rattle.std.specs.Prelude.{drop}
use Rattle.elab_environment.specs.Structs as spec
use Rattle.elab_environment.proofs.structs.fields_of.Given as goal

abbrev pub invariant-loop-c : goal.invariant-loop-c
invariant-loop-c l = l.fields ++ spec.fields_of (drop l.c-index l.members) ≡ spec.fields_of l.members

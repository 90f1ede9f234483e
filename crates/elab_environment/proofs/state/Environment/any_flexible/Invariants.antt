use Rattle.std.proofs.Common.{◌≡◌}
use Rattle.std.specs.Prelude.{drop}
use Rattle.elab_environment.specs.Structs as spec
use Rattle.elab_environment.proofs.state.Environment.any_flexible.Given as goal

abbrev pub invariant-loop-c : goal.invariant-loop-c
invariant-loop-c l = spec.any_flexible l.self l.is_union (drop l.c-index l.members) ≡ spec.any_flexible l.self l.is_union l.members

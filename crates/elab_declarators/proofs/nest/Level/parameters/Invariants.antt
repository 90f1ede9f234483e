use Rattle.std.proofs.Common.{◌≡◌, []}
use Rattle.std.specs.Prelude.{drop}
use Rattle.elab_rules.specs.Functions.{parameters}
use Rattle.elab_rules.specs.Levels.{nest}
use Rattle.elab_declarators.proofs.nest.Level.parameters.Given as goal

abbrev pub invariant-loop-param : goal.invariant-loop-param
invariant-loop-param g l =
    parameters (nest l.self.room) l.is_alone (drop l.param-index l.params) (l.list, l.types) l.env
    ≡ parameters (nest l.self.room) l.is_alone l.params ([], []) l.fn.env

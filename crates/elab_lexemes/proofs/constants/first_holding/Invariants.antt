use Rattle.std.proofs.Common.{◌≡◌}
use Rattle.std.specs.Prelude.{drop}
use Rattle.elab_lexemes.specs.Constants.{first_holding}
use Rattle.elab_lexemes.proofs.constants.first_holding.Given as goal

abbrev pub invariant-loop-kind : goal.invariant-loop-kind
invariant-loop-kind l = first_holding (drop l.kind-index l.kinds) l.value ≡ first_holding l.kinds l.value

use Rattle.std.proofs.Common.{◌≡◌}
use Rattle.std.specs.Prelude.{drop}
use Rattle.elab_types.specs.Qualified.{no_qualifiers}
use Rattle.elab_rules.specs.Declarators.{qualifiers_at}
use Rattle.elab_declarators.proofs.pointers.qualifiers_at.Given as goal

abbrev pub invariant-loop-at : goal.invariant-loop-at
invariant-loop-at l = qualifiers_at l.env l.q (drop l.at-index l.words) ≡ qualifiers_at l.env no_qualifiers l.words

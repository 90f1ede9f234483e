use Rattle.std.proofs.Common.{◌≡◌}
use Rattle.std.specs.Prelude.{drop}
use Rattle.elab_rules.specs.Declarators.{volatile_among}
use Rattle.elab_declarators.proofs.pointers.volatile_among.Given as goal

abbrev pub invariant-loop-at : goal.invariant-loop-at
invariant-loop-at l = volatile_among l.env (drop l.at-index l.words) ≡ volatile_among l.env l.words

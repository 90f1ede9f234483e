use Rattle.std.proofs.Common.{◌≡◌}
use Rattle.std.specs.Prelude.{drop}
use Rattle.elab_rules.specs.Specifiers.{nothing_said}
use Rattle.elab_rules.specs.Lists.{all_said}
use Rattle.elab_rules.specs.Levels.{nest}
use Rattle.elab_declarators.proofs.nest.Level.specifiers.Given as goal

abbrev pub invariant-loop-specifier : goal.invariant-loop-specifier
invariant-loop-specifier g l =
    all_said (nest l.self.room) l.is_alone l.gathered (drop l.specifier-index l.specifiers) l.env
    ≡ all_said (nest l.self.room) l.is_alone nothing_said l.specifiers l.fn.env

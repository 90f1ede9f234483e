use Rattle.std.proofs.Common.{◌≡◌}
use Rattle.std.specs.Prelude.{pos, drop}
use Rattle.elab_rules.specs.Tags.{enumerators}
use Rattle.elab_rules.specs.Levels.{nest}
use Rattle.elab_declarators.proofs.nest.Level.enumerators.Given as goal

abbrev pub invariant-loop-e : goal.invariant-loop-e
invariant-loop-e g l =
    enumerators (nest l.self.room) l.declaration l.next (drop l.e-index l.values) l.env
    ≡ enumerators (nest l.self.room) l.declaration (pos 0) l.values l.fn.env

use Rattle.std.proofs.Common.{◌≡◌, [], length}
use Rattle.elab_rules.specs.Tags.{lines}
use Rattle.elab_rules.specs.Levels.{nest}
use Rattle.elab_declarators.proofs.nest.Level.lines.Given as goal

abbrev pub invariant-loop-line : goal.invariant-loop-line
invariant-loop-line g l =
    lines (nest l.self.room) l.is_union l.rest l.members l.env
    ≡ lines (nest l.self.room) l.is_union l.lines [] l.fn.env

abbrev pub decreases-loop-line : goal.decreases-loop-line
decreases-loop-line g l = length l.rest

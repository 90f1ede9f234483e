use Rattle.std.proofs.Common.{◌≡◌, length}
use Rattle.elab_rules.specs.Tags.{members}
use Rattle.elab_rules.specs.Levels.{nest}
use Rattle.elab_declarators.proofs.nest.Level.members.Given as goal

abbrev pub invariant-loop-part : goal.invariant-loop-part
invariant-loop-part g l =
    members (nest l.self.room) l.is_union l.is_last l.t l.rest l.members l.env
    ≡ members (nest l.self.room) l.is_union l.is_last l.t l.parts l.fn.before l.fn.env

abbrev pub decreases-loop-part : goal.decreases-loop-part
decreases-loop-part g l = length l.rest

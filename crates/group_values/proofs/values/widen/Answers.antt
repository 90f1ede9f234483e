use Rattle.group_values.proofs.Joined.{widened}
use Rattle.group_values.proofs.values.widen.Goals as goal

pub returns-in-Ok-clause-value : goal.returns-in-Ok-clause-value
returns-in-Ok-clause-value c =
    widened c.args.a.now c.args.b.now c.in-Ok.v c.args.thresholds.now c.args.width c.requires.left c.requires.right c.requires.left_offsets c.requires.right_offsets c.in-Ok.ensures.value

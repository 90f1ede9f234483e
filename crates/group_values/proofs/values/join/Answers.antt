use Rattle.group_values.proofs.Joined.{joined}
use Rattle.group_values.proofs.values.join.Goals as goal

pub returns-in-Ok-clause-value : goal.returns-in-Ok-clause-value
returns-in-Ok-clause-value c = joined c.args.a.now c.args.b.now c.in-Ok.v c.requires.left c.requires.right c.in-Ok.ensures.value

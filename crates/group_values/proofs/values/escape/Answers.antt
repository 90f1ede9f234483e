use Rattle.group_values.proofs.Joined.{escaped}
use Rattle.group_values.proofs.values.escape.Goals as goal

pub returns-in-Ok-clause-value : goal.returns-in-Ok-clause-value
returns-in-Ok-clause-value c = escaped c.args.v.now c.in-Ok.w c.args.bases.now c.in-Ok.ensures.value

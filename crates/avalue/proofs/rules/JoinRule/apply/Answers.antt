use Rattle.avalue.proofs.Ends.{join_ends}
use Rattle.avalue.proofs.rules.JoinRule.apply.Goals as goal

pub returns-clause-ends : goal.returns-clause-ends
returns-clause-ends c = join_ends c.args.x.now c.args.y.now c.join.result c.join.ensures.value c.requires.left c.requires.right c.join.ensures.formed

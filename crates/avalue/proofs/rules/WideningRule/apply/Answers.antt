use Rattle.avalue.proofs.Ends.{join_ends, widened_ends}
use Rattle.avalue.proofs.rules.WideningRule.apply.Goals as goal

pub class_within-requires-clause-ends : goal.class_within-requires-clause-ends
class_within-requires-clause-ends c = join_ends c.args.x.now c.args.y.now c.join.result c.join.ensures.value c.requires.left c.requires.right c.join.ensures.formed

pub returns-else-included-clause-ends : goal.returns-else-included-clause-ends
returns-else-included-clause-ends c =
    let ends = join_ends c.args.x.now c.args.y.now c.join.result c.join.ensures.value c.requires.left c.requires.right c.join.ensures.formed in
    widened_ends c.args.x.now c.args.y.now c.join.result c.class_within.result c.join.ensures.value c.requires.left c.requires.right ends
    c.requires.left_fits c.class_within.ensures.formed c.class_within.ensures.value

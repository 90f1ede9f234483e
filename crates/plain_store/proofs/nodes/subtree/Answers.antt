use Rattle.plain_store.proofs.Trees.{second_read}
use Rattle.plain_store.proofs.nodes.subtree.Goals as goal

pub returns-else-which-eq0-clause-tree : goal.returns-else-which-eq0-clause-tree
returns-else-which-eq0-clause-tree c = second_read c.args.slots.now.items c.args.index c.args.which c.index-else-which-eq0.result.now c.requires.ordered c.requires.within c.index-else-which-eq0.ensures c.requires.which c.if-which-eq0.false

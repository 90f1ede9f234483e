use Rattle.plain_store.specs.Slots.{at}
use Rattle.plain_store.proofs.nodes.+same_at.Given as goal

abbrev pub decreases-same_at : goal.decreases-same_at
decreases-same_at l = (at l.slots.now.items l.i).depth

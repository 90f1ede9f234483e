use Rattle.plain_store.proofs.Counted.{parent_added}
use Rattle.plain_store.proofs.slots.add_parent.Goals as goal

pub returns : goal.returns
returns c = parent_added c.args.slots.now.items c.args.index c.index_mut-slot.result.now _ c.requires.within c.index_mut-slot.ensures.value

use Rattle.plain_store.proofs.Counted.{parent_dropped}
use Rattle.plain_store.proofs.slots.drop_parent.Goals as goal

pub returns-then-unnamed : goal.returns-then-unnamed
returns-then-unnamed c = parent_dropped c.args.slots.now.items c.args.index c.index_mut-slot.result.now _ c.requires c.index_mut-slot.ensures.value

pub returns-else-unnamed : goal.returns-else-unnamed
returns-else-unnamed c = parent_dropped c.args.slots.now.items c.args.index c.index_mut-slot.result.now _ c.requires c.index_mut-slot.ensures.value

use Rattle.plain_store.proofs.Counted.{hold_dropped}
use Rattle.plain_store.proofs.slots.drop_hold.Goals as goal

pub returns-then-unnamed-clause-sound : goal.returns-then-unnamed-clause-sound
returns-then-unnamed-clause-sound c = (hold_dropped c.args.slots.now.items c.args.index c.index_mut-slot.result.now _ c.requires.within c.index_mut-slot.ensures.value c.requires.sound).0

pub returns-then-unnamed-clause-changes : goal.returns-then-unnamed-clause-changes
returns-then-unnamed-clause-changes c = (hold_dropped c.args.slots.now.items c.args.index c.index_mut-slot.result.now _ c.requires.within c.index_mut-slot.ensures.value c.requires.sound).1

pub returns-then-unnamed-clause-held : goal.returns-then-unnamed-clause-held
returns-then-unnamed-clause-held c = (hold_dropped c.args.slots.now.items c.args.index c.index_mut-slot.result.now _ c.requires.within c.index_mut-slot.ensures.value c.requires.sound).2

pub returns-else-unnamed-clause-sound : goal.returns-else-unnamed-clause-sound
returns-else-unnamed-clause-sound c = (hold_dropped c.args.slots.now.items c.args.index c.index_mut-slot.result.now _ c.requires.within c.index_mut-slot.ensures.value c.requires.sound).0

pub returns-else-unnamed-clause-changes : goal.returns-else-unnamed-clause-changes
returns-else-unnamed-clause-changes c = (hold_dropped c.args.slots.now.items c.args.index c.index_mut-slot.result.now _ c.requires.within c.index_mut-slot.ensures.value c.requires.sound).1

pub returns-else-unnamed-clause-held : goal.returns-else-unnamed-clause-held
returns-else-unnamed-clause-held c = (hold_dropped c.args.slots.now.items c.args.index c.index_mut-slot.result.now _ c.requires.within c.index_mut-slot.ensures.value c.requires.sound).2

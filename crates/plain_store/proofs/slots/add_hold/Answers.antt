use Rattle.std.proofs.Common.{arith, ap}
use Rattle.plain_store.specs.declared.slot.Slot.{Slot}
use Rattle.plain_store.proofs.Counted.{hold_added, holds_small, read}
use Rattle.plain_store.proofs.slots.add_hold.Goals as goal

pub overflow_add-slot : goal.overflow_add-slot
overflow_add-slot c = omega (arith, holds_small c.args.slots.now.items c.args.index c.requires.within, ap (λ (m : Slot). m.holds) (read c.args.slots.now.items c.args.index c.index_mut-slot.result.now c.requires.within c.index_mut-slot.ensures.value))

pub returns-clause-sound : goal.returns-clause-sound
returns-clause-sound c = (hold_added c.args.slots.now.items c.args.index c.index_mut-slot.result.now _ c.requires.within c.index_mut-slot.ensures.value c.requires.sound).0

pub returns-clause-changes : goal.returns-clause-changes
returns-clause-changes c = (hold_added c.args.slots.now.items c.args.index c.index_mut-slot.result.now _ c.requires.within c.index_mut-slot.ensures.value c.requires.sound).1

pub returns-clause-held : goal.returns-clause-held
returns-clause-held c = (hold_added c.args.slots.now.items c.args.index c.index_mut-slot.result.now _ c.requires.within c.index_mut-slot.ensures.value c.requires.sound).2

pub returns-clause-tree : goal.returns-clause-tree
returns-clause-tree c = (hold_added c.args.slots.now.items c.args.index c.index_mut-slot.result.now _ c.requires.within c.index_mut-slot.ensures.value c.requires.sound).3

use Rattle.std.proofs.Common.{arith, length-set}
use Rattle.plain_store.proofs.Counted.{read}
use Rattle.plain_store.proofs.Writes.{refilled, room_refilled, names_left}
use Rattle.plain_store.proofs.store.refill.Goals as goal

pub drop_parents-requires : goal.drop_parents-requires
drop_parents-requires c =
    names_left c.args.slots.now.items c.args.index c.args.node.now c.index.result.now c.requires.sound c.requires.stands c.requires.within c.requires.parents
    (read c.args.slots.now.items c.args.index c.index.result.now c.requires.within c.index.ensures)

pub add_parents-requires-clause-room : goal.add_parents-requires-clause-room
add_parents-requires-clause-room c =
    room_refilled c.args.slots.now.items c.drop_parents.new.slots.items c.args.index c.args.node.now c.index.result.now c.requires.sound c.requires.stands c.requires.within c.requires.parents
    (read c.args.slots.now.items c.args.index c.index.result.now c.requires.within c.index.ensures) c.drop_parents.ensures
    (let s = c.args.slots.now.small in let k = c.args.slots.now.ok in omega (arith, length-set c.args.slots.now.items c.args.index c.args.node.now))

pub returns-clause-sound : goal.returns-clause-sound
returns-clause-sound c =
    (refilled c.args.slots.now.items c.drop_parents.new.slots.items c.add_parents.new.slots.items c.args.index c.args.node.now c.index.result.now c.requires.sound c.requires.stands c.requires.within c.requires.holds c.requires.parents
    (read c.args.slots.now.items c.args.index c.index.result.now c.requires.within c.index.ensures) c.drop_parents.ensures c.add_parents.ensures).sound

pub returns-clause-changes : goal.returns-clause-changes
returns-clause-changes c =
    (refilled c.args.slots.now.items c.drop_parents.new.slots.items c.add_parents.new.slots.items c.args.index c.args.node.now c.index.result.now c.requires.sound c.requires.stands c.requires.within c.requires.holds c.requires.parents
    (read c.args.slots.now.items c.args.index c.index.result.now c.requires.within c.index.ensures) c.drop_parents.ensures c.add_parents.ensures).changes

pub returns-clause-tree : goal.returns-clause-tree
returns-clause-tree c =
    (refilled c.args.slots.now.items c.drop_parents.new.slots.items c.add_parents.new.slots.items c.args.index c.args.node.now c.index.result.now c.requires.sound c.requires.stands c.requires.within c.requires.holds c.requires.parents
    (read c.args.slots.now.items c.args.index c.index.result.now c.requires.within c.index.ensures) c.drop_parents.ensures c.add_parents.ensures).tree

pub returns-clause-held : goal.returns-clause-held
returns-clause-held c =
    (refilled c.args.slots.now.items c.drop_parents.new.slots.items c.add_parents.new.slots.items c.args.index c.args.node.now c.index.result.now c.requires.sound c.requires.stands c.requires.within c.requires.holds c.requires.parents
    (read c.args.slots.now.items c.args.index c.index.result.now c.requires.within c.index.ensures) c.drop_parents.ensures c.add_parents.ensures).held

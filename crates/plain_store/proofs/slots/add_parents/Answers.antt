use Rattle.std.proofs.Common.{arith, refl}
use Rattle.store_api.specs.Bag.{none, one, one_self}
use Rattle.plain_store.specs.Slots.{names}
use Rattle.plain_store.proofs.Writes.{recounts, recounts_none, names_zero, names_one, names_two}
use Rattle.plain_store.proofs.slots.add_parents.Goals as goal

pub add_parent-requires-clause-room : goal.add_parent-requires-clause-room
add_parent-requires-clause-room c = omega (arith, c.requires.room c.args.node.now.first, names_one c.args.node.now c.args.node.now.first c.in-1.is, one_self c.args.node.now.first)

pub add_parent-requires-in_default-clause-room : goal.add_parent-requires-in_default-clause-room
add_parent-requires-in_default-clause-room c = omega (arith, c.requires.room c.args.node.now.first, names_two c.args.node.now c.args.node.now.first (omega arith), one_self c.args.node.now.first)

pub add_parent-requires-in_default-2-clause-room : goal.add_parent-requires-in_default-2-clause-room
add_parent-requires-in_default-2-clause-room c =
    omega (arith, c.add_parent-in_default.ensures.parents c.args.node.now.second, c.requires.room c.args.node.now.second, names_two c.args.node.now c.args.node.now.second (omega arith), one_self c.args.node.now.second)

pub returns-in-0 : goal.returns-in-0
returns-in-0 c = recounts_none c.args.slots.now.items none (names c.args.node.now) (λ x. refl) (λ x. names_zero c.args.node.now x c.in-0.is)

pub returns-in-1 : goal.returns-in-1
returns-in-1 c =
    recounts c.args.slots.now.items c.add_parent.new.slots.items c.add_parent.new.slots.items none (one c.args.node.now.first) none none none (names c.args.node.now) c.add_parent.ensures
    (recounts_none c.add_parent.new.slots.items none none (λ x. refl) (λ x. refl)) (λ x. omega arith) (λ x. omega (arith, names_one c.args.node.now x c.in-1.is))

pub returns-in_default : goal.returns-in_default
returns-in_default c =
    recounts c.args.slots.now.items c.add_parent-in_default.new.slots.items c.add_parent-in_default-2.new.slots.items none (one c.args.node.now.first) none (one c.args.node.now.second) none (names c.args.node.now)
    c.add_parent-in_default.ensures c.add_parent-in_default-2.ensures (λ x. omega arith) (λ x. names_two c.args.node.now x (omega arith))

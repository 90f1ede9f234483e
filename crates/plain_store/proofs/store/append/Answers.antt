use Rattle.std.proofs.Common.{arith, ◌≡◌, ◌++◌, ◌∷◌, []}
use Rattle.plain_store.proofs.Writes.{appended, room_appended}
use Rattle.plain_store.proofs.store.append.Goals as goal

pub add_parents-requires-clause-room : goal.add_parents-requires-clause-room
add_parents-requires-clause-room c =
    let e : c.push.new.self.items ≡ c.args.slots.now.items ++ c.args.node.now ∷ [] = grind arith in
    room_appended c.args.slots.now.items c.push.new.self.items c.args.node.now c.requires.sound c.requires.stands e (let s = c.push.new.self.small in let k = c.push.new.self.ok in omega arith)

pub returns-clause-sound : goal.returns-clause-sound
returns-clause-sound c =
    let e : c.push.new.self.items ≡ c.args.slots.now.items ++ c.args.node.now ∷ [] = grind arith in
    (appended c.args.slots.now.items c.push.new.self.items c.add_parents.new.slots.items c.len-index.result c.args.node.now c.requires.sound c.requires.stands (omega arith) e c.add_parents.ensures).sound

pub returns-clause-ok : goal.returns-clause-ok
returns-clause-ok c =
    let e : c.push.new.self.items ≡ c.args.slots.now.items ++ c.args.node.now ∷ [] = grind arith in
    (appended c.args.slots.now.items c.push.new.self.items c.add_parents.new.slots.items c.len-index.result c.args.node.now c.requires.sound c.requires.stands (omega arith) e c.add_parents.ensures).changes

pub returns-clause-tree : goal.returns-clause-tree
returns-clause-tree c =
    let e : c.push.new.self.items ≡ c.args.slots.now.items ++ c.args.node.now ∷ [] = grind arith in
    (appended c.args.slots.now.items c.push.new.self.items c.add_parents.new.slots.items c.len-index.result c.args.node.now c.requires.sound c.requires.stands (omega arith) e c.add_parents.ensures).tree

pub returns-clause-held : goal.returns-clause-held
returns-clause-held c =
    let e : c.push.new.self.items ≡ c.args.slots.now.items ++ c.args.node.now ∷ [] = grind arith in
    (appended c.args.slots.now.items c.push.new.self.items c.add_parents.new.slots.items c.len-index.result c.args.node.now c.requires.sound c.requires.stands (omega arith) e c.add_parents.ensures).held

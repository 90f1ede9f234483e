use Rattle.std.proofs.Common.{arith}
use Rattle.plain_store.proofs.Trees.{same_parts, same_whole, same_shape}
use Rattle.plain_store.proofs.nodes.+same_at.Goals as goal

pub returns-then-not-alike : goal.returns-then-not-alike
returns-then-not-alike t c =
    grind (arith, same_shape c.args.slots.now.items c.args.i c.args.j, same_parts c.args.slots.now.items c.args.i c.args.j c.requires.ordered c.requires.i c.requires.j, same_whole c.args.slots.now.items c.args.i c.args.j c.requires.ordered c.requires.i c.requires.j)

pub returns-then-not-same_at : goal.returns-then-not-same_at
returns-then-not-same_at t c =
    grind (arith, same_shape c.args.slots.now.items c.args.i c.args.j, same_parts c.args.slots.now.items c.args.i c.args.j c.requires.ordered c.requires.i c.requires.j, same_whole c.args.slots.now.items c.args.i c.args.j c.requires.ordered c.requires.i c.requires.j)

pub returns-then-not-same_at-2 : goal.returns-then-not-same_at-2
returns-then-not-same_at-2 t c =
    grind (arith, same_shape c.args.slots.now.items c.args.i c.args.j, same_parts c.args.slots.now.items c.args.i c.args.j c.requires.ordered c.requires.i c.requires.j, same_whole c.args.slots.now.items c.args.i c.args.j c.requires.ordered c.requires.i c.requires.j)

pub returns : goal.returns
returns t c =
    grind (arith, same_shape c.args.slots.now.items c.args.i c.args.j, same_parts c.args.slots.now.items c.args.i c.args.j c.requires.ordered c.requires.i c.requires.j, same_whole c.args.slots.now.items c.args.i c.args.j c.requires.ordered c.requires.i c.requires.j)

use Rattle.std.proofs.Common.{arith}
use Rattle.hptmap.specs.Trie.{key_of}
use Rattle.hptmap.proofs.Changes.{high_depth, not_key}
use Rattle.hptmap.proofs.insert.link.Goals as goal

pub intern-requires-else-new_key-node-clause-depth : goal.intern-requires-else-new_key-node-clause-depth
intern-requires-else-new_key-node-clause-depth g c =
    grind (
      arith,
      high_depth ((g.S.Store.bag c.args.s.now).tree (g.S.Store.name c.args.at.now)) c.args.node.now c.args.key c.branching_bit-bit.result ((g.S.Store.bag c.args.s.now).tree (g.S.Store.name c.args.payload.now)),
      not_key c.args.key (key_of c.args.node.now) c.branching_bit-bit.result,
    )

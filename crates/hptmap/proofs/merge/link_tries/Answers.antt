use Rattle.std.proofs.Common.{◌<◌, arith}
use Rattle.hptmap.specs.Trie.{key_of}
use Rattle.hptmap.proofs.Merging.{apart_keys, high_depth, linked_low_ok, linked_high_ok}
use Rattle.hptmap.proofs.merge.link_tries.Goals as goal

pub intern-requires-else-key-second-clause-depth : goal.intern-requires-else-key-second-clause-depth
intern-requires-else-key-second-clause-depth g c =
    let l : key_of c.args.second.now < key_of c.args.first.now = grind (arith, apart_keys c.args.first.now c.args.second.now c.requires.apart) in
    high_depth _ _ c.args.first.now c.args.second.now c.branching_bit-bit.result c.requires.trie c.requires.trie_second c.requires.first c.requires.second c.requires.apart
    c.branching_bit-bit.ensures.small c.branching_bit-bit.ensures.apart c.branching_bit-bit.ensures.together l

pub returns-then-key-second-clause-merges : goal.returns-then-key-second-clause-merges
returns-then-key-second-clause-merges g c =
    let l : key_of c.args.first.now < key_of c.args.second.now = grind arith in
    linked_low_ok g.S.Store.name (g.S.Store.bag c.args.s.now) (g.S.Store.bag c.intern.new.self) _ _ c.args.first.now c.args.second.now c.branch_node-branch.result c.branching_bit-bit.result c.intern.result
    c.requires.trie c.requires.trie_second c.requires.first c.requires.second c.requires.apart
    c.branching_bit-bit.ensures.small c.branching_bit-bit.ensures.apart c.branching_bit-bit.ensures.together l c.branch_node-branch.ensures c.intern.ensures.ok

pub returns-else-key-second-clause-merges : goal.returns-else-key-second-clause-merges
returns-else-key-second-clause-merges g c =
    let l : key_of c.args.second.now < key_of c.args.first.now = grind (arith, apart_keys c.args.first.now c.args.second.now c.requires.apart) in
    linked_high_ok g.S.Store.name (g.S.Store.bag c.args.s.now) (g.S.Store.bag c.intern-else-key-second.new.self) _ _ c.args.first.now c.args.second.now c.branch_node-branch.result c.branching_bit-bit.result c.intern-else-key-second.result
    c.requires.trie c.requires.trie_second c.requires.first c.requires.second c.requires.apart
    c.branching_bit-bit.ensures.small c.branching_bit-bit.ensures.apart c.branching_bit-bit.ensures.together l c.branch_node-branch.ensures c.intern-else-key-second.ensures.ok

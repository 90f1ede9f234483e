use Rattle.std.proofs.Common.{◌<◌, ◌≤◌, ◌≡◌, arith, IsTrue, false}
use Rattle.hptmap.specs.Trie.{is_leaf, key_of}
use Rattle.hptmap.proofs.Including.{both_ok, within_left_ok, within_right_ok}
use Rattle.hptmap.proofs.inclusion.+included.Goals as goal

pub included_equal-returns-clause-told : goal.included_equal-returns-clause-told
included_equal-returns-clause-told g t c =
    let e : is_leaf c.args.node.now ≡ false = grind arith in
    let n : IsTrue c.in_ok-left.left = grind arith in
    let s2 = c.in_ok-left.ensures.ok in
    both_ok (g.L.LeafRule.meaning c.args.l.now) (g.L.LeafRule.meaning c.included_sides.new.l) ((g.S.Store.bag c.args.s.now).tree (g.S.Store.name c.args.a.now)) ((g.S.Store.bag c.args.s.now).tree (g.S.Store.name c.args.b.now)) _ _ c.args.node.now c.in_ok-left.left c.included_sides-2.result c.requires.trie c.requires.trie_second c.requires.node c.requires.node_second e c.in_ok-left.ensures.told n
    c.in_ok-left.ensures.rule (s2.trees (g.S.Store.name c.args.a.now) c.requires.held) (s2.trees (g.S.Store.name c.args.b.now) c.requires.held_second) c.included_sides-2.ensures.told

pub included_within-returns-then-key-node-clause-told : goal.included_within-returns-then-key-node-clause-told
included_within-returns-then-key-node-clause-told g t c =
    let l : c.args.key < key_of c.args.node.now = grind arith in
    within_left_ok (g.L.LeafRule.meaning c.args.l.now).included ((g.S.Store.bag c.args.s.now).tree (g.S.Store.name c.args.a.now)) ((g.S.Store.bag c.args.s.now).tree (g.S.Store.name c.args.b.now)) _ _ c.args.node.now c.args.key c.included_in-told.result c.requires.trie c.requires.trie_second c.requires.node c.requires.inside l
    (c.in_ok-below.ensures.ok.trades.trees (g.S.Store.name c.args.a.now) c.requires.held) c.in_ok-below.ensures.ok.tree c.included_in-told.ensures.told

pub included_within-returns-clause-told : goal.included_within-returns-clause-told
included_within-returns-clause-told g t c =
    let l : key_of c.args.node.now ≤ c.args.key = grind arith in
    within_right_ok (g.L.LeafRule.meaning c.args.l.now).included ((g.S.Store.bag c.args.s.now).tree (g.S.Store.name c.args.a.now)) ((g.S.Store.bag c.args.s.now).tree (g.S.Store.name c.args.b.now)) _ _ c.args.node.now c.args.key c.included_in-told-2.result c.requires.trie c.requires.trie_second c.requires.node c.requires.inside l
    (c.in_ok-below-2.ensures.ok.trades.trees (g.S.Store.name c.args.a.now) c.requires.held) c.in_ok-below-2.ensures.ok.tree c.included_in-told-2.ensures.told

use Rattle.std.proofs.Common.{arith}
use Rattle.value_trees.proofs.Maps.{ok_pairs}
use Rattle.value_trees.proofs.Trees.{pointing_is_tree, pointing_low, pointing_value}
use Rattle.value_trees.proofs.values.put_pointing.Goals as goal

pub intern_two-requires-clause-depth : goal.intern_two-requires-clause-depth
intern_two-requires-clause-depth g c =
    let d = pointing_low (g.S.Store.bag c.args.s.now) (g.S.Store.bag c.put_ival.new.s) (g.S.Store.name c.in-Ok.ints) (g.S.Store.name c.args.map) c.args.v.now c.in-Ok.ensures.ok c.requires.owned c.requires.formed c.requires.trie c.requires.spells in
    let l = d.0 in let m = d.1 in omega (arith, l, m)

pub returns-in-Ok-clause-tree : goal.returns-in-Ok-clause-tree
returns-in-Ok-clause-tree g c =
    ok_pairs c.intern_two.result _ _
    (λ r h. pointing_is_tree (g.S.Store.bag c.args.s.now) (g.S.Store.bag c.put_ival.new.s) (g.S.Store.name c.in-Ok.ints) (g.S.Store.name c.args.map) c.args.v.now ((g.S.Store.bag c.intern_two.new.s).tree (g.S.Store.name r)) c.value_node.result c.in-Ok.ensures.ok c.requires.owned c.requires.formed c.requires.trie c.requires.spells c.value_node.ensures h)
    c.intern_two.ensures.tree

pub returns-in-Ok-clause-value : goal.returns-in-Ok-clause-value
returns-in-Ok-clause-value g c =
    ok_pairs c.intern_two.result _ _
    (λ r h. pointing_value (g.S.Store.bag c.args.s.now) (g.S.Store.bag c.put_ival.new.s) (g.S.Store.name c.in-Ok.ints) (g.S.Store.name c.args.map) c.args.v.now ((g.S.Store.bag c.intern_two.new.s).tree (g.S.Store.name r)) c.value_node.result c.in-Ok.ensures.ok c.requires.owned c.requires.formed c.requires.trie c.requires.spells c.value_node.ensures h)
    c.intern_two.ensures.tree

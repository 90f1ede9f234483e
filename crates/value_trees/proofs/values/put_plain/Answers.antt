use Rattle.std.proofs.Common.{◌≤◌, arith}
use Rattle.store_api.specs.Tree.{depth}
use Rattle.value_trees.proofs.Maps.{ok_pairs}
use Rattle.value_trees.proofs.Trees.{ints_low, none_is_tree, none_value}
use Rattle.value_trees.proofs.values.put_plain.Goals as goal

pub intern_one-requires-clause-depth : goal.intern_one-requires-clause-depth
intern_one-requires-clause-depth g c =
    let d : depth ((g.S.Store.bag c.put_ival.new.s).tree (g.S.Store.name c.in_ok-ints.ints)) ≤ 2 = ints_low ((g.S.Store.bag c.put_ival.new.s).tree (g.S.Store.name c.in_ok-ints.ints)) c.args.v.now.ints c.in_ok-ints.ensures.ok.tree in
    omega (arith, d)

pub returns-clause-tree : goal.returns-clause-tree
returns-clause-tree g c =
    ok_pairs c.intern_one.result _ _
    (λ r h. none_is_tree c.args.v.now ((g.S.Store.bag c.put_ival.new.s).tree (g.S.Store.name c.in_ok-ints.ints)) ((g.S.Store.bag c.intern_one.new.s).tree (g.S.Store.name r)) c.value_node.result c.requires.formed c.requires.none c.in_ok-ints.ensures.ok.tree c.value_node.ensures h)
    c.intern_one.ensures.tree

pub returns-clause-value : goal.returns-clause-value
returns-clause-value g c =
    ok_pairs c.intern_one.result _ _
    (λ r h. none_value c.args.v.now ((g.S.Store.bag c.put_ival.new.s).tree (g.S.Store.name c.in_ok-ints.ints)) ((g.S.Store.bag c.intern_one.new.s).tree (g.S.Store.name r)) c.value_node.result c.requires.formed c.requires.none c.in_ok-ints.ensures.ok.tree c.value_node.ensures h)
    c.intern_one.ensures.tree

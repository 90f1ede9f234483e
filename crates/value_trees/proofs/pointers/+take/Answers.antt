use Rattle.std.proofs.Common.{◌≡◌, ◌∙◌, ap, arith}
use Rattle.store_api.specs.Bag.{one_self}
use Rattle.store_api.specs.Tree.{depth}
use Rattle.hptmap.proofs.Tries.{below_trie}
use Rattle.hptmap.proofs.Merging.{kid_falls}
use Rattle.value_trees.proofs.Spelling.{side_kids, side_offsets}
use Rattle.value_trees.proofs.pointers.+take.Goals as goal

pub take_pointers-take_side-requires-2 : goal.take_pointers-take_side-requires-2
take_pointers-take_side-requires-2 g t c κs within =
    let z : (g.S.Store.bag c.look-node.new.self).tree (g.S.Store.name c.args.at.now) ≡ ((g.S.Store.bag c.args.s.now).tree (g.S.Store.name c.args.at.now)) = c.look-node.ensures.bag.trees (g.S.Store.name c.args.at.now) (omega (arith, c.requires.held)) in
    let e : (g.S.Store.bag c.take_side.new.s).tree (g.S.Store.name c.args.at.now) ≡ ((g.S.Store.bag c.args.s.now).tree (g.S.Store.name c.args.at.now)) = c.in_ok-taken.ensures.ok.trees (g.S.Store.name c.args.at.now) (omega (arith, c.requires.held, c.look-node.ensures.bag.counts (g.S.Store.name c.args.at.now))) ∙ z in (
      omega (arith, ap depth e),
      grind (arith, one_self, e, c.in_ok-taken.ensures.ok.counts (g.S.Store.name c.args.at.now), below_trie, kid_falls, side_kids, side_offsets),
    )

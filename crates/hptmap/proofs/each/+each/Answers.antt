use Rattle.std.proofs.Common.{◌≡◌, arith, ap, sym, refl, false, ◌∙◌}
use Rattle.store_api.specs.Bag.{one_self}
use Rattle.store_api.specs.Tree.{kid}
use Rattle.hptmap.specs.Trie.{is_leaf}
use Rattle.hptmap.specs.Each.{Replaces}
use Rattle.hptmap.proofs.Replacing.{replaces_moved, replaces_sides, right_ok, sides_depth, tree_ok}
use Rattle.hptmap.proofs.each.+each.Goals as goal

pub map_in-intern_two-requires-clause-depth : goal.map_in-intern_two-requires-clause-depth
map_in-intern_two-requires-clause-depth g t c =
    let z : (g.S.Store.bag c.look-node.new.self).tree (g.S.Store.name c.args.at.now) ≡ ((g.S.Store.bag c.args.s.now).tree (g.S.Store.name c.args.at.now)) = c.look-node.ensures.bag.trees (g.S.Store.name c.args.at.now) c.requires.held in
    let a : (g.S.Store.bag c.map_side.new.s).tree (g.S.Store.name c.args.at.now) ≡ ((g.S.Store.bag c.args.s.now).tree (g.S.Store.name c.args.at.now)) = c.in_ok-left.ensures.ok.trees (g.S.Store.name c.args.at.now) (omega (arith, c.look-node.ensures.bag.counts (g.S.Store.name c.args.at.now), c.requires.held)) ∙ z in
    let k = c.in_ok-left-2.ensures.ok in
    let l : is_leaf c.look-node.result ≡ false = grind arith in
    let e : (g.S.Store.bag c.map_side.new.s).tree (g.S.Store.name c.in_ok-left.left) ≡ ((g.S.Store.bag c.pair.new.s).tree (g.S.Store.name c.in_ok-left-2.left)) = grind (arith, one_self) in
    let f : (g.S.Store.bag c.map_side-right.new.s).tree (g.S.Store.name c.in_ok-left-2.right) ≡ ((g.S.Store.bag c.pair.new.s).tree (g.S.Store.name c.in_ok-left-2.right)) = ap (λ b. b.tree (g.S.Store.name c.in_ok-left-2.right)) (sym k.2) in
    let v : Replaces (g.M.LeafMap.meaning c.args.f.now).replace (kid ((g.S.Store.bag c.args.s.now).tree (g.S.Store.name c.args.at.now)) 0) ((g.S.Store.bag c.pair.new.s).tree (g.S.Store.name c.in_ok-left-2.left)) = replaces_moved (g.M.LeafMap.meaning c.args.f.now) (g.M.LeafMap.meaning c.args.f.now) (kid ((g.S.Store.bag c.args.s.now).tree (g.S.Store.name c.args.at.now)) 0) ((g.S.Store.bag c.pair.new.s).tree (g.S.Store.name c.in_ok-left-2.left)) _ _ refl (ap (λ y. kid y 0) z) e c.in_ok-left.ensures.replaces in
    let w : Replaces (g.M.LeafMap.meaning c.args.f.now).replace (kid ((g.S.Store.bag c.args.s.now).tree (g.S.Store.name c.args.at.now)) 1) ((g.S.Store.bag c.pair.new.s).tree (g.S.Store.name c.in_ok-left-2.right)) = right_ok g.S.Store.name (g.S.Store.bag c.map_side-right.new.s) (g.M.LeafMap.meaning c.args.f.now) (g.M.LeafMap.meaning c.map_side.new.f) (kid ((g.S.Store.bag c.args.s.now).tree (g.S.Store.name c.args.at.now)) 1) _ ((g.S.Store.bag c.pair.new.s).tree (g.S.Store.name c.in_ok-left-2.right)) c.map_side-right.result c.in_ok-left-2.right k.1 c.in_ok-left.ensures.map (ap (λ y. kid y 1) a) f c.map_side-right.ensures.replaces in
    sides_depth (g.M.LeafMap.meaning c.args.f.now).replace ((g.S.Store.bag c.args.s.now).tree (g.S.Store.name c.args.at.now)) c.look-node.result ((g.S.Store.bag c.pair.new.s).tree (g.S.Store.name c.in_ok-left-2.left)) ((g.S.Store.bag c.pair.new.s).tree (g.S.Store.name c.in_ok-left-2.right)) c.requires.trie c.look-node.ensures.shape l v w

pub map_in-returns-clause-replaces : goal.map_in-returns-clause-replaces
map_in-returns-clause-replaces g t c =
    let z : (g.S.Store.bag c.look-node.new.self).tree (g.S.Store.name c.args.at.now) ≡ ((g.S.Store.bag c.args.s.now).tree (g.S.Store.name c.args.at.now)) = c.look-node.ensures.bag.trees (g.S.Store.name c.args.at.now) c.requires.held in
    let a : (g.S.Store.bag c.map_side.new.s).tree (g.S.Store.name c.args.at.now) ≡ ((g.S.Store.bag c.args.s.now).tree (g.S.Store.name c.args.at.now)) = c.in_ok-left.ensures.ok.trees (g.S.Store.name c.args.at.now) (omega (arith, c.look-node.ensures.bag.counts (g.S.Store.name c.args.at.now), c.requires.held)) ∙ z in
    let k = c.in_ok-left-2.ensures.ok in
    let l : is_leaf c.look-node.result ≡ false = grind arith in
    let e : (g.S.Store.bag c.map_side.new.s).tree (g.S.Store.name c.in_ok-left.left) ≡ ((g.S.Store.bag c.pair.new.s).tree (g.S.Store.name c.in_ok-left-2.left)) = grind (arith, one_self) in
    let f : (g.S.Store.bag c.map_side-right.new.s).tree (g.S.Store.name c.in_ok-left-2.right) ≡ ((g.S.Store.bag c.pair.new.s).tree (g.S.Store.name c.in_ok-left-2.right)) = ap (λ b. b.tree (g.S.Store.name c.in_ok-left-2.right)) (sym k.2) in
    let v : Replaces (g.M.LeafMap.meaning c.args.f.now).replace (kid ((g.S.Store.bag c.args.s.now).tree (g.S.Store.name c.args.at.now)) 0) ((g.S.Store.bag c.pair.new.s).tree (g.S.Store.name c.in_ok-left-2.left)) = replaces_moved (g.M.LeafMap.meaning c.args.f.now) (g.M.LeafMap.meaning c.args.f.now) (kid ((g.S.Store.bag c.args.s.now).tree (g.S.Store.name c.args.at.now)) 0) ((g.S.Store.bag c.pair.new.s).tree (g.S.Store.name c.in_ok-left-2.left)) _ _ refl (ap (λ y. kid y 0) z) e c.in_ok-left.ensures.replaces in
    let w : Replaces (g.M.LeafMap.meaning c.args.f.now).replace (kid ((g.S.Store.bag c.args.s.now).tree (g.S.Store.name c.args.at.now)) 1) ((g.S.Store.bag c.pair.new.s).tree (g.S.Store.name c.in_ok-left-2.right)) = right_ok g.S.Store.name (g.S.Store.bag c.map_side-right.new.s) (g.M.LeafMap.meaning c.args.f.now) (g.M.LeafMap.meaning c.map_side.new.f) (kid ((g.S.Store.bag c.args.s.now).tree (g.S.Store.name c.args.at.now)) 1) _ ((g.S.Store.bag c.pair.new.s).tree (g.S.Store.name c.in_ok-left-2.right)) c.map_side-right.result c.in_ok-left-2.right k.1 c.in_ok-left.ensures.map (ap (λ y. kid y 1) a) f c.map_side-right.ensures.replaces in
    tree_ok g.S.Store.name (g.S.Store.bag c.intern_two.new.s) (g.M.LeafMap.meaning c.args.f.now).replace ((g.S.Store.bag c.args.s.now).tree (g.S.Store.name c.args.at.now)) _ c.intern_two.result (replaces_sides (g.M.LeafMap.meaning c.args.f.now).replace ((g.S.Store.bag c.args.s.now).tree (g.S.Store.name c.args.at.now)) c.look-node.result ((g.S.Store.bag c.pair.new.s).tree (g.S.Store.name c.in_ok-left-2.left)) ((g.S.Store.bag c.pair.new.s).tree (g.S.Store.name c.in_ok-left-2.right)) c.requires.trie c.look-node.ensures.shape l v w) c.intern_two.ensures.tree

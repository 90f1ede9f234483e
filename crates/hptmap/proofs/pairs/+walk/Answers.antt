use Rattle.std.proofs.Common.{◌≡◌, ◌++◌, arith, ap, refl, false, true, ◌∙◌}
use Rattle.store_api.specs.Bag.{none, one, one_self}
use Rattle.store_api.specs.Tree.{depth, kid}
use Rattle.hptmap.specs.Pairs.{pair_trees}
use Rattle.hptmap.specs.Trie.{entries, is_leaf, key_of}
use Rattle.hptmap.proofs.Tries.{below_trie, kids_of_trie}
use Rattle.hptmap.proofs.Merging.{kid_falls}
use Rattle.hptmap.proofs.Walking.{leaf_ok, side_ok, sides_ok, trees_kept}
use Rattle.hptmap.proofs.pairs.+walk.Goals as goal

pub walk_in-returns-in-Ok-clause-pairs : goal.walk_in-returns-in-Ok-clause-pairs
walk_in-returns-in-Ok-clause-pairs g t c =
    let z : (g.S.Store.bag c.look-node.new.self).tree (g.S.Store.name c.args.at.now) ≡ ((g.S.Store.bag c.args.s.now).tree (g.S.Store.name c.args.at.now)) = c.look-node.ensures.bag.trees (g.S.Store.name c.args.at.now) (omega (arith, c.requires.held)) in
    let k : pair_trees g.S.Store.name (g.S.Store.bag c.look-node.new.self) c.args.pairs.items ≡ pair_trees g.S.Store.name (g.S.Store.bag c.args.s.now) c.args.pairs.items = trees_kept g.S.Store.name (g.S.Store.bag c.args.s.now) (g.S.Store.bag c.look-node.new.self) none none c.args.pairs.items c.look-node.ensures.bag (λ x. omega (arith, c.requires.owned x)) in
    let l : is_leaf c.look-node.result ≡ true = grind arith in
    leaf_ok c.push_pair.result (λ v. v.items) g.S.Store.name (g.S.Store.bag c.args.s.now) (g.S.Store.bag c.kid.new.self) (g.S.Store.bag c.push_pair.new.s) c.args.pairs.items c.in-Ok.payload (key_of c.look-node.result) ((g.S.Store.bag c.args.s.now).tree (g.S.Store.name c.args.at.now)) c.look-node.result refl c.look-node.ensures.shape l
    (c.in-Ok.ensures.ok.tree ∙ ap (λ y. kid y 0) z)
    (trees_kept g.S.Store.name (g.S.Store.bag c.look-node.new.self) (g.S.Store.bag c.kid.new.self) none (one (g.S.Store.name c.in-Ok.payload)) c.args.pairs.items c.in-Ok.ensures.ok.trades (λ x. omega (arith, c.requires.owned x, c.look-node.ensures.bag.counts x)) ∙ k)
    c.push_pair.ensures.ok c.push_pair.ensures.same

pub walk_in-walk_side-requires-2 : goal.walk_in-walk_side-requires-2
walk_in-walk_side-requires-2 g t c κs within =
    let z : (g.S.Store.bag c.look-node.new.self).tree (g.S.Store.name c.args.at.now) ≡ ((g.S.Store.bag c.args.s.now).tree (g.S.Store.name c.args.at.now)) = c.look-node.ensures.bag.trees (g.S.Store.name c.args.at.now) (omega (arith, c.requires.held)) in
    let e : (g.S.Store.bag c.walk_side.new.s).tree (g.S.Store.name c.args.at.now) ≡ ((g.S.Store.bag c.args.s.now).tree (g.S.Store.name c.args.at.now)) = c.in_ok-pairs.ensures.ok.trees (g.S.Store.name c.args.at.now) (omega (arith, c.requires.held, c.look-node.ensures.bag.counts (g.S.Store.name c.args.at.now))) ∙ z in (
      omega (arith, ap depth e),
      grind (arith, one_self, e, c.in_ok-pairs.ensures.ok.counts (g.S.Store.name c.args.at.now), below_trie, kid_falls, kids_of_trie),
    )

pub walk_in-returns-clause-pairs : goal.walk_in-returns-clause-pairs
walk_in-returns-clause-pairs g t c =
    let z : (g.S.Store.bag c.look-node.new.self).tree (g.S.Store.name c.args.at.now) ≡ ((g.S.Store.bag c.args.s.now).tree (g.S.Store.name c.args.at.now)) = c.look-node.ensures.bag.trees (g.S.Store.name c.args.at.now) (omega (arith, c.requires.held)) in
    let k : pair_trees g.S.Store.name (g.S.Store.bag c.look-node.new.self) c.args.pairs.items ≡ pair_trees g.S.Store.name (g.S.Store.bag c.args.s.now) c.args.pairs.items = trees_kept g.S.Store.name (g.S.Store.bag c.args.s.now) (g.S.Store.bag c.look-node.new.self) none none c.args.pairs.items c.look-node.ensures.bag (λ x. omega (arith, c.requires.owned x)) in
    let e : (g.S.Store.bag c.walk_side.new.s).tree (g.S.Store.name c.args.at.now) ≡ ((g.S.Store.bag c.args.s.now).tree (g.S.Store.name c.args.at.now)) = c.in_ok-pairs.ensures.ok.trees (g.S.Store.name c.args.at.now) (omega (arith, c.requires.held, c.look-node.ensures.bag.counts (g.S.Store.name c.args.at.now))) ∙ z in
    let l : is_leaf c.look-node.result ≡ false = grind arith in
    sides_ok c.walk_side-2.result (λ v. v.items) g.S.Store.name (g.S.Store.bag c.args.s.now) (g.S.Store.bag c.walk_side.new.s) (g.S.Store.bag c.walk_side-2.new.s) c.args.pairs.items c.in_ok-pairs.pairs.items ((g.S.Store.bag c.args.s.now).tree (g.S.Store.name c.args.at.now)) ((g.S.Store.bag c.walk_side.new.s).tree (g.S.Store.name c.args.at.now)) c.look-node.result c.look-node.ensures.shape l e
    (c.in_ok-pairs.ensures.pairs ∙ ap (λ y. y ++ entries (kid ((g.S.Store.bag c.look-node.new.self).tree (g.S.Store.name c.args.at.now)) 0)) k ∙ ap (λ y. pair_trees g.S.Store.name (g.S.Store.bag c.args.s.now) c.args.pairs.items ++ entries (kid y 0)) z)
    c.walk_side-2.ensures.pairs

pub walk_side-returns-in-Ok-clause-pairs : goal.walk_side-returns-in-Ok-clause-pairs
walk_side-returns-in-Ok-clause-pairs g t c =
    side_ok c.walk_in-walked.result (λ v. v.items) g.S.Store.name (g.S.Store.bag c.args.s.now) (g.S.Store.bag c.kid.new.self) (g.S.Store.bag c.walk_in-walked.new.s) (g.S.Store.bag c.give_back.new.self) (g.S.Store.name c.in-Ok.below) c.args.pairs.items (kid ((g.S.Store.bag c.args.s.now).tree (g.S.Store.name c.args.at.now)) c.args.side) _
    c.in-Ok.ensures.ok.tree c.in-Ok.ensures.ok.trades c.requires.owned c.walk_in-walked.ensures.ok c.walk_in-walked.ensures.pairs c.give_back.ensures.bag

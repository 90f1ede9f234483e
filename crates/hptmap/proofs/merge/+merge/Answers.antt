use Rattle.std.proofs.Common.{◌<◌, ◌≤◌, ◌≡◌, arith, ap, sym, subst, false, ◌∙◌, refl}
use Rattle.store_api.specs.Bag.{one_self}
use Rattle.store_api.specs.Tree.{Node, kid, depth}
use Rattle.hptmap.specs.Trie.{is_leaf, key_of}
use Rattle.hptmap.specs.Merges.{Merges, merged}
use Rattle.hptmap.proofs.Merging.{back_ok, equal_shapes, inside, on_side_branch, takes_back, takes_side, takes_sides, kid_falls, left_depth, link_ok, merges_left, merges_moved, merges_right, merges_sides, right_depth, right_ok, same_ok, sides_depth, tree_ok}
use Rattle.hptmap.proofs.Tries.{below_trie}
use Rattle.hptmap.proofs.merge.+merge.Goals as goal

pub merge_equal-merge_sides-right-requires : goal.merge_equal-merge_sides-right-requires
merge_equal-merge_sides-right-requires g t c κs within =
    let ea : (g.S.Store.bag c.merge_sides.new.s).tree (g.S.Store.name c.args.a.now) ≡ ((g.S.Store.bag c.args.s.now).tree (g.S.Store.name c.args.a.now)) = c.in_ok-left.ensures.ok.trees (g.S.Store.name c.args.a.now) c.requires.held in
    let eb : (g.S.Store.bag c.merge_sides.new.s).tree (g.S.Store.name c.args.b.now) ≡ ((g.S.Store.bag c.args.s.now).tree (g.S.Store.name c.args.b.now)) = c.in_ok-left.ensures.ok.trees (g.S.Store.name c.args.b.now) c.requires.held_second in (
      omega (arith, ap depth ea, ap depth eb),
      grind (arith, one_self, ea, eb),
    )

pub merge_equal-intern_two-requires-clause-depth : goal.merge_equal-intern_two-requires-clause-depth
merge_equal-intern_two-requires-clause-depth g t c =
    let ea : (g.S.Store.bag c.merge_sides.new.s).tree (g.S.Store.name c.args.a.now) ≡ ((g.S.Store.bag c.args.s.now).tree (g.S.Store.name c.args.a.now)) = c.in_ok-left.ensures.ok.trees (g.S.Store.name c.args.a.now) c.requires.held in
    let eb : (g.S.Store.bag c.merge_sides.new.s).tree (g.S.Store.name c.args.b.now) ≡ ((g.S.Store.bag c.args.s.now).tree (g.S.Store.name c.args.b.now)) = c.in_ok-left.ensures.ok.trees (g.S.Store.name c.args.b.now) c.requires.held_second in
    let k = c.in_ok-left-2.ensures.ok in
    let l : is_leaf c.args.node.now ≡ false = grind arith in
    let e : (g.S.Store.bag c.merge_sides.new.s).tree (g.S.Store.name c.in_ok-left.left) ≡ ((g.S.Store.bag c.pair.new.s).tree (g.S.Store.name c.in_ok-left-2.left)) = grind (arith, one_self) in
    let f : (g.S.Store.bag c.merge_sides-right.new.s).tree (g.S.Store.name c.in_ok-left-2.right) ≡ ((g.S.Store.bag c.pair.new.s).tree (g.S.Store.name c.in_ok-left-2.right)) = ap (λ b. b.tree (g.S.Store.name c.in_ok-left-2.right)) (sym k.2) in
    let v : Merges (merged (g.L.LeafRule.meaning c.args.l.now) c.args.way) (kid ((g.S.Store.bag c.args.s.now).tree (g.S.Store.name c.args.a.now)) 0) (kid ((g.S.Store.bag c.args.s.now).tree (g.S.Store.name c.args.b.now)) 0) ((g.S.Store.bag c.pair.new.s).tree (g.S.Store.name c.in_ok-left-2.left)) = subst (λ y. Merges (merged (g.L.LeafRule.meaning c.args.l.now) c.args.way) (kid ((g.S.Store.bag c.args.s.now).tree (g.S.Store.name c.args.a.now)) 0) (kid ((g.S.Store.bag c.args.s.now).tree (g.S.Store.name c.args.b.now)) 0) y) e c.in_ok-left.ensures.merges in
    let w : Merges (merged (g.L.LeafRule.meaning c.args.l.now) c.args.way) (kid ((g.S.Store.bag c.args.s.now).tree (g.S.Store.name c.args.a.now)) 1) (kid ((g.S.Store.bag c.args.s.now).tree (g.S.Store.name c.args.b.now)) 1) ((g.S.Store.bag c.pair.new.s).tree (g.S.Store.name c.in_ok-left-2.right)) = right_ok g.S.Store.name (g.S.Store.bag c.merge_sides-right.new.s) (g.L.LeafRule.meaning c.args.l.now) (g.L.LeafRule.meaning c.merge_sides.new.l) c.args.way (kid ((g.S.Store.bag c.args.s.now).tree (g.S.Store.name c.args.a.now)) 1) (kid ((g.S.Store.bag c.args.s.now).tree (g.S.Store.name c.args.b.now)) 1) _ _ ((g.S.Store.bag c.pair.new.s).tree (g.S.Store.name c.in_ok-left-2.right)) c.merge_sides-right.result c.in_ok-left-2.right k.1 c.in_ok-left.ensures.rule (ap (λ y. kid y 1) ea) (ap (λ y. kid y 1) eb) f c.merge_sides-right.ensures.merges in
    sides_depth (merged (g.L.LeafRule.meaning c.args.l.now) c.args.way) ((g.S.Store.bag c.args.s.now).tree (g.S.Store.name c.args.a.now)) ((g.S.Store.bag c.args.s.now).tree (g.S.Store.name c.args.b.now)) c.args.node.now ((g.S.Store.bag c.pair.new.s).tree (g.S.Store.name c.in_ok-left-2.left)) ((g.S.Store.bag c.pair.new.s).tree (g.S.Store.name c.in_ok-left-2.right)) c.requires.trie c.requires.trie_second c.requires.node c.requires.node_second l v w

pub merge_equal-returns-clause-merges : goal.merge_equal-returns-clause-merges
merge_equal-returns-clause-merges g t c =
    let ea : (g.S.Store.bag c.merge_sides.new.s).tree (g.S.Store.name c.args.a.now) ≡ ((g.S.Store.bag c.args.s.now).tree (g.S.Store.name c.args.a.now)) = c.in_ok-left.ensures.ok.trees (g.S.Store.name c.args.a.now) c.requires.held in
    let eb : (g.S.Store.bag c.merge_sides.new.s).tree (g.S.Store.name c.args.b.now) ≡ ((g.S.Store.bag c.args.s.now).tree (g.S.Store.name c.args.b.now)) = c.in_ok-left.ensures.ok.trees (g.S.Store.name c.args.b.now) c.requires.held_second in
    let k = c.in_ok-left-2.ensures.ok in
    let l : is_leaf c.args.node.now ≡ false = grind arith in
    let e : (g.S.Store.bag c.merge_sides.new.s).tree (g.S.Store.name c.in_ok-left.left) ≡ ((g.S.Store.bag c.pair.new.s).tree (g.S.Store.name c.in_ok-left-2.left)) = grind (arith, one_self) in
    let f : (g.S.Store.bag c.merge_sides-right.new.s).tree (g.S.Store.name c.in_ok-left-2.right) ≡ ((g.S.Store.bag c.pair.new.s).tree (g.S.Store.name c.in_ok-left-2.right)) = ap (λ b. b.tree (g.S.Store.name c.in_ok-left-2.right)) (sym k.2) in
    let v : Merges (merged (g.L.LeafRule.meaning c.args.l.now) c.args.way) (kid ((g.S.Store.bag c.args.s.now).tree (g.S.Store.name c.args.a.now)) 0) (kid ((g.S.Store.bag c.args.s.now).tree (g.S.Store.name c.args.b.now)) 0) ((g.S.Store.bag c.pair.new.s).tree (g.S.Store.name c.in_ok-left-2.left)) = subst (λ y. Merges (merged (g.L.LeafRule.meaning c.args.l.now) c.args.way) (kid ((g.S.Store.bag c.args.s.now).tree (g.S.Store.name c.args.a.now)) 0) (kid ((g.S.Store.bag c.args.s.now).tree (g.S.Store.name c.args.b.now)) 0) y) e c.in_ok-left.ensures.merges in
    let w : Merges (merged (g.L.LeafRule.meaning c.args.l.now) c.args.way) (kid ((g.S.Store.bag c.args.s.now).tree (g.S.Store.name c.args.a.now)) 1) (kid ((g.S.Store.bag c.args.s.now).tree (g.S.Store.name c.args.b.now)) 1) ((g.S.Store.bag c.pair.new.s).tree (g.S.Store.name c.in_ok-left-2.right)) = right_ok g.S.Store.name (g.S.Store.bag c.merge_sides-right.new.s) (g.L.LeafRule.meaning c.args.l.now) (g.L.LeafRule.meaning c.merge_sides.new.l) c.args.way (kid ((g.S.Store.bag c.args.s.now).tree (g.S.Store.name c.args.a.now)) 1) (kid ((g.S.Store.bag c.args.s.now).tree (g.S.Store.name c.args.b.now)) 1) _ _ ((g.S.Store.bag c.pair.new.s).tree (g.S.Store.name c.in_ok-left-2.right)) c.merge_sides-right.result c.in_ok-left-2.right k.1 c.in_ok-left.ensures.rule (ap (λ y. kid y 1) ea) (ap (λ y. kid y 1) eb) f c.merge_sides-right.ensures.merges in
    tree_ok g.S.Store.name (g.S.Store.bag c.intern_two.new.s) (merged (g.L.LeafRule.meaning c.args.l.now) c.args.way) ((g.S.Store.bag c.args.s.now).tree (g.S.Store.name c.args.a.now)) ((g.S.Store.bag c.args.s.now).tree (g.S.Store.name c.args.b.now)) _ c.intern_two.result (merges_sides (merged (g.L.LeafRule.meaning c.args.l.now) c.args.way) ((g.S.Store.bag c.args.s.now).tree (g.S.Store.name c.args.a.now)) ((g.S.Store.bag c.args.s.now).tree (g.S.Store.name c.args.b.now)) c.args.node.now ((g.S.Store.bag c.pair.new.s).tree (g.S.Store.name c.in_ok-left-2.left)) ((g.S.Store.bag c.pair.new.s).tree (g.S.Store.name c.in_ok-left-2.right)) c.requires.trie c.requires.trie_second c.requires.node c.requires.node_second l v w) c.intern_two.ensures.tree

pub merge_in-returns-then-same-clause-merges : goal.merge_in-returns-then-same-clause-merges
merge_in-returns-then-same-clause-merges g t c =
    let e : ((g.S.Store.bag c.args.s.now).tree (g.S.Store.name c.args.a.now)) ≡ ((g.S.Store.bag c.args.s.now).tree (g.S.Store.name c.args.b.now)) = grind arith in
    same_ok g.S.Store.name (g.S.Store.bag c.args.s.now) (g.S.Store.bag c.again.new.self) (g.L.LeafRule.meaning c.args.l.now) (g.S.Store.bag c.args.s.now).about c.args.way ((g.S.Store.bag c.args.s.now).tree (g.S.Store.name c.args.a.now)) ((g.S.Store.bag c.args.s.now).tree (g.S.Store.name c.args.b.now)) c.again.result e (g.met.L.LeafRule.idempotent c.args.l.now) c.requires.trie c.requires.takes c.again.ensures.ok

pub merge_in-merge_equal-requires : goal.merge_in-merge_equal-requires
merge_in-merge_equal-requires g t c κs within =
    let ea : (g.S.Store.bag c.look-second.new.self).tree (g.S.Store.name c.args.a.now) ≡ ((g.S.Store.bag c.args.s.now).tree (g.S.Store.name c.args.a.now)) = c.look-second.ensures.bag.trees (g.S.Store.name c.args.a.now) (omega (arith, c.look-first.ensures.bag.counts (g.S.Store.name c.args.a.now), c.requires.held)) ∙ c.look-first.ensures.bag.trees (g.S.Store.name c.args.a.now) c.requires.held in
    let eb : (g.S.Store.bag c.look-second.new.self).tree (g.S.Store.name c.args.b.now) ≡ ((g.S.Store.bag c.args.s.now).tree (g.S.Store.name c.args.b.now)) = c.look-second.ensures.bag.trees (g.S.Store.name c.args.b.now) (omega (arith, c.look-first.ensures.bag.counts (g.S.Store.name c.args.b.now), c.requires.held_second)) ∙ c.look-first.ensures.bag.trees (g.S.Store.name c.args.b.now) c.requires.held_second in (
      omega (arith, ap depth ea, ap depth eb),
      grind (arith, one_self, ea, eb, equal_shapes),
    )

pub merge_in-merge_into-requires-in-Inside : goal.merge_in-merge_into-requires-in-Inside
merge_in-merge_into-requires-in-Inside g t c κs within =
    let ea : (g.S.Store.bag c.look-second.new.self).tree (g.S.Store.name c.args.a.now) ≡ ((g.S.Store.bag c.args.s.now).tree (g.S.Store.name c.args.a.now)) = c.look-second.ensures.bag.trees (g.S.Store.name c.args.a.now) (omega (arith, c.look-first.ensures.bag.counts (g.S.Store.name c.args.a.now), c.requires.held)) ∙ c.look-first.ensures.bag.trees (g.S.Store.name c.args.a.now) c.requires.held in
    let eb : (g.S.Store.bag c.look-second.new.self).tree (g.S.Store.name c.args.b.now) ≡ ((g.S.Store.bag c.args.s.now).tree (g.S.Store.name c.args.b.now)) = c.look-second.ensures.bag.trees (g.S.Store.name c.args.b.now) (omega (arith, c.look-first.ensures.bag.counts (g.S.Store.name c.args.b.now), c.requires.held_second)) ∙ c.look-first.ensures.bag.trees (g.S.Store.name c.args.b.now) c.requires.held_second in (
      omega (arith, ap depth ea, ap depth eb),
      grind (arith, one_self, ea, eb, inside, takes_back),
    )

pub merge_in-returns-in-Inside-clause-merges : goal.merge_in-returns-in-Inside-clause-merges
merge_in-returns-in-Inside-clause-merges g t c =
    let ea : (g.S.Store.bag c.look-second.new.self).tree (g.S.Store.name c.args.a.now) ≡ ((g.S.Store.bag c.args.s.now).tree (g.S.Store.name c.args.a.now)) = c.look-second.ensures.bag.trees (g.S.Store.name c.args.a.now) (omega (arith, c.look-first.ensures.bag.counts (g.S.Store.name c.args.a.now), c.requires.held)) ∙ c.look-first.ensures.bag.trees (g.S.Store.name c.args.a.now) c.requires.held in
    let eb : (g.S.Store.bag c.look-second.new.self).tree (g.S.Store.name c.args.b.now) ≡ ((g.S.Store.bag c.args.s.now).tree (g.S.Store.name c.args.b.now)) = c.look-second.ensures.bag.trees (g.S.Store.name c.args.b.now) (omega (arith, c.look-first.ensures.bag.counts (g.S.Store.name c.args.b.now), c.requires.held_second)) ∙ c.look-first.ensures.bag.trees (g.S.Store.name c.args.b.now) c.requires.held_second in
    back_ok g.S.Store.name (g.S.Store.bag c.merge_into-in-Inside.new.s) (g.L.LeafRule.meaning c.args.l.now) c.args.way c.swapped.result ((g.S.Store.bag c.args.s.now).tree (g.S.Store.name c.args.a.now)) ((g.S.Store.bag c.args.s.now).tree (g.S.Store.name c.args.b.now)) _ _ c.merge_into-in-Inside.result c.swapped.ensures eb ea c.merge_into-in-Inside.ensures.merges

pub merge_in-returns-in-Apart-clause-merges : goal.merge_in-returns-in-Apart-clause-merges
merge_in-returns-in-Apart-clause-merges g t c =
    let ea : (g.S.Store.bag c.look-second.new.self).tree (g.S.Store.name c.args.a.now) ≡ ((g.S.Store.bag c.args.s.now).tree (g.S.Store.name c.args.a.now)) = c.look-second.ensures.bag.trees (g.S.Store.name c.args.a.now) (omega (arith, c.look-first.ensures.bag.counts (g.S.Store.name c.args.a.now), c.requires.held)) ∙ c.look-first.ensures.bag.trees (g.S.Store.name c.args.a.now) c.requires.held in
    let eb : (g.S.Store.bag c.look-second.new.self).tree (g.S.Store.name c.args.b.now) ≡ ((g.S.Store.bag c.args.s.now).tree (g.S.Store.name c.args.b.now)) = c.look-second.ensures.bag.trees (g.S.Store.name c.args.b.now) (omega (arith, c.look-first.ensures.bag.counts (g.S.Store.name c.args.b.now), c.requires.held_second)) ∙ c.look-first.ensures.bag.trees (g.S.Store.name c.args.b.now) c.requires.held_second in
    link_ok g.S.Store.name (g.S.Store.bag c.link_tries.new.s) (merged (g.L.LeafRule.meaning c.args.l.now) c.args.way) ((g.S.Store.bag c.args.s.now).tree (g.S.Store.name c.args.a.now)) ((g.S.Store.bag c.args.s.now).tree (g.S.Store.name c.args.b.now)) _ _ c.link_tries.result ea eb c.link_tries.ensures.merges

pub merge_into-merge_in-made-requires : goal.merge_into-merge_in-made-requires
merge_into-merge_in-made-requires g t c κs within =
    let e : (g.S.Store.bag c.kid.new.self).tree (g.S.Store.name c.in_ok-below.below) ≡ kid ((g.S.Store.bag c.args.s.now).tree (g.S.Store.name c.args.a.now)) 0 = c.in_ok-below.ensures.ok.tree in
    let f : (g.S.Store.bag c.kid.new.self).tree (g.S.Store.name c.args.b.now) ≡ ((g.S.Store.bag c.args.s.now).tree (g.S.Store.name c.args.b.now)) = c.in_ok-below.ensures.ok.trades.trees (g.S.Store.name c.args.b.now) c.requires.held_second in (
      omega (arith, ap depth e, ap depth f, kid_falls ((g.S.Store.bag c.args.s.now).tree (g.S.Store.name c.args.a.now)) c.args.node.now 0 c.requires.node),
      grind (arith, one_self, e, f, below_trie, on_side_branch, takes_side),
    )

pub merge_into-with_left-requires-clause-depth : goal.merge_into-with_left-requires-clause-depth
merge_into-with_left-requires-clause-depth g t c =
    let e : (g.S.Store.bag c.kid.new.self).tree (g.S.Store.name c.in_ok-below.below) ≡ kid ((g.S.Store.bag c.args.s.now).tree (g.S.Store.name c.args.a.now)) 0 = c.in_ok-below.ensures.ok.tree in
    let f : (g.S.Store.bag c.kid.new.self).tree (g.S.Store.name c.args.b.now) ≡ ((g.S.Store.bag c.args.s.now).tree (g.S.Store.name c.args.b.now)) = c.in_ok-below.ensures.ok.trades.trees (g.S.Store.name c.args.b.now) c.requires.held_second in
    let l : c.args.key < key_of c.args.node.now = grind arith in
    let m : (g.S.Store.bag c.merge_in-made.new.s).tree (g.S.Store.name c.in_ok-made.field-0) ≡ (g.S.Store.bag c.give_back.new.self).tree (g.S.Store.name c.in_ok-made.field-0) = grind (arith, one_self) in
    let w : Merges (merged (g.L.LeafRule.meaning c.args.l.now) c.args.way) (kid ((g.S.Store.bag c.args.s.now).tree (g.S.Store.name c.args.a.now)) 0) ((g.S.Store.bag c.args.s.now).tree (g.S.Store.name c.args.b.now)) ((g.S.Store.bag c.give_back.new.self).tree (g.S.Store.name c.in_ok-made.field-0)) = merges_moved (g.L.LeafRule.meaning c.args.l.now) (g.L.LeafRule.meaning c.args.l.now) c.args.way (kid ((g.S.Store.bag c.args.s.now).tree (g.S.Store.name c.args.a.now)) 0) ((g.S.Store.bag c.args.s.now).tree (g.S.Store.name c.args.b.now)) ((g.S.Store.bag c.give_back.new.self).tree (g.S.Store.name c.in_ok-made.field-0)) _ _ _ refl e f m c.in_ok-made.ensures.merges in
    let n : (g.S.Store.bag c.give_back.new.self).tree (g.S.Store.name c.args.a.now) ≡ ((g.S.Store.bag c.args.s.now).tree (g.S.Store.name c.args.a.now)) = grind (arith, one_self) in
    subst (λ v. depth (Node c.args.node.now ((g.S.Store.bag c.give_back.new.self).tree (g.S.Store.name c.in_ok-made.field-0)) (kid v 1)) ≤ 128) (sym n) (left_depth (merged (g.L.LeafRule.meaning c.args.l.now) c.args.way) ((g.S.Store.bag c.args.s.now).tree (g.S.Store.name c.args.a.now)) ((g.S.Store.bag c.args.s.now).tree (g.S.Store.name c.args.b.now)) c.args.node.now c.args.key ((g.S.Store.bag c.give_back.new.self).tree (g.S.Store.name c.in_ok-made.field-0)) c.requires.trie c.requires.trie_second c.requires.node c.requires.inside l w)

pub merge_into-returns-then-key-node-clause-merges : goal.merge_into-returns-then-key-node-clause-merges
merge_into-returns-then-key-node-clause-merges g t c =
    let e : (g.S.Store.bag c.kid.new.self).tree (g.S.Store.name c.in_ok-below.below) ≡ kid ((g.S.Store.bag c.args.s.now).tree (g.S.Store.name c.args.a.now)) 0 = c.in_ok-below.ensures.ok.tree in
    let f : (g.S.Store.bag c.kid.new.self).tree (g.S.Store.name c.args.b.now) ≡ ((g.S.Store.bag c.args.s.now).tree (g.S.Store.name c.args.b.now)) = c.in_ok-below.ensures.ok.trades.trees (g.S.Store.name c.args.b.now) c.requires.held_second in
    let l : c.args.key < key_of c.args.node.now = grind arith in
    let m : (g.S.Store.bag c.merge_in-made.new.s).tree (g.S.Store.name c.in_ok-made.field-0) ≡ (g.S.Store.bag c.give_back.new.self).tree (g.S.Store.name c.in_ok-made.field-0) = grind (arith, one_self) in
    let w : Merges (merged (g.L.LeafRule.meaning c.args.l.now) c.args.way) (kid ((g.S.Store.bag c.args.s.now).tree (g.S.Store.name c.args.a.now)) 0) ((g.S.Store.bag c.args.s.now).tree (g.S.Store.name c.args.b.now)) ((g.S.Store.bag c.give_back.new.self).tree (g.S.Store.name c.in_ok-made.field-0)) = merges_moved (g.L.LeafRule.meaning c.args.l.now) (g.L.LeafRule.meaning c.args.l.now) c.args.way (kid ((g.S.Store.bag c.args.s.now).tree (g.S.Store.name c.args.a.now)) 0) ((g.S.Store.bag c.args.s.now).tree (g.S.Store.name c.args.b.now)) ((g.S.Store.bag c.give_back.new.self).tree (g.S.Store.name c.in_ok-made.field-0)) _ _ _ refl e f m c.in_ok-made.ensures.merges in
    let n : (g.S.Store.bag c.give_back.new.self).tree (g.S.Store.name c.args.a.now) ≡ ((g.S.Store.bag c.args.s.now).tree (g.S.Store.name c.args.a.now)) = grind (arith, one_self) in
    tree_ok g.S.Store.name (g.S.Store.bag c.with_left.new.s) (merged (g.L.LeafRule.meaning c.args.l.now) c.args.way) ((g.S.Store.bag c.args.s.now).tree (g.S.Store.name c.args.a.now)) ((g.S.Store.bag c.args.s.now).tree (g.S.Store.name c.args.b.now)) _ c.with_left.result (subst (λ v. Merges (merged (g.L.LeafRule.meaning c.args.l.now) c.args.way) ((g.S.Store.bag c.args.s.now).tree (g.S.Store.name c.args.a.now)) ((g.S.Store.bag c.args.s.now).tree (g.S.Store.name c.args.b.now)) (Node c.args.node.now ((g.S.Store.bag c.give_back.new.self).tree (g.S.Store.name c.in_ok-made.field-0)) (kid v 1))) (sym n) (merges_left (merged (g.L.LeafRule.meaning c.args.l.now) c.args.way) ((g.S.Store.bag c.args.s.now).tree (g.S.Store.name c.args.a.now)) ((g.S.Store.bag c.args.s.now).tree (g.S.Store.name c.args.b.now)) c.args.node.now c.args.key ((g.S.Store.bag c.give_back.new.self).tree (g.S.Store.name c.in_ok-made.field-0)) c.requires.trie c.requires.trie_second c.requires.node c.requires.inside l w)) c.with_left.ensures.tree

pub merge_into-merge_in-made-requires-2 : goal.merge_into-merge_in-made-requires-2
merge_into-merge_in-made-requires-2 g t c κs within =
    let e : (g.S.Store.bag c.kid-2.new.self).tree (g.S.Store.name c.in_ok-below-2.below) ≡ kid ((g.S.Store.bag c.args.s.now).tree (g.S.Store.name c.args.a.now)) 1 = c.in_ok-below-2.ensures.ok.tree in
    let f : (g.S.Store.bag c.kid-2.new.self).tree (g.S.Store.name c.args.b.now) ≡ ((g.S.Store.bag c.args.s.now).tree (g.S.Store.name c.args.b.now)) = c.in_ok-below-2.ensures.ok.trades.trees (g.S.Store.name c.args.b.now) c.requires.held_second in (
      omega (arith, ap depth e, ap depth f, kid_falls ((g.S.Store.bag c.args.s.now).tree (g.S.Store.name c.args.a.now)) c.args.node.now 1 c.requires.node),
      grind (arith, one_self, e, f, below_trie, on_side_branch, takes_side),
    )

pub merge_into-with_right-requires-clause-depth : goal.merge_into-with_right-requires-clause-depth
merge_into-with_right-requires-clause-depth g t c =
    let e : (g.S.Store.bag c.kid-2.new.self).tree (g.S.Store.name c.in_ok-below-2.below) ≡ kid ((g.S.Store.bag c.args.s.now).tree (g.S.Store.name c.args.a.now)) 1 = c.in_ok-below-2.ensures.ok.tree in
    let f : (g.S.Store.bag c.kid-2.new.self).tree (g.S.Store.name c.args.b.now) ≡ ((g.S.Store.bag c.args.s.now).tree (g.S.Store.name c.args.b.now)) = c.in_ok-below-2.ensures.ok.trades.trees (g.S.Store.name c.args.b.now) c.requires.held_second in
    let l : key_of c.args.node.now ≤ c.args.key = grind arith in
    let m : (g.S.Store.bag c.merge_in-made-2.new.s).tree (g.S.Store.name c.in_ok-made-2.field-0) ≡ (g.S.Store.bag c.give_back-2.new.self).tree (g.S.Store.name c.in_ok-made-2.field-0) = grind (arith, one_self) in
    let w : Merges (merged (g.L.LeafRule.meaning c.args.l.now) c.args.way) (kid ((g.S.Store.bag c.args.s.now).tree (g.S.Store.name c.args.a.now)) 1) ((g.S.Store.bag c.args.s.now).tree (g.S.Store.name c.args.b.now)) ((g.S.Store.bag c.give_back-2.new.self).tree (g.S.Store.name c.in_ok-made-2.field-0)) = merges_moved (g.L.LeafRule.meaning c.args.l.now) (g.L.LeafRule.meaning c.args.l.now) c.args.way (kid ((g.S.Store.bag c.args.s.now).tree (g.S.Store.name c.args.a.now)) 1) ((g.S.Store.bag c.args.s.now).tree (g.S.Store.name c.args.b.now)) ((g.S.Store.bag c.give_back-2.new.self).tree (g.S.Store.name c.in_ok-made-2.field-0)) _ _ _ refl e f m c.in_ok-made-2.ensures.merges in
    let n : (g.S.Store.bag c.give_back-2.new.self).tree (g.S.Store.name c.args.a.now) ≡ ((g.S.Store.bag c.args.s.now).tree (g.S.Store.name c.args.a.now)) = grind (arith, one_self) in
    subst (λ v. depth (Node c.args.node.now (kid v 0) ((g.S.Store.bag c.give_back-2.new.self).tree (g.S.Store.name c.in_ok-made-2.field-0))) ≤ 128) (sym n) (right_depth (merged (g.L.LeafRule.meaning c.args.l.now) c.args.way) ((g.S.Store.bag c.args.s.now).tree (g.S.Store.name c.args.a.now)) ((g.S.Store.bag c.args.s.now).tree (g.S.Store.name c.args.b.now)) c.args.node.now c.args.key ((g.S.Store.bag c.give_back-2.new.self).tree (g.S.Store.name c.in_ok-made-2.field-0)) c.requires.trie c.requires.trie_second c.requires.node c.requires.inside l w)

pub merge_into-returns-clause-merges : goal.merge_into-returns-clause-merges
merge_into-returns-clause-merges g t c =
    let e : (g.S.Store.bag c.kid-2.new.self).tree (g.S.Store.name c.in_ok-below-2.below) ≡ kid ((g.S.Store.bag c.args.s.now).tree (g.S.Store.name c.args.a.now)) 1 = c.in_ok-below-2.ensures.ok.tree in
    let f : (g.S.Store.bag c.kid-2.new.self).tree (g.S.Store.name c.args.b.now) ≡ ((g.S.Store.bag c.args.s.now).tree (g.S.Store.name c.args.b.now)) = c.in_ok-below-2.ensures.ok.trades.trees (g.S.Store.name c.args.b.now) c.requires.held_second in
    let l : key_of c.args.node.now ≤ c.args.key = grind arith in
    let m : (g.S.Store.bag c.merge_in-made-2.new.s).tree (g.S.Store.name c.in_ok-made-2.field-0) ≡ (g.S.Store.bag c.give_back-2.new.self).tree (g.S.Store.name c.in_ok-made-2.field-0) = grind (arith, one_self) in
    let w : Merges (merged (g.L.LeafRule.meaning c.args.l.now) c.args.way) (kid ((g.S.Store.bag c.args.s.now).tree (g.S.Store.name c.args.a.now)) 1) ((g.S.Store.bag c.args.s.now).tree (g.S.Store.name c.args.b.now)) ((g.S.Store.bag c.give_back-2.new.self).tree (g.S.Store.name c.in_ok-made-2.field-0)) = merges_moved (g.L.LeafRule.meaning c.args.l.now) (g.L.LeafRule.meaning c.args.l.now) c.args.way (kid ((g.S.Store.bag c.args.s.now).tree (g.S.Store.name c.args.a.now)) 1) ((g.S.Store.bag c.args.s.now).tree (g.S.Store.name c.args.b.now)) ((g.S.Store.bag c.give_back-2.new.self).tree (g.S.Store.name c.in_ok-made-2.field-0)) _ _ _ refl e f m c.in_ok-made-2.ensures.merges in
    let n : (g.S.Store.bag c.give_back-2.new.self).tree (g.S.Store.name c.args.a.now) ≡ ((g.S.Store.bag c.args.s.now).tree (g.S.Store.name c.args.a.now)) = grind (arith, one_self) in
    tree_ok g.S.Store.name (g.S.Store.bag c.with_right.new.s) (merged (g.L.LeafRule.meaning c.args.l.now) c.args.way) ((g.S.Store.bag c.args.s.now).tree (g.S.Store.name c.args.a.now)) ((g.S.Store.bag c.args.s.now).tree (g.S.Store.name c.args.b.now)) _ c.with_right.result (subst (λ v. Merges (merged (g.L.LeafRule.meaning c.args.l.now) c.args.way) ((g.S.Store.bag c.args.s.now).tree (g.S.Store.name c.args.a.now)) ((g.S.Store.bag c.args.s.now).tree (g.S.Store.name c.args.b.now)) (Node c.args.node.now (kid v 0) ((g.S.Store.bag c.give_back-2.new.self).tree (g.S.Store.name c.in_ok-made-2.field-0)))) (sym n) (merges_right (merged (g.L.LeafRule.meaning c.args.l.now) c.args.way) ((g.S.Store.bag c.args.s.now).tree (g.S.Store.name c.args.a.now)) ((g.S.Store.bag c.args.s.now).tree (g.S.Store.name c.args.b.now)) c.args.node.now c.args.key ((g.S.Store.bag c.give_back-2.new.self).tree (g.S.Store.name c.in_ok-made-2.field-0)) c.requires.trie c.requires.trie_second c.requires.node c.requires.inside l w)) c.with_right.ensures.tree

pub merge_sides-merge_in-made-requires : goal.merge_sides-merge_in-made-requires
merge_sides-merge_in-made-requires g t c κs within =
    let e : (g.S.Store.bag c.pair.new.s).tree (g.S.Store.name c.in_ok-first-2.first) ≡ kid ((g.S.Store.bag c.args.s.now).tree (g.S.Store.name c.args.a.now)) c.args.side = grind (arith, one_self) in
    let f : (g.S.Store.bag c.pair.new.s).tree (g.S.Store.name c.in_ok-first-2.second) ≡ kid ((g.S.Store.bag c.args.s.now).tree (g.S.Store.name c.args.b.now)) c.args.side = grind (arith, one_self) in (
      omega (arith, ap depth e, ap depth f, kid_falls ((g.S.Store.bag c.args.s.now).tree (g.S.Store.name c.args.a.now)) c.args.node.now c.args.side c.requires.node, kid_falls ((g.S.Store.bag c.args.s.now).tree (g.S.Store.name c.args.b.now)) c.args.node.now c.args.side c.requires.node_second),
      grind (arith, one_self, e, f, below_trie, takes_sides),
    )

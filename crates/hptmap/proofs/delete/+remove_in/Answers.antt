use Rattle.std.proofs.Common.{◌<◌, ◌≤◌, ◌≡◌, ◌≢◌, ◌/◌, ◌^◌, arith, ap, sym, subst, false, ◌∙◌}
use Rattle.store_api.specs.Bag.{one_self}
use Rattle.store_api.specs.Tree.{kid, depth}
use Rattle.hptmap.specs.Trie.{IsTrie, Removes, is_leaf, key_of, top_of, left_shrunk, right_shrunk}
use Rattle.hptmap.proofs.Changes.{removed_absent, removes_kept, shrunk_left, shrunk_left_depth, shrunk_right, shrunk_right_depth}
use Rattle.hptmap.proofs.delete.+remove_in.Goals as goal

pub returns-then-not-has_prefix-clause-removes : goal.returns-then-not-has_prefix-clause-removes
returns-then-not-has_prefix-clause-removes g t c =
    let e : (g.S.Store.bag c.again.new.self).tree (g.S.Store.name c.in_ok-unchanged.unchanged) ≡ ((g.S.Store.bag c.args.s.now).tree (g.S.Store.name c.args.at.now)) = grind (arith, one_self) in
    let o : c.args.key / 2 ^ top_of c.look-node.result ≢ key_of c.look-node.result / 2 ^ top_of c.look-node.result = grind arith in
    let w = removed_absent ((g.S.Store.bag c.args.s.now).tree (g.S.Store.name c.args.at.now)) c.look-node.result c.args.key c.requires.trie c.look-node.ensures.shape o in
    (subst (λ v. Removes ((g.S.Store.bag c.args.s.now).tree (g.S.Store.name c.args.at.now)) c.args.key v) (sym e) w, subst IsTrie (sym e) c.requires.trie)

pub shrink_left-requires-clause-depth : goal.shrink_left-requires-clause-depth
shrink_left-requires-clause-depth g t c =
    let e : (g.S.Store.bag c.give_back.new.self).tree (g.S.Store.name c.args.at.now) ≡ ((g.S.Store.bag c.args.s.now).tree (g.S.Store.name c.args.at.now)) = grind (arith, one_self) in
    let l : is_leaf c.look-node.result ≡ false = grind arith in
    let m : c.args.key < key_of c.look-node.result = grind arith in
    let f : (g.S.Store.bag c.kid.new.self).tree (g.S.Store.name c.in_ok-below.below) ≡ kid ((g.S.Store.bag c.args.s.now).tree (g.S.Store.name c.args.at.now)) 0 = grind (arith, one_self) in
    let r = removes_kept g.S.Store.name (g.S.Store.bag c.remove_in-left.new.s) (g.S.Store.bag c.give_back.new.self) (g.S.Store.name c.in_ok-below.below) _ (kid ((g.S.Store.bag c.args.s.now).tree (g.S.Store.name c.args.at.now)) 0) c.args.key c.in_ok-left.field-0 f (λ x. omega (arith, c.in_ok-left.ensures.ok.counts x, c.in_ok-below.ensures.ok.trades.counts x)) c.give_back.ensures.bag c.in_ok-left.ensures.removes in
    subst (λ v. depth (left_shrunk g.S.Store.name (g.S.Store.bag c.give_back.new.self) c.look-node.result v c.in_ok-left.field-0) ≤ 128) (sym e) (shrunk_left_depth g.S.Store.name (g.S.Store.bag c.give_back.new.self) ((g.S.Store.bag c.args.s.now).tree (g.S.Store.name c.args.at.now)) c.look-node.result c.args.key c.in_ok-left.field-0 c.requires.trie c.look-node.ensures.shape l m r)

pub returns-then-from-node-clause-removes : goal.returns-then-from-node-clause-removes
returns-then-from-node-clause-removes g t c =
    let e : (g.S.Store.bag c.give_back.new.self).tree (g.S.Store.name c.args.at.now) ≡ ((g.S.Store.bag c.args.s.now).tree (g.S.Store.name c.args.at.now)) = grind (arith, one_self) in
    let l : is_leaf c.look-node.result ≡ false = grind arith in
    let m : c.args.key < key_of c.look-node.result = grind arith in
    let f : (g.S.Store.bag c.kid.new.self).tree (g.S.Store.name c.in_ok-below.below) ≡ kid ((g.S.Store.bag c.args.s.now).tree (g.S.Store.name c.args.at.now)) 0 = grind (arith, one_self) in
    let r = removes_kept g.S.Store.name (g.S.Store.bag c.remove_in-left.new.s) (g.S.Store.bag c.give_back.new.self) (g.S.Store.name c.in_ok-below.below) _ (kid ((g.S.Store.bag c.args.s.now).tree (g.S.Store.name c.args.at.now)) 0) c.args.key c.in_ok-left.field-0 f (λ x. omega (arith, c.in_ok-left.ensures.ok.counts x, c.in_ok-below.ensures.ok.trades.counts x)) c.give_back.ensures.bag c.in_ok-left.ensures.removes in
    let w = shrunk_left g.S.Store.name (g.S.Store.bag c.give_back.new.self) ((g.S.Store.bag c.args.s.now).tree (g.S.Store.name c.args.at.now)) c.look-node.result c.args.key c.in_ok-left.field-0 c.requires.trie c.look-node.ensures.shape l m r in
    let q : (g.S.Store.bag c.shrink_left.new.s).tree (g.S.Store.name c.in_ok-shrunk.shrunk) ≡ left_shrunk g.S.Store.name (g.S.Store.bag c.give_back.new.self) c.look-node.result ((g.S.Store.bag c.args.s.now).tree (g.S.Store.name c.args.at.now)) c.in_ok-left.field-0 = c.in_ok-shrunk.ensures.tree ∙ ap (λ v. left_shrunk g.S.Store.name (g.S.Store.bag c.give_back.new.self) c.look-node.result v c.in_ok-left.field-0) e in
    (subst (λ v. Removes ((g.S.Store.bag c.args.s.now).tree (g.S.Store.name c.args.at.now)) c.args.key v) (sym q) w.0, subst IsTrie (sym q) w.1)

pub shrink_right-requires-clause-depth : goal.shrink_right-requires-clause-depth
shrink_right-requires-clause-depth g t c =
    let e : (g.S.Store.bag c.give_back-2.new.self).tree (g.S.Store.name c.args.at.now) ≡ ((g.S.Store.bag c.args.s.now).tree (g.S.Store.name c.args.at.now)) = grind (arith, one_self) in
    let l : is_leaf c.look-node.result ≡ false = grind arith in
    let m : key_of c.look-node.result ≤ c.args.key = grind arith in
    let f : (g.S.Store.bag c.kid-2.new.self).tree (g.S.Store.name c.in_ok-below-2.below) ≡ kid ((g.S.Store.bag c.args.s.now).tree (g.S.Store.name c.args.at.now)) 1 = grind (arith, one_self) in
    let r = removes_kept g.S.Store.name (g.S.Store.bag c.remove_in-right.new.s) (g.S.Store.bag c.give_back-2.new.self) (g.S.Store.name c.in_ok-below-2.below) _ (kid ((g.S.Store.bag c.args.s.now).tree (g.S.Store.name c.args.at.now)) 1) c.args.key c.in_ok-right.field-0 f (λ x. omega (arith, c.in_ok-right.ensures.ok.counts x, c.in_ok-below-2.ensures.ok.trades.counts x)) c.give_back-2.ensures.bag c.in_ok-right.ensures.removes in
    subst (λ v. depth (right_shrunk g.S.Store.name (g.S.Store.bag c.give_back-2.new.self) c.look-node.result v c.in_ok-right.field-0) ≤ 128) (sym e) (shrunk_right_depth g.S.Store.name (g.S.Store.bag c.give_back-2.new.self) ((g.S.Store.bag c.args.s.now).tree (g.S.Store.name c.args.at.now)) c.look-node.result c.args.key c.in_ok-right.field-0 c.requires.trie c.look-node.ensures.shape l m r)

pub returns-clause-removes : goal.returns-clause-removes
returns-clause-removes g t c =
    let e : (g.S.Store.bag c.give_back-2.new.self).tree (g.S.Store.name c.args.at.now) ≡ ((g.S.Store.bag c.args.s.now).tree (g.S.Store.name c.args.at.now)) = grind (arith, one_self) in
    let l : is_leaf c.look-node.result ≡ false = grind arith in
    let m : key_of c.look-node.result ≤ c.args.key = grind arith in
    let f : (g.S.Store.bag c.kid-2.new.self).tree (g.S.Store.name c.in_ok-below-2.below) ≡ kid ((g.S.Store.bag c.args.s.now).tree (g.S.Store.name c.args.at.now)) 1 = grind (arith, one_self) in
    let r = removes_kept g.S.Store.name (g.S.Store.bag c.remove_in-right.new.s) (g.S.Store.bag c.give_back-2.new.self) (g.S.Store.name c.in_ok-below-2.below) _ (kid ((g.S.Store.bag c.args.s.now).tree (g.S.Store.name c.args.at.now)) 1) c.args.key c.in_ok-right.field-0 f (λ x. omega (arith, c.in_ok-right.ensures.ok.counts x, c.in_ok-below-2.ensures.ok.trades.counts x)) c.give_back-2.ensures.bag c.in_ok-right.ensures.removes in
    let w = shrunk_right g.S.Store.name (g.S.Store.bag c.give_back-2.new.self) ((g.S.Store.bag c.args.s.now).tree (g.S.Store.name c.args.at.now)) c.look-node.result c.args.key c.in_ok-right.field-0 c.requires.trie c.look-node.ensures.shape l m r in
    let q : (g.S.Store.bag c.shrink_right.new.s).tree (g.S.Store.name c.in_ok-shrunk-2.shrunk) ≡ right_shrunk g.S.Store.name (g.S.Store.bag c.give_back-2.new.self) c.look-node.result ((g.S.Store.bag c.args.s.now).tree (g.S.Store.name c.args.at.now)) c.in_ok-right.field-0 = c.in_ok-shrunk-2.ensures.tree ∙ ap (λ v. right_shrunk g.S.Store.name (g.S.Store.bag c.give_back-2.new.self) c.look-node.result v c.in_ok-right.field-0) e in
    (subst (λ v. Removes ((g.S.Store.bag c.args.s.now).tree (g.S.Store.name c.args.at.now)) c.args.key v) (sym q) w.0, subst IsTrie (sym q) w.1)

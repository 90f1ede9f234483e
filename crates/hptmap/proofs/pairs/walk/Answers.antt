use Rattle.std.proofs.Common.{◌≡◌, ap, subst, sym, ◌∙◌, IfOk, ℕ, eqb}
use Rattle.std.specs.Map.{lookup}
use Rattle.hptmap.specs.Pairs.{pair_trees}
use Rattle.hptmap.specs.Trie.{MapIn, map_of, map_tree}
use Rattle.hptmap.proofs.Rising.{rising_ok, map_ok}
use Rattle.hptmap.proofs.Walking.{no_pairs}
use Rattle.hptmap.proofs.pairs.walk.Goals as goal

pub returns-in-Some-clause-rising : goal.returns-in-Some-clause-rising
returns-in-Some-clause-rising g c =
    rising_ok c.walk_in.result (λ v. v.items) g.S.Store.name (g.S.Store.bag c.walk_in.new.s) _ _ (subst (MapIn g.S.Store.name (g.S.Store.bag c.args.s.now)) c.in-Some.is c.requires.map)
    (ap (pair_trees g.S.Store.name (g.S.Store.bag c.args.s.now)) c.new-pairs.ensures.items ∙ no_pairs g.S.Store.name (g.S.Store.bag c.args.s.now)) c.walk_in.ensures.pairs

pub returns-in-Some-clause-map : goal.returns-in-Some-clause-map
returns-in-Some-clause-map g c =
    subst (λ o. IfOk c.walk_in.result (λ v. (x : ℕ) → lookup (λ (k : ℕ). eqb k x) (pair_trees g.S.Store.name (g.S.Store.bag c.walk_in.new.s) v.items) ≡ map_of (map_tree g.S.Store.name (g.S.Store.bag c.args.s.now) o) x)) (sym c.in-Some.is)
    (
    map_ok c.walk_in.result (λ v. v.items) g.S.Store.name (g.S.Store.bag c.walk_in.new.s) ((g.S.Store.bag c.args.s.now).tree (g.S.Store.name c.in-Some.root)) _ (ap (pair_trees g.S.Store.name (g.S.Store.bag c.args.s.now)) c.new-pairs.ensures.items ∙ no_pairs g.S.Store.name (g.S.Store.bag c.args.s.now)) c.walk_in.ensures.pairs
    )

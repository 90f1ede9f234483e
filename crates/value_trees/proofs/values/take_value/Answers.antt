use Rattle.std.proofs.Common.{◌≡◌, ◌∙◌, ap, arith, refl, subst, sym}
use Rattle.avalue.specs.Values.{IsWellFormedValue}
use Rattle.store_api.specs.Tree.{Tree, kid}
use Rattle.memory_trees.specs.Values.{ival_of, value_of}
use Rattle.value_trees.proofs.Trees.{took, value_formed}
use Rattle.value_trees.proofs.values.take_value.Goals as goal

pub returns-clause-value : goal.returns-clause-value
returns-clause-value g c =
    let z : (g.S.Store.bag c.look-node.new.self).tree (g.S.Store.name c.args.h.now) ≡ ((g.S.Store.bag c.args.s.now).tree (g.S.Store.name c.args.h.now)) = c.look-node.ensures.bag.trees (g.S.Store.name c.args.h.now) (omega (arith, c.requires.held)) in
    let e : (g.S.Store.bag c.ints_in.new.s).tree (g.S.Store.name c.args.h.now) ≡ ((g.S.Store.bag c.args.s.now).tree (g.S.Store.name c.args.h.now)) = c.in_ok-ints.ensures.ok.trees (g.S.Store.name c.args.h.now) (omega (arith, c.requires.held, c.look-node.ensures.bag.counts (g.S.Store.name c.args.h.now))) ∙ z in
    took ((g.S.Store.bag c.args.s.now).tree (g.S.Store.name c.args.h.now)) c.look-node.result _ _ c.in_ok-ints.ints c.from_vec.result c.requires.tree c.look-node.ensures.shape refl refl
    (c.in_ok-ints.ensures.value ∙ ap (λ (t : Tree). ival_of (kid t 0)) z)
    (c.from_vec.ensures ∙ c.in_ok-ptrs.ensures.value ∙ ap (λ (t : Tree). (value_of t).ptrs) e)

pub returns-clause-formed : goal.returns-clause-formed
returns-clause-formed g c = subst IsWellFormedValue (sym (returns-clause-value g c)) (value_formed ((g.S.Store.bag c.args.s.now).tree (g.S.Store.name c.args.h.now)) c.requires.tree)

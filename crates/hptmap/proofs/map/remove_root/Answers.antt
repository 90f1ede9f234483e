use Rattle.hptmap.proofs.Changes.{root_kept}
use Rattle.hptmap.proofs.map.remove_root.Goals as goal

pub returns-clause-removes : goal.returns-clause-removes
returns-clause-removes g c =
    root_kept g.S.Store.name (g.S.Store.bag c.args.s.now) (g.S.Store.bag c.remove_in-left.new.s) (g.S.Store.bag c.give_back.new.self) (g.S.Store.name c.args.root) _ c.args.key c.remove_in-left.result
    c.requires.owned c.remove_in-left.ensures.ok c.give_back.ensures.bag c.remove_in-left.ensures.removes

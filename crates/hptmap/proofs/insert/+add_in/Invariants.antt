use Rattle.store_api.specs.Tree.{depth}
use Rattle.hptmap.proofs.insert.+add_in.Given as goal

abbrev pub decreases-add_in : goal.decreases-add_in
decreases-add_in g l = depth ((g.S.Store.bag l.s.now).tree (g.S.Store.name l.at.now))

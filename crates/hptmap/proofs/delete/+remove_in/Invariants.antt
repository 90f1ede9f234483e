use Rattle.store_api.specs.Tree.{depth}
use Rattle.hptmap.proofs.delete.+remove_in.Given as goal

abbrev pub decreases-remove_in : goal.decreases-remove_in
decreases-remove_in g l = depth ((g.S.Store.bag l.s.now).tree (g.S.Store.name l.at.now))

use Rattle.store_api.specs.Tree.{depth}
use Rattle.hptmap.proofs.lookup.+find_in.Given as goal

abbrev pub decreases-find_in : goal.decreases-find_in
decreases-find_in g l = depth ((g.S.Store.bag l.s.now).tree (g.S.Store.name l.at.now))

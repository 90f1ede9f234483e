use Rattle.std.proofs.Common.{◌+◌, ◌*◌}
use Rattle.store_api.specs.Tree.{depth}
use Rattle.hptmap.proofs.pairs.+walk.Given as goal

abbrev pub decreases-walk_in : goal.decreases-walk_in
decreases-walk_in g l = 2 * depth ((g.S.Store.bag l.s.now).tree (g.S.Store.name l.at.now)) + 1

abbrev pub decreases-walk_side : goal.decreases-walk_side
decreases-walk_side g l = 2 * depth ((g.S.Store.bag l.s.now).tree (g.S.Store.name l.at.now))

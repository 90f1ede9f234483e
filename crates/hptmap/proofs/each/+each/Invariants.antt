use Rattle.std.proofs.Common.{◌+◌, ◌*◌}
use Rattle.store_api.specs.Tree.{depth}
use Rattle.hptmap.proofs.each.+each.Given as goal

abbrev pub decreases-map_in : goal.decreases-map_in
decreases-map_in g l = 2 * depth ((g.S.Store.bag l.s.now).tree (g.S.Store.name l.at.now)) + 1

abbrev pub decreases-map_side : goal.decreases-map_side
decreases-map_side g l = 2 * depth ((g.S.Store.bag l.s.now).tree (g.S.Store.name l.at.now))

use Rattle.std.proofs.Common.{◌+◌, ◌*◌}
use Rattle.store_api.specs.Tree.{depth}
use Rattle.value_trees.proofs.pointers.+take.Given as goal

abbrev pub decreases-take_pointers : goal.decreases-take_pointers
decreases-take_pointers g l = 2 * depth ((g.S.Store.bag l.s.now).tree (g.S.Store.name l.at.now)) + 1

abbrev pub decreases-take_side : goal.decreases-take_side
decreases-take_side g l = 2 * depth ((g.S.Store.bag l.s.now).tree (g.S.Store.name l.at.now))

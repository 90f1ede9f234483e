use Rattle.std.proofs.Common.{◌+◌, ◌*◌}
use Rattle.store_api.specs.Tree.{depth}
use Rattle.hptmap.proofs.inclusion.+included.Given as goal

abbrev pub decreases-included_in : goal.decreases-included_in
decreases-included_in g l = 3 * (depth ((g.S.Store.bag l.s.now).tree (g.S.Store.name l.a.now)) + depth ((g.S.Store.bag l.s.now).tree (g.S.Store.name l.b.now))) + 2

abbrev pub decreases-included_equal : goal.decreases-included_equal
decreases-included_equal g l = 3 * (depth ((g.S.Store.bag l.s.now).tree (g.S.Store.name l.a.now)) + depth ((g.S.Store.bag l.s.now).tree (g.S.Store.name l.b.now))) + 1

abbrev pub decreases-included_within : goal.decreases-included_within
decreases-included_within g l = 3 * (depth ((g.S.Store.bag l.s.now).tree (g.S.Store.name l.a.now)) + depth ((g.S.Store.bag l.s.now).tree (g.S.Store.name l.b.now))) + 1

abbrev pub decreases-included_sides : goal.decreases-included_sides
decreases-included_sides g l = 3 * (depth ((g.S.Store.bag l.s.now).tree (g.S.Store.name l.a.now)) + depth ((g.S.Store.bag l.s.now).tree (g.S.Store.name l.b.now)))

use Rattle.std.proofs.Common.{◌+◌, ◌*◌}
use Rattle.store_api.specs.Tree.{depth}
use Rattle.hptmap.proofs.merge.+merge.Given as goal

abbrev pub decreases-merge_in : goal.decreases-merge_in
decreases-merge_in g l = 3 * (depth ((g.S.Store.bag l.s.now).tree (g.S.Store.name l.a.now)) + depth ((g.S.Store.bag l.s.now).tree (g.S.Store.name l.b.now))) + 2

abbrev pub decreases-merge_equal : goal.decreases-merge_equal
decreases-merge_equal g l = 3 * (depth ((g.S.Store.bag l.s.now).tree (g.S.Store.name l.a.now)) + depth ((g.S.Store.bag l.s.now).tree (g.S.Store.name l.b.now))) + 1

abbrev pub decreases-merge_into : goal.decreases-merge_into
decreases-merge_into g l = 3 * (depth ((g.S.Store.bag l.s.now).tree (g.S.Store.name l.a.now)) + depth ((g.S.Store.bag l.s.now).tree (g.S.Store.name l.b.now))) + 1

abbrev pub decreases-merge_sides : goal.decreases-merge_sides
decreases-merge_sides g l = 3 * (depth ((g.S.Store.bag l.s.now).tree (g.S.Store.name l.a.now)) + depth ((g.S.Store.bag l.s.now).tree (g.S.Store.name l.b.now)))

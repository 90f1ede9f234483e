use Rattle.std.proofs.Common.{◌≤◌}
use Rattle.store_api.specs.Tree.{depth}
use Rattle.store_api.specs.Bag.{Trades, none, one}
use Rattle.plain_store.proofs.tests.tower.Given as goal

abbrev pub invariant-loop-i : goal.invariant-loop-i
invariant-loop-i g l = Trades (g.S.Store.bag l.fn.s) (g.S.Store.bag l.s) none (one (g.S.Store.name l.top)) × (depth ((g.S.Store.bag l.s).tree (g.S.Store.name l.top)) ≤ l.i)

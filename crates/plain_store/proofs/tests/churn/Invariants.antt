use Rattle.store_api.specs.Bag.{Trades, none}
use Rattle.plain_store.proofs.tests.churn.Given as goal

abbrev pub invariant-loop-i : goal.invariant-loop-i
invariant-loop-i g l = Trades (g.S.Store.bag l.fn.s) (g.S.Store.bag l.s) none none

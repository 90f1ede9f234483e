use Rattle.store_api.specs.Bag.{Trades, none}
use Rattle.store_api.specs.Holds.{all}
use Rattle.plain_store.proofs.tests.copies.Given as goal

abbrev pub invariant-loop : goal.invariant-loop
invariant-loop g l = Trades (g.S.Store.bag l.fn.s) (g.S.Store.bag l.s) none (all g.S.Store.name l.made.items)

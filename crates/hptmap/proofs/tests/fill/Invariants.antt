use Rattle.store_api.specs.Bag.{Trades, none}
use Rattle.hptmap.specs.Trie.{MapIn, map_out}
use Rattle.hptmap.proofs.tests.fill.Given as goal

abbrev pub invariant-loop-i : goal.invariant-loop-i
invariant-loop-i g l = Trades (g.S.Store.bag l.fn.s) (g.S.Store.bag l.s) none (map_out g.S.Store.name l.m.root) × MapIn g.S.Store.name (g.S.Store.bag l.s) l.m.root

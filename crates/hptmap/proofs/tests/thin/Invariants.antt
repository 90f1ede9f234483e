use Rattle.store_api.specs.Bag.{Trades}
use Rattle.hptmap.specs.Trie.{MapIn, map_out}
use Rattle.hptmap.proofs.tests.thin.Given as goal

abbrev pub invariant-loop-i : goal.invariant-loop-i
invariant-loop-i g l = Trades (g.S.Store.bag l.fn.s) (g.S.Store.bag l.s) (map_out g.S.Store.name l.fn.m.root) (map_out g.S.Store.name l.m.root) × MapIn g.S.Store.name (g.S.Store.bag l.s) l.m.root

use Rattle.std.proofs.Common.{vec_len}
use Rattle.store_api.specs.Bag.{Trades}
use Rattle.hptmap.specs.Pairs.{pair_holds}
use Rattle.hptmap.proofs.pairs.give_pairs.Given as goal

abbrev pub decreases-loop-pair : goal.decreases-loop-pair
decreases-loop-pair g l = vec_len l.pairs

abbrev pub invariant-loop-pair : goal.invariant-loop-pair
invariant-loop-pair g l = Trades (g.S.Store.bag l.fn.s) (g.S.Store.bag l.s) (pair_holds g.S.Store.name l.fn.pairs.items) (pair_holds g.S.Store.name l.pairs.items)

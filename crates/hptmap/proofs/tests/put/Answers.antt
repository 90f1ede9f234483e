use Rattle.std.proofs.Common.{arith}
use Rattle.store_api.specs.Bag.{none}
use Rattle.hptmap.proofs.Changes.{map_kept}
use Rattle.hptmap.proofs.tests.put.Goals as goal

pub add-requires-clause-map : goal.add-requires-clause-map
add-requires-clause-map g c = map_kept g.S.Store.name (g.S.Store.bag c.args.s.now) (g.S.Store.bag c.head_leaf.new.s) none _ c.args.m.root c.in_ok-h.ensures.ok.trades (λ x. omega (arith, c.requires.owned x)) c.requires.map

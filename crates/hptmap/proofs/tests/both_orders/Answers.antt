use Rattle.std.proofs.Common.{arith}
use Rattle.store_api.specs.Bag.{none}
use Rattle.hptmap.proofs.Changes.{map_kept}
use Rattle.hptmap.proofs.tests.both_orders.Goals as goal

pub returns-clause-map : goal.returns-clause-map
returns-clause-map g c = map_kept g.S.Store.name (g.S.Store.bag c.of_two.new.s) (g.S.Store.bag c.of_two-2.new.s) none _ c.in_ok-up.up.root c.in_ok-down.ensures.ok (λ x. omega (arith, c.in_ok-up.ensures.ok.counts x)) c.in_ok-up.ensures.map

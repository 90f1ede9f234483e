use Rattle.std.proofs.Common.{arith}
use Rattle.store_api.specs.Bag.{none}
use Rattle.hptmap.proofs.Changes.{map_kept}
use Rattle.hptmap.proofs.tests.two_maps.Goals as goal

pub returns-clause-map : goal.returns-clause-map
returns-clause-map g c = map_kept g.S.Store.name (g.S.Store.bag c.fill.new.s) (g.S.Store.bag c.fill-2.new.s) none _ c.in_ok-a.a.root c.in_ok-b.ensures.ok (λ x. omega (arith, c.in_ok-a.ensures.ok.counts x)) c.in_ok-a.ensures.map

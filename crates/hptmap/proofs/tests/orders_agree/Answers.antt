use Rattle.std.proofs.Common.{arith}
use Rattle.store_api.specs.Bag.{none}
use Rattle.hptmap.proofs.Changes.{map_kept}
use Rattle.hptmap.proofs.tests.orders_agree.Goals as goal

pub head_at-requires-2-clause-map : goal.head_at-requires-2-clause-map
head_at-requires-2-clause-map g c = map_kept g.S.Store.name (g.S.Store.bag c.merged.new.s) (g.S.Store.bag c.head_at.new.s) none none c.in_ok-joined.joined.root c.in_ok-absent.ensures (λ x. omega (arith, c.in_ok-joined.ensures.ok.counts x)) c.in_ok-joined.ensures.map

pub agrees-requires-clause-map : goal.agrees-requires-clause-map
agrees-requires-clause-map g c =
    map_kept g.S.Store.name (g.S.Store.bag c.head_at.new.s) (g.S.Store.bag c.head_at-2.new.s) none none c.in_ok-joined.joined.root c.in_ok-there.ensures (λ x. omega (arith, c.in_ok-joined.ensures.ok.counts x, c.in_ok-absent.ensures.counts x))
    (map_kept g.S.Store.name (g.S.Store.bag c.merged.new.s) (g.S.Store.bag c.head_at.new.s) none none c.in_ok-joined.joined.root c.in_ok-absent.ensures (λ x. omega (arith, c.in_ok-joined.ensures.ok.counts x)) c.in_ok-joined.ensures.map)

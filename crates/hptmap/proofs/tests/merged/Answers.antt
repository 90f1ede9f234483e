use Rattle.hptmap.proofs.Changes.{map_held}
use Rattle.hptmap.proofs.Payloads.{maps_taken}
use Rattle.hptmap.proofs.tests.merged.Goals as goal

pub widen-requires-clause-held : goal.widen-requires-clause-held
widen-requires-clause-held g c = map_held g.S.Store.name (g.S.Store.bag c.args.s.now) c.args.a.now.root c.requires.first

pub widen-requires-clause-held_second : goal.widen-requires-clause-held_second
widen-requires-clause-held_second g c = map_held g.S.Store.name (g.S.Store.bag c.args.s.now) c.args.b.now.root c.requires.second

pub widen-requires-clause-takes : goal.widen-requires-clause-takes
widen-requires-clause-takes g c = maps_taken g.S.Store.name (g.S.Store.bag c.args.s.now) c.args.a.now.root c.args.b.now.root (g.S.Store.bag c.args.s.now).about c.requires.map c.requires.map_second

pub join-requires-clause-held : goal.join-requires-clause-held
join-requires-clause-held g c = map_held g.S.Store.name (g.S.Store.bag c.args.s.now) c.args.a.now.root c.requires.first

pub join-requires-clause-held_second : goal.join-requires-clause-held_second
join-requires-clause-held_second g c = map_held g.S.Store.name (g.S.Store.bag c.args.s.now) c.args.b.now.root c.requires.second

pub join-requires-clause-takes : goal.join-requires-clause-takes
join-requires-clause-takes g c = maps_taken g.S.Store.name (g.S.Store.bag c.args.s.now) c.args.a.now.root c.args.b.now.root (g.S.Store.bag c.args.s.now).about c.requires.map c.requires.map_second

use Rattle.hptmap.proofs.Changes.{map_held}
use Rattle.hptmap.proofs.Payloads.{maps_taken}
use Rattle.hptmap.proofs.tests.contained.Goals as goal

pub included-requires-clause-held : goal.included-requires-clause-held
included-requires-clause-held g c = map_held g.S.Store.name (g.S.Store.bag c.args.s.now) c.args.a.now.root c.requires.first

pub included-requires-clause-held_second : goal.included-requires-clause-held_second
included-requires-clause-held_second g c = map_held g.S.Store.name (g.S.Store.bag c.args.s.now) c.args.b.now.root c.requires.second

pub included-requires-clause-takes : goal.included-requires-clause-takes
included-requires-clause-takes g c = maps_taken g.S.Store.name (g.S.Store.bag c.args.s.now) c.args.a.now.root c.args.b.now.root (g.S.Store.bag c.args.s.now).about c.requires.map c.requires.map_second

use Rattle.hptmap.proofs.Changes.{map_held}
use Rattle.hptmap.proofs.tests.equal.Goals as goal

pub same-requires-clause-held : goal.same-requires-clause-held
same-requires-clause-held g c = map_held g.S.Store.name (g.S.Store.bag c.args.s.now) c.args.a.now.root c.requires.first

pub same-requires-clause-held_second : goal.same-requires-clause-held_second
same-requires-clause-held_second g c = map_held g.S.Store.name (g.S.Store.bag c.args.s.now) c.args.b.now.root c.requires.second

use Rattle.hptmap.proofs.Changes.{map_held}
use Rattle.hptmap.proofs.tests.head_at.Goals as goal

pub find-requires-clause-held : goal.find-requires-clause-held
find-requires-clause-held g c = map_held g.S.Store.name (g.S.Store.bag c.args.s.now) c.args.m.now.root c.requires.owned

use Rattle.hptmap.proofs.Changes.{map_held}
use Rattle.hptmap.proofs.tests.agrees.Goals as goal

pub walk-requires-clause-held : goal.walk-requires-clause-held
walk-requires-clause-held g c = map_held g.S.Store.name (g.S.Store.bag c.args.s.now) c.args.m.now.root c.requires.owned

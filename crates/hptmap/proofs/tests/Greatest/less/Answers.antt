use Rattle.hptmap.proofs.Payloads.{rises_two}
use Rattle.hptmap.proofs.tests.Greatest.less.Goals as goal

pub returns-clause-inner : goal.returns-clause-inner
returns-clause-inner g c = rises_two _ _ _ _ _ c.look-first.ensures.counts c.look-second.ensures.counts c.saturating_add-self.ensures

use Rattle.hptmap.proofs.Payloads.{rises_none}
use Rattle.hptmap.proofs.tests.GreatestLeafRule.widen.Goals as goal

pub returns-clause-inner : goal.returns-clause-inner
returns-clause-inner g c = rises_none c.again.result _ _ _ c.again.ensures.counts

use Rattle.hptmap.proofs.Payloads.{rises_then}
use Rattle.hptmap.proofs.tests.GreatestLeafRule.join.Goals as goal

pub returns-then-less-clause-inner : goal.returns-then-less-clause-inner
returns-then-less-clause-inner g c = rises_then c.again.result _ _ _ _ _ c.less.ensures.inner c.again.ensures.counts

pub returns-else-less-clause-inner : goal.returns-else-less-clause-inner
returns-else-less-clause-inner g c = rises_then c.again-else-less.result _ _ _ _ _ c.less.ensures.inner c.again-else-less.ensures.counts

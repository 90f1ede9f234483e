use Rattle.avalue.proofs.Members.{widening_members}
use Rattle.avalue.proofs.laws.widen_keeps.Goals as goal

pub returns : goal.returns
returns c = widening_members

use Rattle.avalue.proofs.Members.{join_members}
use Rattle.avalue.proofs.laws.join_keeps.Goals as goal

pub returns : goal.returns
returns c = join_members

use Rattle.avalue.proofs.Members.{included_members}
use Rattle.avalue.proofs.laws.included_is_sound.Goals as goal

pub returns : goal.returns
returns c = included_members

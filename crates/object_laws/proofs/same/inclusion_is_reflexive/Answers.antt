use Rattle.object_laws.proofs.Equal.{inclusion_is_reflexive}
use Rattle.object_laws.proofs.same.inclusion_is_reflexive.Goals as goal

pub returns : goal.returns
returns c = inclusion_is_reflexive

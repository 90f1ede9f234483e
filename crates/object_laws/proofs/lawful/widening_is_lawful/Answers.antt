use Rattle.object_laws.proofs.Widened.{widening_is_lawful}
use Rattle.object_laws.proofs.lawful.widening_is_lawful.Goals as goal

pub returns : goal.returns
returns c = widening_is_lawful

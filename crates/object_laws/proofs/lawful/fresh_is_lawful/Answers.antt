use Rattle.object_laws.proofs.Edges.{fresh_is_lawful}
use Rattle.object_laws.proofs.lawful.fresh_is_lawful.Goals as goal

pub returns : goal.returns
returns c = fresh_is_lawful

use Rattle.object_laws.proofs.Edges.{blur_is_lawful}
use Rattle.object_laws.proofs.lawful.blur_is_lawful.Goals as goal

pub returns : goal.returns
returns c = blur_is_lawful

use Rattle.object_laws.proofs.Copies.{copy_is_lawful}
use Rattle.object_laws.proofs.lawful.copy_is_lawful.Goals as goal

pub returns : goal.returns
returns c = copy_is_lawful

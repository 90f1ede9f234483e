use Rattle.object_laws.proofs.Grown.{weak_write_is_lawful}
use Rattle.object_laws.proofs.lawful.weak_write_is_lawful.Goals as goal

pub returns : goal.returns
returns c = weak_write_is_lawful

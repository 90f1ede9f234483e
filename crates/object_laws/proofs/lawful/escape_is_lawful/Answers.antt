use Rattle.object_laws.proofs.Widened.{escape_is_lawful}
use Rattle.object_laws.proofs.lawful.escape_is_lawful.Goals as goal

pub returns : goal.returns
returns c = escape_is_lawful

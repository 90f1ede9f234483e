use Rattle.c_meaning_laws.proofs.Laws.{typed}
use Rattle.c_meaning_laws.proofs.values_are_typed.Goals as goal

pub returns : goal.returns
returns c = typed

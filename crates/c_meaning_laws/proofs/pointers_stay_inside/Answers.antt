use Rattle.c_meaning_laws.proofs.Laws.{pointers}
use Rattle.c_meaning_laws.proofs.pointers_stay_inside.Goals as goal

pub returns : goal.returns
returns c = pointers

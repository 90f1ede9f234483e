use Rattle.c_meaning_laws.proofs.Laws.{writes}
use Rattle.c_meaning_laws.proofs.writes_stay_lawful.Goals as goal

pub returns : goal.returns
returns c = writes

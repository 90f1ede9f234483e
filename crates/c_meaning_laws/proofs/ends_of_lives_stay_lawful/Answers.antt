use Rattle.c_meaning_laws.proofs.Laws.{ends}
use Rattle.c_meaning_laws.proofs.ends_of_lives_stay_lawful.Goals as goal

pub returns : goal.returns
returns c = ends

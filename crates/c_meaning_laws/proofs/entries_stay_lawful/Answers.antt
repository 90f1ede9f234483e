use Rattle.c_meaning_laws.proofs.Laws.{entries}
use Rattle.c_meaning_laws.proofs.entries_stay_lawful.Goals as goal

pub returns : goal.returns
returns c = entries

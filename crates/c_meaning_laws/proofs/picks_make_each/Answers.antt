use Rattle.c_meaning_laws.proofs.Picks.{picks_make_each}
use Rattle.c_meaning_laws.proofs.picks_make_each.Goals as goal

pub returns : goal.returns
returns c = picks_make_each

use Rattle.std.proofs.Common.{refl}
use Rattle.entry_workers.proofs.Steps.{opens}
use Rattle.entry_workers.proofs.draws.open_counter.Goals as goal

pub of_words-requires : goal.of_words-requires
of_words-requires c = (0, refl, opens)

use Rattle.std.proofs.Common.{arith}
use Rattle.entry_workers.proofs.Steps.{takes}
use Rattle.entry_workers.proofs.draws.draw.Goals as goal

pub fetch_add-requires : goal.fetch_add-requires
fetch_add-requires c = (c.requires.counter.0, omega arith, takes _ _ _ _ c.requires.room)

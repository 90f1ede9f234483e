use Rattle.std.proofs.Common.{arith}
use Rattle.entry_workers.proofs.Steps.{cuts}
use Rattle.entry_workers.proofs.draws.split_off.Goals as goal

pub split_seat-requires : goal.split_seat-requires
split_seat-requires c = (c.requires.counter.0, omega arith, cuts _ _ c.requires.parts c.requires.idle)

use Rattle.std.proofs.Common.{arith}
use Rattle.entry_workers.proofs.Steps.{merges}
use Rattle.entry_workers.proofs.draws.take_in.Goals as goal

pub join_seat-requires : goal.join_seat-requires
join_seat-requires c = (c.requires.counter.0, c.requires.counter.1, c.requires.empty, omega arith, merges _ _ _ _)

use Rattle.std.proofs.Common.{arith}
use Rattle.entry_workers.proofs.Steps.{looks}
use Rattle.entry_workers.proofs.draws.count_draws.Goals as goal

pub load-requires : goal.load-requires
load-requires c = (c.requires.counter.0, omega arith, looks _ _ _ _ c.requires.all)

use Rattle.std.proofs.Common.{◌≡◌, length}
use Rattle.entry_workers.proofs.tests.squares_below.Given as goal

abbrev pub invariant-loop-worker : goal.invariant-loop-worker
invariant-loop-worker g l = length l.passes.items ≡ l._worker

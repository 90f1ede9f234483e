use Rattle.std.proofs.Common.{◌≡◌, length}
use Rattle.std.specs.Prelude.{All}
use Rattle.c_meaning.specs.Begin.{filled, HasFewBits}
use Rattle.c_meaning.proofs.initial.filled.Given as goal

abbrev pub invariant-loop-scalars : goal.invariant-loop-scalars
invariant-loop-scalars l = (filled l.picks l.i l.scalars l.cells ≡ filled l.picks l.initial.i l.initial.scalars l.initial.cells) × All HasFewBits l.scalars

abbrev pub decreases-loop-scalars : goal.decreases-loop-scalars
decreases-loop-scalars l = length l.scalars

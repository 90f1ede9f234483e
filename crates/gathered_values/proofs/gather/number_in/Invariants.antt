use Rattle.std.proofs.Common.{◌≡◌, ◌≤◌, length, pos}
use Rattle.ival.specs.Forms.{has}
use Rattle.gathered_values.specs.Bits.{bit}
use Rattle.gathered_values.proofs.Gathering.{from}
use Rattle.gathered_values.proofs.gather.number_in.Given as goal

abbrev pub invariant-loop-j : goal.invariant-loop-j
invariant-loop-j l = record {
  bound : l.j ≤ length l.bits;
  number : l.x ≡ from (λ j. has (bit l.bits j).ints (pos 1)) l.j (length l.bits);
}

abbrev pub decreases-loop-j : goal.decreases-loop-j
decreases-loop-j l = l.j

use Rattle.std.proofs.Common.{◌≡◌}
use Rattle.std.specs.Prelude.{is_some}
use Rattle.ival.specs.Forms.{only_number}
use Rattle.abstract_memory.specs.Values.{all_below}
use Rattle.gathered_values.specs.Bits.{bit}
use Rattle.gathered_values.proofs.gather.all_known.Given as goal

abbrev pub invariant-loop-j : goal.invariant-loop-j
invariant-loop-j l = l.all ≡ all_below l.j (λ j. is_some (only_number (bit l.bits j).ints))

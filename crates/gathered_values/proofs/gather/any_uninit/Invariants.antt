use Rattle.std.proofs.Common.{◌≡◌}
use Rattle.abstract_memory.specs.Values.{any_below}
use Rattle.gathered_values.specs.Bits.{bit}
use Rattle.gathered_values.proofs.gather.any_uninit.Given as goal

abbrev pub invariant-loop-j : goal.invariant-loop-j
invariant-loop-j l = l.any ≡ any_below l.j (λ j. (bit l.bits j).uninit)

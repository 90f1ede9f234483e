use Rattle.std.proofs.Common.{◌≡◌, take}
use Rattle.gathered_values.specs.Bits.{kept_pointers}
use Rattle.gathered_values.proofs.gather.shared_pointers.Given as goal

abbrev pub invariant-loop-p : goal.invariant-loop-p
invariant-loop-p l = l.shared ≡ kept_pointers l.bits (take l.p-index l.first)

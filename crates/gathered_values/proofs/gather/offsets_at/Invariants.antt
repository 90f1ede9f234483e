use Rattle.std.proofs.Common.{◌≡◌, length}
use Rattle.std.specs.List.{All}
use Rattle.avalue.specs.Pointers.{IsPointer, offsets_at}
use Rattle.gathered_values.proofs.gather.offsets_at.Given as goal

abbrev pub invariant-loop-ptrs : goal.invariant-loop-ptrs
invariant-loop-ptrs l = (offsets_at l.ptrs l.base ≡ offsets_at l.initial.ptrs l.base) × All IsPointer l.ptrs

abbrev pub decreases-loop-ptrs : goal.decreases-loop-ptrs
decreases-loop-ptrs l = length l.ptrs

use Rattle.std.proofs.Common.{◌≡◌, length}
use Rattle.std.specs.List.{list_any}
use Rattle.avalue.specs.Pointers.{is_listed}
use Rattle.avalue.proofs.pointers.has_listed.Given as goal

abbrev pub invariant-loop-ptrs : goal.invariant-loop-ptrs
invariant-loop-ptrs l = list_any (is_listed l.bases) l.ptrs ≡ list_any (is_listed l.bases) l.initial.ptrs

abbrev pub decreases-loop-ptrs : goal.decreases-loop-ptrs
decreases-loop-ptrs l = length l.ptrs

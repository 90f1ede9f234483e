use Rattle.std.proofs.Common.{◌≡◌, ◌≤◌, max, drop}
use Rattle.c_types.specs.Structs.{greatest_align}
use Rattle.c_types.proofs.structs.alignment_of.Given as goal

abbrev pub invariant-loop-member : goal.invariant-loop-member
invariant-loop-member l = (8 ≤ l.greatest) × (max l.greatest (greatest_align l.layout (drop l.member-index l.declared)) ≡ greatest_align l.layout l.declared)

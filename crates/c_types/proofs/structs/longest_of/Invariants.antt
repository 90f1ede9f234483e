use Rattle.std.proofs.Common.{◌≡◌, max, drop}
use Rattle.c_types.specs.Sizes.{kept}
use Rattle.c_types.specs.Structs.{longest}
use Rattle.c_types.proofs.structs.longest_of.Given as goal

abbrev pub invariant-loop-member : goal.invariant-loop-member
invariant-loop-member l = max l.most (kept (longest l.layout (drop l.member-index l.declared))) ≡ kept (longest l.layout l.declared)

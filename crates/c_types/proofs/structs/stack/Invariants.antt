use Rattle.std.proofs.Common.{◌≡◌, ◌++◌, drop}
use Rattle.c_types.specs.Structs.{stacked}
use Rattle.c_types.proofs.structs.stack.Given as goal

abbrev pub invariant-loop-member : goal.invariant-loop-member
invariant-loop-member l = l.members ++ stacked (drop l.member-index l.declared) ≡ stacked l.declared

use Rattle.std.proofs.Common.{◌≡◌, drop}
use Rattle.c_types.specs.Structs.{any_named}
use Rattle.c_types.proofs.structs.has_named.Given as goal

abbrev pub invariant-loop-member : goal.invariant-loop-member
invariant-loop-member l = any_named (drop l.member-index l.declared) ≡ any_named l.declared

use Rattle.std.proofs.Common.{drop}
use Rattle.c_types.proofs.Places.{Placing}
use Rattle.c_types.proofs.structs.place.Given as goal

abbrev pub invariant-loop-member : goal.invariant-loop-member
invariant-loop-member l = Placing l.layout l.members l.end (drop l.member-index l.declared) l.declared

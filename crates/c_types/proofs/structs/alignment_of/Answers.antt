use Rattle.std.proofs.Common.{arith}
use Rattle.c_types.proofs.Places.{align_first}
use Rattle.c_types.proofs.structs.alignment_of.Goals as goal

pub loop-member-init : goal.loop-member-init
loop-member-init c = (omega arith, align_first c.args.layout.now c.args.declared.now)

use Rattle.std.proofs.Common.{arith}
use Rattle.c_input.proofs.Bounds.{within}
use Rattle.c_input.proofs.input.skip.Goals as goal

pub overflow_add-place : goal.overflow_add-place
overflow_add-place c = let b = within c.args.words.now c.args.place.now c.requires.seen in let s = c.requires.short in omega arith

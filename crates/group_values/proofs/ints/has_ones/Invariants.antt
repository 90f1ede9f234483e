use Rattle.std.proofs.Common.{◌≡◌}
use Rattle.c_memory.specs.Cells.{bit_of}
use Rattle.abstract_memory.specs.Values.{all_below}
use Rattle.group_values.proofs.ints.has_ones.Given as goal

abbrev pub invariant-loop-j : goal.invariant-loop-j
invariant-loop-j l = l.all ≡ all_below l.j (bit_of l.x)

use Rattle.std.proofs.Common.{◌≡◌, length}
use Rattle.std.specs.List.{list_all}
use Rattle.c_memory.specs.Cells.{bit_of}
use Rattle.abstract_memory.specs.Values.{all_below}
use Rattle.group_values.proofs.ints.have_ones.Given as goal

abbrev pub invariant-loop-xs : goal.invariant-loop-xs
invariant-loop-xs l = list_all (λ x. all_below l.w (bit_of x)) l.xs ≡ list_all (λ x. all_below l.w (bit_of x)) l.initial.xs

abbrev pub decreases-loop-xs : goal.decreases-loop-xs
decreases-loop-xs l = length l.xs

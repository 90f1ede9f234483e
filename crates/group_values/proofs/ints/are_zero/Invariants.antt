use Rattle.std.proofs.Common.{◌≡◌, length, pos}
use Rattle.std.specs.List.{list_all}
use Rattle.std.specs.Ordering.{int_eq}
use Rattle.group_values.proofs.ints.are_zero.Given as goal

abbrev pub invariant-loop-xs : goal.invariant-loop-xs
invariant-loop-xs l = list_all (λ x. int_eq x (pos 0)) l.xs ≡ list_all (λ x. int_eq x (pos 0)) l.initial.xs

abbrev pub decreases-loop-xs : goal.decreases-loop-xs
decreases-loop-xs l = length l.xs

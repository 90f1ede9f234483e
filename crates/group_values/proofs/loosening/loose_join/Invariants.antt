use Rattle.std.proofs.Common.{◌≡◌}
use Rattle.std.specs.List.{fold, range_with_len}
use Rattle.avalue.specs.Values.{IsWellFormedValue}
use Rattle.abstract_memory.specs.Values.{join_values, loose, nothing}
use Rattle.group_values.proofs.loosening.loose_join.Given as goal

abbrev pub invariant-loop-j : goal.invariant-loop-j
invariant-loop-j l = record {
  bit : l.bit ≡ fold (λ bit j. join_values bit (loose l.v l.n j)) nothing (range_with_len 0 l.j);
  formed : IsWellFormedValue l.bit;
}

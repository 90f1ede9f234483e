use Rattle.std.proofs.Common.{◌≡◌, ℕ, ◌≤◌, length}
use Rattle.c_input.specs.Scope.{in_table}
use Rattle.c_input.proofs.scope.reach.Given as goal

abbrev pub invariant-loop-more : goal.invariant-loop-more
invariant-loop-more l = record {
  same : (n : ℕ) → in_table l.types n ≡ in_table l.fn.types n;
  longer : length l.fn.types ≤ length l.types;
  count : length l.types ≡ l._more;
}

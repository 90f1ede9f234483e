use Rattle.std.proofs.Common.{◌≤◌, ◌-◌, ◌≢◌, ◌/◌, ◌^◌}
use Rattle.hptmap.proofs.nodes.branching_bit.Given as goal

abbrev pub decreases-loop-n : goal.decreases-loop-n
decreases-loop-n l = 31 - l.n

abbrev pub invariant-loop-n : goal.invariant-loop-n
invariant-loop-n l = record { small : l.n ≤ 31; apart : l.k / 2 ^ l.n ≢ l.j / 2 ^ l.n }

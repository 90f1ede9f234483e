use Rattle.std.proofs.Common.{◌≡◌, ◌<◌, ◌^◌, [], length, ◌-◌}
use Rattle.iterate.proofs.ConstantSteps.{Going}
use Rattle.iterate.proofs.constant.analyse_entry.Given as goal

abbrev pub invariant-loop-value : goal.invariant-loop-value
invariant-loop-value l = record {
  none : l.alarms ≡ [];
  small : l.at < 2 ^ 32;
  going : Going l.fn.fun l.fn.f l.at l.outcome l.taken;
}

abbrev pub decreases-loop-value : goal.decreases-loop-value
decreases-loop-value l = length l.fn.f.nodes - l.at

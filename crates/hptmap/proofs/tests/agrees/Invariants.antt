use Rattle.std.proofs.Common.{ℕ, ◌≤◌}
use Rattle.hptmap.specs.Pairs.{pair_holds}
use Rattle.hptmap.proofs.tests.agrees.Given as goal

abbrev pub invariant-loop-key : goal.invariant-loop-key
invariant-loop-key g l = (x : ℕ) → pair_holds g.S.Store.name l.pairs.items x ≤ (g.S.Store.bag l.s).count x

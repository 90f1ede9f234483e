use Rattle.std.proofs.Common.{◌≡◌, ◌≤◌, ◌++◌, ◌+◌, ◌-◌, length}
use Rattle.std.specs.Prelude.{drop}
use Rattle.std.specs.List.{All}
use Rattle.avalue.specs.Pointers.{IsPointer, merged}
use Rattle.avalue.proofs.pointers.merge.Given as goal

abbrev pub invariant-heads : goal.invariant-heads
invariant-heads g l =
    (l.both.items ++ merged (g.R.Rule.of l.rule) (drop l.i l.a) (drop l.j l.b) ≡ merged (g.R.Rule.of l.rule) l.a l.b)
    × All IsPointer l.both.items × (l.i ≤ length l.a) × (l.j ≤ length l.b)

abbrev pub decreases-heads : goal.decreases-heads
decreases-heads g l = (length l.a - l.i) + (length l.b - l.j)

use Rattle.std.proofs.Common.{◌≡◌, ◌-◌, ◌++◌, [], length, map}
use Rattle.std.specs.List.{All}
use Rattle.std.specs.Vec.Iter.{into_iter_items}
use Rattle.entry_workers.specs.Drawing.{hand, all_parts}
use Rattle.entry_workers.specs.Working.{Idle}
use Rattle.entry_workers.specs.declared.work.Worker.{Worker}
use Rattle.entry_workers.proofs.run.hire.Given as goal

abbrev pub invariant-loop-pass : goal.invariant-loop-pass
invariant-loop-pass g l = (l.yielded ++ into_iter_items l.pass-iterator ≡ l.fn.passes.items)
    × (map (λ (w : Worker _). w.pass) l.workers.items ≡ l.yielded)
    × (l.maker.table_id ≡ l.counter.table_id)
    × (l.maker.me ≡ (hand (all_parts - length l.yielded) [], []))
    × All (Idle l.counter.table_id) l.workers.items

use Rattle.std.proofs.Common.{◌≡◌, ◌++◌}
use Rattle.std.specs.Vec.Iter.{into_iter_items}
use Rattle.entry_workers.specs.Working.{Gathered}
use Rattle.entry_workers.proofs.run.gather.Given as goal

abbrev pub invariant-loop-home : goal.invariant-loop-home
invariant-loop-home g l = (l.yielded ++ into_iter_items l.home-iterator ≡ l.fn.homes.items)
    × (l.maker.table_id ≡ l.counter.table_id)
    × Gathered l.yielded l.initial.maker.me.0 l.maker.me.0 l.passes.items l.all.items

use Rattle.std.proofs.Common.{◌≡◌, ◌-◌, ◌≤◌, [], length}
use Rattle.entry_workers.specs.Working.{Serving}
use Rattle.entry_workers.proofs.work.work.Given as goal

abbrev pub invariant-loop-next : goal.invariant-loop-next
invariant-loop-next g l = (l.drawer.table_id ≡ l.counter.table_id)
    × (l.counter.table_id.words ≡ 1)
    × (l.drawer.me.1 ≡ [])
    × (length l.drawn.items ≤ l.next)
    × Serving g.J.Job.held (g.J.Job.promised l.job) g.J.Job.halted l.n (g.S.Store.bag l.initial.pass) (g.S.Store.bag l.pass) l.drawer.me.0 l.drawn.items l.next

abbrev pub decreases-loop-next : goal.decreases-loop-next
decreases-loop-next g l = l.n - length l.drawn.items

use Rattle.std.proofs.Common.{◌≡◌, ◌++◌, map}
use Rattle.std.specs.Vec.Iter.{into_iter_items}
use Rattle.entry_workers.specs.declared.work.Drawn.{Drawn}
use Rattle.entry_workers.proofs.run.results.Given as goal

abbrev pub invariant-loop-each : goal.invariant-loop-each
invariant-loop-each g l = (l.yielded ++ into_iter_items l.each-iterator ≡ l.fn.drawn.items) × (l.results.items ≡ map (λ (d : Drawn _). d.result) l.yielded)

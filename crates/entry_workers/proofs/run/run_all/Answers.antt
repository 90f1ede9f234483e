use Rattle.std.proofs.Common.{ℕ, ◌<◌, ap, length, rules, arith}
use Rattle.std.proofs.lemmas.List.{length-map}
use Rattle.std.proofs.lemmas.List.Sorted.{IsNonDecreasingBy-from_sort_by_key}
use Rattle.atomic_table.specs.Table.{Me}
use Rattle.entry_workers.specs.declared.draws.Hand.{Hand}
use Rattle.entry_workers.specs.declared.work.Worker.{Worker}
use Rattle.entry_workers.proofs.Ending.{ready-workers, all-came, all-again, all-worked}
use Rattle.entry_workers.proofs.run.run_all.Goals as goal

pub put_to_work-requires-clause-ready : goal.put_to_work-requires-clause-ready
put_to_work-requires-clause-ready g c lifetimes within k w less i below = ready-workers (λ s. (j : ℕ) → j < c.args.n → g.J.Job.ready c.args.job.now (g.S.Store.bag s).about j) (λ (v : Worker g.row.S.Denot). v.pass)
    c.in_ok-workers.workers.items c.args.passes.items c.in_ok-workers.ensures.passes (λ l s d. c.requires.ready l s d) k w less i below

pub gather-requires-clause-homes : goal.gather-requires-clause-homes
gather-requires-clause-homes g c k d less = all-came g.J.Job.held (g.J.Job.promised c.args.job.now) g.J.Job.halted g.S.Store.bag c.in_ok-table.table.shared.table_id c.args.n
    c.in_ok-workers.workers.items c.in_ok-homes.homes.items c.in_ok-homes.ensures.len (λ i w r l. c.in_ok-homes.ensures.each i w r l) k d less

pub count_draws-requires-clause-all : goal.count_draws-requires-clause-all
count_draws-requires-clause-all g c = let p = ap length c.in_ok-workers.ensures.passes in let m = length-map c.in_ok-workers.workers.items (λ (w : Worker g.row.S.Denot). w.pass) in
    let few = c.requires.passes.1 in let kept = ap (λ (m : Me (Unit {0}) Hand). m.0.parts) c.in_ok-workers.ensures.maker in
    all-again g.J.Job.held (g.J.Job.promised c.args.job.now) g.J.Job.halted g.S.Store.bag c.in_ok-table.table.shared.table_id c.args.n
    c.in_ok-workers.workers.items c.in_ok-homes.homes.items c.hire.new.maker.me.0 c.gather.new.maker.me.0 c.in_ok-passes.passes.items c.in_ok-passes.drawn.items
    c.in_ok-homes.ensures.len (λ i w r l. c.in_ok-homes.ensures.each i w r l) c.in_ok-passes.ensures.gathered (omega arith) (omega arith)

pub returns : goal.returns
returns g c = let some_pass = c.requires.passes.0 in
    all-worked g.J.Job.held (g.J.Job.promised c.args.job.now) g.J.Job.halted g.S.Store.bag c.in_ok-table.table.shared.table_id c.args.n
    c.in_ok-workers.workers.items c.in_ok-homes.homes.items c.hire.new.maker.me.0 c.gather.new.maker.me.0 c.args.passes.items c.in_ok-passes.passes.items
    c.in_ok-passes.drawn.items c.sort_unstable_by_key.new.self.items c.in_ok-results.field-0.items c.count_draws.result c.in_ok-workers.ensures.passes (omega arith)
    c.in_ok-homes.ensures.len (λ i w r l. c.in_ok-homes.ensures.each i w r l) c.in_ok-passes.ensures.gathered (ap (λ (m : Me (Unit {0}) Hand). m.0.drawn) c.in_ok-workers.ensures.maker)
    (λ x. c.count_draws.ensures.once x) c.sort_unstable_by_key.ensures.permutation
    (IsNonDecreasingBy-from_sort_by_key (λ d. d.index) _ c.sort_unstable_by_key.ensures.sorted (λ a r q k. search rules)) c.in_ok-results.ensures

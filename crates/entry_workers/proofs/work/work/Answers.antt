use Rattle.std.proofs.Common.{arith, ◌≤◌, ◌∷◌, [], refl, ap, ◌∙◌, subst, sym, zero-le, length}
use Rattle.std.proofs.lemmas.List.{length-append}
use Rattle.entry_workers.specs.declared.work.Drawn.{Drawn}
use Rattle.entry_workers.proofs.Serving.{begins-so, goes-on-so, few-draws}
use Rattle.entry_workers.proofs.work.work.Goals as goal

pub loop-next-init : goal.loop-next-init
loop-next-init g c = let s = begins-so g.J.Job.held (g.J.Job.promised c.args.job.now) g.J.Job.halted c.args.n c.draw-next.result (g.S.Store.bag c.args.worker.pass) _ _ _ c.requires.idle c.draw-next.ensures.drawn c.new-drawn.ensures.items in
    (c.draw-next.ensures.counter ∙ c.requires.counter.0, c.requires.counter.1, s.0, subst (λ l. length l ≤ c.draw-next.result) (sym c.new-drawn.ensures.items) zero-le, s.1)

pub run-result-requires : goal.run-result-requires
run-result-requires g c = let w = c.loop-next.invariant.4 in let t = c.loop-next-test.true in let e = c.from.ensures in
    subst (λ about. g.J.Job.ready c.args.job.now about c.loop-next.next) (sym w.holds.about) (c.requires.ready c.loop-next.next (omega arith))

pub draw-next-requires-in-loop-next-clause-room : goal.draw-next-requires-in-loop-next-clause-room
draw-next-requires-in-loop-next-clause-room g c = let f = few-draws _ _ _ _ _ _ _ _ _ c.loop-next.invariant.4 in let a = f.0 in let b = f.1 in
    let i = c.loop-next.invariant.3 in let t = c.loop-next-test.true in let e = c.from.ensures in let r = c.ranges.n.fits in omega arith

pub loop-next-smaller : goal.loop-next-smaller
loop-next-smaller g c = let i = c.loop-next.invariant.3 in let t = c.loop-next-test.true in let e = c.from.ensures in
    let p = c.in_ok-push.ensures.items in let l = ap length p in let m = length-append c.loop-next.drawn.items (record { index = c.loop-next.next; result = c.run-result.result } ∷ []) in omega arith

pub loop-next-preserved : goal.loop-next-preserved
loop-next-preserved g c = let i = c.loop-next.invariant in let t = c.loop-next-test.true in let e = c.from.ensures in
    let d : Drawn g.row.J-R.Denot = record { index = c.loop-next.next; result = c.run-result.result } in
    let f = few-draws _ _ _ _ _ _ _ _ _ i.4 in let few = f.0 in let rises = c.draw-next-in-loop-next.ensures.rises in let l = ap length c.in_ok-push.ensures.items in
    let m = length-append c.loop-next.drawn.items (d ∷ []) in (
      c.draw-next-in-loop-next.ensures.counter ∙ i.0,
      i.1,
      ap (λ m. m.1) c.draw-next-in-loop-next.ensures.drawn ∙ i.2,
      omega arith,
      goes-on-so g.J.Job.held (g.J.Job.promised c.args.job.now) g.J.Job.halted c.args.n c.loop-next.next c.draw-next-in-loop-next.result _ _ _ _ _ _ _ d refl (omega arith) i.4
          c.run-result.ensures.bag c.run-result.ensures.promise c.run-result.ensures.halted c.draw-next-in-loop-next.ensures.drawn c.in_ok-push.ensures.items,
    )

pub returns : goal.returns
returns g c = let t = c.loop-next-test.false in let e = c.from.ensures in let i = c.loop-next.invariant in (i.0, i.2, record { last = c.loop-next.next; past = omega arith; work = i.4 })

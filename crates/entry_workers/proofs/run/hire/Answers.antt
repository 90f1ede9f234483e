use Rattle.std.proofs.Common.{◌≡◌, ◌-◌, ap, sym, subst, ◌∙◌, ◌++◌, ◌∷◌, [], map, length, arith}
use Rattle.std.specs.List.{All}
use Rattle.std.proofs.lemmas.List.{append_assoc, map-append, length-append}
use Rattle.std.proofs.lemmas.List.Elements.{All-push}
use Rattle.atomic_table.specs.Table.{Me}
use Rattle.entry_workers.specs.Drawing.{hand, all_parts}
use Rattle.entry_workers.specs.declared.draws.Hand.{Hand}
use Rattle.entry_workers.specs.Working.{Idle}
use Rattle.entry_workers.specs.declared.work.Worker.{Worker}
use Rattle.entry_workers.proofs.run.hire.Goals as goal

pub loop-pass-preserved : goal.loop-pass-preserved
loop-pass-preserved g c = let i = c.loop-pass.invariant in let p = c.in_ok-push.ensures.items in
    let w : Worker g.row.S.Denot = record { number = c.len-number.result; pass = c.in-Some.pass; drawer = c.split_off-drawer.result } in
    let longer = length-append c.loop-pass.yielded (c.in-Some.pass ∷ []) in
    let fewer : all_parts - length c.loop-pass.yielded - 1 ≡ all_parts - length (c.loop-pass.yielded ++ c.in-Some.pass ∷ []) = omega arith in (
      append_assoc c.loop-pass.yielded (c.in-Some.pass ∷ []) _ ∙ (ap (λ l. c.loop-pass.yielded ++ l) (sym c.in-Some.ensures.steps.0) ∙ i.0),
      ap (map (λ (v : Worker g.row.S.Denot). v.pass)) p ∙ (map-append (λ (v : Worker g.row.S.Denot). v.pass) c.loop-pass.workers.items (w ∷ []) ∙ ap (λ l. l ++ c.in-Some.pass ∷ []) i.1),
      c.split_off-drawer.ensures.counter.0 ∙ i.2,
      c.split_off-drawer.ensures.parts ∙ (ap (λ (m : Me (Unit {0}) Hand). (hand (m.0.parts - 1) [], m.1)) i.3 ∙ ap (λ k. (hand k [], [])) fewer),
      subst (λ l. All (Idle c.args.counter.now.table_id) l) (sym p)
          (All-push (Idle c.args.counter.now.table_id) c.loop-pass.workers.items w i.4 (record { counter = c.split_off-drawer.ensures.counter.1 ∙ i.2; idle = c.split_off-drawer.ensures.made })),
    )

use Rattle.std.proofs.Common.{ap, sym, ◌∙◌, ◌++◌, ◌∷◌, []}
use Rattle.std.proofs.lemmas.List.{append_assoc}
use Rattle.entry_workers.proofs.Gathering.{gathers, gathers-none}
use Rattle.entry_workers.proofs.run.gather.Goals as goal

pub loop-home-init : goal.loop-home-init
loop-home-init g c = (c.into_iter-home-iterator.ensures.into_iter_gives.0, c.requires.counter.0, gathers-none _ _ _ c.new-passes.ensures.items c.new-all.ensures.items)

pub loop-home-preserved : goal.loop-home-preserved
loop-home-preserved g c = let i = c.loop-home.invariant in (
  append_assoc c.loop-home.yielded (c.in-Some.home ∷ []) _ ∙ (ap (λ l. c.loop-home.yielded ++ l) (sym c.in-Some.ensures.steps.0) ∙ i.0),
  c.take_in.ensures.counter ∙ i.1,
  gathers _ _ _ _ _ _ _ _ c.in_ok-pass.field-0 _ c.in_ok-pass.was i.2 (ap (λ m. m.0) c.take_in.ensures.both) c.in_ok-push.ensures.items c.in_ok-append.ensures.items,
)

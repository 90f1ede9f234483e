use Rattle.std.proofs.Common.{rules, arith, ◌≡◌, ◌-◌, ◌∙◌, sym, false, refl}
use Rattle.std.proofs.lemmas.Grind.{common_steps}
use Rattle.c_expressions.specs.Levels.{nest}
use Rattle.c_expressions.specs.Specifiers.{allows, specs}
use Rattle.c_input.specs.Words.{words_of}
use Rattle.c_expressions.proofs.SpecifierLists.{specs_next, specs_stops, specs_ended, specs_over}
use Rattle.c_expressions.proofs.nest.Grammar.specs.Goals as goal
use Rattle.c_expressions.proofs.nest.Grammar.specs.Goals.{else-loop-turn-test, then-loop-turn-test+then-not-goes_on}

pub loop-turn-init : goal.loop-turn-init
loop-turn-init g c = record { same = refl; small = c.requires.fits }

pub loop-turn-preserved : goal.loop-turn-preserved
loop-turn-preserved g c =
    let e = specs_next (nest c.args.self.now.room) (allows c.args.allowed) (words_of c.args.words.now) c.loop-turn.specs 1048577 c.loop-turn._turn c.loop-turn.place c.spec.new.place c.sign-found.result c.in_ok-spec.spec
    c.loop-turn-test.true (sym c.sign-found.ensures) (grind (arith, common_steps)) c.in_ok-spec.ensures.gives in
    let old = c.loop-turn.invariant.same in
    let pushed = c.in_ok-push.ensures.ok in
    let small = c.in_ok-spec.ensures.within in
    record { same = grind (arith, common_steps); small = grind (arith, common_steps) }

pub returns-in_err-spec-clause-gives : goal.returns-in_err-spec-clause-gives
unfolding specs
returns-in_err-spec-clause-gives g c =
    let h = specs_stops (nest c.args.self.now.room) (allows c.args.allowed) (words_of c.args.words.now) c.loop-turn.specs 1048577 c.loop-turn._turn c.loop-turn.place c.sign-found.result
    c.loop-turn-test.true (sym c.sign-found.ensures) (grind (arith, common_steps)) c.in_err-spec.field-0.0 c.in_err-spec.ensures.gives in
    let stopped = rw (← c.loop-turn.invariant.same) at h in
    first_of (search rules, grind (arith, common_steps))

pub returns-clause-gives : goal.returns-clause-gives
unfolding specs
returns-clause-gives g c = elim c.loop-turn-test.branch [
  | else-loop-turn-test w ↦ c.loop-turn.invariant.same ∙ specs_over (nest c.args.self.now.room) (allows c.args.allowed) (words_of c.args.words.now) c.loop-turn.specs 1048577 c.loop-turn._turn c.loop-turn.place w.loop-turn-test.false
  | then-loop-turn-test+then-not-goes_on w ↦
      let none : allows c.args.allowed c.loop-turn.specs.is_typed w.sign-found.result ≡ false = grind (arith, common_steps, w.goes_on.ensures, w.if-not-goes_on) in
      c.loop-turn.invariant.same ∙ specs_ended (nest c.args.self.now.room) (allows c.args.allowed) (words_of c.args.words.now) c.loop-turn.specs (1048577 - c.loop-turn._turn) c.loop-turn.place w.sign-found.result (sym w.sign-found.ensures) none
]

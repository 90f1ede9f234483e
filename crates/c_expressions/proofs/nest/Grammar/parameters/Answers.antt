use Rattle.std.proofs.Common.{rules, arith, ◌-◌, refl}
use Rattle.std.proofs.lemmas.Grind.{common_steps}
use Rattle.c_expressions.specs.Levels.{nest}
use Rattle.c_expressions.specs.Declarators.{parameters, parameters_from}
use Rattle.c_input.specs.Words.{words_of}
use Rattle.c_input.specs.Signs.{is_comma}
use Rattle.c_expressions.proofs.ParameterLists.{parameters_begun, parameters_next, parameters_stops, parameters_dots, parameters_last, parameters_over}
use Rattle.c_expressions.proofs.nest.Grammar.parameters.Goals as goal
use Rattle.c_expressions.proofs.nest.Grammar.parameters.Goals.{else-loop-turn-test, then-loop-turn-test+in_ok-param+in_ok-push+then-not-is_comma, then-loop-turn-test+in_ok-param+in_ok-push+else-not-is_comma+then-is_ellipsis}

pub loop-turn-init : goal.loop-turn-init
unfolding parameters
loop-turn-init g c =
    let e = parameters_begun (nest c.args.self.now.room) (words_of c.args.words.now) (parameters_from (nest c.args.self.now.room) (1048577 - c.args.place.now.at) (words_of c.args.words.now) c.args.place.now) in
    let none = c.new-all.ensures in
    record { same = grind (arith, common_steps); plain = refl; small = omega arith }

pub returns-in_err-param-clause-gives : goal.returns-in_err-param-clause-gives
returns-in_err-param-clause-gives g c =
    let h = parameters_stops (nest c.args.self.now.room) (words_of c.args.words.now) (record { tree = c.loop-turn.all; height = c.loop-turn.height }) 1048577 c.loop-turn._turn c.loop-turn.place c.loop-turn-test.true c.in_err-param.field-0.0 c.in_err-param.ensures.gives in
    let stopped = rw (← c.loop-turn.invariant.same) at h in
    first_of (search rules, grind (arith, common_steps))

pub loop-turn-preserved : goal.loop-turn-preserved
loop-turn-preserved g c =
    let e = parameters_next (nest c.args.self.now.room) (words_of c.args.words.now) (record { tree = c.loop-turn.all; height = c.loop-turn.height }) 1048577 c.loop-turn._turn c.loop-turn.place c.parameter.new.place c.in_ok-param.param
    c.loop-turn-test.true c.in_ok-param.ensures.gives (grind (arith, common_steps)) (grind (arith, common_steps)) in
    let old = c.loop-turn.invariant.same in
    let pushed = c.in_ok-push.ensures.ok in
    let highest = c.max-height.ensures in
    let small = c.in_ok-param.ensures.within in
    record { same = grind (arith, common_steps); plain = c.loop-turn.invariant.plain; small = grind (arith, common_steps) }

pub returns-clause-gives : goal.returns-clause-gives
returns-clause-gives g c = elim c.loop-turn-test.branch [
  | else-loop-turn-test w ↦
      let e = parameters_over (nest c.args.self.now.room) (words_of c.args.words.now) (record { tree = c.loop-turn.all; height = c.loop-turn.height }) 1048577 c.loop-turn._turn c.loop-turn.place w.loop-turn-test.false in
      let old = c.loop-turn.invariant.same in
      let plain = c.loop-turn.invariant.plain in
      grind (arith, common_steps, w.place-is, w.all-is, w.height-is, w.variadic-is)
  | then-loop-turn-test+in_ok-param+in_ok-push+then-not-is_comma w ↦
      let e = parameters_last (nest c.args.self.now.room) (words_of c.args.words.now) (record { tree = c.loop-turn.all; height = c.loop-turn.height }) 1048577 c.loop-turn._turn c.loop-turn.place w.parameter.new.place w.in_ok-param.param w.loop-turn-test.true w.in_ok-param.ensures.gives
      (grind (arith, common_steps, w.sign.ensures, w.is_comma.ensures, w.if-not-is_comma)) in
      let old = c.loop-turn.invariant.same in
      let plain = c.loop-turn.invariant.plain in
      grind (arith, common_steps, w.place-is, w.all-is, w.height-is, w.variadic-is, w.in_ok-push.ensures.ok, w.max-height.ensures)
  | then-loop-turn-test+in_ok-param+in_ok-push+else-not-is_comma+then-is_ellipsis w ↦
      let e = parameters_dots (nest c.args.self.now.room) (words_of c.args.words.now) (record { tree = c.loop-turn.all; height = c.loop-turn.height }) 1048577 c.loop-turn._turn c.loop-turn.place w.parameter.new.place w.in_ok-param.param w.loop-turn-test.true w.in_ok-param.ensures.gives
      (grind (arith, common_steps, w.sign.ensures, w.is_comma.ensures, w.if-not-is_comma))
      (grind (arith, common_steps, w.skip.ensures, w.sign-in-loop-turn.ensures, w.is_ellipsis.ensures, w.if-is_ellipsis)) in
      let old = c.loop-turn.invariant.same in
      grind (arith, common_steps, w.place-is, w.all-is, w.height-is, w.variadic-is, w.skip.ensures, w.skip-then-is_ellipsis.ensures, w.in_ok-push.ensures.ok, w.max-height.ensures)
]

pub returns-clause-within : goal.returns-clause-within
returns-clause-within g c = elim c.loop-turn-test.branch [
  | else-loop-turn-test w ↦ omega (arith, w.height-is, c.loop-turn.invariant.small)
  | then-loop-turn-test+in_ok-param+in_ok-push+then-not-is_comma w ↦ omega (arith, w.height-is, w.max-height.ensures, w.in_ok-param.ensures.within, c.loop-turn.invariant.small)
  | then-loop-turn-test+in_ok-param+in_ok-push+else-not-is_comma+then-is_ellipsis w ↦ omega (arith, w.height-is, w.max-height.ensures, w.in_ok-param.ensures.within, c.loop-turn.invariant.small)
]

use Rattle.std.proofs.Common.{rules, arith, ◌≡◌, ◌-◌, ◌∙◌, false}
use Rattle.std.proofs.lemmas.Grind.{common_steps}
use Rattle.c_input.specs.Input.{look_at}
use Rattle.c_expressions.specs.Levels.{nest}
use Rattle.c_input.specs.Words.{words_of}
use Rattle.c_input.specs.Signs.{is_no_close_brace}
use Rattle.c_input.proofs.Lists.{add_tree, next, stops, ended, over, begun, begun_stops}
use Rattle.c_expressions.proofs.nest.Grammar.lines.Goals as goal
use Rattle.c_expressions.proofs.nest.Grammar.lines.Goals.{else-loop-turn-test, then-loop-turn-test+then-not-is_no_close_brace}

pub loop-turn-init : goal.loop-turn-init
loop-turn-init g c =
    let e = begun (words_of c.args.words.now) is_no_close_brace (nest c.args.self.now.room).line c.args.place.now c.line.new.place c.in_ok-line.line c.in_ok-line.ensures.gives in
    let pushed = c.in_ok-push.ensures.ok in
    let none = c.new-all.ensures in
    let small = c.in_ok-line.ensures.within in
    record { same = grind (arith, common_steps); small = omega arith }

pub loop-turn-preserved : goal.loop-turn-preserved
loop-turn-preserved g c =
    let more = c.is_no_close_brace.ensures in
    let e = next add_tree (words_of c.args.words.now) is_no_close_brace (nest c.args.self.now.room).line (record { tree = c.loop-turn.all; height = c.loop-turn.height }) 1048577 c.loop-turn._turn c.loop-turn.place c.line-in-loop-turn.new.place c.in_ok-line-2.line
    c.loop-turn-test.true (grind (arith, common_steps)) (grind (arith, common_steps)) in
    let old = c.loop-turn.invariant.same in
    let pushed = c.in_ok-push-2.ensures.ok in
    let highest = c.max-height.ensures in
    let small = c.in_ok-line-2.ensures.within in
    record { same = grind (arith, common_steps); small = grind (arith, common_steps) }

pub returns-in_err-line-2-clause-gives : goal.returns-in_err-line-2-clause-gives
returns-in_err-line-2-clause-gives g c =
    let h = stops add_tree (words_of c.args.words.now) is_no_close_brace (nest c.args.self.now.room).line (record { tree = c.loop-turn.all; height = c.loop-turn.height }) 1048577 c.loop-turn._turn c.loop-turn.place
    c.loop-turn-test.true (grind (arith, common_steps)) c.in_err-line-2.field-0.0 (grind (arith, common_steps)) in
    let stopped = rw (← c.loop-turn.invariant.same) at h in
    first_of (search rules, grind (arith, common_steps))

pub returns-in_err-line-clause-gives : goal.returns-in_err-line-clause-gives
returns-in_err-line-clause-gives g c =
    let stopped = begun_stops (words_of c.args.words.now) is_no_close_brace ((nest c.args.self.now.room).line) c.args.place.now c.in_err-line.field-0.0 c.in_err-line.ensures.gives in
    first_of (search rules, grind (arith, common_steps))

pub returns-clause-gives : goal.returns-clause-gives
returns-clause-gives g c = elim c.loop-turn-test.branch [
  | else-loop-turn-test w ↦ c.loop-turn.invariant.same ∙ over add_tree (words_of c.args.words.now) is_no_close_brace ((nest c.args.self.now.room).line) (record { tree = c.loop-turn.all; height = c.loop-turn.height }) 1048577 c.loop-turn._turn c.loop-turn.place w.loop-turn-test.false
  | then-loop-turn-test+then-not-is_no_close_brace w ↦
      let none : is_no_close_brace (look_at (words_of c.args.words.now) c.loop-turn.place) ≡ false = grind (arith, common_steps, w.sign.ensures, w.is_no_close_brace.ensures, w.if-not-is_no_close_brace) in
      c.loop-turn.invariant.same ∙ ended add_tree (words_of c.args.words.now) is_no_close_brace ((nest c.args.self.now.room).line) (record { tree = c.loop-turn.all; height = c.loop-turn.height }) (1048577 - c.loop-turn._turn) c.loop-turn.place none
]

use Rattle.std.proofs.Common.{rules, arith}
use Rattle.std.proofs.lemmas.Grind.{common_steps}
use Rattle.c_expressions.specs.Levels.{nest}
use Rattle.c_expressions.specs.Specifiers.{enumerator}
use Rattle.c_input.specs.Words.{words_of}
use Rattle.c_input.specs.Signs.{is_comma, is_close_brace}
use Rattle.c_input.proofs.Lists.{add_tree, begun_trailed, trailing_next, trailing_stops, trailing_end, trailing_last, trailing_over}
use Rattle.c_expressions.proofs.nest.Grammar.enumerator_list.Goals as goal
use Rattle.c_expressions.proofs.nest.Grammar.enumerator_list.Goals.{else-loop-turn-test, then-loop-turn-test+in_ok-enumerator+in_ok-push+then-not-is_comma, then-loop-turn-test+in_ok-enumerator+in_ok-push+else-not-is_comma+then-is_close_brace}

pub loop-turn-init : goal.loop-turn-init
loop-turn-init g c =
    let e = begun_trailed (words_of c.args.words.now) is_comma is_close_brace (enumerator (nest c.args.self.now.room)) c.args.place.now in
    let none = c.new-all.ensures in
    record { same = grind (arith, common_steps); small = omega arith }

pub returns-in_err-enumerator-clause-gives : goal.returns-in_err-enumerator-clause-gives
returns-in_err-enumerator-clause-gives g c =
    let h = trailing_stops add_tree (words_of c.args.words.now) is_comma is_close_brace (enumerator (nest c.args.self.now.room)) (record { tree = c.loop-turn.all; height = c.loop-turn.height }) 1048577 c.loop-turn._turn c.loop-turn.place c.loop-turn-test.true c.in_err-enumerator.field-0.0 c.in_err-enumerator.ensures.gives in
    let stopped = rw (← c.loop-turn.invariant.same) at h in
    first_of (search rules, grind (arith, common_steps))

pub loop-turn-preserved : goal.loop-turn-preserved
loop-turn-preserved g c =
    let e = trailing_next add_tree (words_of c.args.words.now) is_comma is_close_brace (enumerator (nest c.args.self.now.room)) (record { tree = c.loop-turn.all; height = c.loop-turn.height }) 1048577 c.loop-turn._turn c.loop-turn.place c.enumerator.new.place c.in_ok-enumerator.enumerator
    c.loop-turn-test.true c.in_ok-enumerator.ensures.gives (grind (arith, common_steps)) (grind (arith, common_steps)) in
    let old = c.loop-turn.invariant.same in
    let pushed = c.in_ok-push.ensures.ok in
    let highest = c.max-height.ensures in
    let small = c.in_ok-enumerator.ensures.within in
    record { same = grind (arith, common_steps); small = grind (arith, common_steps) }

pub returns-clause-gives : goal.returns-clause-gives
returns-clause-gives g c = elim c.loop-turn-test.branch [
  | else-loop-turn-test w ↦
      let e = trailing_over add_tree (words_of c.args.words.now) is_comma is_close_brace (enumerator (nest c.args.self.now.room)) (record { tree = c.loop-turn.all; height = c.loop-turn.height }) 1048577 c.loop-turn._turn c.loop-turn.place w.loop-turn-test.false in
      let old = c.loop-turn.invariant.same in
      grind (arith, common_steps, w.place-is, w.all-is, w.height-is)
  | then-loop-turn-test+in_ok-enumerator+in_ok-push+then-not-is_comma w ↦
      let e = trailing_last add_tree (words_of c.args.words.now) is_comma is_close_brace (enumerator (nest c.args.self.now.room)) (record { tree = c.loop-turn.all; height = c.loop-turn.height }) 1048577 c.loop-turn._turn c.loop-turn.place w.enumerator.new.place w.in_ok-enumerator.enumerator w.loop-turn-test.true w.in_ok-enumerator.ensures.gives
      (grind (arith, common_steps, w.sign.ensures, w.is_comma.ensures, w.if-not-is_comma)) in
      let old = c.loop-turn.invariant.same in
      grind (arith, common_steps, w.place-is, w.all-is, w.height-is, w.in_ok-push.ensures.ok, w.max-height.ensures)
  | then-loop-turn-test+in_ok-enumerator+in_ok-push+else-not-is_comma+then-is_close_brace w ↦
      let e = trailing_end add_tree (words_of c.args.words.now) is_comma is_close_brace (enumerator (nest c.args.self.now.room)) (record { tree = c.loop-turn.all; height = c.loop-turn.height }) 1048577 c.loop-turn._turn c.loop-turn.place w.enumerator.new.place w.in_ok-enumerator.enumerator w.loop-turn-test.true w.in_ok-enumerator.ensures.gives
      (grind (arith, common_steps, w.sign.ensures, w.is_comma.ensures, w.if-not-is_comma))
      (grind (arith, common_steps, w.skip.ensures, w.sign-in-loop-turn.ensures, w.is_close_brace.ensures, w.if-is_close_brace)) in
      let old = c.loop-turn.invariant.same in
      grind (arith, common_steps, w.place-is, w.all-is, w.height-is, w.skip.ensures, w.in_ok-push.ensures.ok, w.max-height.ensures)
]

pub returns-clause-within : goal.returns-clause-within
returns-clause-within g c = elim c.loop-turn-test.branch [
  | else-loop-turn-test w ↦ omega (arith, w.height-is, c.loop-turn.invariant.small)
  | then-loop-turn-test+in_ok-enumerator+in_ok-push+then-not-is_comma w ↦ omega (arith, w.height-is, w.max-height.ensures, w.in_ok-enumerator.ensures.within, c.loop-turn.invariant.small)
  | then-loop-turn-test+in_ok-enumerator+in_ok-push+else-not-is_comma+then-is_close_brace w ↦ omega (arith, w.height-is, w.max-height.ensures, w.in_ok-enumerator.ensures.within, c.loop-turn.invariant.small)
]

use Rattle.std.proofs.Common.{arith, ◌≡◌, ◌-◌, ◌∙◌, false}
use Rattle.std.proofs.lemmas.Grind.{common_steps}
use Rattle.c_input.specs.Input.{look_at}
use Rattle.c_input.specs.Parser.{skip}
use Rattle.c_expressions.specs.Expressions.{is_str, strings}
use Rattle.c_input.specs.Words.{words_of}
use Rattle.c_input.proofs.Lists.{count_one, next, ended, over, begun_count}
use Rattle.c_expressions.proofs.operands.strings.Goals as goal

pub loop-turn-init : goal.loop-turn-init
unfolding strings
loop-turn-init c = record { same = begun_count (words_of c.args.words.now) is_str skip c.args.place.now; below = omega arith; small = omega arith }

pub loop-turn-preserved : goal.loop-turn-preserved
loop-turn-preserved c =
    let e = next count_one (words_of c.args.words.now) is_str skip c.loop-turn.count 1048577 c.loop-turn._turn c.loop-turn.place c.skip.new.place tt
    c.loop-turn-test.true (grind (arith, common_steps)) (grind (arith, common_steps)) in
    let old = c.loop-turn.invariant.same in
    record { same = grind (arith, common_steps); below = omega arith; small = omega arith }

pub returns-after-loop-turn-clause-gives : goal.returns-after-loop-turn-clause-gives
returns-after-loop-turn-clause-gives c =
    c.loop-turn.invariant.same ∙ over count_one (words_of c.args.words.now) is_str skip c.loop-turn.count 1048577 c.loop-turn._turn c.loop-turn.place c.loop-turn-test.false

pub returns-then-not-is_str-clause-gives : goal.returns-then-not-is_str-clause-gives
returns-then-not-is_str-clause-gives c =
    let none : is_str (look_at (words_of c.args.words.now) c.loop-turn.place) ≡ false = grind (arith, common_steps) in
    c.loop-turn.invariant.same ∙ ended count_one (words_of c.args.words.now) is_str skip c.loop-turn.count (1048577 - c.loop-turn._turn) c.loop-turn.place none

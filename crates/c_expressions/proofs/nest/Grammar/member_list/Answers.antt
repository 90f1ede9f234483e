use Rattle.std.proofs.Common.{rules, arith, ◌≡◌, suc, ◌-◌, ◌∙◌, false}
use Rattle.std.proofs.lemmas.Grind.{common_steps}
use Rattle.c_expressions.specs.Specifiers.{member}
use Rattle.c_input.specs.Parser.{skip, ◌>>◌}
use Rattle.c_input.specs.Input.{look_at}
use Rattle.c_expressions.specs.Levels.{nest}
use Rattle.c_input.specs.Words.{words_of}
use Rattle.c_input.specs.Signs.{is_comma}
use Rattle.c_input.proofs.Lists.{add_tree, next, stops, ended, over, begun_separated, begun_separated_stops}
use Rattle.c_expressions.proofs.nest.Grammar.member_list.Goals as goal
use Rattle.c_expressions.proofs.nest.Grammar.member_list.Goals.{else-loop-turn-test, then-loop-turn-test+then-not-is_comma}

pub loop-turn-init : goal.loop-turn-init
loop-turn-init g c =
    let e = begun_separated (words_of c.args.words.now) is_comma (member (nest c.args.self.now.room) (suc c.args.self.now.room)) c.args.place.now c.member.new.place c.in_ok-member.member c.in_ok-member.ensures.gives in
    let pushed = c.in_ok-push.ensures.ok in
    let none = c.new-all.ensures in
    let small = c.in_ok-member.ensures.within in
    record { same = grind (arith, common_steps); small = omega arith }

pub loop-turn-preserved : goal.loop-turn-preserved
loop-turn-preserved g c =
    let more = c.is_comma.ensures in
    let e = next add_tree (words_of c.args.words.now) is_comma (skip >> (member (nest c.args.self.now.room) (suc c.args.self.now.room))) (record { tree = c.loop-turn.all; height = c.loop-turn.height }) 1048577 c.loop-turn._turn c.loop-turn.place c.member-in-loop-turn.new.place c.in_ok-member-2.member
    c.loop-turn-test.true (grind (arith, common_steps)) (grind (arith, common_steps)) in
    let old = c.loop-turn.invariant.same in
    let pushed = c.in_ok-push-2.ensures.ok in
    let highest = c.max-height.ensures in
    let small = c.in_ok-member-2.ensures.within in
    record { same = grind (arith, common_steps); small = grind (arith, common_steps) }

pub returns-in_err-member-2-clause-gives : goal.returns-in_err-member-2-clause-gives
returns-in_err-member-2-clause-gives g c =
    let h = stops add_tree (words_of c.args.words.now) is_comma (skip >> (member (nest c.args.self.now.room) (suc c.args.self.now.room))) (record { tree = c.loop-turn.all; height = c.loop-turn.height }) 1048577 c.loop-turn._turn c.loop-turn.place
    c.loop-turn-test.true (grind (arith, common_steps)) c.in_err-member-2.field-0.0 (grind (arith, common_steps)) in
    let stopped = rw (← c.loop-turn.invariant.same) at h in
    first_of (search rules, grind (arith, common_steps))

pub returns-in_err-member-clause-gives : goal.returns-in_err-member-clause-gives
returns-in_err-member-clause-gives g c =
    let stopped = begun_separated_stops (words_of c.args.words.now) is_comma (member (nest c.args.self.now.room) (suc c.args.self.now.room)) c.args.place.now c.in_err-member.field-0.0 c.in_err-member.ensures.gives in
    first_of (search rules, grind (arith, common_steps))

pub returns-clause-gives : goal.returns-clause-gives
returns-clause-gives g c = elim c.loop-turn-test.branch [
  | else-loop-turn-test w ↦ c.loop-turn.invariant.same ∙ over add_tree (words_of c.args.words.now) is_comma (skip >> (member (nest c.args.self.now.room) (suc c.args.self.now.room))) (record { tree = c.loop-turn.all; height = c.loop-turn.height }) 1048577 c.loop-turn._turn c.loop-turn.place w.loop-turn-test.false
  | then-loop-turn-test+then-not-is_comma w ↦
      let none : is_comma (look_at (words_of c.args.words.now) c.loop-turn.place) ≡ false = grind (arith, common_steps, w.sign.ensures, w.is_comma.ensures, w.if-not-is_comma) in
      c.loop-turn.invariant.same ∙ ended add_tree (words_of c.args.words.now) is_comma (skip >> (member (nest c.args.self.now.room) (suc c.args.self.now.room))) (record { tree = c.loop-turn.all; height = c.loop-turn.height }) (1048577 - c.loop-turn._turn) c.loop-turn.place none
]

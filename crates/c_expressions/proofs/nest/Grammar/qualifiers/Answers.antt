use Rattle.std.proofs.Common.{arith, ◌≡◌, ◌-◌, ◌∙◌, false, refl}
use Rattle.std.proofs.lemmas.Grind.{common_steps}
use Rattle.c_input.specs.Input.{look_at, step}
use Rattle.c_expressions.specs.Declarators.{is_qualifier, taken, qualifiers}
use Rattle.c_input.specs.Words.{words_of}
use Rattle.c_input.proofs.Lists.{add_item, next, ended, over, begun_many}
use Rattle.c_expressions.proofs.nest.Grammar.qualifiers.Goals as goal
use Rattle.c_expressions.proofs.nest.Grammar.qualifiers.Goals.{else-loop-turn-test, then-loop-turn-test+then-not-is_qualifier}

pub loop-turn-init : goal.loop-turn-init
unfolding qualifiers
loop-turn-init g c =
    let e = begun_many (words_of c.args.words.now) is_qualifier taken c.args.place.now in
    let none = c.new-all.ensures in
    grind (arith, common_steps)

pub loop-turn-preserved : goal.loop-turn-preserved
loop-turn-preserved g c =
    let e = next add_item (words_of c.args.words.now) is_qualifier taken c.loop-turn.all 1048577 c.loop-turn._turn c.loop-turn.place (step c.loop-turn.place) c.loop-turn.place.at
    c.loop-turn-test.true (grind (arith, common_steps)) refl in
    let old = c.loop-turn.invariant in
    let pushed = c.in_ok-push.ensures.ok in
    let taken = c.skip.ensures in
    grind (arith, common_steps)

pub returns : goal.returns
returns g c = record {
  gives = elim c.loop-turn-test.branch [
    | else-loop-turn-test w ↦ c.loop-turn.invariant ∙ over add_item (words_of c.args.words.now) is_qualifier taken c.loop-turn.all 1048577 c.loop-turn._turn c.loop-turn.place w.loop-turn-test.false
    | then-loop-turn-test+then-not-is_qualifier w ↦
        let none : is_qualifier (look_at (words_of c.args.words.now) c.loop-turn.place) ≡ false = grind (arith, common_steps, w.sign.ensures, w.is_qualifier.ensures, w.if-not-is_qualifier) in
        c.loop-turn.invariant ∙ ended add_item (words_of c.args.words.now) is_qualifier taken c.loop-turn.all (1048577 - c.loop-turn._turn) c.loop-turn.place none
  ];
}

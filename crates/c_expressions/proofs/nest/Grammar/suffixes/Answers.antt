use Rattle.std.proofs.Common.{rules, arith, suc, ap, ◌≡◌, ◌+◌, ◌-◌}
use Rattle.std.proofs.lemmas.Grind.{common_steps}
use Rattle.std.proofs.lemmas.Bool.Decides.{nat_tests}
use Rattle.c_expressions.specs.Levels.{nest}
use Rattle.c_input.specs.Parser.{too_deep_here}
use Rattle.c_expressions.specs.Declarators.{suffixes}
use Rattle.c_input.specs.Words.{words_of}
use Rattle.c_input.proofs.Turns.{one_more, no_more}
use Rattle.c_expressions.proofs.nest.Grammar.suffixes.Goals as goal

pub loop-turn-init : goal.loop-turn-init
loop-turn-init g c =
    let e : suc c.args.self.now.room ≡ c.args.self.now.room + 1 - 0 = omega arith in
    record {
      same = ap (λ n. suffixes (nest c.args.self.now.room) (suc c.args.self.now.room) n c.args.at c.args.d (words_of c.args.words.now) c.args.place.now) e;
      small = c.requires.fits;
    }

pub returns-then-not-goes_on-clause-gives : goal.returns-then-not-goes_on-clause-gives
unfolding suffixes too_deep_here
returns-then-not-goes_on-clause-gives g c =
    let e = one_more (λ n. suffixes (nest c.args.self.now.room) (suc c.args.self.now.room) n c.args.at c.loop-turn.d (words_of c.args.words.now) c.loop-turn.place) _ c.loop-turn._turn c.loop-turn-test.true c.loop-turn.invariant.same in
    first_of (search rules, grind (arith, common_steps, nat_tests))

pub returns-then-d-self-clause-gives : goal.returns-then-d-self-clause-gives
unfolding suffixes too_deep_here
returns-then-d-self-clause-gives g c =
    let e = one_more (λ n. suffixes (nest c.args.self.now.room) (suc c.args.self.now.room) n c.args.at c.loop-turn.d (words_of c.args.words.now) c.loop-turn.place) _ c.loop-turn._turn c.loop-turn-test.true c.loop-turn.invariant.same in
    first_of (search rules, grind (arith, common_steps, nat_tests))

pub returns-in_err-d-clause-gives : goal.returns-in_err-d-clause-gives
unfolding suffixes too_deep_here
returns-in_err-d-clause-gives g c =
    let e = one_more (λ n. suffixes (nest c.args.self.now.room) (suc c.args.self.now.room) n c.args.at c.loop-turn.d (words_of c.args.words.now) c.loop-turn.place) _ c.loop-turn._turn c.loop-turn-test.true c.loop-turn.invariant.same in
    first_of (search rules, grind (arith, common_steps, nat_tests))

pub loop-turn-preserved : goal.loop-turn-preserved
unfolding suffixes too_deep_here
loop-turn-preserved g c =
    let e = one_more (λ n. suffixes (nest c.args.self.now.room) (suc c.args.self.now.room) n c.args.at c.loop-turn.d (words_of c.args.words.now) c.loop-turn.place) _ c.loop-turn._turn c.loop-turn-test.true c.loop-turn.invariant.same in
    first_of (search rules, grind (arith, common_steps, nat_tests))

pub returns-then-goes_on-clause-gives : goal.returns-then-goes_on-clause-gives
unfolding suffixes too_deep_here
returns-then-goes_on-clause-gives g c =
    let e = no_more (λ n. suffixes (nest c.args.self.now.room) (suc c.args.self.now.room) n c.args.at c.loop-turn.d (words_of c.args.words.now) c.loop-turn.place) _ c.loop-turn._turn c.loop-turn-test.false c.loop-turn.invariant.same in
    first_of (search rules, grind (arith, common_steps, nat_tests))

pub returns-else-goes_on-clause-gives : goal.returns-else-goes_on-clause-gives
unfolding suffixes too_deep_here
returns-else-goes_on-clause-gives g c =
    let e = no_more (λ n. suffixes (nest c.args.self.now.room) (suc c.args.self.now.room) n c.args.at c.loop-turn.d (words_of c.args.words.now) c.loop-turn.place) _ c.loop-turn._turn c.loop-turn-test.false c.loop-turn.invariant.same in
    first_of (search rules, grind (arith, common_steps, nat_tests))

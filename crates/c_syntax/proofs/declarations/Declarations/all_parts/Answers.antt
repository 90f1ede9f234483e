use Rattle.std.proofs.Common.{◌≡◌, true, false, rules, arith}
use Rattle.std.proofs.lemmas.Grind.{common_steps}
use Rattle.c_input.specs.Input.{look_at}
use Rattle.c_input.specs.Words.{words_of}
use Rattle.c_input.specs.Signs.{is_comma}
use Rattle.c_syntax.specs.Declarations.{all_parts, next_part}
use Rattle.c_syntax.specs.Initialisers.{inits_within}
use Rattle.c_input.proofs.Rows.{begun_with, ended, over, next, stops}
use Rattle.c_syntax.proofs.declarations.Declarations.all_parts.Goals as goal

pub loop-turn-init : goal.loop-turn-init
unfolding all_parts
loop-turn-init c = rw (c.in_ok-push.ensures.ok, c.new-parts.ensures) (begun_with (words_of c.args.words.now) is_comma (next_part (inits_within c.args.self.now.room) c.args.is_typedef) c.args.first c.args.place.now)

pub returns-then-not-is_comma : goal.returns-then-not-is_comma
returns-then-not-is_comma c =
    let f : is_comma (look_at (words_of c.args.words.now) c.loop-turn.place) ≡ false = first_of (search rules, grind (arith, common_steps)) in
    record { gives = ended (words_of c.args.words.now) is_comma (next_part (inits_within c.args.self.now.room) c.args.is_typedef) (all_parts (inits_within c.args.self.now.room) c.args.is_typedef c.args.first (words_of c.args.words.now) c.args.place.now) c.loop-turn.parts c.loop-turn._turn c.loop-turn.place c.loop-turn.invariant c.loop-turn-test.true f }

pub returns-in_err-part : goal.returns-in_err-part
returns-in_err-part c =
    let m : is_comma (look_at (words_of c.args.words.now) c.loop-turn.place) ≡ true = first_of (search rules, grind (arith, common_steps)) in
    let stopped = stops (words_of c.args.words.now) is_comma (next_part (inits_within c.args.self.now.room) c.args.is_typedef) (all_parts (inits_within c.args.self.now.room) c.args.is_typedef c.args.first (words_of c.args.words.now) c.args.place.now) c.loop-turn.parts c.loop-turn._turn c.loop-turn.place c.loop-turn.invariant c.loop-turn-test.true m c.in_err-part.field-0.0 c.in_err-part.ensures.gives in
    first_of (search rules, grind (arith, common_steps))

pub loop-turn-preserved : goal.loop-turn-preserved
loop-turn-preserved c =
    let m : is_comma (look_at (words_of c.args.words.now) c.loop-turn.place) ≡ true = first_of (search rules, grind (arith, common_steps)) in
    let e = next (words_of c.args.words.now) is_comma (next_part (inits_within c.args.self.now.room) c.args.is_typedef) (all_parts (inits_within c.args.self.now.room) c.args.is_typedef c.args.first (words_of c.args.words.now) c.args.place.now) c.loop-turn.parts c.loop-turn._turn c.loop-turn.place c.next_part.new.place c.in_ok-part.part c.loop-turn.invariant c.loop-turn-test.true m c.in_ok-part.ensures.gives in
    rw c.in_ok-push-2.ensures.ok e

pub returns : goal.returns
returns c = record { gives = over (words_of c.args.words.now) is_comma (next_part (inits_within c.args.self.now.room) c.args.is_typedef) (all_parts (inits_within c.args.self.now.room) c.args.is_typedef c.args.first (words_of c.args.words.now) c.args.place.now) c.loop-turn.parts c.loop-turn._turn c.loop-turn.place c.loop-turn.invariant c.loop-turn-test.false }

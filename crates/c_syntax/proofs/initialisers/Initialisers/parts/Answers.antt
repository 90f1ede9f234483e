use Rattle.std.proofs.Common.{◌≡◌, true, false, rules, arith}
use Rattle.std.proofs.lemmas.Grind.{common_steps}
use Rattle.c_input.specs.Input.{look_at}
use Rattle.c_syntax.specs.Initialisers.{init_parts, inits_within, part}
use Rattle.c_input.specs.Words.{words_of}
use Rattle.c_input.specs.Signs.{is_comma, is_close_brace}
use Rattle.c_input.proofs.Rows.{first, refused, last, last_comma, again, done}
use Rattle.c_syntax.proofs.initialisers.Initialisers.parts.Goals as goal

pub loop-turn-init : goal.loop-turn-init
unfolding init_parts
loop-turn-init g c = rw c.new-parts.ensures (first (words_of c.args.words.now) is_comma is_close_brace (part (inits_within c.args.self.now.room)) c.args.place.now)

pub returns-in_err-part : goal.returns-in_err-part
returns-in_err-part g c =
    let stopped = refused (words_of c.args.words.now) is_comma is_close_brace (part (inits_within c.args.self.now.room)) (init_parts (inits_within c.args.self.now.room) (words_of c.args.words.now) c.args.place.now)
    c.loop-turn.parts c.loop-turn._turn c.loop-turn.place c.loop-turn.invariant c.loop-turn-test.true c.in_err-part.field-0.0 c.in_err-part.ensures.gives in
    first_of (search rules, grind (arith, common_steps))

pub returns-then-not-is_comma : goal.returns-then-not-is_comma
returns-then-not-is_comma g c =
    let f : is_comma (look_at (words_of c.args.words.now) c.part.new.place) ≡ false = first_of (search rules, grind (arith, common_steps)) in
    let e = last (words_of c.args.words.now) is_comma is_close_brace (part (inits_within c.args.self.now.room)) (init_parts (inits_within c.args.self.now.room) (words_of c.args.words.now) c.args.place.now)
    c.loop-turn.parts c.loop-turn._turn c.loop-turn.place c.part.new.place c.in_ok-part.part c.loop-turn.invariant c.loop-turn-test.true c.in_ok-part.ensures.gives f in
    record { gives = rw c.in_ok-push.ensures.ok e }

pub returns-then-is_close_brace : goal.returns-then-is_close_brace
returns-then-is_close_brace g c =
    let m : is_comma (look_at (words_of c.args.words.now) c.part.new.place) ≡ true = first_of (search rules, grind (arith, common_steps)) in
    let f = rw c.skip.ensures at c.sign-in-loop-turn.ensures in
    let e = last_comma (words_of c.args.words.now) is_comma is_close_brace (part (inits_within c.args.self.now.room)) (init_parts (inits_within c.args.self.now.room) (words_of c.args.words.now) c.args.place.now)
    c.loop-turn.parts c.loop-turn._turn c.loop-turn.place c.part.new.place c.in_ok-part.part c.loop-turn.invariant c.loop-turn-test.true c.in_ok-part.ensures.gives m (first_of (search rules, grind (arith, common_steps))) in
    record { gives = rw (c.in_ok-push.ensures.ok, c.skip.ensures) e }

pub loop-turn-preserved : goal.loop-turn-preserved
loop-turn-preserved g c =
    let m : is_comma (look_at (words_of c.args.words.now) c.part.new.place) ≡ true = first_of (search rules, grind (arith, common_steps)) in
    let f = rw c.skip.ensures at c.sign-in-loop-turn.ensures in
    let e = again (words_of c.args.words.now) is_comma is_close_brace (part (inits_within c.args.self.now.room)) (init_parts (inits_within c.args.self.now.room) (words_of c.args.words.now) c.args.place.now)
    c.loop-turn.parts c.loop-turn._turn c.loop-turn.place c.part.new.place c.in_ok-part.part c.loop-turn.invariant c.loop-turn-test.true c.in_ok-part.ensures.gives m (first_of (search rules, grind (arith, common_steps))) in
    rw (c.in_ok-push.ensures.ok, c.skip.ensures) e

pub returns : goal.returns
returns g c = record {
  gives = done (words_of c.args.words.now) is_comma is_close_brace (part (inits_within c.args.self.now.room)) (init_parts (inits_within c.args.self.now.room) (words_of c.args.words.now) c.args.place.now)
      c.loop-turn.parts c.loop-turn._turn c.loop-turn.place c.loop-turn.invariant c.loop-turn-test.false;
}

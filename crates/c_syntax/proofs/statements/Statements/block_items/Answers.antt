use Rattle.std.proofs.Common.{◌≡◌, true, false, rules, arith}
use Rattle.std.proofs.lemmas.Grind.{common_steps}
use Rattle.c_input.specs.Input.{look_at}
use Rattle.c_input.specs.Words.{words_of}
use Rattle.c_input.specs.Signs.{is_no_close_brace}
use Rattle.c_syntax.specs.Statements.{block_items, block_item, parts_within}
use Rattle.c_input.proofs.Rows.{begun, ended, over, next, stops}
use Rattle.c_syntax.proofs.statements.Statements.block_items.Goals as goal

pub loop-turn-init : goal.loop-turn-init
unfolding block_items
loop-turn-init g c = rw c.new-items.ensures (begun (words_of c.args.words.now) is_no_close_brace (block_item (parts_within c.args.self.now.room)) c.args.place.now)

pub returns-then-not-is_no_close_brace : goal.returns-then-not-is_no_close_brace
returns-then-not-is_no_close_brace g c =
    let f : is_no_close_brace (look_at (words_of c.args.words.now) c.loop-turn.place) ≡ false = first_of (search rules, grind (arith, common_steps)) in
    record { gives = ended (words_of c.args.words.now) is_no_close_brace (block_item (parts_within c.args.self.now.room)) (block_items (parts_within c.args.self.now.room) (words_of c.args.words.now) c.args.place.now) c.loop-turn.items c.loop-turn._turn c.loop-turn.place c.loop-turn.invariant c.loop-turn-test.true f }

pub returns-in_err-item : goal.returns-in_err-item
returns-in_err-item g c =
    let m : is_no_close_brace (look_at (words_of c.args.words.now) c.loop-turn.place) ≡ true = first_of (search rules, grind (arith, common_steps)) in
    let stopped = stops (words_of c.args.words.now) is_no_close_brace (block_item (parts_within c.args.self.now.room)) (block_items (parts_within c.args.self.now.room) (words_of c.args.words.now) c.args.place.now) c.loop-turn.items c.loop-turn._turn c.loop-turn.place c.loop-turn.invariant c.loop-turn-test.true m c.in_err-item.field-0.0 c.in_err-item.ensures.gives in
    first_of (search rules, grind (arith, common_steps))

pub loop-turn-preserved : goal.loop-turn-preserved
loop-turn-preserved g c =
    let m : is_no_close_brace (look_at (words_of c.args.words.now) c.loop-turn.place) ≡ true = first_of (search rules, grind (arith, common_steps)) in
    let e = next (words_of c.args.words.now) is_no_close_brace (block_item (parts_within c.args.self.now.room)) (block_items (parts_within c.args.self.now.room) (words_of c.args.words.now) c.args.place.now) c.loop-turn.items c.loop-turn._turn c.loop-turn.place c.block_item.new.place c.in_ok-item.item c.loop-turn.invariant c.loop-turn-test.true m c.in_ok-item.ensures.gives in
    rw c.in_ok-push.ensures.ok e

pub returns : goal.returns
returns g c = record { gives = over (words_of c.args.words.now) is_no_close_brace (block_item (parts_within c.args.self.now.room)) (block_items (parts_within c.args.self.now.room) (words_of c.args.words.now) c.args.place.now) c.loop-turn.items c.loop-turn._turn c.loop-turn.place c.loop-turn.invariant c.loop-turn-test.false }

use Rattle.std.proofs.Common.{◌≡◌, true, false, rules, arith}
use Rattle.std.proofs.lemmas.Grind.{common_steps}
use Rattle.c_input.specs.Input.{look_at}
use Rattle.c_input.specs.Words.{words_of}
use Rattle.c_syntax.specs.FileScope.{file_items, file_item, is_no_end, limit}
use Rattle.c_syntax.specs.Statements.{parts_within}
use Rattle.c_input.proofs.Rows.{begun, ended, over, next, stops}
use Rattle.c_syntax.proofs.file_scope.items.Goals as goal

pub loop-turn-init : goal.loop-turn-init
unfolding file_items
loop-turn-init c = rw c.new-items.ensures (begun (words_of c.args.words.now) is_no_end (file_item (parts_within limit)) c.args.place.now)

pub returns-then-not-is_no_end : goal.returns-then-not-is_no_end
returns-then-not-is_no_end c =
    let f : is_no_end (look_at (words_of c.args.words.now) c.loop-turn.place) ≡ false = first_of (search rules, grind (arith, common_steps)) in
    record { gives = ended (words_of c.args.words.now) is_no_end (file_item (parts_within limit)) (file_items (words_of c.args.words.now) c.args.place.now) c.loop-turn.items c.loop-turn._turn c.loop-turn.place c.loop-turn.invariant c.loop-turn-test.true f }

pub returns-in_err-item : goal.returns-in_err-item
returns-in_err-item c =
    let m : is_no_end (look_at (words_of c.args.words.now) c.loop-turn.place) ≡ true = first_of (search rules, grind (arith, common_steps)) in
    let stopped = stops (words_of c.args.words.now) is_no_end (file_item (parts_within limit)) (file_items (words_of c.args.words.now) c.args.place.now) c.loop-turn.items c.loop-turn._turn c.loop-turn.place c.loop-turn.invariant c.loop-turn-test.true m c.in_err-item.field-0.0 c.in_err-item.ensures.gives in
    first_of (search rules, grind (arith, common_steps))

pub loop-turn-preserved : goal.loop-turn-preserved
loop-turn-preserved c =
    let m : is_no_end (look_at (words_of c.args.words.now) c.loop-turn.place) ≡ true = first_of (search rules, grind (arith, common_steps)) in
    let e = next (words_of c.args.words.now) is_no_end (file_item (parts_within limit)) (file_items (words_of c.args.words.now) c.args.place.now) c.loop-turn.items c.loop-turn._turn c.loop-turn.place c.item.new.place c.in_ok-item.item c.loop-turn.invariant c.loop-turn-test.true m c.in_ok-item.ensures.gives in
    rw c.in_ok-push.ensures.ok e

pub returns : goal.returns
returns c = record { gives = over (words_of c.args.words.now) is_no_end (file_item (parts_within limit)) (file_items (words_of c.args.words.now) c.args.place.now) c.loop-turn.items c.loop-turn._turn c.loop-turn.place c.loop-turn.invariant c.loop-turn-test.false }

use Rattle.std.proofs.Common.{arith, length-drop}
use Rattle.std.proofs.lemmas.List.{take_rest}
use Rattle.eva_front.proofs.Reading.{put_more}
use Rattle.eva_front.proofs.streams.put_all.Goals as goal

pub writing-preserved : goal.writing-preserved
writing-preserved g c =
    let rest = take_rest c.args.text.now c.writing.done in
    let n = rw rest at c.in-Ok.ensures.within in
    let b = rw rest at c.in-Ok.ensures.bytes in
    let later = c.in-Ok.ensures.cause.later in
    let before = c.writing.invariant.later in
    record {
      within = omega (arith, n, length-drop c.writing.done c.args.text.now);
      written = put_more _ _ _ _ _ _ c.writing.invariant.written b;
      later = omega arith;
    }

use Rattle.std.proofs.Common.{◌∙◌, ap, arith}
use Rattle.ival.specs.Meet.{meet_of}
use Rattle.avalue.specs.Pointers.{offsets_at}
use Rattle.gathered_values.proofs.Gathering.{shared_next}
use Rattle.gathered_values.proofs.gather.shared_offsets.Goals as goal

pub loop-j-preserved : goal.loop-j-preserved
loop-j-preserved c = record {
  shared =
      c.meet-shared.ensures.value
      ∙ ap (meet_of c.loop-j.shared) (c.offsets_at.ensures.value ∙ ap (λ ps. offsets_at ps c.args.base) c.as_slice.ensures)
      ∙ shared_next c.args.bits.now c.args.base c.loop-j.j c.loop-j.shared c.index-bits-j.result (omega arith) c.loop-j.invariant.shared;
  formed = c.meet-shared.ensures.formed;
}

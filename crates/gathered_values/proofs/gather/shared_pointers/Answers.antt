use Rattle.std.proofs.Common.{◌∙◌, arith}
use Rattle.gathered_values.proofs.Gathering.{kept_all, kept_item, kept_none}
use Rattle.gathered_values.proofs.gather.shared_pointers.Goals as goal

pub loop-p-init : goal.loop-p-init
loop-p-init c = c.new-shared.ensures ∙ kept_none c.args.bits.now

pub loop-p-preserved : goal.loop-p-preserved
loop-p-preserved c =
    c.in_ok-shared.ensures.value
    ∙ kept_item c.args.bits.now c.args.first.now c.loop-p.shared c.loop-p.p-index c.p-item.result c.shared_offsets.result (grind arith) (grind (arith, c.p-item.is)) c.loop-p.invariant c.shared_offsets.ensures

pub returns-clause-value : goal.returns-clause-value
returns-clause-value c = kept_all c.args.bits.now c.args.first.now c.loop-p.shared c.loop-p.p-index c.requires.first (grind arith) c.loop-p.invariant

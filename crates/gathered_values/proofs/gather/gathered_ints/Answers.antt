use Rattle.std.proofs.Common.{◌∙◌, sym, refl, length, pos}
use Rattle.c_memory.specs.Cells.{number_of}
use Rattle.ival.specs.Forms.{has}
use Rattle.gathered_values.specs.Bits.{bit}
use Rattle.gathered_values.proofs.Gathering.{ints_any, ints_empty, ints_known}
use Rattle.gathered_values.proofs.gather.gathered_ints.Goals as goal

pub returns-then-any_empty : goal.returns-then-any_empty
returns-then-any_empty c = ints_empty c.args.bits.now (sym c.any_empty.ensures ∙ c.if-any_empty.true)

pub returns-then-all_known : goal.returns-then-all_known
returns-then-all_known c =
    c.known_number.ensures
    ∙ ints_known c.args.bits.now (number_of (λ j. has (bit c.args.bits.now j).ints (pos 1)) (length c.args.bits.now)) (sym c.any_empty.ensures ∙ c.if-any_empty.false) (sym c.all_known.ensures ∙ c.if-all_known.true) refl

pub returns : goal.returns
returns c = c.any_number.ensures.value ∙ ints_any c.args.bits.now (length c.args.bits.now) refl (sym c.any_empty.ensures ∙ c.if-any_empty.false) (sym c.all_known.ensures ∙ c.if-all_known.false)

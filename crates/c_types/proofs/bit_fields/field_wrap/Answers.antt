use Rattle.std.proofs.Common.{ap, arith, to_z, of_z}
use Rattle.c_types.specs.Integers.{is_signed}
use mir.Syntax.{w128}
use Rattle.std.proofs.lemmas.Int.{ints}
use Rattle.c_types.proofs.FieldLaws.{field_spans, one_in_range, field_converted, IsFieldConverted}
use Rattle.c_types.proofs.bit_fields.field_wrap.Goals as goal

pub residue-requires : goal.residue-requires
residue-requires c =
    let s = field_spans c.args.kind c.args.width c.requires.some c.requires.most in
    record {
      low = omega (arith, ints, c.field_range-least.ensures.least, s.low);
      zero_is_above = omega (arith, ints, c.field_range-least.ensures.least, s.zero_is_above);
      zero_is_below = omega (arith, ints, c.field_range-least.ensures.least, c.field_range-least.ensures.greatest, s.low, s.zero_is_above, s.zero_is_below, s.count, s.most);
      high = omega (arith, ints, c.field_range-least.ensures.least, c.field_range-least.ensures.greatest, s.low, s.zero_is_above, s.zero_is_below, s.count, s.most);
    }

pub returns-in_default : goal.returns-in_default
returns-in_default c =
    let s = field_spans c.args.kind c.args.width c.requires.some c.requires.most in
    let whole : IsFieldConverted c.args.kind c.args.width c.args.v (to_z w128 (of_z w128 c.residue.result)) =
    field_converted c.args.kind c.args.width c.args.v _ c.residue.result _ _ s c.in_default.not-Bool
    (omega (arith, ints))
    (omega (arith, ints))
    (omega (arith, ints, c.field_range-least.ensures.least, c.field_range-least.ensures.greatest, s.low, s.zero_is_above, s.zero_is_below, s.count, s.most))
    (omega (arith, ints, c.field_range-least.ensures.least, c.residue.ensures.above))
    (omega (arith, ints, c.field_range-least.ensures.least, c.residue.ensures.below))
    c.residue.ensures.congruent in
    record { value = whole.value; in_range = whole.in_range }

pub returns-else-v-eq0-clause-in_range : goal.returns-else-v-eq0-clause-in_range
returns-else-v-eq0-clause-in_range c =
    one_in_range c.args.kind c.args.width (ap is_signed c.in-Bool.is) (field_spans c.args.kind c.args.width c.requires.some c.requires.most)

-- What the code of the operators goes by.
use Rattle.std.proofs.Common.{◌≡◌, ◌-◌, ◌≤◌, List, [], ◌∷◌, ◌++◌, ℤ, pos, neg_ℤ, ◌^◌, refl, ap, ◌∙◌, arith, true, false}
use Rattle.std.specs.Prelude.{◌≢◌, Bool, cond}
use Rattle.std.proofs.lemmas.Int.{ints}
use Rattle.c_types.specs.declared.types.IntKind.{IntKind}
use Rattle.c_types.specs.declared.types.IntKind.TheVariants as kind
use Rattle.c_types.specs.Integers.{width, is_signed, least, greatest}
use Rattle.ival.specs.declared.forms.Ival.{Ival}
use Rattle.ival.specs.declared.forms.Ival.TheVariants.{Set}
use Rattle.ival.specs.Lists.{insert}
use Rattle.ival.specs.Forms.{IsBounded, IsOperand, IsOperandNumber, IsWellFormed, hull}
use Rattle.ival.specs.Casts.{cast_of}
use Rattle.ival.proofs.Operands.{operand_from_within}
use Rattle.ival.proofs.ComparisonMembers.{formed}
use Rattle.program.specs.declared.sites.Kind.{Kind}
use Rattle.std.proofs.Common.{append_assoc, append-nil}
use Rattle.abstract_operators.specs.Numbers.{met, represented, converted}
use Rattle.abstract_operators.proofs.Limits.{within-wider, met-within, met-well_formed}
use Rattle.abstract_operators.proofs.KindRanges.{kind-width, kind-limits, least-bounded, greatest-bounded}

pub represented_signed : (k : IntKind) (a : Ival) → is_signed k ≡ true → represented k a ≡ met a (least k) (greatest k)
unfolding represented
represented_signed k a e = ap (λ b. cond b (met a (least k) (greatest k)) (converted k a)) e

converted-cast : (k : IntKind) (a : Ival) → is_signed k ≡ false → k ≢ kind.Bool → converted k a ≡ cast_of a (width k) false
unfolding converted
converted-cast kind.Bool a e n = absurd (n refl)
converted-cast kind.Char a e n = absurd (cc)
converted-cast kind.SChar a e n = absurd (cc)
converted-cast kind.UChar a e n = refl
converted-cast kind.Short a e n = absurd (cc)
converted-cast kind.UShort a e n = refl
converted-cast kind.Int a e n = absurd (cc)
converted-cast kind.UInt a e n = refl
converted-cast kind.Long a e n = absurd (cc)
converted-cast kind.ULong a e n = refl
converted-cast kind.LongLong a e n = absurd (cc)
converted-cast kind.ULongLong a e n = refl

pub represented_unsigned : (k : IntKind) (a : Ival) → is_signed k ≡ false → k ≢ kind.Bool → represented k a ≡ cast_of a (width k) false
unfolding represented
represented_unsigned k a e n = ap (λ b. cond b (met a (least k) (greatest k)) (converted k a)) e ∙ converted-cast k a e n

pub least_bounded : (k : IntKind) → IsBounded (least k)
least_bounded k = least-bounded k

pub greatest_bounded : (k : IntKind) → IsBounded (greatest k)
greatest_bounded k = greatest-bounded k

pub met_operand : (a : Ival) (low high : ℤ) → IsWellFormed a → IsOperandNumber low → IsOperandNumber high → IsOperand (met a low high)
met_operand a low high f h k =
    let l : IsBounded low = record { above = omega (arith, ints, h.above); below = omega (arith, ints, h.below) } in
    let g : IsBounded high = record { above = omega (arith, ints, k.above); below = omega (arith, ints, k.below) } in
    operand_from_within (met a low high) (met-well_formed a low high f l g) (within-wider low high (neg_ℤ (pos (2 ^ 63))) (pos (2 ^ 64 - 1)) (met a low high) h.above (omega (arith, ints, k.below)) (met-within a low high l g))

pub hull_one : (x : ℤ) → hull (x ∷ []) ≡ Set (x ∷ [])
unfolding hull insert
hull_one x = refl

pub operand_formed : (a : Ival) → IsOperand a → IsWellFormed a
operand_formed a h = formed a h

pub zero_bounded : IsBounded (pos 0)
zero_bounded = record { above = omega (arith, ints); below = omega (arith, ints) }

pub width_some : (k : IntKind) → 1 ≤ width k
width_some k = (kind-width k).some

pub count_bounded : (k : IntKind) → IsBounded (pos (width k - 1))
count_bounded k = record { above = omega (arith, ints); below = omega (arith, ints, (kind-width k).few) }

pub counts_operand : (k : IntKind) (b : Ival) → IsWellFormed b → IsOperand (met b (pos 0) (pos (width k - 1)))
counts_operand k b f = met_operand b (pos 0) (pos (width k - 1)) f record { above = omega (arith, ints); below = omega (arith, ints) } record { above = omega (arith, ints); below = omega (arith, ints, (kind-width k).few) }

pub naturals_operand : (k : IntKind) (a : Ival) → IsWellFormed a → IsOperand (met a (pos 0) (greatest k))
naturals_operand k a f = met_operand a (pos 0) (greatest k) f record { above = omega (arith, ints); below = omega (arith, ints) } (kind-limits k).high

pub append_three : (xs ys zs : List Kind) → (xs ++ ys) ++ zs ≡ xs ++ (ys ++ zs)
append_three xs ys zs = append_assoc xs ys zs

pub append_none : (xs : List Kind) → xs ++ [] ≡ xs
append_none xs = append-nil xs

pub ruleset code_facts = (represented_signed, represented_unsigned, least_bounded, greatest_bounded, met_operand, hull_one, operand_formed, zero_bounded, width_some, count_bounded, counts_operand, naturals_operand, append_three, append_none)

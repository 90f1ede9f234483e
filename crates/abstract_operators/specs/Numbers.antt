-- The operators on sets of numbers of an integer type: what is left of reduced operands, and the alarms. An alarm is raised
-- where some members are undefined at the operator; the results are those of the others.
use Rattle.std.specs.Prelude.{◌-◌, [], ◌∷◌, ◌++◌, Option, Some, None, unwrap_or, Bool, not, ◌&&◌, ℤ, pos, negsuc, if◌then◌else◌}
use Rattle.std.specs.Ordering.{int_eq}
use Rattle.c_types.specs.declared.types.IntKind.{IntKind}
use Rattle.c_types.specs.declared.types.IntKind.TheVariants as kind
use Rattle.c_types.specs.Integers.{width, is_signed, least, greatest}
use Rattle.program.specs.declared.expressions.UnOp.{UnOp}
use Rattle.program.specs.declared.expressions.UnOp.TheVariants.{Neg, Not}
use Rattle.program.specs.declared.expressions.BinOp.{BinOp}
use Rattle.program.specs.declared.expressions.BinOp.TheVariants as op
use Rattle.program.specs.declared.sites.Kind.{Kind}
use Rattle.program.specs.declared.sites.Kind.TheVariants.{DivisionByZero, SignedOverflow, Shift}
use Rattle.ival.specs.declared.forms.Ival.{Ival}
use Rattle.ival.specs.declared.forms.Ival.TheVariants.{Empty, Set}
use Rattle.ival.specs.declared.forms.Cmp.{Cmp}
use Rattle.ival.specs.declared.forms.Cmp.TheVariants as cmp
use Rattle.ival.specs.Forms.{IsWellFormed, Within, norm, has, is_empty}
use Rattle.ival.specs.Pairs.{pointwise}
use Rattle.ival.specs.SetOperations.{included_of}
use Rattle.ival.specs.Meet.{meet_of}
use Rattle.ival.specs.Arithmetic.{add_of, sub_of, neg_of, not_of, mul_of, div_of, remainder_of, rem_ends}
use Rattle.ival.specs.BitOperations.{shl_of, shr_of, and_of, or_of, xor_of}
use Rattle.ival.specs.Casts.{cast_of}
use Rattle.ival.specs.Comparisons.{truth_of}
use Rattle.abstract_operators.specs.Left.{Left, raising, alarm_if}

-- ---- numbers between two ends

-- the numbers from low to high
unfoldable pub numbers : ℤ → ℤ → Ival
numbers low high = norm low high (pos 0) 1

-- those of a set, and whether it has others
unfoldable pub met : Ival → ℤ → ℤ → Ival
met a low high = meet_of a (numbers low high)

unfoldable pub strays : Ival → ℤ → ℤ → Bool
strays a low high = not (included_of a (numbers low high))

-- a set with a member is left
unfoldable pub left_numbers : Ival → Left Ival Kind
left_numbers a = record { value = if is_empty a then None else Some a; alarms = [] }

-- ---- results in a kind

-- a set of numbers that a kind represents
pub record AreOf (k : IntKind) (a : Ival) : Type 0 where
  pub formed : IsWellFormed a
  pub within : Within (least k) (greatest k) a

-- 6.3.1.2: 0 for 0, else 1
unfoldable pub truths : Ival → Ival
truths a = truth_of cmp.Ne a (Set (pos 0 ∷ []))

-- 6.3.1.2 and 6.3.1.3
unfoldable pub converted : IntKind → Ival → Ival
converted kind.Bool a = truths a
converted k a = cast_of a (width k) (is_signed k)

-- of signed results those that are representable (6.5p5); unsigned ones are converted (6.2.5p9)
unfoldable pub represented : IntKind → Ival → Ival
represented k a = if is_signed k then met a (least k) (greatest k) else converted k a

unfoldable pub overflows : IntKind → Ival → Bool
overflows k a = is_signed k && strays a (least k) (greatest k)

abbrev pub settled_in : IntKind → Ival → Left Ival Kind
settled_in k a = raising (alarm_if (overflows k a) SignedOverflow) (left_numbers (represented k a))

-- ---- operators

-- 6.5.3.3
abbrev pub negated_in : UnOp → IntKind → Ival → Left Ival Kind
negated_in Neg k a = settled_in k (neg_of a)
negated_in Not k a = settled_in k (not_of a)

-- 6.5.5p6: of all quotients in a signed kind only that of its least number and -1 isn't representable
unfoldable pub quotient_overflows : IntKind → Ival → Ival → Bool
quotient_overflows k a b = is_signed k && has a (least k) && has b (negsuc 0)

-- where the quotient isn't representable the remainder is undefined too
abbrev pub defined_remainder : IntKind → ℤ → ℤ → Option ℤ
defined_remainder k x y = if is_signed k && int_eq x (least k) && int_eq y (negsuc 0) then None else remainder_of x y

unfoldable pub remainders : IntKind → Ival → Ival → Ival
remainders k a b = unwrap_or (pointwise (defined_remainder k) a b) (rem_ends a b)

abbrev pub divided_in : IntKind → Ival → Ival → Ival → Left Ival Kind
divided_in k a b results =
    raising (alarm_if (has b (pos 0)) DivisionByZero ++ alarm_if (quotient_overflows k a b) SignedOverflow) (left_numbers (represented k results))

-- 6.5.7p4: of a signed kind the numbers from 0 are shifted left
abbrev pub shifted_left_in : IntKind → Ival → Ival → Left Ival Kind
shifted_left_in k a counts =
    if is_signed k
    then raising (alarm_if (strays a (pos 0) (greatest k)) SignedOverflow) (settled_in k (shl_of (met a (pos 0) (greatest k)) counts))
    else settled_in k (shl_of a counts)

-- 6.5.7p3: the counts from 0 to the width less 1; where there is none, nothing is shifted
abbrev pub counted_in : IntKind → Ival → (Ival → Left Ival Kind) → Left Ival Kind
counted_in k counts shifted =
    raising (alarm_if (strays counts (pos 0) (pos (width k - 1))) Shift)
    (if is_empty (met counts (pos 0) (pos (width k - 1))) then left_numbers Empty else shifted (met counts (pos 0) (pos (width k - 1))))

-- 6.5.8p6 and 6.5.9p3: the answers 0 and 1
abbrev pub compared_in : Cmp → Ival → Ival → Left Ival Kind
compared_in c a b = left_numbers (truth_of c a b)

-- an operator on two sets of numbers, the left one of this kind. The operators on pointers are no case of it.
abbrev pub arithmetic_in : BinOp → IntKind → Ival → Ival → Left Ival Kind
arithmetic_in op.Add k a b = settled_in k (add_of a b)
arithmetic_in op.Sub k a b = settled_in k (sub_of a b)
arithmetic_in op.Mul k a b = settled_in k (mul_of a b)
arithmetic_in op.Div k a b = divided_in k a b (div_of a b)
arithmetic_in op.Rem k a b = divided_in k a b (remainders k a b)
arithmetic_in op.Shl k a b = counted_in k b (λ counts. shifted_left_in k a counts)
arithmetic_in op.Shr k a b = counted_in k b (λ counts. left_numbers (represented k (shr_of a counts)))
arithmetic_in op.And k a b = left_numbers (represented k (and_of a b))
arithmetic_in op.Or k a b = left_numbers (represented k (or_of a b))
arithmetic_in op.Xor k a b = left_numbers (represented k (xor_of a b))
arithmetic_in op.Lt k a b = compared_in cmp.Lt a b
arithmetic_in op.Le k a b = compared_in cmp.Le a b
arithmetic_in op.Gt k a b = compared_in cmp.Gt a b
arithmetic_in op.Ge k a b = compared_in cmp.Ge a b
arithmetic_in op.Eq k a b = compared_in cmp.Eq a b
arithmetic_in op.Ne k a b = compared_in cmp.Ne a b
arithmetic_in op.PtrAdd k a b = left_numbers (Set (pos 0 ∷ []))
arithmetic_in op.PtrSub k a b = left_numbers (Set (pos 0 ∷ []))
arithmetic_in op.PtrDiff k a b = left_numbers (Set (pos 0 ∷ []))

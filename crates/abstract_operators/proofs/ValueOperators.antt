-- The operators on values that are numbers: what they leave is of their kind, and keeps the members.
use Rattle.std.proofs.Common.{◌≡◌, ℕ, ◌-◌, List, ℤ, pos, subst, arith, true, false}
use Rattle.std.specs.Prelude.{Bool, cond}
use Rattle.std.proofs.lemmas.Int.{ints}
use Rattle.c_types.specs.declared.types.IntKind.{IntKind}
use Rattle.c_types.specs.declared.types.IntKind.TheVariants as kind
use Rattle.c_types.specs.Integers.{width, is_signed, least, greatest, InRange}
use Rattle.program.specs.declared.expressions.UnOp.{UnOp}
use Rattle.program.specs.declared.expressions.UnOp.TheVariants.{Neg, Not}
use Rattle.program.specs.declared.expressions.BinOp.{BinOp}
use Rattle.program.specs.declared.expressions.BinOp.TheVariants as op
use Rattle.program.specs.declared.sites.Kind.{Kind}
use Rattle.program.specs.declared.sites.Kind.TheVariants.{SignedOverflow}
use Rattle.avalue.specs.Pointers.{offsets_at}
use Rattle.c_memory.specs.declared.memory.Object.{Object}
use Rattle.c_meaning.specs.declared.value.Value.{Value as Concrete}
use Rattle.c_meaning.specs.declared.value.Value.TheVariants.{Number, Pointer}
use Rattle.c_arithmetic.specs.Arithmetic.{negated, arithmetic}
use Rattle.c_meaning.specs.PlaceTypes.{result_kind}
use Rattle.c_meaning.specs.Value.{number_in, number_result}
use Rattle.ival.specs.declared.forms.Cmp.{Cmp}
use Rattle.ival.specs.declared.forms.Cmp.TheVariants as cmp
use Rattle.ival.specs.declared.forms.Ival.{Ival}
use Rattle.ival.specs.declared.forms.Ival.TheVariants.{Empty, Set, Range, All as Every}
use Rattle.ival.specs.Forms.{IsOperand, IsWellFormed, Has, is_empty}
use Rattle.ival.specs.Arithmetic.{add_of, sub_of, mul_of, div_of, neg_of, not_of}
use Rattle.ival.specs.BitOperations.{shl_of, shr_of, and_of, or_of, xor_of}
use Rattle.ival.specs.Comparisons.{truth_of}
use Rattle.ival.proofs.ComparisonMembers.{formed}
use Rattle.avalue.specs.declared.value.Value.{Value}
use Rattle.abstract_operators.specs.Left.{Left, raising, alarm_if}
use Rattle.abstract_operators.specs.Numbers.{AreOf, left_numbers, met, strays, represented, settled_in, negated_in, shifted_left_in, compared_in, arithmetic_in, remainders}
use Rattle.abstract_operators.specs.Values.{unary_in, as_value}
use Rattle.abstract_operators.specs.Members.{IsMember}
pub use Rattle.abstract_operators.specs.Conditions.{IsNumberOf}
use Rattle.abstract_operators.specs.Kept.{IfLeft, Covers, is_shift}
use Rattle.abstract_operators.proofs.Results.{truth-answers, add-well_formed, sub-well_formed, mul-well_formed, div-well_formed, neg-well_formed, not-well_formed, shl-well_formed, shr-well_formed, and-well_formed, or-well_formed, xor-well_formed}
use Rattle.abstract_operators.proofs.Limits.{member-within, within-wider}
use Rattle.abstract_operators.proofs.KindRanges.{of-operand}
use Rattle.abstract_operators.proofs.Conversions.{represented-of}
use Rattle.abstract_operators.proofs.NumberOperators.{unary-keeps, arithmetic-keeps, remainders-well_formed}
use Rattle.abstract_operators.proofs.PointerComparisons.{numbers-kept}
use Rattle.abstract_operators.proofs.CodeFacts.{counts_operand, naturals_operand}

-- what is left of a set is the set
pub left-is : (P : Ival → Type 0) (a : Ival) → P a → IfLeft (left_numbers a) P
unfolding left_numbers
left-is P Empty h b e = absurd (cc)
left-is P (Set xs) h b e = let same : Set xs ≡ b = cc in subst P same h
left-is P (Range lo hi r m) h b e = let same : Range lo hi r m ≡ b = cc in subst P same h
left-is P Every h b e = let same : Every ≡ b = cc in subst P same h

settled-of : (k : IntKind) (a : Ival) → IsWellFormed a → IfLeft (settled_in k a) (AreOf k)
settled-of k a f = left-is (AreOf k) (represented k a) (represented-of k a f)

pub negated-of : (o : UnOp) (k : IntKind) (a : Ival) → IsOperand a → IfLeft (negated_in o k a) (AreOf k)
negated-of Neg k a h = settled-of k (neg_of a) (neg-well_formed a h)
negated-of Not k a h = settled-of k (not_of a) (not-well_formed a h)

either-left : (P : Ival → Type 0) (b : Bool) (l r : Left Ival Kind) → IfLeft l P → IfLeft r P → IfLeft (cond b l r) P
either-left P true l r h k = h
either-left P false l r h k = k

no-left : (P : Ival → Type 0) → IfLeft (left_numbers Empty) P
unfolding left_numbers
no-left P b e = absurd (cc)

answers-of : (c : Cmp) (a b : Ival) → IfLeft (compared_in c a b) (AreOf kind.Int)
answers-of c a b =
    let t = truth-answers c a b in
    left-is (AreOf kind.Int) (truth_of c a b) record { formed = t.formed; within = within-wider (pos 0) (pos 1) (least kind.Int) (greatest kind.Int) (truth_of c a b) (omega (arith, ints)) (omega (arith, ints)) t.within }

-- the operators on numbers
abbrev pub is_number_operator : BinOp → Bool
is_number_operator op.PtrAdd = false
is_number_operator op.PtrSub = false
is_number_operator op.PtrDiff = false
is_number_operator _ = true

-- the numbers of the result's kind
pub arithmetic-of : (o : BinOp) (k : IntKind) (a b : Ival) → IsOperand a → IsOperand b → is_number_operator o ≡ true → IfLeft (arithmetic_in o k a b) (AreOf (result_kind o k))
arithmetic-of op.Add k a b h g e = settled-of k (add_of a b) (add-well_formed a b h g)
arithmetic-of op.Sub k a b h g e = settled-of k (sub_of a b) (sub-well_formed a b h g)
arithmetic-of op.Mul k a b h g e = settled-of k (mul_of a b) (mul-well_formed a b h g)
arithmetic-of op.Div k a b h g e = left-is (AreOf k) (represented k (div_of a b)) (represented-of k (div_of a b) (div-well_formed a b h g))
arithmetic-of op.Rem k a b h g e = left-is (AreOf k) (represented k (remainders k a b)) (represented-of k (remainders k a b) (remainders-well_formed k a b h g))
arithmetic-of op.Shl k a b h g e =
    let counts = met b (pos 0) (pos (width k - 1)) in
    let naturals = met a (pos 0) (greatest k) in
    either-left (AreOf k) (is_empty counts) (left_numbers Empty) (shifted_left_in k a counts) (no-left (AreOf k))
    (either-left (AreOf k) (is_signed k) (raising (alarm_if (strays a (pos 0) (greatest k)) SignedOverflow) (settled_in k (shl_of naturals counts))) (settled_in k (shl_of a counts))
    (settled-of k (shl_of naturals counts) (shl-well_formed naturals counts (naturals_operand k a (formed a h)))) (settled-of k (shl_of a counts) (shl-well_formed a counts h)))
arithmetic-of op.Shr k a b h g e =
    let counts = met b (pos 0) (pos (width k - 1)) in
    either-left (AreOf k) (is_empty counts) (left_numbers Empty) (left_numbers (represented k (shr_of a counts))) (no-left (AreOf k))
    (left-is (AreOf k) (represented k (shr_of a counts)) (represented-of k (shr_of a counts) (shr-well_formed a counts h (counts_operand k b (formed b g)))))
arithmetic-of op.And k a b h g e = left-is (AreOf k) (represented k (and_of a b)) (represented-of k (and_of a b) (and-well_formed a b h g))
arithmetic-of op.Or k a b h g e = left-is (AreOf k) (represented k (or_of a b)) (represented-of k (or_of a b) (or-well_formed a b h g))
arithmetic-of op.Xor k a b h g e = left-is (AreOf k) (represented k (xor_of a b)) (represented-of k (xor_of a b) (xor-well_formed a b h g))
arithmetic-of op.Lt k a b h g e = answers-of cmp.Lt a b
arithmetic-of op.Le k a b h g e = answers-of cmp.Le a b
arithmetic-of op.Gt k a b h g e = answers-of cmp.Gt a b
arithmetic-of op.Ge k a b h g e = answers-of cmp.Ge a b
arithmetic-of op.Eq k a b h g e = answers-of cmp.Eq a b
arithmetic-of op.Ne k a b h g e = answers-of cmp.Ne a b
arithmetic-of op.PtrAdd k a b h g e = absurd (cc)
arithmetic-of op.PtrSub k a b h g e = absurd (cc)
arithmetic-of op.PtrDiff k a b h g e = absurd (cc)

-- ---- as values

pub kind-member : (k : IntKind) (a : Ival) (x : ℤ) → AreOf k a → Has a x → InRange k x
kind-member k a x h p = let b = member-within (least k) (greatest k) a x h.within p in record { above = b.0; below = b.1 }

pub unary-kept : (m : List Object) (sizes : ℕ → ℕ) (o : UnOp) (k : IntKind) (x : Concrete) (v : Value) → IsNumberOf k v → IsMember m sizes x v
    → Covers (IsMember m sizes) (number_result (negated o k (number_in x))) (unary_in o k v)
unary-kept m sizes o k (Number x) v h p = numbers-kept m sizes (negated o k x) (negated_in o k v.ints) (unary-keeps o k v.ints x (of-operand k v.ints h.numbers) p)
unary-kept m sizes o k (Pointer b z) v h p = absurd (subst (λ ps. Has (offsets_at ps b) z) h.no_pointers p.0)

pub arithmetic-kept : (m : List Object) (sizes : ℕ → ℕ) (o : BinOp) (k l : IntKind) (x y : Concrete) (v w : Value) → IsNumberOf k v → IsNumberOf l w → (is_shift o ≡ false → l ≡ k) → IsMember m sizes x v → IsMember m sizes y w
    → Covers (IsMember m sizes) (number_result (arithmetic o k (number_in x) (number_in y))) (as_value (arithmetic_in o k v.ints w.ints))
arithmetic-kept m sizes o k l (Number x) (Number y) v w h g same p q =
    numbers-kept m sizes (arithmetic o k x y) (arithmetic_in o k v.ints w.ints)
    (arithmetic-keeps o k v.ints w.ints x y (of-operand k v.ints h.numbers) (of-operand l w.ints g.numbers) p q (kind-member k v.ints x h.numbers p)
    (λ e. subst (λ j. InRange j y) (same e) (kind-member l w.ints y g.numbers q)))
arithmetic-kept m sizes o k l (Number x) (Pointer b z) v w h g same p q = absurd (subst (λ ps. Has (offsets_at ps b) z) g.no_pointers q.0)
arithmetic-kept m sizes o k l (Pointer b z) y v w h g same p q = absurd (subst (λ ps. Has (offsets_at ps b) z) h.no_pointers p.0)

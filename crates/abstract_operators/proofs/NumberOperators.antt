-- One lemma for each operator on numbers: it keeps the members of its operands.
use Rattle.std.proofs.Common.{◌≡◌, ℕ, suc, zero, ◌+◌, ◌-◌, ◌*◌, ◌/◌, ◌^◌, ◌<◌, ◌≤◌, [], ◌∷◌, ◌++◌, ℤ, pos, negsuc, neg_ℤ, ◌+ℤ◌, ◌-ℤ◌, ◌*ℤ◌, ◌≤ℤ◌, Some, None, Result, Ok, Err, refl, ap, sym, subst, ◌∙◌, arith, true, false, ⊎_elim}
use Rattle.std.specs.Prelude.{Bool, cond, not, ◌&&◌, unsigned_abs, int_le, int_lt, int_div, int_rem}
use Rattle.std.specs.Int.{w128, int_shr, int_bit_and, int_bit_or, int_bit_xor}
use Rattle.std.specs.Ordering.{int_eq}
use Rattle.std.proofs.lemmas.Int.{ints, by_lt_z}
use Rattle.std.proofs.lemmas.Nat.{pow_pos, shr_le, mul-le, div-add-mod'}
use Rattle.std.proofs.lemmas.Bool.Decides.{Decides-and, Decides-int_eq}
use Rattle.std.proofs.lemmas.Bool.{cases_lt}
use Rattle.std.proofs.lemmas.List.Elements.{Contains-append_left, Contains-append_right}
use Rattle.std.proofs.Math.Nat.{div-le_self, le_refl}
use Rattle.c_types.specs.declared.types.IntKind.{IntKind}
use Rattle.c_types.specs.Integers.{width, is_signed, least, greatest, wrapped, InRange}
use Rattle.program.specs.declared.expressions.UnOp.{UnOp}
use Rattle.program.specs.declared.expressions.UnOp.TheVariants.{Neg, Not}
use Rattle.program.specs.declared.expressions.BinOp.{BinOp}
use Rattle.program.specs.declared.expressions.BinOp.TheVariants as op
use Rattle.program.specs.declared.sites.Kind.{Kind}
use Rattle.program.specs.declared.sites.Kind.TheVariants.{DivisionByZero, SignedOverflow, Shift}
use Rattle.c_arithmetic.specs.Arithmetic.{and_then, truth, in_range, settled, quotient, remainder, is_count, shifted_left, shifted_right, negated, arithmetic}
use Rattle.ival.specs.declared.forms.Ival.{Ival}
use Rattle.ival.specs.declared.forms.Ival.TheVariants as form
use Rattle.c_types.specs.declared.types.IntKind.TheVariants as kind
use Rattle.ival.proofs.HullMembers.{contains-here}
use Rattle.ival.specs.Forms.{IsBounded, IsOperand, IsOperandNumber, IsWellFormed, Within, Has, has, is_empty}
use Rattle.ival.specs.Pairs.{pointwise}
use Rattle.ival.specs.Arithmetic.{add_of, sub_of, neg_of, not_of, mul_of, div_of, quotient_of, remainder_of, rem_ends}
use Rattle.ival.specs.BitOperations.{shl_of, shr_of, and_of, or_of, xor_of, shifted_of}
use Rattle.ival.specs.Laws.{shifted_left_of}
use Rattle.ival.specs.Comparisons.{compares, truth_of}
use Rattle.ival.specs.declared.forms.Cmp.{Cmp}
use Rattle.ival.specs.declared.forms.Cmp.TheVariants as cmp
use Rattle.ival.proofs.CommonNumbers.{Decides-int_le}
use Rattle.ival.proofs.ComparisonMembers.{formed, Decides-int_lt, truth-keeps}
use Rattle.ival.proofs.Membership.{Decides-member}
use Rattle.ival.proofs.WidenMembers.{none-empty}
use Rattle.ival.proofs.PointwiseMembers.{wide-keeps, operand-ends}
use Rattle.ival.proofs.SumMembers.{add-keeps, sub-keeps, neg-keeps, not-keeps}
use Rattle.ival.proofs.ProductMembers.{mul-keeps}
use Rattle.ival.proofs.QuotientMembers.{div-keeps, nat_eq-no}
use Rattle.ival.proofs.RemainderMembers.{ends-keep, rem-low, rem-high}
use Rattle.ival.proofs.ShiftMembers.{shl-keeps, shr-keeps}
use Rattle.ival.proofs.BitMembers.{and-keeps, or-keeps, xor-keeps, and-short, or-short, xor-short, and-natural, or-natural, xor-natural, IsShort}
use Rattle.abstract_operators.specs.Left.{Left, raising, alarm_if}
use Rattle.abstract_operators.specs.Numbers.{compared_in, met, strays, left_numbers, represented, settled_in, negated_in, quotient_overflows, defined_remainder, remainders, divided_in, shifted_left_in, counted_in, arithmetic_in}
use Rattle.abstract_operators.specs.Kept.{Covers, IsOneOf, is_shift}
use Rattle.abstract_operators.proofs.Results.{GivesBounded, pointwise-well_formed, add-well_formed, sub-well_formed, neg-well_formed, not-well_formed, mul-well_formed, shl-well_formed, div-well_formed, rem_ends-well_formed, remainders-bounded, shr-well_formed, and-well_formed, or-well_formed, xor-well_formed}
use Rattle.abstract_operators.proofs.Limits.{IsFrom, within-wider, met-within, met-well_formed}
use Rattle.abstract_operators.proofs.Covering.{covers-raising, covers-alarm, alarm-there, left-numbers}
use Rattle.abstract_operators.proofs.KindRanges.{IsSigned, signed-kind, unsigned-least, in-range, represented-in_range, kind-width, kind-limits, greatest-bounded}
use Rattle.abstract_operators.proofs.Conversions.{by-bool, met-keeps, strays-outside, wrapped-in_range, represented-keeps, settled-keeps}
use Rattle.ival.proofs.Operands.{operand_from_within}

-- ---- unary

pub unary-keeps : (o : UnOp) (k : IntKind) (a : Ival) (x : ℤ) → IsOperand a → Has a x → Covers IsOneOf (negated o k x) (negated_in o k a)
unary-keeps Neg k a x h p = settled-keeps k (neg_of a) (neg_ℤ x) (neg-well_formed a h) (neg-keeps a h x (neg_ℤ x) p refl)
unary-keeps Not k a x h p = settled-keeps k (not_of a) (negsuc 0 -ℤ x) (not-well_formed a h) (not-keeps a h x (negsuc 0 -ℤ x) p refl)

-- ---- quotients and remainders

-- the number that a test looks for
found : (a : Ival) (x w : ℤ) → IsOperand a → Has a x → x ≡ w → has a w ≡ true
found a x w h p e = (Decides-member a w (formed a h)).1 (subst (Has a) e p)

-- in two's complement only the least number by -1 leaves the range
near : (n m b : ℕ) → b ≤ suc n / suc m → suc n ≤ b → 0 < b → (m ≡ 0) × (suc n ≡ b)
near n m b h k s =
    let whole = div-add-mod' (suc n) (suc m) in
    let some : b * suc m ≤ suc n / suc m * suc m = mul-le b (suc m) (suc n / suc m) (suc m) h (le_refl (suc m)) in
    let parts : b * suc m ≡ b * m + b = omega arith in
    ⊎_elim
    (λ (lt : 0 < m). let more : b * 1 ≤ b * m = mul-le b 1 b m (le_refl b) lt in absurd (omega (arith, whole, some, parts, more, k, s)))
    (λ (ge : m ≤ 0). let none : m ≡ 0 = omega (arith, ge) in (none, omega (arith, whole, some, parts, k, ap (λ (i : ℕ). b * i) none)))
    (cases_lt 0 m)

record IsLost (k : IntKind) (x y : ℤ) : Type 0 where
  left : x ≡ least k
  right : y ≡ negsuc 0

lost-quotient : (k : IntKind) (w : ℕ) (x y : ℤ) → IsSigned k w → InRange k x → int_eq y (pos 0) ≡ false → in_range k (int_div x y) ≡ false → IsLost k x y
lost-quotient k w (pos n) (pos m) s h z e =
    let in' : InRange k (int_div (pos n) (pos m)) = record { above = omega (arith, ints, s.low); below = omega (arith, ints, h.below, div-le_self n m) } in
    let yes = represented-in_range k (int_div (pos n) (pos m)) in' in cc
lost-quotient k w (pos n) (negsuc m) s h z e =
    let in' : InRange k (int_div (pos n) (negsuc m)) = record { above = omega (arith, ints, s.low, s.high, h.below, div-le_self n (suc m)); below = omega (arith, ints, h.below) } in
    let yes = represented-in_range k (int_div (pos n) (negsuc m)) in' in cc
lost-quotient k w (negsuc n) (pos m) s h z e =
    let in' : InRange k (int_div (negsuc n) (pos m)) = record { above = omega (arith, ints, h.above, div-le_self (suc n) m); below = omega (arith, ints, (kind-limits k).around.1) } in
    let yes = represented-in_range k (int_div (negsuc n) (pos m)) in' in cc
lost-quotient k w (negsuc n) (negsuc m) s h z e =
    let q : ℕ = suc n / suc m in
    let is : int_div (negsuc n) (negsuc m) ≡ pos q = refl in
    let low : suc n ≤ 2 ^ w = omega (arith, ints, h.above, s.low) in
    ⊎_elim
    (λ (lt : q < 2 ^ w).
    let in' : InRange k (int_div (negsuc n) (negsuc m)) = record { above = omega (arith, ints, is, (kind-limits k).around.0); below = omega (arith, ints, is, s.high, lt) } in
    let yes = represented-in_range k (int_div (negsuc n) (negsuc m)) in' in cc)
    (λ (ge : 2 ^ w ≤ q).
    let d = near n m (2 ^ w) ge low (omega (arith, low)) in
    record { left = omega (arith, ints, d.1, s.low); right = omega (arith, ints, d.0) })
    (cases_lt q (2 ^ w))

-- the remainder has the sign of the dividend, and isn't further from 0
remainder-in_range : (k : IntKind) (x y : ℤ) → InRange k x → InRange k (int_rem x y)
remainder-in_range k x y h =
    let l = kind-limits k in
    by_lt_z x (pos 0)
    (λ lt. let r = rem-high x y lt in record { above = omega (arith, ints, r.1, h.above); below = omega (arith, ints, r.0, l.around.1) })
    (λ ge. let r = rem-low x y ge in record { above = omega (arith, ints, r.0, l.around.0); below = omega (arith, ints, r.1, h.below) })

-- of an unsigned kind the quotient lies between 0 and the dividend
natural-quotient : (x y : ℤ) → pos 0 ≤ℤ x → pos 0 ≤ℤ y → (pos 0 ≤ℤ int_div x y) × (int_div x y ≤ℤ x)
natural-quotient (pos n) (pos m) h k = (omega (arith, ints), omega (arith, ints, div-le_self n m))
natural-quotient (pos n) (negsuc m) h k = absurd (omega (arith, ints, k))
natural-quotient (negsuc n) y h k = absurd (omega (arith, ints, h))

nonzero-size : (y : ℤ) → int_eq y (pos 0) ≡ false → 0 < unsigned_abs y
nonzero-size (pos zero) e = absurd (cc)
nonzero-size (pos (suc n)) e = omega arith
nonzero-size (negsuc n) e = omega arith

pub quotient-defined : (x y : ℤ) → int_eq y (pos 0) ≡ false → quotient_of x y ≡ Some (int_div x y)
quotient-defined x y e = ap (λ b. cond b None (Some (int_div x y))) (nat_eq-no (unsigned_abs y) (nonzero-size y e))

remainder-defined : (x y : ℤ) → int_eq y (pos 0) ≡ false → remainder_of x y ≡ Some (int_rem x y)
remainder-defined x y e = ap (λ b. cond b None (Some (int_rem x y))) (nat_eq-no (unsigned_abs y) (nonzero-size y e))

all-three : (a b c : Bool) → a ≡ true → b ≡ true → c ≡ true → (a && b && c) ≡ true
all-three a b c p q r = rw (p, q, r) refl

-- an operation that divides, and goes on from the quotient: its alarms cover what is undefined, and the rest is left to its results
dividing : (k : IntKind) (a b results : Ival) (x y : ℤ) (g : ℤ → ℤ) → IsOperand a → IsOperand b → InRange k x → Has a x → Has b y
    → (int_eq y (pos 0) ≡ false → is_signed k ≡ true → in_range k (int_div x y) ≡ true → Has (represented k results) (g (int_div x y)))
    → (int_eq y (pos 0) ≡ false → is_signed k ≡ false → Has (represented k results) (g (wrapped k (int_div x y))))
    → Covers IsOneOf (and_then (quotient k x y) (λ w. Ok (g w))) (divided_in k a b results)
unfolding quotient_overflows quotient settled
dividing k a b results x y g h f r p q signed unsigned =
    let zero = alarm_if (has b (pos 0)) DivisionByZero in
    let lost = alarm_if (is_signed k && has a (least k) && has b (negsuc 0)) SignedOverflow in
    let what = left_numbers (represented k results) in
    let d = int_div x y in
    let next : ℤ → Result ℤ Kind = λ w. Ok (g w) in
    let out : Bool → Result ℤ Kind = λ s. cond s (cond (in_range k d) (Ok d) (Err SignedOverflow)) (Ok (wrapped k d)) in
    by-bool (λ e. Covers IsOneOf (and_then (cond e (Err DivisionByZero) (out (is_signed k))) next) (divided_in k a b results)) (int_eq y (pos 0))
    (λ e. covers-alarm IsOneOf (zero ++ lost) DivisionByZero what
    (Contains-append_left zero lost DivisionByZero (alarm-there (has b (pos 0)) DivisionByZero (found b y (pos 0) f q ((Decides-int_eq y (pos 0)).0 e)))))
    (λ e. by-bool (λ s. is_signed k ≡ s → Covers IsOneOf (and_then (out s) next) (divided_in k a b results)) (is_signed k)
    (λ s. λ (t : is_signed k ≡ true). by-bool (λ v. in_range k d ≡ v → Covers IsOneOf (and_then (cond v (Ok d) (Err SignedOverflow)) next) (divided_in k a b results)) (in_range k d)
    (λ v. λ (w : in_range k d ≡ true). covers-raising IsOneOf (zero ++ lost) (Ok (g d)) what (left-numbers (represented k results) (g d) (signed e t w)))
    (λ v. λ (w : in_range k d ≡ false).
    let pair = lost-quotient k (width k - 1) x y (signed-kind k t) r e w in
    let test : (is_signed k && has a (least k) && has b (negsuc 0)) ≡ true = all-three (is_signed k) (has a (least k)) (has b (negsuc 0)) t (found a x (least k) h p pair.left) (found b y (negsuc 0) f q pair.right) in
    covers-alarm IsOneOf (zero ++ lost) SignedOverflow what (Contains-append_right zero lost SignedOverflow (alarm-there (is_signed k && has a (least k) && has b (negsuc 0)) SignedOverflow test))) refl)
    (λ s. λ (t : is_signed k ≡ false). covers-raising IsOneOf (zero ++ lost) (Ok (g (wrapped k d))) what (left-numbers (represented k results) (g (wrapped k d)) (unsigned e t))) refl)

and_then-same : (r : Result ℤ Kind) → and_then r (λ w. Ok w) ≡ r
and_then-same (Ok x) = refl
and_then-same (Err e) = refl

-- the quotient lies in its kind where it is defined
quotient-in_range : (k : IntKind) (x y : ℤ) → InRange k x → InRange k y → (is_signed k ≡ true → in_range k (int_div x y) ≡ true) → InRange k (int_div x y)
quotient-in_range k x y h g r =
    by-bool (λ s. is_signed k ≡ s → InRange k (int_div x y)) (is_signed k)
    (λ s. λ (t : is_signed k ≡ true). in-range k (int_div x y) (r t))
    (λ s. λ (t : is_signed k ≡ false).
    let zero = unsigned-least k t in
    let d = natural-quotient x y (omega (arith, ints, zero, h.above)) (omega (arith, ints, zero, g.above)) in
    record { above = omega (arith, ints, zero, d.0); below = omega (arith, ints, d.1, h.below) })
    refl

div-kept : (k : IntKind) (a b : Ival) (x y : ℤ) → IsOperand a → IsOperand b → InRange k x → InRange k y → Has a x → Has b y → Covers IsOneOf (quotient k x y) (divided_in k a b (div_of a b))
div-kept k a b x y h g r s p q =
    let d = int_div x y in
    let there : int_eq y (pos 0) ≡ false → Has (div_of a b) d = λ e. div-keeps a b h g x y d p q (quotient-defined x y e) in
    subst (λ o. Covers IsOneOf o (divided_in k a b (div_of a b))) (and_then-same (quotient k x y))
    (dividing k a b (div_of a b) x y (λ w. w) h g r p q
    (λ e t v. represented-keeps k (div_of a b) d (div-well_formed a b h g) (there e) (in-range k d v))
    (λ e t.
    let i = quotient-in_range k x y r s (λ u. absurd (cc)) in
    subst (Has (represented k (div_of a b))) (sym (wrapped-in_range k d i)) (represented-keeps k (div_of a b) d (div-well_formed a b h g) (there e) i)))

-- ---- remainders

defined-bounded : (k : IntKind) → GivesBounded (defined_remainder k)
defined-bounded k = record {
  bounded = λ x y z h g e.
      by-bool (λ b. cond b None (remainder_of x y) ≡ Some z → IsBounded z) (is_signed k && int_eq x (least k) && int_eq y (negsuc 0))
      (λ t. λ u. absurd (cc)) (λ t. λ u. remainders-bounded.bounded x y z h g u) e;
}

pub remainders-well_formed : (k : IntKind) (a b : Ival) → IsOperand a → IsOperand b → IsWellFormed (remainders k a b)
unfolding remainders
remainders-well_formed k a b h g = pointwise-well_formed (defined_remainder k) a b (rem_ends a b) (defined-bounded k) h g (λ d e. rem_ends-well_formed a b h d)

-- the pair that is left out has no quotient
not-lost : (k : IntKind) (x y : ℤ) → (is_signed k ≡ true → in_range k (int_div x y) ≡ true) → (is_signed k && int_eq x (least k) && int_eq y (negsuc 0)) ≡ false
not-lost k x y r =
    by-bool (λ b. (is_signed k && int_eq x (least k) && int_eq y (negsuc 0)) ≡ b → (is_signed k && int_eq x (least k) && int_eq y (negsuc 0)) ≡ false) (is_signed k && int_eq x (least k) && int_eq y (negsuc 0))
    (λ t. λ (u : (is_signed k && int_eq x (least k) && int_eq y (negsuc 0)) ≡ true).
    let d = (Decides-and (is_signed k && int_eq x (least k)) (int_eq y (negsuc 0)) (Decides-and (is_signed k) (int_eq x (least k)) (λ e. e, λ e. e) (Decides-int_eq x (least k))) (Decides-int_eq y (negsuc 0))).0 u in
    let lost = (signed-kind k d.0.0).lost in
    let same : in_range k (int_div x y) ≡ in_range k (int_div (least k) (negsuc 0)) = ap (λ v. in_range k (int_div v y)) d.0.1 ∙ ap (λ v. in_range k (int_div (least k) v)) d.1 in
    let yes = r d.0.0 in
    cc)
    (λ t. λ u. u) refl

rem-kept : (k : IntKind) (a b : Ival) (x y : ℤ) → IsOperand a → IsOperand b → InRange k x → Has a x → Has b y → Covers IsOneOf (remainder k x y) (divided_in k a b (remainders k a b))
unfolding remainders remainder
rem-kept k a b x y h g r p q =
    let z = int_rem x y in
    let there : int_eq y (pos 0) ≡ false → (is_signed k ≡ true → in_range k (int_div x y) ≡ true) → Has (represented k (remainders k a b)) z =
    λ (e : int_eq y (pos 0) ≡ false) (t : is_signed k ≡ true → in_range k (int_div x y) ≡ true).
    let given : defined_remainder k x y ≡ Some z = ap (λ c. cond c None (remainder_of x y)) (not-lost k x y t) ∙ remainder-defined x y e in
    represented-keeps k (remainders k a b) z (remainders-well_formed k a b h g)
    (wide-keeps (defined_remainder k) a b (rem_ends a b) x y z given p q (λ none. ends-keep a b x y (operand-ends a x h p) (operand-ends b y g q) p q (nonzero-size y e)))
    (remainder-in_range k x y r) in
    dividing k a b (remainders k a b) x y (λ w. z) h g r p q (λ e t v. there e (λ u. v)) (λ e t. there e (λ u. absurd (cc)))

-- ---- shifts

-- the counts of a kind
abbrev counts_of : IntKind → Ival → Ival
counts_of k b = met b (pos 0) (pos (width k - 1))

count-bounded : (k : IntKind) → IsBounded (pos (width k - 1))
count-bounded k = record { above = omega (arith, ints); below = omega (arith, ints, (kind-width k).few) }

zero-bounded : IsBounded (pos 0)
zero-bounded = record { above = omega (arith, ints); below = omega (arith, ints) }

counts-within : (k : IntKind) (b : Ival) → Within (pos 0) (pos 63) (counts_of k b)
counts-within k b = within-wider (pos 0) (pos (width k - 1)) (pos 0) (pos 63) (counts_of k b) (omega (arith, ints)) (omega (arith, ints, (kind-width k).few)) (met-within b (pos 0) (pos (width k - 1)) zero-bounded (count-bounded k))

counts-formed : (k : IntKind) (b : Ival) → IsWellFormed b → IsWellFormed (counts_of k b)
counts-formed k b f = met-well_formed b (pos 0) (pos (width k - 1)) f zero-bounded (count-bounded k)

counts-operand : (k : IntKind) (b : Ival) → IsWellFormed b → IsOperand (counts_of k b)
counts-operand k b f = operand_from_within (counts_of k b) (counts-formed k b f) (within-wider (pos 0) (pos 63) (neg_ℤ (pos (2 ^ 63))) (pos (2 ^ 64 - 1)) (counts_of k b) (omega (arith, ints)) (omega (arith, ints)) (counts-within k b))

count-from : (k : IntKind) (y : ℤ) → is_count k y ≡ true → IsFrom (pos 0) (pos (width k - 1)) y
count-from k y e =
    let d = (Decides-and (int_le (pos 0) y) (int_lt y (pos (width k))) (Decides-int_le (pos 0) y) (Decides-int_lt y (pos (width k)))).0 e in
    (d.0, omega (arith, ints, d.1, (kind-width k).some))

count-is : (k : IntKind) (y : ℤ) → IsFrom (pos 0) (pos (width k - 1)) y → is_count k y ≡ true
count-is k y b =
    (Decides-and (int_le (pos 0) y) (int_lt y (pos (width k))) (Decides-int_le (pos 0) y) (Decides-int_lt y (pos (width k)))).1 (b.0, omega (arith, ints, b.1, (kind-width k).some))

by-left : (P : Left Ival Kind → Type 0) (b : Bool) (l m : Left Ival Kind) → (b ≡ true → P l) → (b ≡ false → P m) → P (cond b l m)
by-left P true l m h k = h refl
by-left P false l m h k = k refl

-- a shift by counts: the others are at an alarm
counting : (k : IntKind) (b : Ival) (y : ℤ) (r : Result ℤ Kind) (shifted : Ival → Left Ival Kind) → IsOperand b → Has b y
    → (is_count k y ≡ true → Has (counts_of k b) y → Covers IsOneOf r (shifted (counts_of k b)))
    → Covers IsOneOf (cond (is_count k y) r (Err Shift)) (counted_in k b shifted)
counting k b y r shifted g q keep =
    let f = formed b g in
    let counts = counts_of k b in
    let alarms = alarm_if (strays b (pos 0) (pos (width k - 1))) Shift in
    let what = cond (is_empty counts) (left_numbers form.Empty) (shifted counts) in
    by-bool (λ c. is_count k y ≡ c → Covers IsOneOf (cond c r (Err Shift)) (raising alarms what)) (is_count k y)
    (λ t. λ (e : is_count k y ≡ true).
    let there = met-keeps b (pos 0) (pos (width k - 1)) y f zero-bounded (count-bounded k) q (count-from k y e) in
    covers-raising IsOneOf alarms r what
    (by-left (λ l. Covers IsOneOf r l) (is_empty counts) (left_numbers form.Empty) (shifted counts) (λ none. absurd (none-empty counts y none there)) (λ some. keep e there)))
    (λ t. λ (e : is_count k y ≡ false).
    covers-alarm IsOneOf alarms Shift what (alarm-there (strays b (pos 0) (pos (width k - 1))) Shift
    (strays-outside b (pos 0) (pos (width k - 1)) y f zero-bounded (count-bounded k) q (λ inside. let yes = count-is k y inside in cc))))
    refl

shl-kept : (k : IntKind) (a b : Ival) (x y : ℤ) → IsOperand a → IsOperand b → InRange k x → Has a x → Has b y
    → Covers IsOneOf (shifted_left k x y) (counted_in k b (λ counts. shifted_left_in k a counts))
unfolding shifted_left
shl-kept k a b x y h g r p q =
    counting k b y (cond (is_signed k && int_lt x (pos 0)) (Err SignedOverflow) (settled k (x *ℤ pos (2 ^ unsigned_abs y)))) (λ counts. shifted_left_in k a counts) g q
    (λ e there.
    let counts = counts_of k b in
    let c = counts-operand k b (formed b g) in
    let from = count-from k y e in
    let z = x *ℤ pos (2 ^ unsigned_abs y) in
    let test : (int_le (pos 0) y && int_lt y (pos 64)) ≡ true =
    (Decides-and (int_le (pos 0) y) (int_lt y (pos 64)) (Decides-int_le (pos 0) y) (Decides-int_lt y (pos 64))).1 (from.0, omega (arith, ints, from.1, (kind-width k).few)) in
    let given : shifted_left_of x y ≡ Some z = ap (λ b. cond b (Some z) None) test in
    let naturals = met a (pos 0) (greatest k) in
    let lost = alarm_if (strays a (pos 0) (greatest k)) SignedOverflow in
    let fa = formed a h in
    let out : Bool → Result ℤ Kind = λ s. cond (s && int_lt x (pos 0)) (Err SignedOverflow) (settled k z) in
    let what : Bool → Left Ival Kind = λ s. cond s (raising lost (settled_in k (shl_of naturals counts))) (settled_in k (shl_of a counts)) in
    by-bool (λ s. Covers IsOneOf (out s) (what s)) (is_signed k)
    (λ s. by-bool (λ n. int_lt x (pos 0) ≡ n → Covers IsOneOf (cond n (Err SignedOverflow) (settled k z)) (what true)) (int_lt x (pos 0))
    (λ t. λ (u : int_lt x (pos 0) ≡ true). covers-alarm IsOneOf lost SignedOverflow (settled_in k (shl_of naturals counts)) (alarm-there (strays a (pos 0) (greatest k)) SignedOverflow
    (strays-outside a (pos 0) (greatest k) x fa zero-bounded (greatest-bounded k) p (λ inside. absurd (omega (arith, ints, inside.0, (Decides-int_lt x (pos 0)).0 u))))))
    (λ t. λ (u : int_lt x (pos 0) ≡ false).
    let low : pos 0 ≤ℤ x = by_lt_z x (pos 0) (λ lt. let yes = (Decides-int_lt x (pos 0)).1 lt in cc) (λ ge. ge) in
    let has-x = met-keeps a (pos 0) (greatest k) x fa zero-bounded (greatest-bounded k) p (low, r.below) in
    let on = operand_from_within naturals (met-well_formed a (pos 0) (greatest k) fa zero-bounded (greatest-bounded k))
    (within-wider (pos 0) (greatest k) (neg_ℤ (pos (2 ^ 63))) (pos (2 ^ 64 - 1)) naturals (omega (arith, ints)) (omega (arith, ints, (kind-limits k).high.below)) (met-within a (pos 0) (greatest k) zero-bounded (greatest-bounded k))) in
    covers-raising IsOneOf lost (settled k z) (settled_in k (shl_of naturals counts)) (settled-keeps k (shl_of naturals counts) z (shl-well_formed naturals counts on) (shl-keeps naturals counts on c x y z has-x there given))) refl)
    (λ s. settled-keeps k (shl_of a counts) z (shl-well_formed a counts h) (shl-keeps a counts h c x y z p there given)))

shift-in_range : (k : IntKind) (x : ℤ) (n : ℕ) → InRange k x → InRange k (int_shr x n)
shift-in_range k (pos a) n h = record { above = omega (arith, ints, (kind-limits k).around.0); below = omega (arith, ints, h.below, shr_le a n) }
shift-in_range k (negsuc a) n h = record { above = omega (arith, ints, h.above, shr_le a n); below = omega (arith, ints, (kind-limits k).around.1) }

shr-kept : (k : IntKind) (a b : Ival) (x y : ℤ) → IsOperand a → IsOperand b → InRange k x → Has a x → Has b y
    → Covers IsOneOf (shifted_right k x y) (counted_in k b (λ counts. left_numbers (represented k (shr_of a counts))))
unfolding shifted_right
shr-kept k a b x y h g r p q =
    counting k b y (Ok (int_shr x (unsigned_abs y))) (λ counts. left_numbers (represented k (shr_of a counts))) g q
    (λ e there.
    let counts = counts_of k b in
    let c = counts-operand k b (formed b g) in
    let from = count-from k y e in
    let z = int_shr x (unsigned_abs y) in
    let test : (int_le (pos 0) y && int_lt y (pos 64)) ≡ true =
    (Decides-and (int_le (pos 0) y) (int_lt y (pos 64)) (Decides-int_le (pos 0) y) (Decides-int_lt y (pos 64))).1 (from.0, omega (arith, ints, from.1, (kind-width k).few)) in
    let given : shifted_of x y ≡ Some z = ap (λ b. cond b (Some z) None) test in
    left-numbers (represented k (shr_of a counts)) z
    (represented-keeps k (shr_of a counts) z (shr-well_formed a counts h c) (shr-keeps a counts h c (counts-within k b) x y z p there given) (shift-in_range k x (unsigned_abs y) r)))

-- ---- bit operations

short-in_range : (k : IntKind) (w : ℕ) (x : ℤ) → IsSigned k w → IsShort w x → InRange k x
short-in_range k w x s h = record { above = omega (arith, ints, s.low, h.above); below = omega (arith, ints, s.high, h.below) }

short-from_range : (k : IntKind) (w : ℕ) (x : ℤ) → IsSigned k w → InRange k x → IsShort w x
short-from_range k w x s h = record { above = omega (arith, ints, s.low, h.above); below = omega (arith, ints, s.high, h.below) }

-- an unsigned kind has the numbers of some width
record IsNatural (k : IntKind) : Type 0 where
  width : ℕ
  few : width ≤ 64
  low : least k ≡ pos 0
  high : greatest k ≡ pos (2 ^ width) -ℤ pos 1

natural-kind : (k : IntKind) → is_signed k ≡ false → IsNatural k
natural-kind kind.Bool e = record { width = 1; few = omega arith; low = refl; high = refl }
natural-kind kind.Char e = absurd (cc)
natural-kind kind.SChar e = absurd (cc)
natural-kind kind.UChar e = record { width = 8; few = omega arith; low = refl; high = refl }
natural-kind kind.Short e = absurd (cc)
natural-kind kind.UShort e = record { width = 16; few = omega arith; low = refl; high = refl }
natural-kind kind.Int e = absurd (cc)
natural-kind kind.UInt e = record { width = 32; few = omega arith; low = refl; high = refl }
natural-kind kind.Long e = absurd (cc)
natural-kind kind.ULong e = record { width = 64; few = omega arith; low = refl; high = refl }
natural-kind kind.LongLong e = absurd (cc)
natural-kind kind.ULongLong e = record { width = 64; few = omega arith; low = refl; high = refl }

short-natural : (k : IntKind) (n : IsNatural k) (x : ℤ) → InRange k x → IsShort n.width x
short-natural k n x h = record { above = omega (arith, ints, n.low, h.above, pow_pos n.width); below = omega (arith, ints, n.high, h.below) }

kind-number : (k : IntKind) (x : ℤ) → InRange k x → IsOperandNumber x
kind-number k x h = let l = kind-limits k in record { above = omega (arith, ints, l.low.above, h.above); below = omega (arith, ints, l.high.below, h.below) }

bits-in_range : (k : IntKind) (x y z : ℤ) → InRange k x → InRange k y
    → ((w : ℕ) → w ≤ 66 → IsShort w x → IsShort w y → IsShort w z)
    → ((w : ℕ) → w ≤ 66 → IsShort w x → IsShort w y → pos 0 ≤ℤ x → pos 0 ≤ℤ y → (pos 0 ≤ℤ z) × (z ≤ℤ (pos (2 ^ w) -ℤ pos 1)))
    → InRange k z
bits-in_range k x y z h g short natural =
    by-bool (λ s. is_signed k ≡ s → InRange k z) (is_signed k)
    (λ s. λ (t : is_signed k ≡ true).
    let i = signed-kind k t in
    let w = width k - 1 in
    short-in_range k w z i (short w (omega (arith, i.few)) (short-from_range k w x i h) (short-from_range k w y i g)))
    (λ s. λ (t : is_signed k ≡ false).
    let n = natural-kind k t in
    let d = natural n.width (omega (arith, n.few)) (short-natural k n x h) (short-natural k n y g) (omega (arith, ints, n.low, h.above)) (omega (arith, ints, n.low, g.above)) in
    record { above = omega (arith, ints, n.low, d.0); below = omega (arith, ints, n.high, d.1) })
    refl

and-in_range : (k : IntKind) (x y : ℤ) → InRange k x → InRange k y → InRange k (int_bit_and w128 x y)
and-in_range k x y h g =
    bits-in_range k x y (int_bit_and w128 x y) h g (λ w f s t. and-short w x y f s t)
    (λ w f s t low high. let d = and-natural x y low (kind-number k x h) in (d.0, omega (arith, ints, d.1, s.below)))

or-in_range : (k : IntKind) (x y : ℤ) → InRange k x → InRange k y → InRange k (int_bit_or w128 x y)
or-in_range k x y h g =
    bits-in_range k x y (int_bit_or w128 x y) h g (λ w f s t. or-short w x y f s t)
    (λ w f s t low high. let d = or-natural w x y f s t low high in (omega (arith, ints, d.0, low), d.2))

xor-in_range : (k : IntKind) (x y : ℤ) → InRange k x → InRange k y → InRange k (int_bit_xor w128 x y)
xor-in_range k x y h g =
    bits-in_range k x y (int_bit_xor w128 x y) h g (λ w f s t. xor-short w x y f s t) (λ w f s t low high. xor-natural w x y f s t low high)

-- ---- all of them

no-meaning : Covers {K = Kind} IsOneOf (Ok (pos 0)) (left_numbers (form.Set (pos 0 ∷ [])))
no-meaning = left-numbers (form.Set (pos 0 ∷ [])) (pos 0) (contains-here (pos 0) (pos 0) [] refl)

-- a result in the kind's range is its own conversion
bits-kept : (k : IntKind) (a : Ival) (z : ℤ) → IsWellFormed a → Has a z → InRange k z → Covers {K = Kind} IsOneOf (Ok (wrapped k z)) (left_numbers (represented k a))
bits-kept k a z f p r = left-numbers (represented k a) (wrapped k z) (subst (Has (represented k a)) (sym (wrapped-in_range k z r)) (represented-keeps k a z f p r))

pub truth-given : (b : Bool) → cond b (Some (pos 1)) (Some (pos 0)) ≡ Some (truth b)
truth-given true = refl
truth-given false = refl

pub compared-keeps : (c : Cmp) (a b : Ival) (x y : ℤ) → IsOperand a → IsOperand b → Has a x → Has b y → Covers {K = Kind} IsOneOf (Ok (truth (compares c x y))) (compared_in c a b)
compared-keeps c a b x y h g p q = left-numbers (truth_of c a b) (truth (compares c x y)) (truth-keeps c a b h g x y (truth (compares c x y)) p q (truth-given (compares c x y)))

pub arithmetic-keeps : (o : BinOp) (k : IntKind) (a b : Ival) (x y : ℤ) → IsOperand a → IsOperand b → Has a x → Has b y → InRange k x → (is_shift o ≡ false → InRange k y)
    → Covers IsOneOf (arithmetic o k x y) (arithmetic_in o k a b)
arithmetic-keeps op.Add k a b x y h g p q r s = settled-keeps k (add_of a b) (x +ℤ y) (add-well_formed a b h g) (add-keeps a b h g x y (x +ℤ y) p q refl)
arithmetic-keeps op.Sub k a b x y h g p q r s = settled-keeps k (sub_of a b) (x -ℤ y) (sub-well_formed a b h g) (sub-keeps a b h g x y (x -ℤ y) p q refl)
arithmetic-keeps op.Mul k a b x y h g p q r s = settled-keeps k (mul_of a b) (x *ℤ y) (mul-well_formed a b h g) (mul-keeps a b h g x y (x *ℤ y) p q refl)
arithmetic-keeps op.Div k a b x y h g p q r s = div-kept k a b x y h g r (s refl) p q
arithmetic-keeps op.Rem k a b x y h g p q r s = rem-kept k a b x y h g r p q
arithmetic-keeps op.Shl k a b x y h g p q r s = shl-kept k a b x y h g r p q
arithmetic-keeps op.Shr k a b x y h g p q r s = shr-kept k a b x y h g r p q
arithmetic-keeps op.And k a b x y h g p q r s = let z = int_bit_and w128 x y in bits-kept k (and_of a b) z (and-well_formed a b h g) (and-keeps a b h g x y z p q refl) (and-in_range k x y r (s refl))
arithmetic-keeps op.Or k a b x y h g p q r s = let z = int_bit_or w128 x y in bits-kept k (or_of a b) z (or-well_formed a b h g) (or-keeps a b h g x y z p q refl) (or-in_range k x y r (s refl))
arithmetic-keeps op.Xor k a b x y h g p q r s = let z = int_bit_xor w128 x y in bits-kept k (xor_of a b) z (xor-well_formed a b h g) (xor-keeps a b h g x y z p q refl) (xor-in_range k x y r (s refl))
arithmetic-keeps op.Lt k a b x y h g p q r s = compared-keeps cmp.Lt a b x y h g p q
arithmetic-keeps op.Le k a b x y h g p q r s = compared-keeps cmp.Le a b x y h g p q
arithmetic-keeps op.Gt k a b x y h g p q r s = compared-keeps cmp.Gt a b x y h g p q
arithmetic-keeps op.Ge k a b x y h g p q r s = compared-keeps cmp.Ge a b x y h g p q
arithmetic-keeps op.Eq k a b x y h g p q r s = compared-keeps cmp.Eq a b x y h g p q
arithmetic-keeps op.Ne k a b x y h g p q r s = compared-keeps cmp.Ne a b x y h g p q
arithmetic-keeps op.PtrAdd k a b x y h g p q r s = no-meaning
arithmetic-keeps op.PtrSub k a b x y h g p q r s = no-meaning
arithmetic-keeps op.PtrDiff k a b x y h g p q r s = no-meaning

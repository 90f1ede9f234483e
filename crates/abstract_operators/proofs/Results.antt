-- The results of the operations on integer sets are well-formed.
use Rattle.std.proofs.Common.{◌≡◌, ℕ, ◌+◌, ◌-◌, ◌^◌, ◌≤◌, max, List, [], ◌∷◌, length, ℤ, pos, negsuc, neg_ℤ, ◌+ℤ◌, ◌-ℤ◌, ◌≤ℤ◌, Option, Some, None, refl, subst, arith, true, false, inl, inr}
use Rattle.std.specs.Prelude.{Bool, cond, ◌&&◌, unwrap_or, unsigned_abs, int_div, int_rem, int_lt, int_le, int_div}
use Rattle.std.specs.List.{All, filter_map, cons_option}
use Rattle.std.specs.Int.{int_min, int_max, int_shr, w128, int_bit_and, int_bit_or, int_bit_xor}
use Rattle.std.specs.Int.Signed.{mag}
use Rattle.std.proofs.lemmas.Int.{ints, clamps, by_lt_z}
use Rattle.std.proofs.lemmas.Nat.{shr_le}
use Rattle.std.proofs.Math.Nat.{le_refl}
use Rattle.std.proofs.lemmas.List.Elements.{All-nil, All-cons, All-head, All-tail, All-append, All-get_or, All-weaker}
use Rattle.ival.specs.Forms.{IsBounded, IsOperand, IsOperandNumber, IsWellFormed, HasEnds, Within, norm, hull, least, greatest, is_empty, only_number}
use Rattle.ival.specs.Numbers.{gcd}
use Rattle.ival.specs.Forms.{step}
use Rattle.ival.specs.Pairs.{pointwise, results}
use Rattle.ival.specs.SetOperations.{trim, join_of}
use Rattle.ival.specs.Arithmetic.{sum_of, difference_of, product_of, quotient_of, remainder_of, add_of, sub_of, neg_of, not_of, mul_of, div_of, rem_ends, all_four, corners_of, between_corners, product_range, product_step, quotients_by, lower_remainder, upper_remainder, divisor_size, remainder_rest, remainder_step}
use Rattle.ival.specs.BitOperations.{bit_and_of, bit_or_of, bit_xor_of, shifted_of, shl_of, shr_of, powers, and_ends, or_ends, xor_ends, and_of, or_of, xor_of, width_of, bit_length, signed_range, natural_range, is_natural}
use Rattle.ival.specs.Meet.{meet_of}
use Rattle.ival.specs.Comparisons.{compares, answer_of, decided, answers, truth_of}
use Rattle.ival.proofs.Membership.{by-test}
use Rattle.ival.proofs.WellFormed.{norm-well_formed, hull-well_formed}
use Rattle.ival.proofs.Operands.{hull-operand, hull-within, trim-operand}
use Rattle.ival.proofs.ProductLemmas.{all_four-parts}
use Rattle.ival.proofs.ProductMembers.{product-bounded}
use Rattle.ival.proofs.ShiftMembers.{powers-operand}
use Rattle.ival.proofs.QuotientMembers.{quotient-bounded, between-well_formed, by-well_formed, trim-within}
use Rattle.ival.proofs.RemainderMembers.{rem-low, rem-high}
use Rattle.ival.proofs.BitMembers.{mag-small}
use Rattle.ival.proofs.BitLemmas.{and-bounded, or-bounded, xor-bounded, bit_length-small, power-le}
use Rattle.ival.proofs.WidenMembers.{join-well_formed, ends-within, int_by-test}
use Rattle.ival.proofs.ComparisonMembers.{Decides-int_lt}
use Rattle.ival.proofs.PointwiseMembers.{operand-ends}
use Rattle.ival.specs.declared.corners.Corners.{Corners}
use Rattle.ival.specs.declared.forms.Cmp.{Cmp}
use Rattle.ival.specs.declared.forms.Cmp.TheVariants.{Lt, Le, Gt, Ge, Eq, Ne}
use Rattle.ival.specs.declared.forms.Ival.{Ival}
use Rattle.ival.specs.declared.forms.Ival.TheVariants.{Empty, Set, Range, All as Every}

-- ---- operations by all pairs

-- what an operation gives on numbers that arithmetic takes is bounded
pub record GivesBounded (f : ℤ → ℤ → Option ℤ) : Type 0 where
  pub bounded : (x y z : ℤ) → IsOperandNumber x → IsOperandNumber y → f x y ≡ Some z → IsBounded z

optional : (P : ℤ → Type 0) (o : Option ℤ) (zs : List ℤ) → ((z : ℤ) → o ≡ Some z → P z) → All P zs → All P (cons_option o zs)
optional P None zs h all = all
optional P (Some z) zs h all = All-cons P z zs (h z refl) all

row-bounded : (h : ℤ → Option ℤ) (ys : List ℤ) → ((y z : ℤ) → IsOperandNumber y → h y ≡ Some z → IsBounded z) → All IsOperandNumber ys → All IsBounded (filter_map h ys)
row-bounded h [] b all = All-nil IsBounded
row-bounded h (y ∷ ys) b all =
    optional IsBounded (h y) (filter_map h ys) (λ z e. b y z (All-head IsOperandNumber y ys all) e) (row-bounded h ys b (All-tail IsOperandNumber y ys all))

results-bounded : (f : ℤ → ℤ → Option ℤ) (xs ys : List ℤ) → GivesBounded f → All IsOperandNumber xs → All IsOperandNumber ys → All IsBounded (results f xs ys)
unfolding results
results-bounded f [] ys g p q = All-nil IsBounded
results-bounded f (x ∷ xs) ys g p q =
    All-append IsBounded (filter_map (f x) ys) (results f xs ys)
    (row-bounded (f x) ys (λ y z o e. g.bounded x y z (All-head IsOperandNumber x xs p) o e) q) (results-bounded f xs ys g (All-tail IsOperandNumber x xs p) q)

-- where one side is a range, the other formula counts
pub pointwise-well_formed : (f : ℤ → ℤ → Option ℤ) (a b w : Ival) → GivesBounded f → IsOperand a → IsOperand b → (HasEnds a → HasEnds b → IsWellFormed w) → IsWellFormed (unwrap_or (pointwise f a b) w)
pointwise-well_formed f Empty b w g h k e = tt
pointwise-well_formed f (Set xs) Empty w g h k e = tt
pointwise-well_formed f (Set xs) (Set ys) w g h k e = hull-well_formed (results f xs ys) (results-bounded f xs ys g h.1 k.1)
pointwise-well_formed f (Set xs) (Range lo hi r m) w g h k e = e h.0 k.0
pointwise-well_formed f (Set xs) Every w g h k e = absurd k
pointwise-well_formed f (Range lo hi r m) Empty w g h k e = tt
pointwise-well_formed f (Range lo hi r m) (Set ys) w g h k e = e h.0 k.0
pointwise-well_formed f (Range lo hi r m) (Range low high rest stride) w g h k e = e h.0 k.0
pointwise-well_formed f (Range lo hi r m) Every w g h k e = absurd k
pointwise-well_formed f Every b w g h k e = absurd h

-- ---- ends

pub record HasOperandEnds (a : Ival) : Type 0 where
  pub low : IsOperandNumber (least a)
  pub high : IsOperandNumber (greatest a)

pub operand-limits : (a : Ival) → IsOperand a → HasEnds a → HasOperandEnds a
operand-limits Empty h e = absurd e
operand-limits (Set xs) h e = record {
  low = All-get_or IsOperandNumber xs 0 (pos 0) e.some h.1;
  high = All-get_or IsOperandNumber xs (length xs - 1) (pos 0) (omega (arith, e.some)) h.1;
}
operand-limits (Range lo hi r m) h e = record { low = h.1; high = h.2 }
operand-limits Every h e = absurd e

-- ---- sums and differences

sums-bounded : GivesBounded sum_of
sums-bounded = record { bounded = λ x y z h k e. let s : x +ℤ y ≡ z = cc in record { above = omega (arith, ints, s, h.above, k.above); below = omega (arith, ints, s, h.below, k.below) } }

differences-bounded : GivesBounded difference_of
differences-bounded = record { bounded = λ x y z h k e. let s : x -ℤ y ≡ z = cc in record { above = omega (arith, ints, s, h.above, k.below); below = omega (arith, ints, s, h.below, k.above) } }

pub add-well_formed : (a b : Ival) → IsOperand a → IsOperand b → IsWellFormed (add_of a b)
add-well_formed a b h k =
    pointwise-well_formed sum_of a b _ sums-bounded h k
    (λ (d : HasEnds a) (e : HasEnds b).
    let p = operand-limits a h d in
    let q = operand-limits b k e in
    norm-well_formed (least a +ℤ least b) (greatest a +ℤ greatest b) (least a +ℤ least b) (gcd (step a) (step b))
    record { above = omega (arith, ints, p.low.above, q.low.above); below = omega (arith, ints, p.low.below, q.low.below) }
    record { above = omega (arith, ints, p.high.above, q.high.above); below = omega (arith, ints, p.high.below, q.high.below) })

pub sub-well_formed : (a b : Ival) → IsOperand a → IsOperand b → IsWellFormed (sub_of a b)
sub-well_formed a b h k =
    pointwise-well_formed difference_of a b _ differences-bounded h k
    (λ (d : HasEnds a) (e : HasEnds b).
    let p = operand-limits a h d in
    let q = operand-limits b k e in
    norm-well_formed (least a -ℤ greatest b) (greatest a -ℤ least b) (least a -ℤ greatest b) (gcd (step a) (step b))
    record { above = omega (arith, ints, p.low.above, q.high.below); below = omega (arith, ints, p.low.below, q.high.above) }
    record { above = omega (arith, ints, p.high.above, q.low.below); below = omega (arith, ints, p.high.below, q.low.above) })

-- the set of one number that arithmetic takes
pub one-operand : (x : ℤ) → IsOperandNumber x → IsOperand (Set (x ∷ []))
one-operand x h = (
  record {
    some = omega arith;
    few = omega arith;
    ascending = tt;
    bounded = All-cons IsBounded x [] record { above = omega (arith, ints, h.above); below = omega (arith, ints, h.below) } (All-nil IsBounded);
  },
  All-cons IsOperandNumber x [] h (All-nil IsOperandNumber),
)

zero-operand : IsOperand (Set (pos 0 ∷ []))
zero-operand = one-operand (pos 0) record { above = omega (arith, ints); below = omega (arith, ints) }

pub neg-well_formed : (a : Ival) → IsOperand a → IsWellFormed (neg_of a)
neg-well_formed a h = sub-well_formed (Set (pos 0 ∷ [])) a zero-operand h

pub not-well_formed : (a : Ival) → IsOperand a → IsWellFormed (not_of a)
not-well_formed a h = sub-well_formed (Set (negsuc 0 ∷ [])) a (one-operand (negsuc 0) record { above = omega (arith, ints); below = omega (arith, ints) }) h

-- ---- products and left shifts

products-bounded : GivesBounded product_of
products-bounded = record { bounded = λ x y z h k e. let p = product-bounded x y z e in subst IsBounded p.0 p.1 }

range-formed : (a b : Ival) (o : Option Corners) → corners_of product_of a b ≡ o → IsOperand a → IsOperand b → IsWellFormed (product_range a b o)
range-formed a b None e h k = tt
range-formed a b (Some c) e h k =
    let parts = all_four-parts (product_of (least a) (least b)) (product_of (least a) (greatest b)) (product_of (greatest a) (least b)) (product_of (greatest a) (greatest b)) c e in
    let c1 = product-bounded (least a) (least b) c.first parts.0 in
    let c2 = product-bounded (least a) (greatest b) c.second parts.1 in
    let c3 = product-bounded (greatest a) (least b) c.third parts.2 in
    let c4 = product-bounded (greatest a) (greatest b) c.fourth parts.3 in
    pointwise-well_formed product_of a b _ products-bounded h k
    (λ (d : HasEnds a) (f : HasEnds b). between-well_formed c c.first (product_step a b) (subst IsBounded c1.0 c1.1) (subst IsBounded c2.0 c2.1) (subst IsBounded c3.0 c3.1) (subst IsBounded c4.0 c4.1))

pub mul-well_formed : (a b : Ival) → IsOperand a → IsOperand b → IsWellFormed (mul_of a b)
mul-well_formed a b h k =
    by-test IsWellFormed _ Empty (product_range a b (corners_of product_of a b)) (λ t. tt) (λ t. range-formed a b (corners_of product_of a b) refl h k)

pub shl-well_formed : (a b : Ival) → IsOperand a → IsWellFormed (shl_of a b)
shl-well_formed a b h = mul-well_formed a (hull (powers b 64)) h (hull-operand (powers b 64) (powers-operand b 64 (le_refl 64)))

-- ---- quotients and remainders

quotient-given : (w : ℤ) (b : Bool) (z : ℤ) → cond b None (Some w) ≡ Some z → w ≡ z
quotient-given w true z e = absurd (cc)
quotient-given w false z e = cc

quotients-bounded : GivesBounded quotient_of
quotients-bounded = record { bounded = λ x y z h k e. subst IsBounded (quotient-given (int_div x y) _ z e) (quotient-bounded x y h) }

pub div-well_formed : (a b : Ival) → IsOperand a → IsOperand b → IsWellFormed (div_of a b)
div-well_formed a b h k =
    let o = only_number b in
    let low = trim b (neg_ℤ (pos (2 ^ 126))) (negsuc 0) in
    let high = trim b (pos 1) (pos (2 ^ 126)) in
    let ol : IsOperand low = trim-operand b (neg_ℤ (pos (2 ^ 126))) (negsuc 0) k record { above = omega (arith, ints); below = omega (arith, ints) } record { above = omega (arith, ints); below = omega (arith, ints) } in
    let oh : IsOperand high = trim-operand b (pos 1) (pos (2 ^ 126)) k record { above = omega (arith, ints); below = omega (arith, ints) } record { above = omega (arith, ints); below = omega (arith, ints) } in
    pointwise-well_formed quotient_of a b (join_of (quotients_by a low o) (quotients_by a high o)) quotients-bounded h k
    (λ (d : HasEnds a) (e : HasEnds b).
    join-well_formed (quotients_by a low o) (quotients_by a high o)
    (by-well_formed a low o d h ol (λ w m. inl (ends-within (neg_ℤ (pos (2 ^ 126))) (negsuc 0) low (operand-ends low w ol m) (trim-within b (neg_ℤ (pos (2 ^ 126))) (negsuc 0) k)).1))
    (by-well_formed a high o d h oh (λ w m. inr (ends-within (pos 1) (pos (2 ^ 126)) high (operand-ends high w oh m) (trim-within b (pos 1) (pos (2 ^ 126)) k)).0)))

remainder-bounded : (x y : ℤ) → IsOperandNumber x → IsBounded (int_rem x y)
remainder-bounded x y h =
    by_lt_z x (pos 0)
    (λ lt. let r = rem-high x y lt in record { above = omega (arith, ints, r.1, h.above); below = omega (arith, ints, r.0) })
    (λ ge. let r = rem-low x y ge in record { above = omega (arith, ints, r.0); below = omega (arith, ints, r.1, h.below) })

pub remainders-bounded : GivesBounded remainder_of
remainders-bounded = record { bounded = λ x y z h k e. subst IsBounded (quotient-given (int_rem x y) _ z e) (remainder-bounded x y h) }

lower-bounded : (x : ℤ) (n : ℕ) → IsOperandNumber x → IsBounded (lower_remainder x n)
lower-bounded x n h =
    int_by-test IsBounded (int_lt x (pos 0)) (int_max x (neg_ℤ (pos (n - 1)))) (pos 0)
    (λ t. let b = (Decides-int_lt x (pos 0)).0 t in record { above = omega (arith, ints, clamps, h.above); below = omega (arith, ints, clamps, b) })
    (λ t. record { above = omega (arith, ints); below = omega (arith, ints) })

upper-bounded : (x : ℤ) (n : ℕ) → IsOperandNumber x → IsBounded (upper_remainder x n)
upper-bounded x n h =
    int_by-test IsBounded (int_lt (pos 0) x) (int_min x (pos (n - 1))) (pos 0)
    (λ t. let b = (Decides-int_lt (pos 0) x).0 t in record { above = omega (arith, ints, clamps, b); below = omega (arith, ints, clamps, h.below) })
    (λ t. record { above = omega (arith, ints); below = omega (arith, ints) })

-- the remainders by the ends of both sides
pub rem_ends-well_formed : (a b : Ival) → IsOperand a → HasEnds a → IsWellFormed (rem_ends a b)
rem_ends-well_formed a b h d =
    let p = operand-limits a h d in
    let n = divisor_size b in
    by-test IsWellFormed _ Empty (norm (lower_remainder (least a) n) (upper_remainder (greatest a) n) (remainder_rest a (only_number b)) (remainder_step a (only_number b)))
    (λ t. tt)
    (λ t. norm-well_formed (lower_remainder (least a) n) (upper_remainder (greatest a) n) (remainder_rest a (only_number b)) (remainder_step a (only_number b)) (lower-bounded (least a) n p.low) (upper-bounded (greatest a) n p.high))

-- ---- right shifts

shift-bounded : (x : ℤ) (k : ℕ) → IsOperandNumber x → IsBounded (int_shr x k)
shift-bounded (pos n) k h = record { above = omega (arith, ints); below = omega (arith, ints, shr_le n k, h.below) }
shift-bounded (negsuc n) k h = record { above = omega (arith, ints, shr_le n k, h.above); below = omega (arith, ints) }

shift-given : (w : ℤ) (b : Bool) (z : ℤ) → cond b (Some w) None ≡ Some z → w ≡ z
shift-given w true z e = cc
shift-given w false z e = absurd (cc)

shifts-bounded : GivesBounded shifted_of
shifts-bounded = record { bounded = λ x y z h k e. subst IsBounded (shift-given (int_shr x (unsigned_abs y)) _ z e) (shift-bounded x (unsigned_abs y) h) }

corners-well_formed : (f : ℤ → ℤ → Option ℤ) (a b : Ival) (o : Option Corners) (r : ℤ) (m : ℕ) → corners_of f a b ≡ o → GivesBounded f → HasOperandEnds a → HasOperandEnds b → IsWellFormed (between_corners o r m)
corners-well_formed f a b None r m e g p q = tt
corners-well_formed f a b (Some c) r m e g p q =
    let parts = all_four-parts (f (least a) (least b)) (f (least a) (greatest b)) (f (greatest a) (least b)) (f (greatest a) (greatest b)) c e in
    between-well_formed c r m
    (g.bounded (least a) (least b) c.first p.low q.low parts.0) (g.bounded (least a) (greatest b) c.second p.low q.high parts.1)
    (g.bounded (greatest a) (least b) c.third p.high q.low parts.2) (g.bounded (greatest a) (greatest b) c.fourth p.high q.high parts.3)

pub shr-well_formed : (a b : Ival) → IsOperand a → IsOperand b → IsWellFormed (shr_of a b)
shr-well_formed a b h k =
    pointwise-well_formed shifted_of a b _ shifts-bounded h k
    (λ (d : HasEnds a) (e : HasEnds b). corners-well_formed shifted_of a b (corners_of shifted_of a b) (pos 0) 1 refl shifts-bounded (operand-limits a h d) (operand-limits b k e))

-- ---- bit operations

bit_ands-bounded : GivesBounded bit_and_of
bit_ands-bounded = record { bounded = λ x y z h k e. let s : int_bit_and w128 x y ≡ z = cc in subst IsBounded s (and-bounded x y h k) }

bit_ors-bounded : GivesBounded bit_or_of
bit_ors-bounded = record { bounded = λ x y z h k e. let s : int_bit_or w128 x y ≡ z = cc in subst IsBounded s (or-bounded x y h k) }

bit_xors-bounded : GivesBounded bit_xor_of
bit_xors-bounded = record { bounded = λ x y z h k e. let s : int_bit_xor w128 x y ≡ z = cc in subst IsBounded s (xor-bounded x y h k) }

width-small : (a b : Ival) → HasOperandEnds a → HasOperandEnds b → width_of a b ≤ 65
width-small a b p q =
    let most : ℕ = max (max (mag (least a)) (mag (greatest a))) (max (mag (least b)) (mag (greatest b))) in
    bit_length-small most (omega (arith, mag-small (least a) p.low, mag-small (greatest a) p.high, mag-small (least b) q.low, mag-small (greatest b) q.high))

signed-formed : (w : ℕ) → w ≤ 65 → IsWellFormed (signed_range w)
signed-formed w h =
    let s = power-le w h in
    norm-well_formed (neg_ℤ (pos (2 ^ w))) (pos (2 ^ w) -ℤ pos 1) (pos 0) 1 record { above = omega (arith, ints, s); below = omega (arith, ints, s) } record { above = omega (arith, ints, s); below = omega (arith, ints, s) }

natural-formed : (low : ℤ) (w : ℕ) → IsBounded low → w ≤ 65 → IsWellFormed (natural_range low w)
natural-formed low w b h =
    let s = power-le w h in
    norm-well_formed low (pos (2 ^ w) -ℤ pos 1) (pos 0) 1 b record { above = omega (arith, ints, s); below = omega (arith, ints, s) }

zero-bounded : IsBounded (pos 0)
zero-bounded = record { above = omega (arith, ints); below = omega (arith, ints) }

max-bounded : (x y : ℤ) → IsOperandNumber x → IsOperandNumber y → IsBounded (int_max x y)
max-bounded x y h k = record { above = omega (arith, ints, clamps, h.above, k.above); below = omega (arith, ints, clamps, h.below, k.below) }

min-bounded : (x y : ℤ) → IsOperandNumber x → IsOperandNumber y → IsBounded (int_min x y)
min-bounded x y h k = record { above = omega (arith, ints, clamps, h.above, k.above); below = omega (arith, ints, clamps, h.below, k.below) }

number-bounded : (x : ℤ) → IsOperandNumber x → IsBounded x
number-bounded x h = record { above = omega (arith, ints, h.above); below = omega (arith, ints, h.below) }

pub and-well_formed : (a b : Ival) → IsOperand a → IsOperand b → IsWellFormed (and_of a b)
and-well_formed a b h k =
    pointwise-well_formed bit_and_of a b (and_ends a b) bit_ands-bounded h k
    (λ (d : HasEnds a) (e : HasEnds b).
    let p = operand-limits a h d in
    let q = operand-limits b k e in
    by-test IsWellFormed (is_natural a)
    (cond (is_natural b) (norm (pos 0) (int_min (greatest a) (greatest b)) (pos 0) 1) (norm (pos 0) (greatest a) (pos 0) 1))
    (cond (is_natural b) (norm (pos 0) (greatest b) (pos 0) 1) (signed_range (width_of a b)))
    (λ s. by-test IsWellFormed (is_natural b) (norm (pos 0) (int_min (greatest a) (greatest b)) (pos 0) 1) (norm (pos 0) (greatest a) (pos 0) 1)
    (λ t. norm-well_formed (pos 0) (int_min (greatest a) (greatest b)) (pos 0) 1 zero-bounded (min-bounded (greatest a) (greatest b) p.high q.high))
    (λ t. norm-well_formed (pos 0) (greatest a) (pos 0) 1 zero-bounded (number-bounded (greatest a) p.high)))
    (λ s. by-test IsWellFormed (is_natural b) (norm (pos 0) (greatest b) (pos 0) 1) (signed_range (width_of a b))
    (λ t. norm-well_formed (pos 0) (greatest b) (pos 0) 1 zero-bounded (number-bounded (greatest b) q.high))
    (λ t. signed-formed (width_of a b) (width-small a b p q))))

pub or-well_formed : (a b : Ival) → IsOperand a → IsOperand b → IsWellFormed (or_of a b)
or-well_formed a b h k =
    pointwise-well_formed bit_or_of a b (or_ends a b) bit_ors-bounded h k
    (λ (d : HasEnds a) (e : HasEnds b).
    let p = operand-limits a h d in
    let q = operand-limits b k e in
    let w = width-small a b p q in
    by-test IsWellFormed (is_natural a && is_natural b) (natural_range (int_max (least a) (least b)) (width_of a b)) (signed_range (width_of a b))
    (λ t. natural-formed (int_max (least a) (least b)) (width_of a b) (max-bounded (least a) (least b) p.low q.low) w)
    (λ t. signed-formed (width_of a b) w))

pub xor-well_formed : (a b : Ival) → IsOperand a → IsOperand b → IsWellFormed (xor_of a b)
xor-well_formed a b h k =
    pointwise-well_formed bit_xor_of a b (xor_ends a b) bit_xors-bounded h k
    (λ (d : HasEnds a) (e : HasEnds b).
    let p = operand-limits a h d in
    let q = operand-limits b k e in
    let w = width-small a b p q in
    by-test IsWellFormed (is_natural a && is_natural b) (natural_range (pos 0) (width_of a b)) (signed_range (width_of a b))
    (λ t. natural-formed (pos 0) (width_of a b) zero-bounded w)
    (λ t. signed-formed (width_of a b) w))

-- ---- comparisons

-- only the answers 0 and 1
pub record AreAnswers (a : Ival) : Type 0 where
  pub formed : IsWellFormed a
  pub within : Within (pos 0) (pos 1) a

abbrev IsAnswer : ℤ → Type 0
IsAnswer x = (pos 0 ≤ℤ x) × (x ≤ℤ pos 1)

answer-is : (c : Bool) (z : ℤ) → cond c (Some (pos 1)) (Some (pos 0)) ≡ Some z → IsAnswer z
answer-is true z e = let s : pos 1 ≡ z = cc in (omega (arith, ints, s), omega (arith, ints, s))
answer-is false z e = let s : pos 0 ≡ z = cc in (omega (arith, ints, s), omega (arith, ints, s))

answer-row : (op : Cmp) (x : ℤ) (ys : List ℤ) → All IsAnswer (filter_map (answer_of op x) ys)
answer-row op x [] = All-nil IsAnswer
answer-row op x (y ∷ ys) = optional IsAnswer (answer_of op x y) (filter_map (answer_of op x) ys) (λ z e. answer-is (compares op x y) z e) (answer-row op x ys)

answer-rows : (op : Cmp) (xs ys : List ℤ) → All IsAnswer (results (answer_of op) xs ys)
unfolding results
answer-rows op [] ys = All-nil IsAnswer
answer-rows op (x ∷ xs) ys = All-append IsAnswer (filter_map (answer_of op x) ys) (results (answer_of op) xs ys) (answer-row op x ys) (answer-rows op xs ys)

answers-bounded : (xs : List ℤ) → All IsAnswer xs → All IsBounded xs
answers-bounded xs all = All-weaker IsAnswer IsBounded (λ x h. record { above = omega (arith, ints, h.0); below = omega (arith, ints, h.1) }) xs all

decided-answers : (b c : Bool) → AreAnswers (decided b c)
decided-answers true c = record { formed = (one-operand (pos 1) record { above = omega (arith, ints); below = omega (arith, ints) }).0; within = All-cons IsAnswer (pos 1) [] (omega (arith, ints), omega (arith, ints)) (All-nil IsAnswer) }
decided-answers false true = record { formed = zero-operand.0; within = All-cons IsAnswer (pos 0) [] (omega (arith, ints), omega (arith, ints)) (All-nil IsAnswer) }
decided-answers false false =
    let all : All IsAnswer (pos 0 ∷ pos 1 ∷ []) = All-cons IsAnswer (pos 0) (pos 1 ∷ []) (omega (arith, ints), omega (arith, ints)) (All-cons IsAnswer (pos 1) [] (omega (arith, ints), omega (arith, ints)) (All-nil IsAnswer)) in
    record { formed = record { some = omega arith; few = omega arith; ascending = (omega (arith, ints), tt); bounded = answers-bounded (pos 0 ∷ pos 1 ∷ []) all }; within = all }

by-ends : (op : Cmp) (a b : Ival) → AreAnswers (answers op a b)
by-ends Lt a b = decided-answers (int_lt (greatest a) (least b)) (int_le (greatest b) (least a))
by-ends Le a b = decided-answers (int_le (greatest a) (least b)) (int_lt (greatest b) (least a))
by-ends Gt a b = decided-answers (int_lt (greatest b) (least a)) (int_le (greatest a) (least b))
by-ends Ge a b = decided-answers (int_le (greatest b) (least a)) (int_lt (greatest a) (least b))
by-ends Eq a b = decided-answers false (is_empty (meet_of a b))
by-ends Ne a b = decided-answers (is_empty (meet_of a b)) false

pub truth-answers : (op : Cmp) (a b : Ival) → AreAnswers (truth_of op a b)
truth-answers op Empty b = record { formed = tt; within = tt }
truth-answers op (Set xs) Empty = record { formed = tt; within = tt }
truth-answers op (Set xs) (Set ys) = record { formed = hull-well_formed (results (answer_of op) xs ys) (answers-bounded _ (answer-rows op xs ys)); within = hull-within (pos 0) (pos 1) (results (answer_of op) xs ys) (answer-rows op xs ys) }
truth-answers op (Set xs) (Range lo hi r m) = by-ends op (Set xs) (Range lo hi r m)
truth-answers op (Set xs) Every = by-ends op (Set xs) Every
truth-answers op (Range lo hi r m) Empty = record { formed = tt; within = tt }
truth-answers op (Range lo hi r m) (Set ys) = by-ends op (Range lo hi r m) (Set ys)
truth-answers op (Range lo hi r m) (Range low high rest stride) = by-ends op (Range lo hi r m) (Range low high rest stride)
truth-answers op (Range lo hi r m) Every = by-ends op (Range lo hi r m) Every
truth-answers op Every Empty = record { formed = tt; within = tt }
truth-answers op Every (Set ys) = by-ends op Every (Set ys)
truth-answers op Every (Range low high rest stride) = by-ends op Every (Range low high rest stride)
truth-answers op Every Every = by-ends op Every Every

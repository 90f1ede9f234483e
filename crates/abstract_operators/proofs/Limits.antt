-- Where the meets and the conversions of sets lie.
use Rattle.std.proofs.Common.{◌≡◌, ℕ, ◌-◌, ◌^◌, ◌≤◌, List, map, ℤ, pos, ◌≤ℤ◌, Option, Some, None, arith, true, false}
use Rattle.std.specs.Prelude.{Bool, int_le, nat_le}
use Rattle.std.specs.List.{All, Contains, filter}
use Rattle.std.specs.Ordering.{int_eq}
use Rattle.std.proofs.lemmas.Int.{ints, clamps}
use Rattle.std.proofs.lemmas.Bool.Decides.{Decides-and}
use Rattle.std.proofs.lemmas.List.Elements.{All-weaker, All-contains, All-contains_itself, All-filter, All-map, filter_passes}
use Rattle.ival.specs.Numbers.{gcd}
use Rattle.ival.specs.Forms.{IsBounded, IsOperandNumber, IsWellFormed, HasEnds, Within, Has, has, norm, hull, least, greatest, step, set_of}
use Rattle.ival.specs.Meet.{meet_of, common_range, least_common, lower_end, upper_end, lcm}
use Rattle.ival.specs.Casts.{type_least, type_greatest, wrapped, window, fits_type, cast_range, cast_of}
use Rattle.ival.proofs.CommonNumbers.{Decides-int_le}
use Rattle.ival.proofs.Keeping.{member-between}
use Rattle.ival.proofs.Membership.{by-test, Decides-member}
use Rattle.ival.proofs.WellFormed.{norm-well_formed, hull-well_formed, filter-well_formed}
use Rattle.ival.proofs.Operands.{norm-within, hull-within}
use Rattle.ival.proofs.WidenMembers.{ends-bounded}
use Rattle.ival.proofs.QuotientMembers.{set-within}
use Rattle.ival.proofs.CastMembers.{wrapped-converted}
use Rattle.ival.proofs.BitMembers.{power-up}
use Rattle.abstract_operators.specs.Numbers.{numbers, met}
pub use Rattle.abstract_operators.specs.Conditions.{IsFrom}
use Rattle.ival.specs.declared.forms.Ival.{Ival}
use Rattle.ival.specs.declared.forms.Ival.TheVariants.{Empty, Set, Range, All as Every}

pub member-within : (low high : ℤ) (a : Ival) (x : ℤ) → Within low high a → Has a x → IsFrom low high x
member-within low high Empty x h p = absurd p
member-within low high (Set xs) x h p = All-contains (IsFrom low high) xs x h p
member-within low high (Range lo hi r m) x h p = (omega (arith, ints, h.0, p.0), omega (arith, ints, h.1, p.1))
member-within low high Every x h p = absurd h

pub within-wider : (low high less more : ℤ) (a : Ival) → less ≤ℤ low → high ≤ℤ more → Within low high a → Within less more a
within-wider low high less more Empty h k p = tt
within-wider low high less more (Set xs) h k p = All-weaker (IsFrom low high) (IsFrom less more) (λ x b. (omega (arith, ints, h, b.0), omega (arith, ints, k, b.1))) xs p
within-wider low high less more (Range lo hi r m) h k p = (omega (arith, ints, h, p.0), omega (arith, ints, k, p.1))
within-wider low high less more Every h k p = p

-- ---- meets

passed-within : (low high : ℤ) (b : Ival) (xs : List ℤ) → IsWellFormed b → Within low high b → Within low high (set_of (filter (has b) xs))
passed-within low high b xs h w =
    set-within low high (filter (has b) xs)
    (All-weaker (λ x. has b x ≡ true) (IsFrom low high) (λ x t. member-within low high b x w ((Decides-member b x h).0 t)) (filter (has b) xs) (filter_passes (has b) xs))

common-within : (low high : ℤ) (a b : Ival) (o : Option ℤ) → low ≤ℤ least b → greatest b ≤ℤ high → Within low high (common_range a b o)
common-within low high a b None h k = tt
common-within low high a b (Some x) h k =
    let l = lower_end a b in
    let u = upper_end a b in
    let n = lcm (step a) (step b) in
    by-test (Within low high) (nat_le n (2 ^ 126)) (norm l u x n) (norm l u (least a) (step a))
    (λ t. norm-within low high l u x n (omega (arith, ints, clamps, h)) (omega (arith, ints, clamps, k)))
    (λ t. norm-within low high l u (least a) (step a) (omega (arith, ints, clamps, h)) (omega (arith, ints, clamps, k)))

common-well_formed : (a b : Ival) (o : Option ℤ) → HasEnds a → HasEnds b → IsWellFormed (common_range a b o)
common-well_formed a b None h k = tt
common-well_formed a b (Some x) h k =
    let l = lower_end a b in
    let u = upper_end a b in
    let n = lcm (step a) (step b) in
    let p = ends-bounded a h in
    let q = ends-bounded b k in
    let low : IsBounded l = record { above = omega (arith, ints, clamps, p.0.above, q.0.above); below = omega (arith, ints, clamps, p.0.below, q.0.below) } in
    let high : IsBounded u = record { above = omega (arith, ints, clamps, p.1.above, q.1.above); below = omega (arith, ints, clamps, p.1.below, q.1.below) } in
    by-test IsWellFormed (nat_le n (2 ^ 126)) (norm l u x n) (norm l u (least a) (step a))
    (λ t. norm-well_formed l u x n low high) (λ t. norm-well_formed l u (least a) (step a) low high)

-- a meet lies where its second side does
pub meet-within : (low high : ℤ) (a b : Ival) → IsWellFormed b → Within low high b → Within low high (meet_of a b)
meet-within low high Empty b h w = tt
meet-within low high (Set xs) Empty h w = tt
meet-within low high (Set xs) (Set ys) h w = passed-within low high (Set ys) xs h w
meet-within low high (Set xs) (Range lo hi r m) h w = passed-within low high (Range lo hi r m) xs h w
meet-within low high (Set xs) Every h w = absurd w
meet-within low high (Range lo hi r m) Empty h w = tt
meet-within low high (Range lo hi r m) (Set ys) h w = set-within low high (filter (has (Range lo hi r m)) ys) (All-filter (has (Range lo hi r m)) (IsFrom low high) ys w)
meet-within low high (Range lo hi r m) (Range lo' hi' r' m') h w =
    common-within low high (Range lo hi r m) (Range lo' hi' r' m') (least_common (Range lo hi r m) (Range lo' hi' r' m')) w.0 w.1
meet-within low high (Range lo hi r m) Every h w = absurd w
meet-within low high Every Empty h w = tt
meet-within low high Every (Set ys) h w = w
meet-within low high Every (Range lo hi r m) h w = w
meet-within low high Every Every h w = absurd w

pub meet-well_formed : (a b : Ival) → IsWellFormed a → IsWellFormed b → IsWellFormed (meet_of a b)
meet-well_formed Empty b h k = tt
meet-well_formed (Set xs) Empty h k = tt
meet-well_formed (Set xs) (Set ys) h k = filter-well_formed (has (Set ys)) xs h
meet-well_formed (Set xs) (Range lo hi r m) h k = filter-well_formed (has (Range lo hi r m)) xs h
meet-well_formed (Set xs) Every h k = h
meet-well_formed (Range lo hi r m) Empty h k = tt
meet-well_formed (Range lo hi r m) (Set ys) h k = filter-well_formed (has (Range lo hi r m)) ys k
meet-well_formed (Range lo hi r m) (Range lo' hi' r' m') h k =
    common-well_formed (Range lo hi r m) (Range lo' hi' r' m') (least_common (Range lo hi r m) (Range lo' hi' r' m')) h k
meet-well_formed (Range lo hi r m) Every h k = h
meet-well_formed Every Empty h k = tt
meet-well_formed Every (Set ys) h k = k
meet-well_formed Every (Range lo hi r m) h k = k
meet-well_formed Every Every h k = tt

pub numbers-well_formed : (low high : ℤ) → IsBounded low → IsBounded high → IsWellFormed (numbers low high)
unfolding numbers
numbers-well_formed low high h k = norm-well_formed low high (pos 0) 1 h k

pub numbers-within : (low high : ℤ) → Within low high (numbers low high)
unfolding numbers
numbers-within low high = norm-within low high low high (pos 0) 1 (omega (arith, ints)) (omega (arith, ints))

pub met-within : (a : Ival) (low high : ℤ) → IsBounded low → IsBounded high → Within low high (met a low high)
unfolding met
met-within a low high h k = meet-within low high a (numbers low high) (numbers-well_formed low high h k) (numbers-within low high)

pub met-well_formed : (a : Ival) (low high : ℤ) → IsWellFormed a → IsBounded low → IsBounded high → IsWellFormed (met a low high)
unfolding met
met-well_formed a low high f h k = meet-well_formed a (numbers low high) f (numbers-well_formed low high h k)

-- ---- casts

pub record IsWidth (width : ℕ) : Type 0 where
  pub some : 1 ≤ width
  pub few : width ≤ 64

pub type_least-operand : (width : ℕ) (signed : Bool) → IsWidth width → IsOperandNumber (type_least width signed)
type_least-operand width true w = let p = power-up (width - 1) 63 (omega (arith, w.few)) in record { above = omega (arith, ints, p); below = omega (arith, ints) }
type_least-operand width false w = record { above = omega (arith, ints); below = omega (arith, ints) }

pub type_greatest-operand : (width : ℕ) (signed : Bool) → IsWidth width → IsOperandNumber (type_greatest width signed)
type_greatest-operand width true w = let p = power-up (width - 1) 63 (omega (arith, w.few)) in record { above = omega (arith, ints, p); below = omega (arith, ints, p) }
type_greatest-operand width false w = let p = power-up width 64 w.few in record { above = omega (arith, ints, p); below = omega (arith, ints, p) }

wrapped-from : (width : ℕ) (signed : Bool) (x : ℤ) → 1 ≤ width → IsFrom (type_least width signed) (type_greatest width signed) (wrapped width signed x)
wrapped-from width signed x h = let c = wrapped-converted width signed x h in (c.above, c.below)

wrapped-all : (width : ℕ) (signed : Bool) (xs : List ℤ) → 1 ≤ width → All (IsFrom (type_least width signed) (type_greatest width signed)) (map (wrapped width signed) xs)
wrapped-all width signed xs h =
    All-map (IsFrom (type_least width signed) (type_greatest width signed)) (wrapped width signed) xs
    (All-weaker (Contains xs) (λ x. IsFrom (type_least width signed) (type_greatest width signed) (wrapped width signed x)) (λ x c. wrapped-from width signed x h) xs (All-contains_itself xs))

fitting : (width : ℕ) (signed : Bool) (a : Ival) → fits_type width signed a ≡ true → (type_least width signed ≤ℤ least a) × (greatest a ≤ℤ type_greatest width signed)
fitting width signed a e =
    (Decides-and (int_le (type_least width signed) (least a)) (int_le (greatest a) (type_greatest width signed)) (Decides-int_le (type_least width signed) (least a)) (Decides-int_le (greatest a) (type_greatest width signed))).0 e

pub cast-within : (a : Ival) (width : ℕ) (signed : Bool) → IsWellFormed a → 1 ≤ width → Within (type_least width signed) (type_greatest width signed) (cast_of a width signed)
cast-within Empty width signed h w = tt
cast-within (Set xs) width signed h w =
    let l = type_least width signed in
    let g = type_greatest width signed in
    by-test (Within l g) (fits_type width signed (Set xs)) (Set xs) (hull (map (wrapped width signed) xs))
    (λ t. let d = fitting width signed (Set xs) t in
    All-weaker (Contains xs) (IsFrom l g) (λ (x : ℤ) (c : Contains xs x). let b = member-between (Set xs) x h c in (omega (arith, ints, d.0, b.0), omega (arith, ints, d.1, b.1))) xs (All-contains_itself xs))
    (λ t. hull-within l g (map (wrapped width signed) xs) (wrapped-all width signed xs w))
cast-within (Range lo hi r m) width signed h w =
    let a = Range lo hi r m in
    let l = type_least width signed in
    let g = type_greatest width signed in
    let first = wrapped-from width signed (least a) w in
    let last = wrapped-from width signed (greatest a) w in
    by-test (Within l g) (fits_type width signed a) a (cast_range width signed a)
    (λ t. fitting width signed a t)
    (λ t. by-test (Within l g) (int_eq (window width signed (least a)) (window width signed (greatest a)))
    (norm (wrapped width signed (least a)) (wrapped width signed (greatest a)) (wrapped width signed (least a)) (step a)) (norm l g (least a) (gcd (step a) (2 ^ width)))
    (λ u. norm-within l g (wrapped width signed (least a)) (wrapped width signed (greatest a)) (wrapped width signed (least a)) (step a) first.0 last.1)
    (λ u. norm-within l g l g (least a) (gcd (step a) (2 ^ width)) (omega (arith, ints)) (omega (arith, ints))))
cast-within Every width signed h w = norm-within (type_least width signed) (type_greatest width signed) (type_least width signed) (type_greatest width signed) (pos 0) 1 (omega (arith, ints)) (omega (arith, ints))

number-bounded : (x : ℤ) → IsOperandNumber x → IsBounded x
number-bounded x h = record { above = omega (arith, ints, h.above); below = omega (arith, ints, h.below) }

bounded-between : (low high x : ℤ) → IsOperandNumber low → IsOperandNumber high → IsFrom low high x → IsBounded x
bounded-between low high x h k b = record { above = omega (arith, ints, h.above, b.0); below = omega (arith, ints, k.below, b.1) }

pub cast-well_formed : (a : Ival) (width : ℕ) (signed : Bool) → IsWellFormed a → IsWidth width → IsWellFormed (cast_of a width signed)
cast-well_formed Empty width signed h w = tt
cast-well_formed (Set xs) width signed h w =
    let l = type_least-operand width signed w in
    let g = type_greatest-operand width signed w in
    by-test IsWellFormed (fits_type width signed (Set xs)) (Set xs) (hull (map (wrapped width signed) xs))
    (λ t. h)
    (λ t. hull-well_formed (map (wrapped width signed) xs)
    (All-weaker (IsFrom (type_least width signed) (type_greatest width signed)) IsBounded (λ x b. bounded-between (type_least width signed) (type_greatest width signed) x l g b) (map (wrapped width signed) xs) (wrapped-all width signed xs w.some)))
cast-well_formed (Range lo hi r m) width signed h w =
    let a = Range lo hi r m in
    let l = type_least-operand width signed w in
    let g = type_greatest-operand width signed w in
    let first = bounded-between (type_least width signed) (type_greatest width signed) (wrapped width signed (least a)) l g (wrapped-from width signed (least a) w.some) in
    let last = bounded-between (type_least width signed) (type_greatest width signed) (wrapped width signed (greatest a)) l g (wrapped-from width signed (greatest a) w.some) in
    by-test IsWellFormed (fits_type width signed a) a (cast_range width signed a)
    (λ t. h)
    (λ t. by-test IsWellFormed (int_eq (window width signed (least a)) (window width signed (greatest a)))
    (norm (wrapped width signed (least a)) (wrapped width signed (greatest a)) (wrapped width signed (least a)) (step a)) (norm (type_least width signed) (type_greatest width signed) (least a) (gcd (step a) (2 ^ width)))
    (λ u. norm-well_formed (wrapped width signed (least a)) (wrapped width signed (greatest a)) (wrapped width signed (least a)) (step a) first last)
    (λ u. norm-well_formed (type_least width signed) (type_greatest width signed) (least a) (gcd (step a) (2 ^ width)) (number-bounded (type_least width signed) l) (number-bounded (type_greatest width signed) g)))
cast-well_formed Every width signed h w =
    norm-well_formed (type_least width signed) (type_greatest width signed) (pos 0) 1 (number-bounded (type_least width signed) (type_least-operand width signed w)) (number-bounded (type_greatest width signed) (type_greatest-operand width signed w))

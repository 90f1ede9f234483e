-- Equal values join and widen to themselves, and include each other.
use Rattle.std.proofs.Common.{◌≡◌, ℕ, zero, suc, ◌*◌, ◌/◌, ◌%◌, ◌<◌, ◌≤◌, List, [], ◌∷◌, ◌++◌, sym, refl, ap, subst, ◌∙◌, ℤ, pos, ◌-ℤ◌, ◌≤ℤ◌, Bool, true, false, arith}
use Rattle.std.specs.Prelude.{◌&&◌, ◌||◌, nat_eq, nat_lt, int_le, unsigned_abs}
use Rattle.std.specs.List.{All, list_all, list_any}
use Rattle.std.specs.Ordering.{int_eq}
use Rattle.std.specs.Int.{int_min, int_max}
use Rattle.std.proofs.lemmas.Int.{ints, clamps}
use Rattle.std.proofs.lemmas.Bool.Decides.{nat_tests}
use Rattle.std.proofs.lemmas.List.{append_assoc}
use Rattle.std.proofs.lemmas.List.Elements.{All-head, All-tail}
use Rattle.std.proofs.Math.Nat.{le-div_iff_mul-le, mul-mod_left}
use Rattle.ival.specs.Numbers.{distance, gcd, residue}
use Rattle.ival.specs.Forms.{HasEnds, IsProgression, IsWellFormed, has, norm}
use Rattle.ival.specs.SetOperations.{included_of, is_in_class, join_of, joined, widen_of, widened_to}
use Rattle.ival.specs.declared.forms.Ival.{Ival}
use Rattle.ival.specs.declared.forms.Ival.TheVariants.{Empty, Set, Range, All as Every}
use Rattle.ival.proofs.Classes.{IsCongruent, IsCongruent_refl, IsCongruent_sym, congruent_from_residue, residue_is, residue-congruent, residue-same}
use Rattle.ival.proofs.Keeping.{congruent-difference}
use Rattle.ival.proofs.FormLemmas.{norm-strided, strided-range}
use Rattle.ival.proofs.NumberLemmas.{gcd-zero, gcd-step}
use Rattle.avalue.specs.Pointers.{ArePointers, AreRising, IsPointer, Pointer, merged, offsets_at, pointers_included, widened_offsets}
use Rattle.avalue.specs.Values.{implies}
use Rattle.avalue.specs.declared.value.Value.{Value}
use Rattle.avalue.proofs.Ends.{formed_of}
use Rattle.abstract_memory.specs.Values.{join_values, widen_values}
use Rattle.abstract_memory.proofs.Tests.{and_true, or_left, or_right}
use Rattle.abstract_memory.proofs.Ascending.{hull_twice}
use Rattle.object_laws.specs.Same.{InclusionIsReflexive, JoinIsIdempotent, WideningIsIdempotent}

-- ---- integer sets

mod_self : (n : ℕ) → n % n ≡ 0
mod_self n = ap (λ k. k % n) (let z : n ≡ 1 * n = omega arith in z) ∙ mul-mod_left 1 n

gcd_self : (m : ℕ) → gcd m m ≡ m
gcd_self zero = gcd-zero zero
gcd_self (suc m) = sym (gcd-step (suc m) (suc m) (omega arith)) ∙ ap (gcd (suc m)) (mod_self (suc m)) ∙ gcd-zero (suc m)

zero_residue : (x y : ℤ) (m : ℕ) → 0 < m → residue x m ≡ residue y m → residue (x -ℤ y) m ≡ 0
zero_residue x y m l e =
    residue_is (x -ℤ y) m 0 l
    (subst (IsCongruent m (x -ℤ y)) (let z : y -ℤ y ≡ pos 0 = omega (arith, ints) in z) (congruent-difference m x y y y (congruent_from_residue x y m l e) (IsCongruent_refl m y)))

norm_equal : (lo hi r a b c : ℤ) (m d : ℕ) → a ≡ lo → b ≡ hi → c ≡ r → d ≡ m → norm a b c d ≡ norm lo hi r m
norm_equal lo hi r a b c m d e f g h = ap (λ t. norm t b c d) e ∙ ap (λ t. norm lo t c d) f ∙ ap (λ t. norm lo hi t d) g ∙ ap (λ t. norm lo hi r t) h

pos_same : (a b : ℕ) → pos a ≡ pos b → a ≡ b
pos_same a b e = cc

module _ (lo hi r m : ℤ) (h : IsProgression lo hi r m) where
  some_step : 0 < unsigned_abs m
  some_step = let s = h.step in omega (arith, ints, s)

  steps : 8 ≤ distance hi lo / unsigned_abs m
  steps = let a = h.many in let s = some_step in (le-div_iff_mul-le s).1 (omega (arith, ints, a))

  rising : lo ≤ℤ hi
  rising = let a = h.many in omega (arith, ints, a)

  one_rest : residue hi (unsigned_abs m) ≡ residue lo (unsigned_abs m)
  one_rest = pos_same _ _ (h.last ∙ sym h.first)

  range_again : norm lo hi lo (unsigned_abs m) ≡ Range lo hi r m
  range_again =
      let s = some_step in
      let a = zero_residue lo lo (unsigned_abs m) s refl in
      let b = zero_residue hi lo (unsigned_abs m) s one_rest in
      sym (norm-strided lo hi lo lo hi (unsigned_abs m) (unsigned_abs m) (omega (arith, s)) (omega (arith, ints, a)) (omega (arith, ints, b)))
      ∙ sym (strided-range lo hi lo lo hi r m (unsigned_abs m) rising steps refl refl (sym h.first) (let t = h.step in omega (arith, ints, t)))

  range_joined : joined (Range lo hi r m) (Range lo hi r m) ≡ Range lo hi r m
  range_joined =
      norm_equal lo hi lo (int_min lo lo) (int_max hi hi) lo (unsigned_abs m) (gcd (gcd (unsigned_abs m) (unsigned_abs m)) (distance lo lo))
      (omega (arith, ints, clamps)) (omega (arith, ints, clamps)) refl
      (ap (gcd (gcd (unsigned_abs m) (unsigned_abs m))) (let z : distance lo lo ≡ 0 = omega (arith, ints) in z) ∙ gcd-zero (gcd (unsigned_abs m) (unsigned_abs m)) ∙ gcd_self (unsigned_abs m))
      ∙ range_again

  in_class : is_in_class r m r m ≡ true
  in_class =
      let s = some_step in
      let z : residue r (unsigned_abs m) ≡ unsigned_abs r =
      residue-same r lo (unsigned_abs m) s (IsCongruent_sym (unsigned_abs m) lo r (subst (IsCongruent (unsigned_abs m) lo) h.first (residue-congruent lo (unsigned_abs m) s)))
      ∙ (let f = h.first in omega (arith, ints, f)) in
      let d : unsigned_abs m % unsigned_abs m ≡ 0 = mod_self (unsigned_abs m) in
      and_true (nat_eq (unsigned_abs m % unsigned_abs m) 0) (nat_eq (residue r (unsigned_abs m)) (unsigned_abs r)) (grind (arith, nat_tests)) (grind (arith, nat_tests))

  range_included : included_of (Range lo hi r m) (Range lo hi r m) ≡ true
  range_included =
      and_true (int_le lo lo && int_le hi hi) (is_in_class r m r m)
      (and_true (int_le lo lo) (int_le hi hi) (le_self lo) (le_self hi)) in_class
    where
      le_self : (x : ℤ) → int_le x x ≡ true
      le_self x = grind (arith, ints)

pub join_again : (a : Ival) → IsWellFormed a → join_of a a ≡ a
join_again Empty h = refl
join_again (Set xs) h = hull_twice xs h
join_again (Range lo hi r m) h = range_joined lo hi r m h
join_again Every h = refl

eq_self : (x : ℤ) → int_eq x x ≡ true
eq_self x = grind (arith, ints)

any_there : (p : ℤ → Bool) (x : ℤ) (ps qs : List ℤ) → p x ≡ true → list_any p (ps ++ x ∷ qs) ≡ true
any_there p x [] qs e = or_left (p x) (list_any p qs) e
any_there p x (y ∷ ps) qs e = or_right (p y) (list_any p (ps ++ x ∷ qs)) (any_there p x ps qs e)

all_there : (ps xs ys : List ℤ) → ps ++ xs ≡ ys → list_all (has (Set ys)) xs ≡ true
all_there ps [] ys e = refl
all_there ps (x ∷ xs) ys e =
    and_true (has (Set ys) x) (list_all (has (Set ys)) xs)
    (subst (λ zs. has (Set zs) x ≡ true) e (any_there (λ y. int_eq y x) x ps xs (eq_self x)))
    (all_there (ps ++ x ∷ []) xs ys (append_assoc ps (x ∷ []) xs ∙ e))

pub included_again : (a : Ival) → IsWellFormed a → included_of a a ≡ true
included_again Empty h = refl
included_again (Set xs) h = all_there [] xs xs refl
included_again (Range lo hi r m) h = range_included lo hi r m h
included_again Every h = refl

widened_again : (a : Ival) (thresholds : List ℤ) (width : ℕ) → IsWellFormed a → widened_to a (join_of a a) thresholds width ≡ a
widened_again a thresholds width h = ap (λ j. widened_to a j thresholds width) (join_again a h) ∙ rw (included_again a h) refl

pub widen_again : (a : Ival) (thresholds : List ℤ) (width : ℕ) → IsWellFormed a → widen_of a a thresholds width ≡ a
widen_again Empty thresholds width h = refl
widen_again (Set xs) thresholds width h = widened_again (Set xs) thresholds width h
widen_again (Range lo hi r m) thresholds width h = widened_again (Range lo hi r m) thresholds width h
widen_again Every thresholds width h = refl

-- ---- pointers

pub merged_again : (f : Ival → Ival → Ival) (ps : List Pointer) → All (λ p. f p.1 p.1 ≡ p.1) ps → merged f ps ps ≡ ps
unfolding merged
merged_again f [] h = refl
merged_again f (p ∷ ps) h =
    let t : nat_lt p.0 p.0 ≡ false = grind (arith, nat_tests) in
    rw t (ap (λ (x : Ival). (p.0, x) ∷ merged f ps ps) (All-head (λ p. f p.1 p.1 ≡ p.1) p ps h) ∙ ap (λ qs. p ∷ qs) (merged_again f ps (All-tail (λ p. f p.1 p.1 ≡ p.1) p ps h)))

offsets_again : (x : Ival) → HasEnds x → widened_offsets x x ≡ x
offsets_again x h = rw (included_again x (formed_of x h)) refl

below_later : (o p : Pointer) (ps qs : List Pointer) → AreRising (o ∷ (ps ++ p ∷ qs)) → o.0 < p.0
below_later o p [] qs h = h.0
below_later o p (q ∷ ps) qs h = let k : q.0 < p.0 = below_later q p ps qs h.1 in let l : o.0 < q.0 = h.0 in omega (arith, k, l)

tail_rising : (o : Pointer) (os : List Pointer) → AreRising (o ∷ os) → AreRising os
tail_rising o [] s = tt
tail_rising o (x ∷ xs) s = s.1

offsets_there : (p : Pointer) (ps qs : List Pointer) → AreRising (ps ++ p ∷ qs) → offsets_at (ps ++ p ∷ qs) p.0 ≡ p.1
offsets_there p [] qs h = let t : nat_eq p.0 p.0 ≡ true = grind (arith, nat_tests) in rw t refl
offsets_there p (o ∷ ps) qs h =
    let l = below_later o p ps qs h in let t : nat_eq o.0 p.0 ≡ false = grind (arith, nat_tests) in
    rw t (offsets_there p ps qs (tail_rising o (ps ++ p ∷ qs) h))

each_there : (ps xs ys : List Pointer) → AreRising ys → ps ++ xs ≡ ys → All IsPointer xs → list_all (λ p. included_of p.1 (offsets_at ys p.0)) xs ≡ true
each_there ps [] ys r e a = refl
each_there ps (x ∷ xs) ys r e a =
    let h : HasEnds x.1 = All-head IsPointer x xs a in
    let o : offsets_at ys x.0 ≡ x.1 = subst (λ zs. offsets_at zs x.0 ≡ x.1) e (offsets_there x ps xs (subst AreRising (sym e) r)) in
    and_true (included_of x.1 (offsets_at ys x.0)) (list_all (λ p. included_of p.1 (offsets_at ys p.0)) xs)
    (ap (included_of x.1) o ∙ included_again x.1 (formed_of x.1 h))
    (each_there (ps ++ x ∷ []) xs ys r (append_assoc ps (x ∷ []) xs ∙ e) (All-tail IsPointer x xs a))

pointers_again : (ps : List Pointer) → ArePointers ps → pointers_included ps ps ≡ true
pointers_again ps h = each_there [] ps ps h.rising refl h.each

-- ---- values

or_self : (b : Bool) → (b || b) ≡ b
or_self true = refl
or_self false = refl

implies_self : (b : Bool) → implies b b ≡ true
implies_self true = refl
implies_self false = refl

make : Bool → Bool → Ival → List Pointer → Value
make u d i ps = record { uninit = u; dangling = d; ints = i; ptrs = ps }

pub join_is_idempotent : JoinIsIdempotent
unfolding join_values make
join_is_idempotent v h =
    ap (λ t. make t (v.dangling || v.dangling) (join_of v.ints v.ints) (merged join_of v.ptrs v.ptrs)) (or_self v.uninit)
    ∙ ap (λ t. make v.uninit t (join_of v.ints v.ints) (merged join_of v.ptrs v.ptrs)) (or_self v.dangling)
    ∙ ap (λ t. make v.uninit v.dangling t (merged join_of v.ptrs v.ptrs)) (join_again v.ints h.ints)
    ∙ ap (λ t. make v.uninit v.dangling v.ints t) (merged_again join_of v.ptrs (λ k d l. join_again _ (formed_of _ (h.ptrs.each k d l))))

pub widening_is_idempotent : WideningIsIdempotent
unfolding widen_values make
widening_is_idempotent thresholds width v h =
    ap (λ t. make t (v.dangling || v.dangling) (widen_of v.ints v.ints thresholds width) (merged widened_offsets v.ptrs v.ptrs)) (or_self v.uninit)
    ∙ ap (λ t. make v.uninit t (widen_of v.ints v.ints thresholds width) (merged widened_offsets v.ptrs v.ptrs)) (or_self v.dangling)
    ∙ ap (λ t. make v.uninit v.dangling t (merged widened_offsets v.ptrs v.ptrs)) (widen_again v.ints thresholds width h.ints)
    ∙ ap (λ t. make v.uninit v.dangling v.ints t) (merged_again widened_offsets v.ptrs (λ k d l. offsets_again _ (h.ptrs.each k d l)))

pub inclusion_is_reflexive : InclusionIsReflexive
inclusion_is_reflexive v h =
    and_true (implies v.uninit v.uninit && implies v.dangling v.dangling && included_of v.ints v.ints) (pointers_included v.ptrs v.ptrs)
    (and_true (implies v.uninit v.uninit && implies v.dangling v.dangling) (included_of v.ints v.ints)
    (and_true (implies v.uninit v.uninit) (implies v.dangling v.dangling) (implies_self v.uninit) (implies_self v.dangling))
    (included_again v.ints h.ints))
    (pointers_again v.ptrs h.ptrs)

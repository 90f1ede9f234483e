-- Single bits as one value.
use Rattle.std.proofs.Common.{◌≡◌, ℕ, zero, suc, ◌+◌, ◌-◌, ◌*◌, ◌^◌, ◌<◌, ◌≤◌, ◌-ℤ◌, List, [], ◌∷◌, ◌++◌, length, get_or, take, sym, refl, ap, subst, ◌∙◌, Bool, true, false, cond, ℤ, pos, arith}
use Rattle.std.specs.Prelude.{◌&&◌, ◌||◌, is_some, nat_eq, if◌then◌else◌}
use Rattle.std.specs.List.{All, cons_option, filter_map, fold, list_all, list_any, range_with_len}
use Rattle.std.proofs.lemmas.Bool.Decides.{nat_tests}
use Rattle.std.proofs.lemmas.Grind.{common_steps}
use Rattle.std.proofs.lemmas.Int.{ints}
use Rattle.std.proofs.lemmas.List.{take_all, take_more}
use Rattle.std.proofs.lemmas.List.Elements.{filter_map-append}
use Rattle.std.proofs.Math.Nat.{pow-le-pow_right}
use Rattle.c_memory.specs.Cells.{number_of}
use Rattle.ival.specs.Forms.{IsBounded, IsWellFormed, has, hull, is_empty, norm, only_number}
use Rattle.ival.specs.Meet.{meet_of}
use Rattle.ival.specs.declared.forms.Ival.{Ival}
use Rattle.ival.specs.declared.forms.Ival.TheVariants.{Empty, Set, All as Every}
use Rattle.avalue.specs.Pointers.{IsPointer, Pointer, offsets_at}
use Rattle.avalue.specs.Values.{IsWellFormedValue}
use Rattle.avalue.specs.declared.value.Value.{Value}
use Rattle.abstract_memory.specs.Values.{all_below, any_below}
use Rattle.abstract_memory.specs.Reads.{gathered, gathered_ints, shared_offsets, shared_pointers, some_offsets}
use Rattle.abstract_memory.proofs.Ascending.{hull_members}
use Rattle.abstract_memory.proofs.Formed.{one_formed}
use Rattle.gathered_values.specs.Bits.{bit, kept_pointers}
use Rattle.group_values.proofs.Bits.{fold_next}

-- ---- tests of all bits

or_swap : (a b c : Bool) → (a || (b || c)) ≡ (b || (a || c))
or_swap true true c = refl
or_swap true false c = refl
or_swap false b c = refl

and_swap : (a b c : Bool) → (a && (b && c)) ≡ (b && (a && c))
and_swap true b c = refl
and_swap false true c = refl
and_swap false false c = refl

any_front : (n : ℕ) (f : ℕ → Bool) → any_below (suc n) f ≡ (f 0 || any_below n (λ j. f (suc j)))
any_front zero f = refl
any_front (suc n) f = ap (λ b. f (suc n) || b) (any_front n f) ∙ or_swap (f (suc n)) (f 0) (any_below n (λ j. f (suc j)))

all_front : (n : ℕ) (f : ℕ → Bool) → all_below (suc n) f ≡ (f 0 && all_below n (λ j. f (suc j)))
all_front zero f = refl
all_front (suc n) f = ap (λ b. f (suc n) && b) (all_front n f) ∙ and_swap (f (suc n)) (f 0) (all_below n (λ j. f (suc j)))

pub any_bits : (t : Value → Bool) (vs : List Value) → list_any t vs ≡ any_below (length vs) (λ j. t (bit vs j))
any_bits t [] = refl
any_bits t (v ∷ vs) = ap (λ b. t v || b) (any_bits t vs) ∙ sym (any_front (length vs) (λ j. t (bit (v ∷ vs) j)))

pub all_bits : (t : Value → Bool) (vs : List Value) → list_all t vs ≡ all_below (length vs) (λ j. t (bit vs j))
all_bits t [] = refl
all_bits t (v ∷ vs) = ap (λ b. t v && b) (all_bits t vs) ∙ sym (all_front (length vs) (λ j. t (bit (v ∷ vs) j)))

-- ---- the number of all bits

number_same : (n : ℕ) (f g : ℕ → Bool) → ((j : ℕ) → f j ≡ g j) → number_of f n ≡ number_of g n
unfolding number_of
number_same zero f g e = refl
number_same (suc n) f g e = ap (λ b. cond b 1 0 + 2 * number_of (λ j. f (suc j)) n) (e 0) ∙ ap (λ k. cond (g 0) 1 0 + 2 * k) (number_same n (λ j. f (suc j)) (λ j. g (suc j)) (λ j. e (suc j)))

abbrev digit : Bool → ℕ
digit b = cond b 1 0

number_step : (n : ℕ) (f : ℕ → Bool) → number_of f (suc n) ≡ cond (f 0) 1 0 + 2 * number_of (λ j. f (suc j)) n
unfolding number_of
number_step n f = refl

number_zero : (f : ℕ → Bool) → number_of f 0 ≡ 0
unfolding number_of
number_zero f = refl

bit_size : (b : Bool) → cond b 1 0 ≤ 1
bit_size true = omega arith
bit_size false = omega arith

pub number_below : (n : ℕ) (f : ℕ → Bool) → number_of f n < 2 ^ n
number_below zero f = let z = number_zero f in omega (arith, z)
number_below (suc n) f =
    let h = number_below n (λ j. f (suc j)) in let b = bit_size (f 0) in let s = number_step n f in
    let two : 2 ^ suc n ≡ 2 ^ n + 2 ^ n = grind (arith, common_steps) in omega (arith, h, b, s, two)

-- the bits from j on, of n
abbrev pub from : (ℕ → Bool) → ℕ → ℕ → ℕ
from f j n = number_of (λ k. f (j + k)) (n - j)

pub from_end : (f : ℕ → Bool) (n : ℕ) → 0 ≡ from f n n
from_end f n = let z : n - n ≡ 0 = omega arith in sym (ap (number_of (λ k. f (n + k))) z ∙ number_zero (λ k. f (n + k)))

from_next : (f : ℕ → Bool) (j i n x : ℕ) → j ≡ i + 1 → j ≤ n → x ≡ from f j n → 2 * x + digit (f i) ≡ from f i n
from_next f j i n x e l q =
    let z : n - i ≡ suc (n - j) = omega (arith, e, l) in
    let a : number_of (λ k. f (i + k)) (suc (n - j)) ≡ digit (f (i + 0)) + 2 * number_of (λ k. f (i + suc k)) (n - j) = number_step (n - j) (λ k. f (i + k)) in
    let b : number_of (λ k. f (i + suc k)) (n - j) ≡ number_of (λ k. f (j + k)) (n - j) =
    number_same (n - j) (λ k. f (i + suc k)) (λ k. f (j + k)) (λ k. ap f (let y : i + suc k ≡ j + k = omega (arith, e) in y)) in
    let d : digit (f (i + 0)) ≡ digit (f i) = ap (λ (k : ℕ). digit (f k)) (let y : i + 0 ≡ i = omega arith in y) in
    let s : number_of (λ k. f (i + k)) (n - i) ≡ number_of (λ k. f (i + k)) (suc (n - j)) = ap (number_of (λ k. f (i + k))) z in
    omega (arith, a, b, d, s, q)

pub from_one : (f : ℕ → Bool) (j i n x : ℕ) → j ≡ i + 1 → j ≤ n → x ≡ from f j n → f i ≡ true → 2 * x + 1 ≡ from f i n
from_one f j i n x e l q t = let h = from_next f j i n x e l q in let d : digit (f i) ≡ 1 = ap digit t in omega (arith, h, d)

pub from_none : (f : ℕ → Bool) (j i n x : ℕ) → j ≡ i + 1 → j ≤ n → x ≡ from f j n → f i ≡ false → 2 * x ≡ from f i n
from_none f j i n x e l q t = let h = from_next f j i n x e l q in let d : digit (f i) ≡ 0 = ap digit t in omega (arith, h, d)

pub from_start : (f : ℕ → Bool) (n x j : ℕ) → j ≡ 0 → x ≡ from f j n → x ≡ number_of f n
from_start f n x j e q =
    q ∙ ap (λ i. number_of (λ k. f (i + k)) (n - i)) e ∙ number_same (n - 0) (λ k. f (0 + k)) f (λ k. ap f (let z : 0 + k ≡ k = omega arith in z)) ∙ ap (number_of f) (let z : n - 0 ≡ n = omega arith in z)

pub from_small : (f : ℕ → Bool) (j n x : ℕ) → n ≤ 64 → 0 < j → x ≡ from f j n → 2 * x + 1 < 2 ^ 65
from_small f j n x few l q =
    let h = number_below (n - j) (λ k. f (j + k)) in
    let two : 0 < 2 = omega arith in
    let b : 2 ^ (n - j) ≤ 2 ^ 64 = pow-le-pow_right two (let z : n - j ≤ 64 = omega (arith, few) in z) in omega (arith, h, b, q)

-- an element of the list
pub at_bit : (vs : List Value) (j : ℕ) (v : Value) → j < length vs → v ≡ get_or vs j v → bit vs j ≡ v
at_bit [] j v l e = absurd (omega (arith, l))
at_bit (w ∷ vs) zero v l e = sym e
at_bit (w ∷ vs) (suc j) v l e = at_bit vs j v (omega (arith, l)) e

pub formed_bit : (vs : List Value) (j : ℕ) (v : Value) → All IsWellFormedValue vs → j < length vs → get_or vs j v ≡ v → IsWellFormed v.ints
formed_bit vs j v h l e = (subst IsWellFormedValue e (h j v l)).ints

pub from_bound : (f : ℕ → Bool) (j n x : ℕ) → n ≤ 64 → x ≡ from f j n → x < 2 ^ 64
from_bound f j n x few q =
    let h = number_below (n - j) (λ k. f (j + k)) in
    let two : 0 < 2 = omega arith in
    let b : 2 ^ (n - j) ≤ 2 ^ 64 = pow-le-pow_right two (let z : n - j ≤ 64 = omega (arith, few) in z) in omega (arith, h, b, q)

pub ruleset number_facts = (from_end, from_start, from_small, from_bound, from_one, from_none, at_bit, formed_bit)

-- ---- integers

bounded_number : (x : ℕ) → x < 2 ^ 64 → IsBounded (pos x)
bounded_number x l = record { above = omega (arith, ints); below = omega (arith, ints, l) }

pub number_set : (x : ℕ) → x < 2 ^ 64 → hull (pos x ∷ []) ≡ Set (pos x ∷ [])
number_set x l = hull_members (pos x ∷ []) (one_formed (pos x) (bounded_number x l))

pub number_bounded : (x : ℕ) → x < 2 ^ 64 → IsBounded (pos x)
number_bounded x l = bounded_number x l

pub number_fits : (f : ℕ → Bool) (n : ℕ) → n ≤ 64 → number_of f n < 2 ^ 64
number_fits f n few =
    let h = number_below n f in let two : 0 < 2 = omega arith in
    let b : 2 ^ n ≤ 2 ^ 64 = pow-le-pow_right two few in omega (arith, h, b)

pub ints_empty : (vs : List Value) → any_below (length vs) (λ j. is_empty (bit vs j).ints) ≡ true → Empty ≡ gathered_ints (λ j. (bit vs j).ints) (length vs)
unfolding gathered_ints
ints_empty vs e = rw e refl

pub ints_known : (vs : List Value) (x : ℕ) → any_below (length vs) (λ j. is_empty (bit vs j).ints) ≡ false → all_below (length vs) (λ j. is_some (only_number (bit vs j).ints)) ≡ true
    → x ≡ number_of (λ j. has (bit vs j).ints (pos 1)) (length vs) → Set (pos x ∷ []) ≡ gathered_ints (λ j. (bit vs j).ints) (length vs)
unfolding gathered_ints
ints_known vs x e k q =
    rw (e, k) (ap (λ y. Set (pos y ∷ [])) q)

pub ints_any : (vs : List Value) (n : ℕ) → n ≡ length vs → any_below (length vs) (λ j. is_empty (bit vs j).ints) ≡ false → all_below (length vs) (λ j. is_some (only_number (bit vs j).ints)) ≡ false
    → norm (pos 0) (pos (2 ^ n) -ℤ pos 1) (pos 0) 1 ≡ gathered_ints (λ j. (bit vs j).ints) (length vs)
unfolding gathered_ints
ints_any vs n q e k =
    rw (e, k) (ap (λ y. norm (pos 0) (pos (2 ^ y) -ℤ pos 1) (pos 0) 1) q)

pub ruleset known_facts = (number_set, number_bounded, number_fits)

-- ---- pointers

pub at_index : (vs : List Value) (j : ℕ) (d : Value) → j < length vs → bit vs j ≡ get_or vs j d
at_index [] j d l = absurd (omega (arith, l))
at_index (w ∷ vs) zero d l = refl
at_index (w ∷ vs) (suc j) d l = at_index vs j d (omega (arith, l))

pub shared_next : (vs : List Value) (base j : ℕ) (shared : Ival) (d : Value) → j < length vs → shared ≡ fold (λ shared j. meet_of shared (offsets_at (bit vs j).ptrs base)) Every (range_with_len 0 j)
    → meet_of shared (offsets_at (get_or vs j d).ptrs base) ≡ fold (λ shared j. meet_of shared (offsets_at (bit vs j).ptrs base)) Every (range_with_len 0 (j + 1))
shared_next vs base j shared d l q =
    ap (λ s. meet_of s (offsets_at (get_or vs j d).ptrs base)) q
    ∙ ap (λ (w : Value). meet_of (fold (λ shared j. meet_of shared (offsets_at (bit vs j).ptrs base)) Every (range_with_len 0 j)) (offsets_at w.ptrs base)) (sym (at_index vs j d l))
    ∙ sym (fold_next (λ shared j. meet_of shared (offsets_at (bit vs j).ptrs base)) j Every)

pub formed_pointers : (vs : List Value) (j : ℕ) (v : Value) → All IsWellFormedValue vs → j < length vs → get_or vs j v ≡ v → All IsPointer v.ptrs
formed_pointers vs j v h l e = (subst IsWellFormedValue e (h j v l)).ptrs.each

pub kept_none : (vs : List Value) → [] ≡ kept_pointers vs []
unfolding kept_pointers
kept_none vs = refl

pub kept_more : (vs : List Value) (ps kept : List Pointer) (i : ℕ) (d : Pointer) (o : Ival) → i < length ps → kept ≡ kept_pointers vs (take i ps) → o ≡ shared_offsets (λ j. (bit vs j).ptrs) (length vs) (get_or ps i d).0
    → kept ++ cons_option (some_offsets (get_or ps i d).0 o) [] ≡ kept_pointers vs (take (i + 1) ps)
unfolding kept_pointers
kept_more vs ps kept i d o l q e =
    ap (λ ks. ks ++ cons_option (some_offsets (get_or ps i d).0 o) []) q
    ∙ ap (λ (x : Ival). filter_map (λ p. some_offsets p.0 (shared_offsets (λ j. (bit vs j).ptrs) (length vs) p.0)) (take i ps) ++ cons_option (some_offsets (get_or ps i d).0 x) []) e
    ∙ sym (filter_map-append (λ p. some_offsets p.0 (shared_offsets (λ j. (bit vs j).ptrs) (length vs) p.0)) (take i ps) (get_or ps i d ∷ []))
    ∙ ap (filter_map (λ p. some_offsets p.0 (shared_offsets (λ j. (bit vs j).ptrs) (length vs) p.0))) (sym (take_more ps i d l))

pub kept_item : (vs : List Value) (ps kept : List Pointer) (i : ℕ) (p : Pointer) (o : Ival) → i < length ps → get_or ps i p ≡ p → kept ≡ kept_pointers vs (take i ps) → o ≡ shared_offsets (λ j. (bit vs j).ptrs) (length vs) p.0
    → kept ++ cons_option (some_offsets p.0 o) [] ≡ kept_pointers vs (take (i + 1) ps)
kept_item vs ps kept i p o l e q f =
    subst (λ (x : Pointer). kept ++ cons_option (some_offsets x.0 o) [] ≡ kept_pointers vs (take (i + 1) ps)) e
    (kept_more vs ps kept i p o l q (f ∙ ap (λ (x : Pointer). shared_offsets (λ j. (bit vs j).ptrs) (length vs) x.0) (sym e)))

pub kept_all : (vs : List Value) (ps kept : List Pointer) (i : ℕ) → ps ≡ (bit vs 0).ptrs → length ps ≤ i → kept ≡ kept_pointers vs (take i ps) → kept ≡ shared_pointers (λ j. (bit vs j).ptrs) (length vs)
unfolding kept_pointers shared_pointers
kept_all vs ps kept i e l q = q ∙ ap (filter_map (λ p. some_offsets p.0 (shared_offsets (λ j. (bit vs j).ptrs) (length vs) p.0))) (take_all i ps l ∙ e)

pub ruleset shared_facts = (formed_pointers)

pub width_yes : (n : ℕ) → n ≡ 64 → nat_eq n 64 ≡ true
width_yes n e = grind (arith, nat_tests)

pub width_no : (n : ℕ) → (n ≡ 64 → ⊥) → nat_eq n 64 ≡ false
width_no n e = grind (arith, nat_tests)

pub pointers_all : (n : ℕ) (ps qs : List Pointer) → n ≡ 64 → ps ≡ qs → ps ≡ (if nat_eq n 64 then qs else [])
pointers_all n ps qs e f = rw (width_yes n e) f

pub pointers_none : (n : ℕ) (ps qs : List Pointer) → (n ≡ 64 → ⊥) → ps ≡ [] → ps ≡ (if nat_eq n 64 then qs else [])
pointers_none n ps qs e f = rw (width_no n e) f

pub ruleset width_facts = (pointers_all, pointers_none)

-- ---- the value

make : Bool → Bool → Ival → List Pointer → Value
make u d i ps = record { uninit = u; dangling = d; ints = i; ptrs = ps }

pub gathers : (vs : List Value) (u d : Bool) (i : Ival) (ps : List Pointer) → u ≡ any_below (length vs) (λ j. (bit vs j).uninit) → d ≡ any_below (length vs) (λ j. (bit vs j).dangling) → i ≡ gathered_ints (λ j. (bit vs j).ints) (length vs)
    → ps ≡ (if nat_eq (length vs) 64 then shared_pointers (λ j. (bit vs j).ptrs) (length vs) else []) → record { uninit = u; dangling = d; ints = i; ptrs = ps } ≡ gathered (bit vs) (length vs)
unfolding gathered make
gathers vs u d i ps a b c e =
    ap (λ t. make t d i ps) a
    ∙ ap (λ t. make (any_below (length vs) (λ j. (bit vs j).uninit)) t i ps) b
    ∙ ap (λ t. make (any_below (length vs) (λ j. (bit vs j).uninit)) (any_below (length vs) (λ j. (bit vs j).dangling)) t ps) c
    ∙ ap (λ t. make (any_below (length vs) (λ j. (bit vs j).uninit)) (any_below (length vs) (λ j. (bit vs j).dangling)) (gathered_ints (λ j. (bit vs j).ints) (length vs)) t) e

pub ruleset gather_facts = (gathers)

-- An integer set comes back from its tree.
use Rattle.std.proofs.Common.{◌≡◌, ℕ, zero, suc, ◌+◌, ◌-◌, ◌/◌, ◌^◌, ◌<◌, ◌≤◌, List, [], ◌∷◌, length, take, refl, ap, ◌∙◌, ℤ, pos, negsuc, Bool, true, false, arith}
use Rattle.store_api.specs.Tree.{Nil, Node}
use Rattle.std.specs.Prelude.{eqb, nat_lt, unsigned_abs, if◌then◌else◌}
use Rattle.std.specs.List.{All}
use Rattle.std.proofs.lemmas.Bool.Decides.{nat_tests}
use Rattle.std.proofs.lemmas.Int.{ints}
use Rattle.std.proofs.lemmas.List.Elements.{All-nil}
use Rattle.ival.specs.Numbers.{residue}
use Rattle.ival.specs.Forms.{IsBounded, IsMemberList, IsProgression, IsWellFormed}
use Rattle.ival.specs.declared.forms.Ival.{Ival}
use Rattle.ival.specs.declared.forms.Ival.TheVariants.{Empty, Set, Range, All as Every}
use Rattle.ival.proofs.Classes.{residue-below}
use Rattle.memory_trees.specs.Values.{low_word, high_word, number_in, item, ival_tree, ival_of, number_node, number_shape}

-- ---- numbers

pub number_back : (x : ℤ) → IsBounded x → number_in (low_word x) (high_word x) ≡ x
number_back (pos n) h =
    let b = h.below in
    let l : n / 2 ^ 64 < 2 ^ 63 = omega (arith, ints, b) in
    let t : nat_lt (n / 2 ^ 64) (2 ^ 63) ≡ true = grind (arith, nat_tests) in
    rw t (ap pos (omega arith))
number_back (negsuc n) h =
    let t : nat_lt (n / 2 ^ 64 + 2 ^ 63) (2 ^ 63) ≡ false = grind (arith, nat_tests) in
    rw t (ap negsuc (omega arith))

pub zero_bounded : IsBounded (pos 0)
zero_bounded = record { above = omega (arith, ints); below = omega (arith, ints) }

pub item_bounded : (xs : List ℤ) (i : ℕ) → All IsBounded xs → IsBounded (item xs i)
item_bounded [] i a = zero_bounded
item_bounded (x ∷ xs) zero a = a 0 (pos 0) (omega arith)
item_bounded (x ∷ xs) (suc i) a = item_bounded xs i (λ k d l. a (suc k) d (omega (arith, l)))

-- the four numbers of a body
pub item_back : (xs : List ℤ) (i : ℕ) → All IsBounded xs → number_in (low_word (item xs i)) (high_word (item xs i)) ≡ item xs i
item_back xs i a = number_back (item xs i) (item_bounded xs i a)

-- ---- lists of up to eight

pub eight : (xs : List ℤ) → length xs ≤ 8
    → take (length xs) (item xs 0 ∷ item xs 1 ∷ item xs 2 ∷ item xs 3 ∷ item xs 4 ∷ item xs 5 ∷ item xs 6 ∷ item xs 7 ∷ []) ≡ xs
eight ([]) l = refl
eight (a ∷ []) l = refl
eight (a ∷ b ∷ []) l = refl
eight (a ∷ b ∷ c ∷ []) l = refl
eight (a ∷ b ∷ c ∷ d ∷ []) l = refl
eight (a ∷ b ∷ c ∷ d ∷ e ∷ []) l = refl
eight (a ∷ b ∷ c ∷ d ∷ e ∷ f ∷ []) l = refl
eight (a ∷ b ∷ c ∷ d ∷ e ∷ f ∷ g ∷ []) l = refl
eight (a ∷ b ∷ c ∷ d ∷ e ∷ f ∷ g ∷ h ∷ []) l = refl
eight (a ∷ b ∷ c ∷ d ∷ e ∷ f ∷ g ∷ h ∷ i ∷ rest) l = absurd (omega (arith, l))

pub four : (xs : List ℤ) → length xs ≤ 4 → take (length xs) (item xs 0 ∷ item xs 1 ∷ item xs 2 ∷ item xs 3 ∷ []) ≡ xs
four ([]) l = refl
four (a ∷ []) l = refl
four (a ∷ b ∷ []) l = refl
four (a ∷ b ∷ c ∷ []) l = refl
four (a ∷ b ∷ c ∷ d ∷ []) l = refl
four (a ∷ b ∷ c ∷ d ∷ e ∷ rest) l = absurd (omega (arith, l))

-- ---- ranges

pub low_bounded : (lo hi r m : ℤ) → IsProgression lo hi r m → IsBounded lo
low_bounded lo hi r m h = h.low

pub high_bounded : (lo hi r m : ℤ) → IsProgression lo hi r m → IsBounded hi
high_bounded lo hi r m h = h.high

pub step_bounded : (lo hi r m : ℤ) → IsProgression lo hi r m → IsBounded m
step_bounded lo hi r m h = let a = h.step in let b = h.many in let c = h.low.above in let d = h.high.below in record { above = omega (arith, ints, a); below = omega (arith, ints, a, b, c, d) }

pub rest_bounded : (lo hi r m : ℤ) → IsProgression lo hi r m → IsBounded r
rest_bounded lo hi r m h =
    let a = h.step in let f = h.first in
    let l : residue lo (unsigned_abs m) < unsigned_abs m = residue-below lo (unsigned_abs m) (omega (arith, ints, a)) in
    let b = (step_bounded lo hi r m h).below in
    record { above = omega (arith, ints, f); below = omega (arith, ints, f, l, a, b) }

pub ruleset range_facts = (low_bounded, high_bounded, step_bounded, rest_bounded)

pub members_bounded : (xs : List ℤ) → IsMemberList xs → All IsBounded xs
members_bounded xs h = h.bounded

pub members_few : (xs : List ℤ) → IsMemberList xs → length xs ≤ 8
members_few xs h = h.few

pub none_bounded : All IsBounded []
none_bounded = All-nil IsBounded

pub ruleset put_facts = (members_bounded, members_few, none_bounded)

-- ---- sets

cons_eq : (x y : ℤ) (xs ys : List ℤ) → x ≡ y → xs ≡ ys → x ∷ xs ≡ y ∷ ys
cons_eq x y xs ys e f = ap (λ t. t ∷ xs) e ∙ ap (λ t. y ∷ t) f

back : List ℤ → ℕ → ℤ
back xs i = number_in (low_word (item xs i)) (high_word (item xs i))

eight_back : (xs : List ℤ) → All IsBounded xs → (back xs 0 ∷ back xs 1 ∷ back xs 2 ∷ back xs 3 ∷ back xs 4 ∷ back xs 5 ∷ back xs 6 ∷ back xs 7 ∷ [])
    ≡ (item xs 0 ∷ item xs 1 ∷ item xs 2 ∷ item xs 3 ∷ item xs 4 ∷ item xs 5 ∷ item xs 6 ∷ item xs 7 ∷ [])
unfolding back
eight_back xs b = cons_eq _ _ _ _ (item_back xs 0 b) (cons_eq _ _ _ _ (item_back xs 1 b) (cons_eq _ _ _ _ (item_back xs 2 b) (cons_eq _ _ _ _ (item_back xs 3 b) (cons_eq _ _ _ _ (item_back xs 4 b) (cons_eq _ _ _ _ (item_back xs 5 b) (cons_eq _ _ _ _ (item_back xs 6 b) (cons_eq _ _ _ _ (item_back xs 7 b) (refl))))))))

four_back : (xs : List ℤ) → All IsBounded xs → (back xs 0 ∷ back xs 1 ∷ back xs 2 ∷ back xs 3 ∷ []) ≡ (item xs 0 ∷ item xs 1 ∷ item xs 2 ∷ item xs 3 ∷ [])
unfolding back
four_back xs b = cons_eq _ _ _ _ (item_back xs 0 b) (cons_eq _ _ _ _ (item_back xs 1 b) (cons_eq _ _ _ _ (item_back xs 2 b) (cons_eq _ _ _ _ (item_back xs 3 b) (refl))))

large_back : (xs : List ℤ) → IsMemberList xs → ival_of (Node (number_shape (20 + length xs) xs 0 1) (number_node 13 xs 4) Nil) ≡ Set xs
unfolding ival_of back
large_back xs h =
    let e : eqb (20 + length xs) 10 ≡ false = grind (arith, nat_tests) in
    let f : eqb (20 + length xs) 11 ≡ false = grind (arith, nat_tests) in
    let i : eqb (20 + length xs) 12 ≡ false = grind (arith, nat_tests) in
    let n : 20 + length xs - 20 ≡ length xs = omega arith in
    rw e (rw f (rw i (rw n (ap Set (ap (λ ys. take (length xs) ys) (eight_back xs h.bounded) ∙ eight xs h.few)))))

small_back : (xs : List ℤ) → IsMemberList xs → length xs ≤ 4 → ival_of (number_node (20 + length xs) xs 0) ≡ Set xs
unfolding ival_of back
small_back xs h l =
    let e : eqb (20 + length xs) 10 ≡ false = grind (arith, nat_tests) in
    let f : eqb (20 + length xs) 11 ≡ false = grind (arith, nat_tests) in
    let i : eqb (20 + length xs) 12 ≡ false = grind (arith, nat_tests) in
    let n : 20 + length xs - 20 ≡ length xs = omega arith in
    rw e (rw f (rw i (rw n (ap Set (ap (λ ys. take (length xs) ys) (four_back xs h.bounded) ∙ four xs l)))))

set_cases : (xs : List ℤ) (b : Bool) → IsMemberList xs → nat_lt 4 (length xs) ≡ b
    → ival_of (if b then Node (number_shape (20 + length xs) xs 0 1) (number_node 13 xs 4) Nil else number_node (20 + length xs) xs 0) ≡ Set xs
set_cases xs true h e = large_back xs h
set_cases xs false h e = small_back xs h (grind (arith, nat_tests))

pub set_back : (xs : List ℤ) → IsMemberList xs → ival_of (ival_tree (Set xs)) ≡ Set xs
unfolding ival_tree
set_back xs h = set_cases xs (nat_lt 4 (length xs)) h refl

-- different sets have different trees
pub ival_back : (x : Ival) → IsWellFormed x → ival_of (ival_tree x) ≡ x
unfolding ival_of ival_tree
ival_back Empty h = refl
ival_back (Set xs) h = set_back xs h
ival_back (Range lo hi r m) h =
    (ap (λ t. Range t (number_in (low_word hi) (high_word hi)) (number_in (low_word r) (high_word r)) (number_in (low_word m) (high_word m))) (number_back lo h.low)
    ∙ ap (λ t. Range lo t (number_in (low_word r) (high_word r)) (number_in (low_word m) (high_word m))) (number_back hi h.high)
    ∙ ap (λ t. Range lo hi t (number_in (low_word m) (high_word m))) (number_back r (rest_bounded lo hi r m h))
    ∙ ap (λ t. Range lo hi r t) (number_back m (step_bounded lo hi r m h)))
ival_back Every h = refl

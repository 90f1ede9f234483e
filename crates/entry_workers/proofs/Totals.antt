-- Totals over lists.
use Rattle.std.proofs.Common.{◌≡◌, ℕ, zero, suc, ◌+◌, ◌*◌, ◌^◌, ◌<◌, ◌≤◌, ◌≢◌, Bool, List, [], ◌∷◌, ◌++◌, length, set, cond, eqb, ltb, true, false, refl, sym, ap, subst, eq-eqb, ne_eqb, lt_of_not-le, arith}
use Rattle.std.proofs.lemmas.Bool.{lt-ltb, le-ltb}
use mathlib.Core.Option.{some, some-injective, some-ne-none}
use mathlib.Core.Logic.{dite}
use native.Mathlib.Decide.{dec_le, ℕ_discrete}
use lib.ListN.{get_elem?}
use Rattle.entry_workers.specs.Lists.{total, times, once_below}

module _ {X : Type 0} where
  pub total-append : (f : X → ℕ) (xs ys : List X) → total f (xs ++ ys) ≡ total f xs + total f ys
  total-append f [] ys = omega arith
  total-append f (x ∷ xs) ys = let e = total-append f xs ys in omega arith

  -- one element in place of another
  pub total-set : (f : X → ℕ) (xs : List X) (i : ℕ) (x y : X) → get_elem? xs i ≡ some x → total f (set xs i y) + f x ≡ total f xs + f y
  total-set f [] i x y e = absurd (some-ne-none x (sym e))
  total-set f (z ∷ zs) zero x y e = let q : f z ≡ f x = ap f (some-injective z x e) in omega arith
  total-set f (z ∷ zs) (suc i) x y e = let q = total-set f zs i x y e in omega arith

  pub part-le : (f : X → ℕ) (xs : List X) (i : ℕ) (x : X) → get_elem? xs i ≡ some x → f x ≤ total f xs
  part-le f [] i x e = absurd (some-ne-none x (sym e))
  part-le f (z ∷ zs) zero x e = let q : f z ≡ f x = ap f (some-injective z x e) in omega arith
  part-le f (z ∷ zs) (suc i) x e = let q = part-le f zs i x e in omega arith

  -- where each is at most 2^40 times as much, so is the total
  pub total-le : (f g : X → ℕ) (xs : List X) → ((i : ℕ) (x : X) → get_elem? xs i ≡ some x → f x ≤ g x * 2 ^ 40) → total f xs ≤ total g xs * 2 ^ 40
  total-le f g [] h = omega arith
  total-le f g (x ∷ xs) h = let a : f x ≤ g x * 2 ^ 40 = h zero x refl in let b : total f xs ≤ total g xs * 2 ^ 40 = total-le f g xs (λ i y e. h (suc i) y e) in omega arith

bit-le : (b : Bool) (m n : ℕ) → m ≤ n → cond b 1 0 + m ≤ suc n
bit-le true m n h = omega arith
bit-le false m n h = omega arith

pub times-le : (x : ℕ) (xs : List ℕ) → times x xs ≤ length xs
times-le x [] = omega arith
times-le x (y ∷ ys) = bit-le (eqb y x) (times x ys) (length ys) (times-le x ys)

pub times-more : (x : ℕ) (xs : List ℕ) (y : ℕ) → times x (xs ++ y ∷ []) ≡ times x xs + cond (eqb y x) 1 0
times-more x xs y = let e = total-append (λ z. cond (eqb z x) 1 0) xs (y ∷ []) in omega arith

bits : (a b c : Bool) (u v w : Bool) → a ≡ u → b ≡ v → c ≡ w → cond u 1 0 ≡ cond v 1 0 + cond w 1 0 → cond a 1 0 ≡ cond b 1 0 + cond c 1 0
bits a b c u v w p q r e = subst (λ (z : Bool). cond z 1 0 ≡ cond b 1 0 + cond c 1 0) (sym p)
    (subst (λ (z : Bool). cond u 1 0 ≡ cond z 1 0 + cond c 1 0) (sym q) (subst (λ (z : Bool). cond u 1 0 ≡ cond v 1 0 + cond z 1 0) (sym r) e))

lt-of-ne : (n x : ℕ) → n < suc x → n ≢ x → n < x
lt-of-ne n x h ne = dite (dec_le (suc n) x) (λ (lt : suc n ≤ x). lt) (λ ge. let g : x < suc n = lt_of_not-le ge in absurd (ne (omega arith)))

pub once-more : (x n : ℕ) → once_below x (n + 1) ≡ once_below x n + cond (eqb n x) 1 0
once-more x n = dite (ℕ_discrete n x)
    (λ (e : n ≡ x). bits (ltb x (n + 1)) (ltb x n) (eqb n x) true false true (lt-ltb x (n + 1) (omega arith)) (le-ltb x n (omega arith)) (eq-eqb n x e) refl)
    (λ ne. dite (dec_le (suc x) n)
    (λ (lt : suc x ≤ n). bits (ltb x (n + 1)) (ltb x n) (eqb n x) true true false (lt-ltb x (n + 1) (omega arith)) (lt-ltb x n (omega arith)) (ne_eqb n x ne) refl)
    (λ ge. let h : n < suc x = lt_of_not-le ge in let less : n < x = lt-of-ne n x h ne in
    bits (ltb x (n + 1)) (ltb x n) (eqb n x) false false false (le-ltb x (n + 1) (omega arith)) (le-ltb x n (omega arith)) (ne_eqb n x ne) refl))

pub bit-zero : (n x : ℕ) → n ≢ x → cond {A = ℕ} (eqb n x) 1 0 ≡ 0
bit-zero n x ne = ap (λ (b : Bool). cond {A = ℕ} b 1 0) (ne_eqb n x ne)

-- Tests below a number, and of pairs of tests.
use Rattle.std.proofs.Common.{ℕ, zero, suc, ◌<◌, ◌≡◌, ◌≢◌, ◌⊎◌, inl, inr, refl, sym, ap, ◌∙◌, Bool, true, false, arith}
use Rattle.std.proofs.lemmas.Bool.Decides.{nat_tests}
use Rattle.std.specs.Prelude.{◌&&◌, ◌||◌, not, nat_eq}
use Rattle.abstract_memory.specs.Values.{all_below, any_below}

pub no_true : false ≡ true → ⊥
no_true e = cc

pub or_left : (a b : Bool) → a ≡ true → (a || b) ≡ true
or_left true b e = refl
or_left false b e = absurd (no_true e)

pub or_right : (a b : Bool) → b ≡ true → (a || b) ≡ true
or_right true b e = refl
or_right false b e = e

pub both_true : (a b : Bool) → (a && b) ≡ true → (a ≡ true) × (b ≡ true)
both_true true b e = (refl, e)
both_true false b e = absurd (no_true e)

pub and_true : (a b : Bool) → a ≡ true → b ≡ true → (a && b) ≡ true
and_true true b e f = f
and_true false b e f = e

pub either_true : (a b : Bool) → (a || b) ≡ true → (a ≡ true) ⊎ (b ≡ true)
either_true true b e = inl refl
either_true false b e = inr e

pub not_true : (a : Bool) → not a ≡ true → a ≡ false
not_true true e = sym e
not_true false e = refl

-- a test is one of both
pub bool_cases : (P : Type 0) (b : Bool) → (b ≡ true → P) → (b ≡ false → P) → P
bool_cases P true h k = h refl
bool_cases P false h k = k refl

pub eq_of : (x y : ℕ) → nat_eq x y ≡ true → x ≡ y
eq_of x y e = grind (arith, nat_tests)

pub not_eq : (x y : ℕ) → nat_eq x y ≡ false → x ≢ y
not_eq x y e = grind (arith, nat_tests)

pub eq_yes : (x y : ℕ) → x ≡ y → nat_eq x y ≡ true
eq_yes x y e = grind (arith, nat_tests)

last_or_below : (j n : ℕ) → j < suc n → (j ≡ n) ⊎ (j < n)
last_or_below j n l = grind arith

pub at_all : (n : ℕ) (f : ℕ → Bool) → all_below n f ≡ true → (j : ℕ) → j < n → f j ≡ true
at_all zero f e j l = absurd (omega (arith, l))
at_all (suc n) f e j l =
    let h = both_true (f n) (all_below n f) e in
    elim (last_or_below j n l) [ inl z ↦ ap f z ∙ h.0 | inr k ↦ at_all n f h.1 j k ]

pub any_at : (n : ℕ) (f : ℕ → Bool) (j : ℕ) → j < n → f j ≡ true → any_below n f ≡ true
any_at zero f j l e = absurd (omega (arith, l))
any_at (suc n) f j l e =
    elim (last_or_below j n l) [ inl z ↦ or_left (f n) (any_below n f) (sym (ap f z) ∙ e) | inr k ↦ or_right (f n) (any_below n f) (any_at n f j k e) ]

pub all_at : (n : ℕ) (f : ℕ → Bool) → ((j : ℕ) → j < n → f j ≡ true) → all_below n f ≡ true
all_at zero f h = refl
all_at (suc n) f h = and_true (f n) (all_below n f) (h n (omega arith)) (all_at n f (λ (j : ℕ) (l : j < n). h j (omega (arith, l))))

neither : (a b : Bool) → a ≡ false → b ≡ false → (a || b) ≡ false
neither true b e f = e
neither false b e f = f

pub none_at : (n : ℕ) (f : ℕ → Bool) → ((j : ℕ) → j < n → f j ≡ false) → any_below n f ≡ false
none_at zero f h = refl
none_at (suc n) f h = neither (f n) (any_below n f) (h n (omega arith)) (none_at n f (λ (j : ℕ) (l : j < n). h j (omega (arith, l))))

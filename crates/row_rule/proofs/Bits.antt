-- One bit of a bucket word is set or cleared, and its version goes up, by one sum.
use Rattle.std.proofs.Common.{◌≡◌, ℕ, zero, suc, ◌+◌, ◌*◌, ◌/◌, ◌%◌, ◌-◌, ◌<◌, ◌≤◌, ◌≢◌, ◌^◌, sym, refl, ap, ◌∙◌, subst, ⊎_elim, arith, bit_or, bit_xor, pow_mono}
use Rattle.std.specs.Int.{bit_at}
use Rattle.row_rule.specs.Words.{ways}
use Rattle.std.proofs.lemmas.Nat.{or_disjoint, or_lt, pow_pos, pow-add}
use Rattle.std.proofs.lemmas.Nat.Bits.{bit_at_or, bit_at_xor, bit_at-pow_same, bit_at-pow_other, and_pow, bit_at-lt, bit_at_cat_low, same_from_bits}
use Rattle.std.proofs.Math.Nat.{pow-suc, add-mul-div_right}
use Rattle.std.proofs.lemmas.Bool.{cases_eq}

pub set_is_or : (n w : ℕ) → bit_at n w ≡ 0 → n + 2 ^ w ≡ bit_or n (2 ^ w)
set_is_or n w h = sym (or_disjoint n (2 ^ w) (and_pow n w ∙ ap (λ a. a * 2 ^ w) h ∙ omega arith))

pub set_same : (n w : ℕ) → bit_at n w ≡ 0 → bit_at (n + 2 ^ w) w ≡ 1
set_same n w h = ap (λ a. bit_at a w) (set_is_or n w h) ∙ bit_at_or n (2 ^ w) w ∙ omega (arith, h, bit_at-pow_same w)

pub set_other : (n w i : ℕ) → bit_at n w ≡ 0 → i ≢ w → bit_at (n + 2 ^ w) i ≡ bit_at n i
set_other n w i h ne = ap (λ a. bit_at a i) (set_is_or n w h) ∙ bit_at_or n (2 ^ w) i ∙ omega (arith, bit_at-pow_other w i ne)

split_version : (i : ℕ) → i < 32 → 2 ^ 32 ≡ 2 ^ suc (32 - suc i) * 2 ^ i
split_version i lt = (let e : 32 ≡ suc (32 - suc i) + i = omega arith in ap (λ a. 2 ^ a) e) ∙ pow-add 2 (suc (32 - suc i)) i

-- the version is above the bits
pub version_bit : (n i : ℕ) → i < 32 → bit_at (n + 2 ^ 32) i ≡ bit_at n i
version_bit n i lt = let d : ℕ = 32 - suc i in
    ap (λ a. (n + a) / 2 ^ i % 2) (split_version i lt) ∙ ap (λ a. a % 2) (add-mul-div_right n (2 ^ suc d) (pow_pos i)) ∙ even (n / 2 ^ i) (2 ^ d) (2 ^ suc d) (pow-suc 2 d)
  where
    even : (a b c : ℕ) → c ≡ b * 2 → (a + c) % 2 ≡ a % 2
    even a b c e = omega arith

-- a set bit is taken away by its power
pub clear_is_xor : (n w : ℕ) → bit_at n w ≡ 1 → bit_xor n (2 ^ w) + 2 ^ w ≡ n
clear_is_xor n w h = let m : ℕ = bit_xor n (2 ^ w) in
    let off : bit_at m w ≡ 0 = bit_at_xor n (2 ^ w) w ∙ omega (arith, h, bit_at-pow_same w) in
    set_is_or m w off ∙ same_from_bits (bit_or m (2 ^ w)) n (λ i. ⊎_elim
    (λ (e : i ≡ w). subst (λ a. bit_at (bit_or m (2 ^ w)) a ≡ bit_at n a) (sym e) (bit_at_or m (2 ^ w) w ∙ omega (arith, off, h, bit_at-pow_same w)))
    (λ ne. let o = bit_at-pow_other w i ne in let l = bit_at-lt n i in bit_at_or m (2 ^ w) i ∙ omega (arith, bit_at_xor n (2 ^ w) i))
    (cases_eq i w))

pub clear_same : (n w : ℕ) → bit_at n w ≡ 1 → bit_at (n - 2 ^ w) w ≡ 0
clear_same n w h = ap (λ a. bit_at a w) (let c = clear_is_xor n w h in omega arith) ∙ bit_at_xor n (2 ^ w) w ∙ omega (arith, h, bit_at-pow_same w)

pub clear_other : (n w i : ℕ) → bit_at n w ≡ 1 → i ≢ w → bit_at (n - 2 ^ w) i ≡ bit_at n i
clear_other n w i h ne = ap (λ a. bit_at a i) (let c = clear_is_xor n w h in omega arith) ∙ bit_at_xor n (2 ^ w) i ∙ omega (arith, bit_at-pow_other w i ne, bit_at-lt n i)

pub bit_set_same : (n w : ℕ) → w < 32 → bit_at n w ≡ 0 → bit_at (n + 2 ^ w + 2 ^ 32) w ≡ 1
bit_set_same n w l h = version_bit (n + 2 ^ w) w l ∙ set_same n w h

pub bit_set_other : (n w i : ℕ) → i < 32 → i ≢ w → bit_at n w ≡ 0 → bit_at (n + 2 ^ w + 2 ^ 32) i ≡ bit_at n i
bit_set_other n w i l ne h = version_bit (n + 2 ^ w) i l ∙ set_other n w i h ne

pub bit_clear_same : (n w : ℕ) → w < 32 → bit_at n w ≡ 1 → bit_at (n - 2 ^ w + 2 ^ 32) w ≡ 0
bit_clear_same n w l h = version_bit (n - 2 ^ w) w l ∙ clear_same n w h

pub bit_clear_other : (n w i : ℕ) → i < 32 → i ≢ w → bit_at n w ≡ 1 → bit_at (n - 2 ^ w + 2 ^ 32) i ≡ bit_at n i
bit_clear_other n w i l ne h = version_bit (n - 2 ^ w) i l ∙ clear_other n w i h ne

-- the power is in the number
pub clear_le : (n w : ℕ) → bit_at n w ≡ 1 → 2 ^ w ≤ n
clear_le n w h = let c = clear_is_xor n w h in omega arith

-- how many bits are set
pub ways_same : (m n n' : ℕ) → ((i : ℕ) → i < m → bit_at n' i ≡ bit_at n i) → ways m n' ≡ ways m n
ways_same zero n n' h = refl
ways_same (suc m) n n' h = let a = h m (omega arith) in let b = ways_same m n n' (λ i l. h i (omega arith)) in omega arith

pub ways_at : (m n n' w : ℕ) → w < m → ((i : ℕ) → i < m → i ≢ w → bit_at n' i ≡ bit_at n i) → ways m n' + bit_at n w ≡ ways m n + bit_at n' w
ways_at zero n n' w l h = absurd (omega arith)
ways_at (suc m) n n' w l h = ⊎_elim
    (λ (e : w ≡ m). subst (λ a. bit_at n' m + ways m n' + bit_at n a ≡ bit_at n m + ways m n + bit_at n' a) (sym e) (let b = ways_same m n n' (λ i x. h i (omega arith) (λ f. omega arith)) in omega arith))
    (λ ne. let a = h m (omega arith) (λ f. ne (sym f)) in let b = ways_at m n n' w (omega arith) (λ i x y. h i (omega arith) y) in omega arith)
    (cases_eq w m)

pub ways_le : (m n : ℕ) → ways m n ≤ m
ways_le zero n = omega arith
ways_le (suc m) n = let a = bit_at-lt n m in let b = ways_le m n in omega arith

low_bit : (n w : ℕ) → w < 32 → bit_at (n % 2 ^ 32) w ≡ bit_at n w
low_bit n w l = sym (bit_at_cat_low (n / 2 ^ 32) 32 (n % 2 ^ 32) w l) ∙ ap (λ a. bit_at a w) (let e : n / 2 ^ 32 * 2 ^ 32 + n % 2 ^ 32 ≡ n = omega arith in e)

power_lt : (w : ℕ) → w < 32 → 2 ^ w < 2 ^ 32
power_lt w l = let a : 2 ^ suc w ≤ 2 ^ 32 = pow_mono l in let b = pow-suc 2 w in let c = pow_pos w in omega arith

-- with a clear bit set, or a set one cleared, the version goes up by one: the bits don't carry
pub version_set : (n w : ℕ) → w < 32 → bit_at n w ≡ 0 → (n + 2 ^ w + 2 ^ 32) / 2 ^ 32 ≡ n / 2 ^ 32 + 1
version_set n w l h =
    let m : ℕ = n % 2 ^ 32 in
    let room : m + 2 ^ w < 2 ^ 32 = subst (λ a. a < 2 ^ 32) (sym (set_is_or m w (low_bit n w l ∙ h))) (or_lt 32 m (2 ^ w) (omega arith) (power_lt w l)) in omega arith

pub version_clear : (n w : ℕ) → w < 32 → bit_at n w ≡ 1 → (n - 2 ^ w + 2 ^ 32) / 2 ^ 32 ≡ n / 2 ^ 32 + 1
version_clear n w l h = let c = clear_le (n % 2 ^ 32) w (low_bit n w l ∙ h) in omega arith

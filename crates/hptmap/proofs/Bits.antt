use Rattle.std.proofs.Common.{ℕ, ◌+◌, ◌-◌, ◌*◌, ◌<◌, ◌≤◌, ◌≡◌, ◌/◌, ◌^◌, arith, sym, ap, ◌∙◌, subst, inl, inr}
use Rattle.std.proofs.lemmas.Bool.{cases_lt}
use Rattle.std.proofs.lemmas.Nat.{le-div, pow_pos, shl-shr, shr-shr}
use Rattle.std.proofs.Math.Nat.{div-mul-le_self, mul-le-mul_right}
use Rattle.hptmap.specs.Trie.{split_at}

-- one bit fewer
pub shorter : (x n : ℕ) → x / 2 ^ (n + 1) ≡ x / 2 ^ n / 2
shorter x n = sym (shr-shr x n 1)

-- equal prefixes have equal shorter ones
pub shorten : (x y n m : ℕ) → n ≤ m → x / 2 ^ n ≡ y / 2 ^ n → x / 2 ^ m ≡ y / 2 ^ m
shorten x y n m l e =
    let d : n + (m - n) ≡ m = omega arith in
    subst (λ (i : ℕ). x / 2 ^ i ≡ y / 2 ^ i) d (sym (shr-shr x n (m - n)) ∙ ap (λ (i : ℕ). i / 2 ^ (m - n)) e ∙ shr-shr y n (m - n))

-- the prefixes of a split
pub split_prefix : (k n : ℕ) → split_at k n / 2 ^ n ≡ 2 * (k / 2 ^ (n + 1)) + 1
unfolding split_at
split_prefix k n = shl-shr (2 * (k / 2 ^ (n + 1)) + 1) n

pub split_shorter : (k n : ℕ) → split_at k n / 2 ^ (n + 1) ≡ k / 2 ^ (n + 1)
split_shorter k n = shorter (split_at k n) n ∙ ap (λ (i : ℕ). i / 2) (split_prefix k n) ∙ (let q = k / 2 ^ (n + 1) in omega arith)

-- a split of a split is that split
pub split_again : (k n : ℕ) → split_at (split_at k n) n ≡ split_at k n
unfolding split_at
split_again k n = ap (λ (i : ℕ). (2 * i + 1) * 2 ^ n) (split_shorter k n)

split_whole : (s n : ℕ) → s ≡ split_at s n → s ≡ s / 2 ^ n * 2 ^ n
unfolding split_at
split_whole s n e = e ∙ ap (λ (i : ℕ). i * 2 ^ n) (sym (split_prefix s n) ∙ ap (λ (i : ℕ). i / 2 ^ n) (sym e))

-- a key below a split has a lower prefix
pub below_split : (k s n : ℕ) → s ≡ split_at s n → k < s → k / 2 ^ n < s / 2 ^ n
below_split k s n e l =
    elim (cases_lt (k / 2 ^ n) (s / 2 ^ n)) [
      | inl h ↦ h
      | inr g ↦ absurd (let w = split_whole s n e in let m = mul-le-mul_right {m = s / 2 ^ n} {n = k / 2 ^ n} (2 ^ n) g in let d = div-mul-le_self k (2 ^ n) in omega arith)
    ]

pub above_split : (k s n : ℕ) → s ≤ k → s / 2 ^ n ≤ k / 2 ^ n
above_split k s n l = le-div (s / 2 ^ n) k (2 ^ n) (pow_pos n) (omega (arith, div-mul-le_self s (2 ^ n)))

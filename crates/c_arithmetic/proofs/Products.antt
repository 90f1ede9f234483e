-- Products and powers that the operators make.
use Rattle.std.proofs.Common.{◌≡◌, ◌≢◌, ℕ, zero, suc, ◌-◌, ◌*◌, ◌%◌, ◌^◌, ◌<◌, ◌≤◌, ℤ, pos, negsuc, ◌*ℤ◌, ◌≤ℤ◌, true, false, Ok, Err, sym, refl, ap, subst, ◌∙◌, arith, ⊎_elim}
use Rattle.std.specs.Prelude.{unsigned_abs, FitsSigned, int_le}
use Rattle.std.specs.Int.{w128, cast_signed as to_z}
use Rattle.std.proofs.lemmas.Int.{ints, to_z_pos, fits_signed_mul, fits_signed_from_abs}
use Rattle.std.proofs.lemmas.Nat.{pow_below, pow_pos, one_shl}
use Rattle.std.proofs.lemmas.Bool.{cases_lt}
use Rattle.c_types.specs.declared.types.IntKind.{IntKind}
use Rattle.c_types.specs.declared.types.IntKind.TheVariants as kind
use Rattle.c_types.specs.Integers.{width, is_signed, greatest, wrapped}
use Rattle.c_types.proofs.IntKindLaws.{spans}
use Rattle.program.specs.declared.sites.Kind.TheVariants.{SignedOverflow}
use Rattle.c_arithmetic.specs.Arithmetic.{IsPlain, settled}

power_le : (b n : ℕ) → b ≤ n → 2 ^ b ≤ 2 ^ n
power_le b n h = ⊎_elim (λ lt. omega (arith, pow_below b n lt)) (λ ge. let e : b ≡ n = omega arith in subst (λ (k : ℕ). 2 ^ k ≤ 2 ^ n) (sym e) (omega arith)) (cases_lt b n)

pub power_is : (b : ℕ) → b ≤ 64 → to_z w128 ((1 * 2 ^ b) % 2 ^ 128) ≡ pos (2 ^ b)
power_is b h = ap (to_z w128) (one_shl b 128 (omega arith)) ∙ to_z_pos w128 (2 ^ b) (omega (arith, power_le b 64 h))

pub power_low : (b : ℕ) → b ≤ 64 → pos 1 ≤ℤ to_z w128 ((1 * 2 ^ b) % 2 ^ 128)
power_low b h = subst (λ z. pos 1 ≤ℤ z) (sym (power_is b h)) (omega (arith, ints, pow_pos b))

pub power_high : (b n : ℕ) → b ≤ n → n ≤ 64 → to_z w128 ((1 * 2 ^ b) % 2 ^ 128) ≤ℤ pos (2 ^ n)
power_high b n h k = subst (λ z. z ≤ℤ pos (2 ^ n)) (sym (power_is b (omega arith))) (omega (arith, ints, power_le b n h))

pub scaled_fits : (a p : ℤ) → IsPlain a → pos 1 ≤ℤ p → p ≤ℤ pos (2 ^ 62) → FitsSigned w128 (a *ℤ p)
scaled_fits a p h low high = fits_signed_mul w128 a p (2 ^ 64) (2 ^ 62) (omega (arith, ints, h.above, h.below)) (omega (arith, ints)) (omega arith)

-- a product that passes 2^127
pub record IsLarge (a b : ℤ) : Type 0 where
  pub left : pos 1 ≤ℤ a
  pub right : pos 1 ≤ℤ b
  pub large : 2 ^ 127 ≤ unsigned_abs a * unsigned_abs b
  pub is : a *ℤ b ≡ pos (unsigned_abs a * unsigned_abs b)

small : (a b : ℤ) (m n : ℕ) → unsigned_abs a ≤ m → unsigned_abs b ≤ n → m * n < 2 ^ 127 → (FitsSigned w128 (a *ℤ b) → ⊥) → IsLarge a b
small a b m n f g h k = absurd (k (fits_signed_mul w128 a b m n f g h))

pub is_large : (a b : ℤ) → IsPlain a → IsPlain b → (FitsSigned w128 (a *ℤ b) → ⊥) → IsLarge a b
is_large (pos zero) (pos n) h k past = small (pos 0) (pos n) 0 (2 ^ 64) (omega arith) (omega (arith, ints, k.below)) (omega arith) past
is_large (pos (suc m)) (pos zero) h k past = small (pos (suc m)) (pos 0) (2 ^ 64) 0 (omega (arith, ints, h.below)) (omega arith) (omega arith) past
is_large (pos (suc m)) (pos (suc n)) h k past =
    ⊎_elim (λ lt. absurd (past (fits_signed_from_abs w128 (pos (suc m * suc n)) lt))) (λ ge. record { left = omega (arith, ints); right = omega (arith, ints); large = ge; is = refl }) (cases_lt (suc m * suc n) (2 ^ 127))
is_large (pos m) (negsuc n) h k past = small (pos m) (negsuc n) (2 ^ 64 - 1) (2 ^ 63) (omega (arith, ints, h.below)) (omega (arith, ints, k.above)) (omega arith) past
is_large (negsuc m) (pos n) h k past = small (negsuc m) (pos n) (2 ^ 63) (2 ^ 64 - 1) (omega (arith, ints, h.above)) (omega (arith, ints, k.below)) (omega arith) past
is_large (negsuc m) (negsuc n) h k past = small (negsuc m) (negsuc n) (2 ^ 63) (2 ^ 63) (omega (arith, ints, h.above)) (omega (arith, ints, k.above)) (omega arith) past

past_range : (k : IntKind) (n : ℕ) → 2 ^ 127 ≤ n → int_le (pos n) (greatest k) ≡ false
past_range k n h = let s = spans k in grind (arith, ints, s.high, s.zero_is_above)

pub signed_large : (k : IntKind) (a b : ℤ) → IsLarge a b → is_signed k ≡ true → settled k (a *ℤ b) ≡ Err SignedOverflow
unfolding settled
signed_large k a b h p = rw (h.is) (let q = past_range k (unsigned_abs a * unsigned_abs b) h.large in grind (arith, ints))

pub truth_large : (k : IntKind) (a b : ℤ) → IsLarge a b → k ≡ kind.Bool → settled k (a *ℤ b) ≡ Ok (pos 1)
unfolding settled
truth_large k a b h p = rw (p, h.is) (let q = h.large in grind (arith, ints))

residue : (k : IntKind) (n : ℕ) → is_signed k ≡ false → k ≢ kind.Bool → wrapped k (pos n) ≡ pos (n % 2 ^ width k)
residue kind.Bool n p q = absurd (q refl)
residue kind.UChar n p q = grind (arith, ints)
residue kind.UShort n p q = grind (arith, ints)
residue kind.UInt n p q = grind (arith, ints)
residue kind.ULong n p q = grind (arith, ints)
residue kind.ULongLong n p q = grind (arith, ints)
residue _ n p q = absurd (cc)

lowest : (k : IntKind) (n : ℕ) → is_signed k ≡ false → k ≢ kind.Bool → n % 2 ^ width k ≡ (n % 2 ^ 64) % 2 ^ width k
lowest kind.Bool n p q = absurd (q refl)
lowest kind.UChar n p q = omega arith
lowest kind.UShort n p q = omega arith
lowest kind.UInt n p q = omega arith
lowest kind.ULong n p q = omega arith
lowest kind.ULongLong n p q = omega arith
lowest _ n p q = absurd (cc)

same_settled : (k : IntKind) (n : ℕ) → is_signed k ≡ false → k ≢ kind.Bool → wrapped k (pos n) ≡ wrapped k (pos (n % 2 ^ 64))
same_settled k n p q = residue k n p q ∙ ap pos (lowest k n p q) ∙ sym (residue k (n % 2 ^ 64) p q)

pub unsigned_large : (k : IntKind) (a b : ℤ) → IsLarge a b → is_signed k ≡ false → k ≢ kind.Bool → settled k (a *ℤ b) ≡ Ok (wrapped k (pos ((unsigned_abs a * unsigned_abs b) % 2 ^ 64)))
unfolding settled
unsigned_large k a b h p q = rw (p, h.is) (ap Ok (same_settled k (unsigned_abs a * unsigned_abs b) p q))

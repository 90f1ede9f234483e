-- The ranges of the integer kinds.
use Rattle.std.proofs.Common.{◌≡◌, ℕ, ◌+◌, ◌-◌, ◌^◌, ◌<◌, ◌≤◌, ℤ, pos, negsuc, neg_ℤ, ◌+ℤ◌, ◌-ℤ◌, ◌≤ℤ◌, refl, ap, sym, subst, ◌∙◌, arith, true, false}
use Rattle.std.specs.Prelude.{Bool, cond, int_le, int_div}
use Rattle.std.specs.Int.{int_rem_euclid}
use Rattle.std.proofs.lemmas.Int.{ints}
use Rattle.std.proofs.lemmas.Nat.{pow_pos}
use Rattle.std.proofs.lemmas.Bool.Decides.{Decides-and}
use Rattle.c_types.specs.declared.types.IntKind.{IntKind}
use Rattle.c_types.specs.declared.types.IntKind.TheVariants as kind
use Rattle.c_types.specs.Integers.{width, is_signed, least, greatest, wrapped, InRange}
use Rattle.c_arithmetic.specs.Arithmetic.{in_range}
use Rattle.ival.specs.Numbers.{residue}
use Rattle.ival.specs.Forms.{IsBounded, IsOperand, IsOperandNumber}
use Rattle.ival.specs.Casts.{type_least, type_greatest, wrapped as wrapped_in}
use Rattle.ival.proofs.CommonNumbers.{Decides-int_le}
use Rattle.ival.proofs.Operands.{operand_from_within}
use Rattle.abstract_operators.specs.Numbers.{AreOf}
use Rattle.abstract_operators.proofs.Limits.{IsWidth, within-wider}
use Rattle.ival.specs.declared.forms.Ival.{Ival}

pub in-range : (k : IntKind) (v : ℤ) → in_range k v ≡ true → InRange k v
in-range k v e =
    let d = (Decides-and (int_le (least k) v) (int_le v (greatest k)) (Decides-int_le (least k) v) (Decides-int_le v (greatest k))).0 e in
    record { above = d.0; below = d.1 }

pub represented-in_range : (k : IntKind) (v : ℤ) → InRange k v → in_range k v ≡ true
represented-in_range k v h =
    (Decides-and (int_le (least k) v) (int_le v (greatest k)) (Decides-int_le (least k) v) (Decides-int_le v (greatest k))).1 (h.above, h.below)

pub kind-width : (k : IntKind) → IsWidth (width k)
kind-width kind.Bool = record { some = omega arith; few = omega arith }
kind-width kind.Char = record { some = omega arith; few = omega arith }
kind-width kind.SChar = record { some = omega arith; few = omega arith }
kind-width kind.UChar = record { some = omega arith; few = omega arith }
kind-width kind.Short = record { some = omega arith; few = omega arith }
kind-width kind.UShort = record { some = omega arith; few = omega arith }
kind-width kind.Int = record { some = omega arith; few = omega arith }
kind-width kind.UInt = record { some = omega arith; few = omega arith }
kind-width kind.Long = record { some = omega arith; few = omega arith }
kind-width kind.ULong = record { some = omega arith; few = omega arith }
kind-width kind.LongLong = record { some = omega arith; few = omega arith }
kind-width kind.ULongLong = record { some = omega arith; few = omega arith }

-- the limits of a kind are numbers that arithmetic takes
pub record HasLimits (k : IntKind) : Type 0 where
  pub low : IsOperandNumber (least k)
  pub high : IsOperandNumber (greatest k)
  pub apart : least k ≤ℤ greatest k
  pub around : (least k ≤ℤ pos 0) × (pos 0 ≤ℤ greatest k)

limits-of : (k : IntKind) (low high : ℤ) → least k ≡ low → greatest k ≡ high → IsOperandNumber low → IsOperandNumber high → low ≤ℤ pos 0 → pos 0 ≤ℤ high → HasLimits k
limits-of k low high e f h g p q = record {
  low = subst IsOperandNumber (sym e) h;
  high = subst IsOperandNumber (sym f) g;
  apart = omega (arith, ints, e, f, p, q);
  around = (omega (arith, ints, e, p), omega (arith, ints, f, q));
}

unsigned-limits : (k : IntKind) (n : ℕ) → least k ≡ pos 0 → greatest k ≡ pos n → n < 2 ^ 64 → HasLimits k
unsigned-limits k n e f h = limits-of k (pos 0) (pos n) e f record { above = omega (arith, ints); below = omega (arith, ints) } record { above = omega (arith, ints); below = omega (arith, ints, h) } (omega (arith, ints)) (omega (arith, ints))

signed-limits : (k : IntKind) (n : ℕ) → least k ≡ negsuc n → greatest k ≡ pos n → n < 2 ^ 63 → HasLimits k
signed-limits k n e f h = limits-of k (negsuc n) (pos n) e f record { above = omega (arith, ints, h); below = omega (arith, ints) } record { above = omega (arith, ints); below = omega (arith, ints, h) } (omega (arith, ints)) (omega (arith, ints))

pub kind-limits : (k : IntKind) → HasLimits k
kind-limits kind.Bool = unsigned-limits kind.Bool 1 refl refl (omega arith)
kind-limits kind.Char = signed-limits kind.Char 127 refl refl (omega arith)
kind-limits kind.SChar = signed-limits kind.SChar 127 refl refl (omega arith)
kind-limits kind.UChar = unsigned-limits kind.UChar 255 refl refl (omega arith)
kind-limits kind.Short = signed-limits kind.Short 32767 refl refl (omega arith)
kind-limits kind.UShort = unsigned-limits kind.UShort 65535 refl refl (omega arith)
kind-limits kind.Int = signed-limits kind.Int 2147483647 refl refl (omega arith)
kind-limits kind.UInt = unsigned-limits kind.UInt 4294967295 refl refl (omega arith)
kind-limits kind.Long = signed-limits kind.Long 9223372036854775807 refl refl (omega arith)
kind-limits kind.ULong = unsigned-limits kind.ULong 18446744073709551615 refl refl (omega arith)
kind-limits kind.LongLong = signed-limits kind.LongLong 9223372036854775807 refl refl (omega arith)
kind-limits kind.ULongLong = unsigned-limits kind.ULongLong 18446744073709551615 refl refl (omega arith)

pub least-bounded : (k : IntKind) → IsBounded (least k)
least-bounded k = let l = kind-limits k in record { above = omega (arith, ints, l.low.above); below = omega (arith, ints, l.low.below) }

pub greatest-bounded : (k : IntKind) → IsBounded (greatest k)
greatest-bounded k = let l = kind-limits k in record { above = omega (arith, ints, l.high.above); below = omega (arith, ints, l.high.below) }

-- a signed kind of so many bits
pub record IsSigned (k : IntKind) (w : ℕ) : Type 0 where
  pub few : w ≤ 63
  pub low : least k ≡ neg_ℤ (pos (2 ^ w))
  pub high : greatest k ≡ pos (2 ^ w) -ℤ pos 1
  pub lost : in_range k (int_div (least k) (negsuc 0)) ≡ false

pub signed-kind : (k : IntKind) → is_signed k ≡ true → IsSigned k (width k - 1)
signed-kind kind.Bool e = absurd (cc)
signed-kind kind.Char e = record { few = omega arith; low = refl; high = refl; lost = refl }
signed-kind kind.SChar e = record { few = omega arith; low = refl; high = refl; lost = refl }
signed-kind kind.UChar e = absurd (cc)
signed-kind kind.Short e = record { few = omega arith; low = refl; high = refl; lost = refl }
signed-kind kind.UShort e = absurd (cc)
signed-kind kind.Int e = record { few = omega arith; low = refl; high = refl; lost = refl }
signed-kind kind.UInt e = absurd (cc)
signed-kind kind.Long e = record { few = omega arith; low = refl; high = refl; lost = refl }
signed-kind kind.ULong e = absurd (cc)
signed-kind kind.LongLong e = record { few = omega arith; low = refl; high = refl; lost = refl }
signed-kind kind.ULongLong e = absurd (cc)

pub unsigned-least : (k : IntKind) → is_signed k ≡ false → least k ≡ pos 0
unsigned-least k e = ap (λ b. cond b (neg_ℤ (pos (2 ^ (width k - 1)))) (pos 0)) e

-- sets of numbers of a kind are sets that arithmetic takes
pub of-operand : (k : IntKind) (a : Ival) → AreOf k a → IsOperand a
of-operand k a h =
    let l = kind-limits k in
    operand_from_within a h.formed (within-wider (least k) (greatest k) (neg_ℤ (pos (2 ^ 63))) (pos (2 ^ 64 - 1)) a l.low.above (omega (arith, ints, l.high.below)) h.within)

-- ---- conversions

pub record IsCast (k : IntKind) : Type 0 where
  pub low : type_least (width k) (is_signed k) ≡ least k
  pub high : type_greatest (width k) (is_signed k) ≡ greatest k

-- the number that a kind other than `_Bool` has for x
euclid-residue : (x : ℤ) (m : ℕ) → 0 < m → int_rem_euclid x (pos m) ≡ pos (residue x m)
unfolding residue
euclid-residue (pos a) m h = refl
euclid-residue (negsuc a) m h = refl

pub wrapped-same : (k : IntKind) (x : ℤ) → IsCast k → wrapped_in (width k) (is_signed k) x ≡ least k +ℤ int_rem_euclid (x -ℤ least k) (pos (2 ^ width k))
wrapped-same k x c =
    ap (λ l. l +ℤ pos (residue (x -ℤ l) (2 ^ width k))) c.low ∙ ap (λ r. least k +ℤ r) (sym (euclid-residue (x -ℤ least k) (2 ^ width k) (pow_pos (width k))))

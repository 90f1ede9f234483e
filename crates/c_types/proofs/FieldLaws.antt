-- Laws of the values of bit-fields.
use Rattle.std.proofs.Common.{◌≡◌, ◌≢◌, ℕ, suc, zero, ◌+◌, ◌-◌, ◌*◌, ◌%◌, ◌^◌, ◌≤◌, Bool, true, false, if◌then◌else◌, ℤ, pos, neg_ℤ, ◌+ℤ◌, ◌-ℤ◌, ◌≤ℤ◌, ◌<ℤ◌, negsuc, refl, ap, sym, ◌∙◌, arith}
use Rattle.std.specs.Int.{w128, cast_signed as to_z}
use Rattle.std.proofs.lemmas.Int.{ints, to_z_pos}
use Rattle.std.proofs.lemmas.Nat.{pow_pos, one_shl}
use Rattle.std.proofs.Math.Pow.{pow_mono}
use Rattle.std.proofs.Math.Nat.{two-pow-succ}
use Rattle.c_types.specs.declared.types.IntKind.{IntKind}
use Rattle.c_types.specs.declared.types.IntKind.TheVariants as kind
use Rattle.c_types.specs.Integers.{is_signed, Congruent}
use Rattle.c_types.specs.BitFields.{field_least, field_greatest, InFieldRange, field_wrapped}
use Rattle.c_types.proofs.Residues.{residue_unique}

pub power_small : (n : ℕ) → n ≤ 64 → 2 ^ n ≤ 2 ^ 64
power_small n h = pow_mono h

pub power_is : (n : ℕ) → n ≤ 64 → to_z w128 ((1 * 2 ^ n) % 2 ^ 128) ≡ pos (2 ^ n)
power_is n h = ap (to_z w128) (one_shl n 128 (omega arith)) ∙ to_z_pos w128 (2 ^ n) (omega (arith, power_small n h))

doubled : (n : ℕ) → 2 ^ suc n ≡ 2 ^ n + 2 ^ n
doubled n = two-pow-succ n

halves : (n : ℕ) → 1 ≤ n → 2 ^ n ≡ 2 ^ (n - 1) + 2 ^ (n - 1)
halves zero h = absurd (omega (arith, h))
halves (suc n) h = let e : suc n - 1 ≡ n = omega arith in rw e (doubled n)

-- how the range of a bit-field lies
pub record FieldSpans (k : IntKind) (width : ℕ) : Type 0 where
  pub low : negsuc (2 ^ 64) ≤ℤ field_least k width
  pub zero_is_above : field_least k width ≤ℤ pos 0
  pub one_is_below : (is_signed k ≡ false) → pos 1 ≤ℤ field_greatest k width
  pub count : (field_greatest k width -ℤ field_least k width) +ℤ pos 1 ≡ pos (2 ^ width)
  pub zero_is_below : pos 0 ≤ℤ field_greatest k width
  pub most : 2 ^ width ≤ 2 ^ 64

record SpansBy (s : Bool) (width : ℕ) : Type 0 where
  low : negsuc (2 ^ 64) ≤ℤ (if s then neg_ℤ (pos (2 ^ (width - 1))) else pos 0)
  zero_is_above : (if s then neg_ℤ (pos (2 ^ (width - 1))) else pos 0) ≤ℤ pos 0
  one_is_below : s ≡ false → pos 1 ≤ℤ (if s then pos (2 ^ (width - 1)) -ℤ pos 1 else pos (2 ^ width) -ℤ pos 1)
  count : ((if s then pos (2 ^ (width - 1)) -ℤ pos 1 else pos (2 ^ width) -ℤ pos 1) -ℤ (if s then neg_ℤ (pos (2 ^ (width - 1))) else pos 0)) +ℤ pos 1 ≡ pos (2 ^ width)
  zero_is_below : pos 0 ≤ℤ (if s then pos (2 ^ (width - 1)) -ℤ pos 1 else pos (2 ^ width) -ℤ pos 1)

spans_by : (s : Bool) (width : ℕ) → 1 ≤ width → width ≤ 64 → SpansBy s width
spans_by true width h k =
    let e = halves width h in
    let small = power_small width k in
    let some = pow_pos (width - 1) in
    record { low = omega (arith, ints, e, small); zero_is_above = omega (arith, ints); one_is_below = λ no. absurd (cc); count = omega (arith, ints, e); zero_is_below = omega (arith, ints, some) }
spans_by false width h k =
    let e = halves width h in
    let some = pow_pos (width - 1) in
    record { low = omega (arith, ints); zero_is_above = omega (arith, ints); one_is_below = λ no. omega (arith, ints, e, some); count = omega (arith, ints); zero_is_below = omega (arith, ints, e, some) }

pub field_spans : (k : IntKind) (width : ℕ) → 1 ≤ width → width ≤ 64 → FieldSpans k width
field_spans k width h m =
    let s = spans_by (is_signed k) width h m in
    record { low = s.low; zero_is_above = s.zero_is_above; one_is_below = s.one_is_below; count = s.count; zero_is_below = s.zero_is_below; most = power_small width m }

pub one_in_range : (k : IntKind) (width : ℕ) → is_signed k ≡ false → FieldSpans k width → InFieldRange k width (pos 1)
one_in_range k width unsigned s = record { above = omega (arith, ints, s.zero_is_above); below = s.one_is_below unsigned }

-- the value of the range that is congruent is what the conversion gives
pub record IsFieldConverted (k : IntKind) (width : ℕ) (v r : ℤ) : Type 0 where
  pub value : r ≡ field_wrapped k width v
  pub in_range : InFieldRange k width r

wrapped_is : (k : IntKind) (width : ℕ) (v r : ℤ) → k ≢ kind.Bool → field_least k width ≤ℤ r → r <ℤ (field_least k width +ℤ pos (2 ^ width)) → Congruent (pos (2 ^ width)) v r → field_wrapped k width v ≡ r
wrapped_is kind.Bool width v r other above below congruent = absurd (other refl)
wrapped_is k width v r other above below congruent = residue_unique v (field_least k width) r (2 ^ width) above below congruent

-- `w`, `s` and `n` are how the code holds `v`, the result and the number of values
pub field_converted : (k : IntKind) (width : ℕ) (v w r s n : ℤ) → FieldSpans k width → k ≢ kind.Bool → w ≡ v → s ≡ r → n ≡ (field_greatest k width -ℤ field_least k width) +ℤ pos 1 → field_least k width ≤ℤ r → r <ℤ (field_least k width +ℤ n) → Congruent n w r → IsFieldConverted k width v s
field_converted k width v w r s n spans other w_is s_is n_is above below congruent =
    let count : n ≡ pos (2 ^ width) = n_is ∙ spans.count in
    let here : Congruent (pos (2 ^ width)) v r = rw (count, w_is) at congruent in
    let ends : r <ℤ (field_least k width +ℤ pos (2 ^ width)) = rw count at below in
    let whole : IsFieldConverted k width v r = record {
      value = sym (wrapped_is k width v r other above ends here);
      in_range = record { above = above; below = omega (arith, ints, spans.count) };
    } in
    rw s_is whole

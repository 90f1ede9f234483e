-- What the operators give on numbers of a kind lies in the range of the result's kind.
use Rattle.std.proofs.Common.{◌≡◌, ◌≢◌, ℕ, suc, ◌^◌, ◌<◌, ℤ, pos, negsuc, ◌+ℤ◌, ◌-ℤ◌, ◌*ℤ◌, ◌≤ℤ◌, ◌<ℤ◌, Bool, true, false, Ok, Err, refl, subst, arith}
use Rattle.std.specs.Prelude.{int_le, int_lt, int_rem, int_div, unsigned_abs, neg_ℤ, not, ◌&&◌, if◌then◌else◌}
use Rattle.std.specs.Int.{w128, int_shr, int_rem_euclid, int_bit_and, int_bit_or, int_bit_xor}
use Rattle.std.specs.Ordering.{int_eq}
use Rattle.std.proofs.lemmas.Int.{ints}
use Rattle.std.proofs.lemmas.Nat.{mod_below, shr_le}
use Rattle.std.proofs.Math.Nat.{mod-le}
use Rattle.c_types.specs.declared.types.IntKind.{IntKind}
use Rattle.c_types.specs.declared.types.IntKind.TheVariants as kind
use Rattle.c_types.specs.Integers.{is_signed, least, greatest, wrapped, InRange}
use Rattle.c_types.proofs.IntKindLaws.{spans}
use Rattle.program.specs.declared.expressions.BinOp.{BinOp}
use Rattle.program.specs.declared.expressions.BinOp.TheVariants as op
use Rattle.program.specs.declared.expressions.UnOp.{UnOp}
use Rattle.program.specs.declared.expressions.UnOp.TheVariants.{Neg, Not}
use Rattle.program.specs.declared.sites.Kind.{Kind}
use Rattle.program.specs.declared.sites.Kind.TheVariants as undefined
use Rattle.c_arithmetic.specs.Arithmetic.{truth, in_range, settled, quotient, remainder, is_count, shifted_left, shifted_right, arithmetic, negated}
use Rattle.c_meaning.specs.PlaceTypes.{result_kind}
use Rattle.c_meaning_laws.proofs.Outcomes.{then_ok, else_ok, then_true, ok_in}

rem_in : (v : ℤ) (n : ℕ) → 0 < n → (pos 0 ≤ℤ int_rem_euclid v (pos n)) × (int_rem_euclid v (pos n) <ℤ pos n)
rem_in (pos a) n some = (omega (arith, ints), omega (arith, ints, mod_below a n some))
rem_in (negsuc a) n some = (omega (arith, ints), omega (arith, ints))

-- a residue from `low` on, of n numbers
residue_in : (v low high : ℤ) (n : ℕ) → 0 < n → high ≡ low +ℤ pos n -ℤ pos 1 → (low ≤ℤ (low +ℤ int_rem_euclid (v -ℤ low) (pos n))) × ((low +ℤ int_rem_euclid (v -ℤ low) (pos n)) ≤ℤ high)
residue_in v low high n some is =
    let r = rem_in (v -ℤ low) n some in
    (omega (arith, ints, r.0), omega (arith, ints, r.1, is))

pub wrapped_in : (k : IntKind) (v : ℤ) → InRange k (wrapped k v)
wrapped_in kind.Bool v = elim (int_eq v (pos 0)) as (λ t. InRange kind.Bool (if t then pos 0 else pos 1)) [
  | true ↦ record { above = omega (arith, ints); below = omega (arith, ints) }
  | false ↦ record { above = omega (arith, ints); below = omega (arith, ints) }
]
wrapped_in kind.Char v = let r = residue_in v (least kind.Char) (greatest kind.Char) (2 ^ 8) (omega arith) refl in record { above = r.0; below = r.1 }
wrapped_in kind.SChar v = let r = residue_in v (least kind.SChar) (greatest kind.SChar) (2 ^ 8) (omega arith) refl in record { above = r.0; below = r.1 }
wrapped_in kind.UChar v = let r = residue_in v (least kind.UChar) (greatest kind.UChar) (2 ^ 8) (omega arith) refl in record { above = r.0; below = r.1 }
wrapped_in kind.Short v = let r = residue_in v (least kind.Short) (greatest kind.Short) (2 ^ 16) (omega arith) refl in record { above = r.0; below = r.1 }
wrapped_in kind.UShort v = let r = residue_in v (least kind.UShort) (greatest kind.UShort) (2 ^ 16) (omega arith) refl in record { above = r.0; below = r.1 }
wrapped_in kind.Int v = let r = residue_in v (least kind.Int) (greatest kind.Int) (2 ^ 32) (omega arith) refl in record { above = r.0; below = r.1 }
wrapped_in kind.UInt v = let r = residue_in v (least kind.UInt) (greatest kind.UInt) (2 ^ 32) (omega arith) refl in record { above = r.0; below = r.1 }
wrapped_in kind.Long v = let r = residue_in v (least kind.Long) (greatest kind.Long) (2 ^ 64) (omega arith) refl in record { above = r.0; below = r.1 }
wrapped_in kind.ULong v = let r = residue_in v (least kind.ULong) (greatest kind.ULong) (2 ^ 64) (omega arith) refl in record { above = r.0; below = r.1 }
wrapped_in kind.LongLong v = let r = residue_in v (least kind.LongLong) (greatest kind.LongLong) (2 ^ 64) (omega arith) refl in record { above = r.0; below = r.1 }
wrapped_in kind.ULongLong v = let r = residue_in v (least kind.ULongLong) (greatest kind.ULongLong) (2 ^ 64) (omega arith) refl in record { above = r.0; below = r.1 }

pub truth_in : (b : Bool) → InRange kind.Int (truth b)
truth_in true = record { above = omega (arith, ints); below = omega (arith, ints) }
truth_in false = record { above = omega (arith, ints); below = omega (arith, ints) }

in_both : (k : IntKind) (v : ℤ) → in_range k v ≡ true → InRange k v
in_both k v h = record { above = grind (arith, ints); below = grind (arith, ints) }

same_in : (k : IntKind) (v r : ℤ) → InRange k v → ok_in Kind v ≡ Ok r → InRange k r
same_in k v r h e = let same : v ≡ r = cc in subst (InRange k) same h

pub settled_in : (k : IntKind) (v r : ℤ) → settled k v ≡ Ok r → InRange k r
unfolding settled
settled_in k v r h =
    (elim (is_signed k) as (λ s. (if s then (if in_range k v then Ok v else Err undefined.SignedOverflow) else Ok (wrapped k v)) ≡ Ok r → InRange k r) [
      | true ↦ λ e. let t = then_true (in_range k v) (Ok v) undefined.SignedOverflow r e in same_in k v r (in_both k v t.0) t.1
      | false ↦ λ e. same_in k (wrapped k v) r (wrapped_in k v) e
    ]) h

-- a number no further from 0 than one of the range, on the same side
nearer : (k : IntKind) (v r : ℤ) → InRange k v → (pos 0 ≤ℤ v → (pos 0 ≤ℤ r) × (r ≤ℤ v)) → (v <ℤ pos 0 → (v ≤ℤ r) × (r ≤ℤ pos 0)) → InRange k r
nearer k (pos n) r h up down =
    let s = spans k in
    let u = up (omega (arith, ints)) in
    record { above = omega (arith, ints, u.0, s.zero_is_above); below = omega (arith, ints, u.1, h.below) }
nearer k (negsuc n) r h up down =
    let s = spans k in
    let d = down (omega (arith, ints)) in
    record { above = omega (arith, ints, d.0, h.above); below = omega (arith, ints, d.1, s.zero_is_below) }

rem_up : (a b : ℤ) → pos 0 ≤ℤ a → (pos 0 ≤ℤ int_rem a b) × (int_rem a b ≤ℤ a)
rem_up (pos a) y h = (omega (arith, ints), omega (arith, ints, mod-le a (unsigned_abs y)))
rem_up (negsuc a) y h = absurd (omega (arith, ints, h))

rem_down : (a b : ℤ) → a <ℤ pos 0 → (a ≤ℤ int_rem a b) × (int_rem a b ≤ℤ pos 0)
rem_down (pos a) y h = absurd (omega (arith, ints, h))
rem_down (negsuc a) y h = (omega (arith, ints, mod-le (suc a) (unsigned_abs y)), omega (arith, ints))

remainder_in : (k : IntKind) (a b r : ℤ) → InRange k a → remainder k a b ≡ Ok r → InRange k r
unfolding remainder
remainder_in k a b r h e =
    let q = then_ok (quotient k a b) (λ (x : ℤ). Ok (int_rem a b)) r e in
    same_in k (int_rem a b) r (nearer k a (int_rem a b) h (rem_up a b) (rem_down a b)) q.is_second

quotient_in : (k : IntKind) (a b r : ℤ) → quotient k a b ≡ Ok r → InRange k r
unfolding quotient
quotient_in k a b r e = settled_in k (int_div a b) r (else_ok (int_eq b (pos 0)) undefined.DivisionByZero (settled k (int_div a b)) r e)

left_in : (k : IntKind) (a n r : ℤ) → shifted_left k a n ≡ Ok r → InRange k r
unfolding shifted_left
left_in k a n r e =
    let scaled = settled k (a *ℤ pos (2 ^ unsigned_abs n)) in
    let t = then_true (is_count k n) (if is_signed k && int_lt a (pos 0) then Err undefined.SignedOverflow else scaled) undefined.Shift r e in
    settled_in k (a *ℤ pos (2 ^ unsigned_abs n)) r (else_ok (is_signed k && int_lt a (pos 0)) undefined.SignedOverflow scaled r t.1)

shr_in : (k : IntKind) (a : ℤ) (n : ℕ) → InRange k a → InRange k (int_shr a n)
shr_in k (pos a) n h = let s = spans k in record { above = omega (arith, ints, s.zero_is_above); below = omega (arith, ints, h.below, shr_le a n) }
shr_in k (negsuc a) n h = let s = spans k in record { above = omega (arith, ints, h.above, shr_le a n); below = omega (arith, ints, s.zero_is_below) }

right_in : (k : IntKind) (a n r : ℤ) → InRange k a → shifted_right k a n ≡ Ok r → InRange k r
unfolding shifted_right
right_in k a n r h e =
    let t = then_true (is_count k n) (Ok (int_shr a (unsigned_abs n))) undefined.Shift r e in
    same_in k (int_shr a (unsigned_abs n)) r (shr_in k a (unsigned_abs n) h) t.1

-- an operator on numbers, its left operand of the kind
pub arithmetic_in : (o : BinOp) (k : IntKind) (a b r : ℤ) → InRange k a → arithmetic o k a b ≡ Ok r → (o ≢ op.PtrAdd) → (o ≢ op.PtrSub) → (o ≢ op.PtrDiff) → InRange (result_kind o k) r
arithmetic_in op.Add k a b r h e p q d = settled_in k (a +ℤ b) r e
arithmetic_in op.Sub k a b r h e p q d = settled_in k (a -ℤ b) r e
arithmetic_in op.Mul k a b r h e p q d = settled_in k (a *ℤ b) r e
arithmetic_in op.Div k a b r h e p q d = quotient_in k a b r e
arithmetic_in op.Rem k a b r h e p q d = remainder_in k a b r h e
arithmetic_in op.Shl k a b r h e p q d = left_in k a b r e
arithmetic_in op.Shr k a b r h e p q d = right_in k a b r h e
arithmetic_in op.And k a b r h e p q d = same_in k _ r (wrapped_in k (int_bit_and w128 a b)) e
arithmetic_in op.Or k a b r h e p q d = same_in k _ r (wrapped_in k (int_bit_or w128 a b)) e
arithmetic_in op.Xor k a b r h e p q d = same_in k _ r (wrapped_in k (int_bit_xor w128 a b)) e
arithmetic_in op.Lt k a b r h e p q d = same_in kind.Int _ r (truth_in (int_lt a b)) e
arithmetic_in op.Le k a b r h e p q d = same_in kind.Int _ r (truth_in (int_le a b)) e
arithmetic_in op.Gt k a b r h e p q d = same_in kind.Int _ r (truth_in (int_lt b a)) e
arithmetic_in op.Ge k a b r h e p q d = same_in kind.Int _ r (truth_in (int_le b a)) e
arithmetic_in op.Eq k a b r h e p q d = same_in kind.Int _ r (truth_in (int_eq a b)) e
arithmetic_in op.Ne k a b r h e p q d = same_in kind.Int _ r (truth_in (not (int_eq a b))) e
arithmetic_in op.PtrAdd k a b r h e p q d = absurd (p refl)
arithmetic_in op.PtrSub k a b r h e p q d = absurd (q refl)
arithmetic_in op.PtrDiff k a b r h e p q d = absurd (d refl)

pub negated_in : (o : UnOp) (k : IntKind) (a r : ℤ) → negated o k a ≡ Ok r → InRange k r
negated_in Neg k a r e = settled_in k (neg_ℤ a) r e
negated_in Not k a r e = settled_in k (negsuc 0 -ℤ a) r e

-- What the operators give on integers, and where they are undefined (C11 6.5.3, 6.5.5 to 6.5.14).
use Rattle.std.specs.Prelude.{◌^◌, ◌-◌, ℤ, pos, negsuc, neg_ℤ, ◌+ℤ◌, ◌-ℤ◌, ◌*ℤ◌, ◌≤ℤ◌, int_lt, int_le, int_div, int_rem, unsigned_abs, Bool, true, false, not, ◌&&◌, if◌then◌else◌, Result, Ok, Err}
use Rattle.std.specs.Int.{w128, int_shr, int_bit_and, int_bit_or, int_bit_xor}
use Rattle.std.specs.Ordering.{int_eq}
use Rattle.c_types.specs.declared.types.IntKind.{IntKind}
use Rattle.c_types.specs.Integers.{width, is_signed, least, greatest, wrapped}
use Rattle.program.specs.declared.expressions.UnOp.{UnOp}
use Rattle.program.specs.declared.expressions.UnOp.TheVariants.{Neg, Not}
use Rattle.program.specs.declared.expressions.BinOp.{BinOp}
use Rattle.program.specs.declared.expressions.BinOp.TheVariants as op
use Rattle.program.specs.declared.sites.Kind.{Kind}
use Rattle.program.specs.declared.sites.Kind.TheVariants as undefined

-- what is undefined stays so; a result goes on
abbrev pub and_then : {A B E : Type 0} → Result A E → (A → Result B E) → Result B E
and_then (Ok a) next = next a
and_then (Err e) next = Err e

-- a comparison or a test as a number: 6.5.8p6
abbrev pub truth : Bool → ℤ
truth true = pos 1
truth false = pos 0

-- a value that the kind can represent
abbrev pub in_range : IntKind → ℤ → Bool
in_range k v = int_le (least k) v && int_le v (greatest k)

-- 6.5p5 and 6.2.5p9: a signed result that can't be represented is undefined, an unsigned one wraps
unfoldable pub settled : IntKind → ℤ → Result ℤ Kind
settled k v =
    if is_signed k then (if in_range k v then Ok v else Err undefined.SignedOverflow)
    else Ok (wrapped k v)

-- 6.5.5p5 and p6: the quotient is truncated toward zero
unfoldable pub quotient : IntKind → ℤ → ℤ → Result ℤ Kind
quotient k a b = if int_eq b (pos 0) then Err undefined.DivisionByZero else settled k (int_div a b)

-- 6.5.5p6: undefined where the quotient is
unfoldable pub remainder : IntKind → ℤ → ℤ → Result ℤ Kind
remainder k a b = and_then (quotient k a b) (λ q. Ok (int_rem a b))

-- 6.5.7p3: the count isn't negative, and less than the width
abbrev pub is_count : IntKind → ℤ → Bool
is_count k n = int_le (pos 0) n && int_lt n (pos (width k))

-- 6.5.7p4: a times 2 to the n; a signed a must not be negative
unfoldable pub shifted_left : IntKind → ℤ → ℤ → Result ℤ Kind
shifted_left k a n =
    if is_count k n
    then (if is_signed k && int_lt a (pos 0) then Err undefined.SignedOverflow else settled k (a *ℤ pos (2 ^ unsigned_abs n)))
    else Err undefined.Shift

-- 6.5.7p5: a divided by 2 to the n, rounded down
unfoldable pub shifted_right : IntKind → ℤ → ℤ → Result ℤ Kind
shifted_right k a n = if is_count k n then Ok (int_shr a (unsigned_abs n)) else Err undefined.Shift

-- an operator on two numbers, the left one of this kind. The operators on pointers are no case of it.
abbrev pub arithmetic : BinOp → IntKind → ℤ → ℤ → Result ℤ Kind
arithmetic op.Add k a b = settled k (a +ℤ b)
arithmetic op.Sub k a b = settled k (a -ℤ b)
arithmetic op.Mul k a b = settled k (a *ℤ b)
arithmetic op.Div k a b = quotient k a b
arithmetic op.Rem k a b = remainder k a b
arithmetic op.Shl k a b = shifted_left k a b
arithmetic op.Shr k a b = shifted_right k a b
arithmetic op.And k a b = Ok (wrapped k (int_bit_and w128 a b))
arithmetic op.Or k a b = Ok (wrapped k (int_bit_or w128 a b))
arithmetic op.Xor k a b = Ok (wrapped k (int_bit_xor w128 a b))
arithmetic op.Lt k a b = Ok (truth (int_lt a b))
arithmetic op.Le k a b = Ok (truth (int_le a b))
arithmetic op.Gt k a b = Ok (truth (int_lt b a))
arithmetic op.Ge k a b = Ok (truth (int_le b a))
arithmetic op.Eq k a b = Ok (truth (int_eq a b))
arithmetic op.Ne k a b = Ok (truth (not (int_eq a b)))
arithmetic op.PtrAdd k a b = Ok (pos 0)
arithmetic op.PtrSub k a b = Ok (pos 0)
arithmetic op.PtrDiff k a b = Ok (pos 0)

-- 6.5.3.3p3 and p4 of an operand of this kind
abbrev pub negated : UnOp → IntKind → ℤ → Result ℤ Kind
negated Neg k a = settled k (neg_ℤ a)
negated Not k a = settled k (negsuc 0 -ℤ a)

-- a number of some integer type
pub record IsPlain (v : ℤ) : Type 0 where
  pub above : neg_ℤ (pos (2 ^ 63)) ≤ℤ v
  pub below : v ≤ℤ pos (2 ^ 64 - 1)

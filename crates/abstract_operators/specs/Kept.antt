-- Members are kept: what is defined is among what is left, and what is undefined is at an alarm.
use Rattle.std.specs.Prelude.{◌≡◌, ◌<◌, ◌+◌, ◌^◌, ◌/◌, ◌*ℤ◌, pos, ℕ, List, Bool, true, false, ℤ, Some, Result, Ok, Err, Contains}
use Rattle.c_types.specs.declared.types.IntKind.{IntKind}
use Rattle.program.specs.declared.expressions.UnOp.{UnOp}
use Rattle.program.specs.declared.expressions.BinOp.{BinOp}
use Rattle.program.specs.declared.expressions.BinOp.TheVariants as op
use Rattle.ival.specs.declared.forms.Ival.{Ival}
use Rattle.ival.specs.Forms.{Has, IsOperand}
use Rattle.c_types.specs.Integers.{InRange}
use Rattle.std.specs.List.{All}
use Rattle.program.specs.declared.sites.Kind.{Kind}
use Rattle.c_types.specs.declared.types.CType.TheVariants.{Int}
use Rattle.c_memory.specs.declared.memory.Object.{Object}
use Rattle.c_meaning.specs.declared.value.BitAddress.{BitAddress}
use Rattle.c_meaning.specs.declared.value.Value.{Value as Concrete}
use Rattle.c_arithmetic.specs.Arithmetic.{truth, negated, arithmetic}
use Rattle.c_meaning.specs.Memory.{accessed, pointer_to}
use Rattle.c_meaning.specs.Value.{number_in, number_result, converted, designated, indexed, moved_by, equal}
use Rattle.ival.specs.Forms.{IsWellFormed}
use Rattle.avalue.specs.Pointers.{Pointer as Offsets, offsets_at, IsPointer}
use Rattle.avalue.specs.declared.value.Value.{Value}
use Rattle.abstract_operators.specs.Pointers.{pointers_in, accessed_in, designated_in, indexed_in, added_in, equal_in}
use Rattle.abstract_operators.specs.Values.{as_value, cast_in}
use Rattle.abstract_operators.specs.Members.{HasSize, IsMember, IsPlaceOf}
use Rattle.abstract_operators.specs.Conditions.{AreSizes, AreCellsAt, HasNull, CanIndex, CanMove, IsNumberOf}
use Rattle.abstract_operators.specs.Left.{Left}
use Rattle.abstract_operators.specs.Numbers.{negated_in, arithmetic_in}

-- P holds of what is left, where something is
abbrev pub IfLeft : {A K : Type 0} → Left A K → (A → Type 0) → Type 0
IfLeft {A} l P = (a : A) → l.value ≡ Some a → P a

-- an outcome is covered by what is left and by the alarms
abbrev pub Covers : {A B K : Type 0} → (A → B → Type 0) → Result A K → Left B K → Type 0
Covers {A} {B} {K} P (Ok v) l = (b : B) × (l.value ≡ Some b) × P v b
Covers {A} {B} {K} P (Err e) l = Contains l.alarms e

-- a number of a set
abbrev pub IsOneOf : ℤ → Ival → Type 0
IsOneOf x a = Has a x

-- each unary and each arithmetic operator keeps the members of its operands
abbrev pub UnaryKeeps : Type 0
UnaryKeeps = (o : UnOp) (k : IntKind) (a : Ival) (x : ℤ) → IsOperand a → Has a x → Covers IsOneOf (negated o k x) (negated_in o k a)

-- the operators whose right operand has a kind of its own
abbrev pub is_shift : BinOp → Bool
is_shift op.Shl = true
is_shift op.Shr = true
is_shift _ = false

abbrev pub ArithmeticKeeps : Type 0
ArithmeticKeeps =
    (o : BinOp) (k : IntKind) (a b : Ival) (x y : ℤ) → IsOperand a → IsOperand b → Has a x → Has b y → InRange k x → (is_shift o ≡ false → InRange k y)
    → Covers IsOneOf (arithmetic o k x y) (arithmetic_in o k a b)

-- ---- values and pointers

-- an operator on numbers keeps the members of values without pointers
abbrev pub NumbersKeep : Type 0
NumbersKeep =
    (m : List Object) (sizes : ℕ → ℕ) (o : BinOp) (k l : IntKind) (x y : Concrete) (v w : Value) → IsNumberOf k v → IsNumberOf l w → (is_shift o ≡ false → l ≡ k) → IsMember m sizes x v → IsMember m sizes y w
    → Covers (IsMember m sizes) (number_result (arithmetic o k (number_in x) (number_in y))) (as_value (arithmetic_in o k v.ints w.ints))

-- a cast of a number
abbrev pub CastKeeps : Type 0
CastKeeps =
    (m : List Object) (sizes : ℕ → ℕ) (from k : IntKind) (volatile : Bool) (x : Concrete) (v : Value) → IsNumberOf from v → IsMember m sizes x v
    → Covers {K = Kind} (IsMember m sizes) (Ok (converted (Int k volatile) x)) (cast_in (Int k volatile) false v)

-- 6.5.3.2: the address of a byte
abbrev pub AddressKeeps : Type 0
AddressKeeps =
    (m : List Object) (sizes : ℕ → ℕ) (ps : List Offsets) (b : ℕ) (o : ℤ) → AreSizes sizes → All IsPointer ps → HasSize m sizes b → Has (offsets_at ps b) o
    → Covers (IsMember m sizes) (pointer_to m b o) (pointers_in sizes ps)

-- an access to n bits
abbrev pub AccessKeeps : Type 0
AccessKeeps =
    (m : List Object) (sizes : ℕ → ℕ) (bit n : ℕ) (a : BitAddress) (ps : List Offsets) → AreSizes sizes → bit < 8 → bit + n < 2 ^ 32 → All IsPointer ps → IsPlaceOf m sizes bit a ps
    → Covers (AreCellsAt m sizes bit n a) (accessed m a n) (accessed_in sizes bit n ps)

-- 6.5.3.2p4 and 6.5.2.1p2
abbrev pub DerefKeeps : Type 0
DerefKeeps = (m : List Object) (sizes : ℕ → ℕ) (x : Concrete) (v : Value) → HasNull v → IsMember m sizes x v → Covers (IsPlaceOf m sizes 0) (designated x) (designated_in v)

abbrev pub IndexKeeps : Type 0
IndexKeeps =
    (m : List Object) (sizes : ℕ → ℕ) (length size : ℕ) (a : BitAddress) (i : ℤ) (ps : List Offsets) (indexes : Ival) → CanIndex length size ps indexes
    → IsPlaceOf m sizes 0 a ps → Has indexes i → Covers (IsPlaceOf m sizes 0) (indexed length size a i) (indexed_in length (size / 8) ps indexes)

-- 6.5.6p8
abbrev pub PointerSumKeeps : Type 0
PointerSumKeeps =
    (m : List Object) (sizes : ℕ → ℕ) (size : ℕ) (x : Concrete) (i : ℤ) (v : Value) (indexes : Ival) → AreSizes sizes → HasNull v → CanMove sizes size v indexes → IsMember m sizes x v → Has indexes i
    → Covers (IsMember m sizes) (moved_by m x (i *ℤ pos size)) (added_in sizes size v indexes)

-- 6.5.9p6
abbrev pub EqualityKeeps : Type 0
EqualityKeeps =
    (m : List Object) (sizes : ℕ → ℕ) (a b : Value) (x y : Concrete) → HasNull a → HasNull b → All (λ p. IsWellFormed p.1) a.ptrs → ((c : ℕ) → IsWellFormed (offsets_at b.ptrs c))
    → IsMember m sizes x a → IsMember m sizes y b → Covers {K = Kind} IsOneOf (Ok (truth (equal x y))) (equal_in a b)

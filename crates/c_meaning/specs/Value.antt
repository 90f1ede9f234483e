-- What an expression is worth and what an lvalue designates, or the first undefined place in it.
use Rattle.std.specs.Prelude.{ℕ, ◌+◌, nat_eq, ℤ, pos, neg_ℤ, ◌+ℤ◌, ◌-ℤ◌, ◌*ℤ◌, int_lt, int_le, int_div, Bool, true, false, not, ◌&&◌, if◌then◌else◌, ◌||◌, List, Option, Some, None, Result, Ok, Err, option_and_then}
use Rattle.std.specs.Int.{int_div_euclid}
use Rattle.std.specs.Ordering.{int_eq}
use Rattle.c_types.specs.declared.types.IntKind.{IntKind}
use Rattle.c_types.specs.declared.types.IntKind.TheVariants as kind
use Rattle.c_types.specs.declared.types.CType.{CType}
use Rattle.c_types.specs.declared.types.CType.TheVariants.{Int}
use Rattle.c_types.specs.Integers.{wrapped}
use Rattle.program.specs.declared.expressions.BinOp.{BinOp}
use Rattle.program.specs.declared.expressions.BinOp.TheVariants as op
use Rattle.program.specs.declared.expressions.Expr.{Expr, end_of-Expr, more_of-Expr}
use Rattle.program.specs.declared.expressions.Expr.TheVariants.{Const, Null, Load, Addr, Start, Unary', Binary', Cast'}
use Rattle.program.specs.declared.expressions.LVal.{LVal, end_of-LVal, more_of-LVal}
use Rattle.program.specs.declared.expressions.LVal.TheVariants.{Var, Deref', Index', Field'}
use Rattle.program.specs.declared.graph.Function.{Function}
use Rattle.program.specs.declared.graph.Program.{Program}
use Rattle.program.specs.declared.sites.Kind.{Kind}
use Rattle.program.specs.declared.sites.Kind.TheVariants as undefined
use Rattle.program.specs.Numbers.{count_expr, count_lval}
use Rattle.c_memory.specs.declared.memory.Object.{Object}
use Rattle.c_meaning.specs.declared.value.Value.{Value}
use Rattle.c_meaning.specs.declared.value.Value.TheVariants.{Number, Pointer}
use Rattle.c_meaning.specs.declared.value.BitAddress.{BitAddress}
use Rattle.c_meaning.specs.declared.value.Undefined.{Undefined}
use Rattle.c_arithmetic.specs.Arithmetic.{and_then, truth, arithmetic, negated}
use Rattle.c_meaning.specs.Cells.{held}
use Rattle.c_meaning.specs.Memory.{accessed, pointer_to}
use Rattle.c_meaning.specs.PlaceTypes.{bits_of, kind_of, is_address, place_type, element, array_length, member_of, offset_of, scalar_bits, stride}

-- an undefined outcome is that of the subexpression of this number
abbrev pub at : {A : Type 0} → ℕ → Result A Kind → Result A Undefined
at sub (Ok a) = Ok a
at sub (Err kind) = Err (record { sub = sub; kind = kind })

-- the number of a value; a pointer stands where no number is asked for
abbrev pub number_in : Value → ℤ
number_in (Number v) = v
number_in (Pointer base offset) = pos 0

-- ---- pointers

-- 6.5.6p8: a pointer moved by so many bytes; null can't be moved
abbrev pub moved_by : List Object → Value → ℤ → Result Value Kind
moved_by m (Pointer base offset) bytes = pointer_to m base (offset +ℤ bytes)
moved_by m (Number null) bytes = Err undefined.PointerArithmetic

-- the sum of a pointer and a number of elements, in either order
abbrev pub added : List Object → ℕ → Value → Value → Result Value Kind
added m size (Pointer base offset) n = moved_by m (Pointer base offset) (number_in n *ℤ pos size)
added m size (Number n) y = moved_by m y (n *ℤ pos size)

-- the offsets of two pointers into one object
abbrev pub offsets_in_one : Value → Value → Option (ℤ × ℤ)
offsets_in_one (Pointer b o) (Pointer c q) = if nat_eq b c then Some (o, q) else None
offsets_in_one _ _ = None

-- 6.5.6p9: how many elements lie between two pointers into one object, as a long
abbrev pub elements_between : ℕ → Option (ℤ × ℤ) → Result Value Kind
elements_between size None = Err undefined.DifferingBlocks
elements_between size (Some offsets) = Ok (Number (wrapped kind.Long (int_div (offsets.0 -ℤ offsets.1) (pos size))))

-- 6.5.8p5: an order of pointers into one object
abbrev pub order_holds : BinOp → ℤ → ℤ → Bool
order_holds op.Lt o q = int_lt o q
order_holds op.Le o q = int_le o q
order_holds op.Gt o q = int_lt q o
order_holds op.Ge o q = int_le q o
order_holds _ o q = false

abbrev pub ordered : BinOp → Option (ℤ × ℤ) → Result Value Kind
ordered op None = Err undefined.PointerComparison
ordered op (Some offsets) = Ok (Number (truth (order_holds op offsets.0 offsets.1)))

-- 6.5.9p6: two null pointers, or two pointers to one place
abbrev pub equal : Value → Value → Bool
equal (Number x) (Number y) = int_eq x y
equal (Pointer b o) (Pointer c q) = nat_eq b c && int_eq o q
equal _ _ = false

-- an operator on pointers, to elements of so many bytes
abbrev pub on_pointers : List Object → ℕ → BinOp → Value → Value → Result Value Kind
on_pointers m size op.Lt x y = ordered op.Lt (offsets_in_one x y)
on_pointers m size op.Le x y = ordered op.Le (offsets_in_one x y)
on_pointers m size op.Gt x y = ordered op.Gt (offsets_in_one x y)
on_pointers m size op.Ge x y = ordered op.Ge (offsets_in_one x y)
on_pointers m size op.Eq x y = Ok (Number (truth (equal x y)))
on_pointers m size op.Ne x y = Ok (Number (truth (not (equal x y))))
on_pointers m size op.PtrAdd x y = added m size x y
on_pointers m size op.PtrSub x y = moved_by m x (neg_ℤ (number_in y *ℤ pos size))
on_pointers m size op.PtrDiff x y = elements_between size (offsets_in_one x y)
on_pointers m size _ x y = Ok (Number (pos 0))

-- ---- operators on values

abbrev pub number_result : Result ℤ Kind → Result Value Kind
number_result r = and_then r (λ v. Ok (Number v))

-- 6.5.5 to 6.5.14, where the operands are pointers or not
abbrev pub binary : List Object → ℕ → Bool → BinOp → IntKind → Value → Value → Result Value Kind
binary m size true op k x y = on_pointers m size op x y
binary m size false op k x y = number_result (arithmetic op k (number_in x) (number_in y))

-- 6.3: a number in another kind; a pointer is true as a `_Bool`, and keeps its value as a pointer
abbrev pub converted : CType → Value → Value
converted (Int k volatile) (Number v) = Number (wrapped k v)
converted (Int k volatile) (Pointer base offset) = Number (pos 1)
converted _ v = v

-- 6.5.3.2p4: null designates no object
abbrev pub designated : Value → Result BitAddress Kind
designated (Pointer base offset) = Ok (record { base = base; bit = pos 8 *ℤ offset })
designated (Number null) = Err undefined.MemAccess

-- 6.5.2.1p2: the element of an index, from its array's place
abbrev pub indexed : ℕ → ℕ → BitAddress → ℤ → Result BitAddress Kind
indexed length size a i =
    if int_le (pos 0) i && int_lt i (pos length) then Ok (record { base = a.base; bit = a.bit +ℤ i *ℤ pos size })
    else Err undefined.IndexBound

-- some operand is a pointer
abbrev pub is_on_pointers : Expr → Expr → Bool
is_on_pointers a b = is_address a || is_address b

-- 6.5.3.2p3: the pointer to a place
abbrev pub address : List Object → BitAddress → Result Value Kind
address m a = pointer_to m a.base (int_div_euclid a.bit (pos 8))

-- ---- trees

-- Operands come before operators, left to right, and subexpressions are numbered in preorder.
unfoldable mutual
  pub value : Program → Function → List Object → ℕ → Expr → Result Value Undefined
  value p f m s (Const k v) = Ok (Number v)
  value p f m s Null = Ok (Number (pos 0))
  value p f m s (Load l t) =
      and_then (place p f m (s + 1) l) (λ a. at s (and_then (accessed m a (scalar_bits p f l t)) (held t)))
  value p f m s (Addr l) = and_then (place p f m (s + 1) l) (λ a. at s (address m a))
  value p f m s (Start l) = and_then (place p f m (s + 1) l) (λ a. at s (address m a))
  value p f m s (Unary' op _ (more_of-Expr a end_of-Expr)) =
      and_then (value p f m (s + 1) a) (λ x. at s (number_result (negated op (kind_of a) (number_in x))))
  value p f m s (Binary' op _ (more_of-Expr a end_of-Expr) _ (more_of-Expr b end_of-Expr)) =
      and_then (value p f m (s + 1) a) (λ x. and_then (value p f m (s + 1 + count_expr a) b) (λ y.
      at s (binary m (stride p f a b) (is_on_pointers a b) op (kind_of a) x y)))
  value p f m s (Cast' t _ (more_of-Expr a end_of-Expr)) = and_then (value p f m (s + 1) a) (λ x. Ok (converted t x))

  pub place : Program → Function → List Object → ℕ → LVal → Result BitAddress Undefined
  place p f m s (Var b) = Ok (record { base = b; bit = pos 0 })
  place p f m s (Deref' _ (more_of-Expr e end_of-Expr)) = and_then (value p f m (s + 1) e) (λ x. at s (designated x))
  place p f m s (Index' _ (more_of-LVal a end_of-LVal) _ (more_of-Expr i end_of-Expr)) =
      and_then (place p f m (s + 1) a) (λ x. and_then (value p f m (s + 1 + count_lval a) i) (λ y.
      at s (indexed (array_length (place_type p f a)) (bits_of p.layout (option_and_then element (place_type p f a))) x (number_in y))))
  place p f m s (Field' _ (more_of-LVal a end_of-LVal) n) =
      and_then (place p f m (s + 1) a) (λ x. Ok (record { base = x.base; bit = x.bit +ℤ pos (offset_of (option_and_then (member_of p.layout n) (place_type p f a))) }))

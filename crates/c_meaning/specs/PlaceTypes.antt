-- The types that evaluation looks at: of places, of what pointers point to, and of numbers.
use Rattle.std.specs.Prelude.{◌≡◌, ℕ, ◌≤◌, ◌/◌, Bool, true, false, Option, Some, None, slice_get, unwrap_or, option_and_then, IfSome}
use Rattle.std.specs.Option.{option_map}
use Rattle.c_types.specs.declared.types.IntKind.{IntKind}
use Rattle.c_types.specs.declared.types.IntKind.TheVariants as kind
use Rattle.c_types.specs.declared.types.CType.{CType, end_of-CType, more_of-CType}
use Rattle.c_types.specs.declared.types.CType.TheVariants.{Int, Ptr', Array', Struct}
use Rattle.c_types.specs.declared.types.Layout.{Layout}
use Rattle.c_types.specs.declared.types.Member.{Member}
use Rattle.c_types.specs.declared.types.StructInfo.{StructInfo}
use Rattle.c_types.specs.Sizes.{kept, size_of}
use Rattle.program.specs.declared.expressions.BinOp.{BinOp}
use Rattle.program.specs.declared.expressions.BinOp.TheVariants as op
use Rattle.program.specs.declared.expressions.Expr.{Expr, end_of-Expr, more_of-Expr}
use Rattle.program.specs.declared.expressions.Expr.TheVariants.{Const, Null, Load, Addr, Start, Unary', Binary', Cast'}
use Rattle.program.specs.declared.expressions.LVal.{LVal, end_of-LVal, more_of-LVal}
use Rattle.program.specs.declared.expressions.LVal.TheVariants.{Var, Deref', Index', Field'}
use Rattle.program.specs.declared.graph.Function.{Function}
use Rattle.program.specs.declared.graph.Program.{Program}
use Rattle.program.specs.Typing.{base_type, is_pointer}

-- ---- parts of types

-- what a pointer type points to, an array's element type, and its length
unfoldable pub pointed : CType → Option CType
pointed (Ptr' _ (more_of-CType to end_of-CType)) = Some to
pointed _ = None

unfoldable pub element : CType → Option CType
element (Array' _ (more_of-CType t end_of-CType) n) = Some t
element _ = None

unfoldable pub length_of_array : CType → ℕ
length_of_array (Array' _ (more_of-CType t end_of-CType) n) = n
length_of_array _ = 0

abbrev pub array_length : Option CType → ℕ
array_length None = 0
array_length (Some t) = length_of_array t

-- a member of a struct or union type
abbrev pub member_of : Layout → ℕ → CType → Option Member
member_of l m (Struct id) = option_and_then (λ info. slice_get info.members m) (slice_get l.structs id.0)
member_of l m _ = None

-- the size of a type in bits, kept at 2^32 - 1
abbrev pub bits_of : Layout → Option CType → ℕ
bits_of l None = 0
bits_of l (Some t) = kept (size_of l t)

-- ---- kinds

abbrev pub kind_of_type : CType → IntKind
kind_of_type (Int k volatile) = k
kind_of_type _ = kind.Int

-- the kind of an operator's result, where the left operand has this one
abbrev pub result_kind : BinOp → IntKind → IntKind
result_kind op.Lt k = kind.Int
result_kind op.Le k = kind.Int
result_kind op.Gt k = kind.Int
result_kind op.Ge k = kind.Int
result_kind op.Eq k = kind.Int
result_kind op.Ne k = kind.Int
result_kind op.PtrDiff k = kind.Long
result_kind _ k = k

-- the kind of a number's expression
unfoldable pub kind_of : Expr → IntKind
kind_of (Const k v) = k
kind_of Null = kind.Int
kind_of (Load l t) = kind_of_type t
kind_of (Addr l) = kind.Int
kind_of (Start l) = kind.Int
kind_of (Unary' op _ (more_of-Expr a end_of-Expr)) = kind_of a
kind_of (Binary' op _ (more_of-Expr a end_of-Expr) _ (more_of-Expr b end_of-Expr)) = result_kind op (kind_of a)
kind_of (Cast' t _ (more_of-Expr a end_of-Expr)) = kind_of_type t

abbrev pub moves_pointer : BinOp → Bool
moves_pointer op.PtrAdd = true
moves_pointer op.PtrSub = true
moves_pointer _ = false

-- whether an expression has a pointer type
unfoldable pub is_address : Expr → Bool
is_address (Const k v) = false
is_address Null = true
is_address (Load l t) = is_pointer t
is_address (Addr l) = true
is_address (Start l) = true
is_address (Unary' op _ _) = false
is_address (Binary' op _ _ _ _) = moves_pointer op
is_address (Cast' t _ _) = is_pointer t

-- ---- places and targets

-- of two types the first that is there
abbrev pub either : {A : Type 0} → Option A → Option A → Option A
either (Some a) b = Some a
either None b = b

-- the type that a pointer sum points to, from those of its operands
abbrev pub moved_target : BinOp → Option CType → Option CType → Option CType
moved_target op.PtrAdd a b = either a b
moved_target op.PtrSub a b = a
moved_target _ a b = None

unfoldable mutual
  -- what an expression of pointer type points to
  pub target_type : Program → Function → Expr → Option CType
  target_type p f (Const k v) = None
  target_type p f Null = None
  target_type p f (Load l t) = pointed t
  target_type p f (Addr l) = place_type p f l
  target_type p f (Start l) = option_and_then element (place_type p f l)
  target_type p f (Unary' op _ (more_of-Expr a end_of-Expr)) = None
  target_type p f (Binary' op _ (more_of-Expr a end_of-Expr) _ (more_of-Expr b end_of-Expr)) =
      moved_target op (target_type p f a) (target_type p f b)
  target_type p f (Cast' t _ (more_of-Expr a end_of-Expr)) = pointed t

  -- the type of the object that an lvalue designates
  pub place_type : Program → Function → LVal → Option CType
  place_type p f (Var b) = base_type p f b
  place_type p f (Deref' _ (more_of-Expr e end_of-Expr)) = target_type p f e
  place_type p f (Index' _ (more_of-LVal a end_of-LVal) _ (more_of-Expr i end_of-Expr)) = option_and_then element (place_type p f a)
  place_type p f (Field' _ (more_of-LVal a end_of-LVal) m) = option_map (λ member. member.ctype) (option_and_then (member_of p.layout m) (place_type p f a))

-- the size in bytes of what a sum or difference of pointers counts
abbrev pub stride : Program → Function → Expr → Expr → ℕ
stride p f a b = bits_of p.layout (either (target_type p f a) (target_type p f b)) / 8

-- the offset of a member, in bits
abbrev pub offset_of : Option Member → ℕ
offset_of None = 0
offset_of (Some member) = member.offset_bits

-- 6.7.2.1p9: the width of a bit-field, where the lvalue designates one
unfoldable pub field_width : Program → Function → LVal → Option ℕ
field_width p f (Field' _ (more_of-LVal a end_of-LVal) m) = option_and_then (λ member. member.bits) (option_and_then (member_of p.layout m) (place_type p f a))
field_width p f _ = None

-- how many bits an access to a place has: a bit-field's own, else those of its type
abbrev pub access_bits : Program → Function → LVal → ℕ
access_bits p f l = unwrap_or (field_width p f l) (bits_of p.layout (place_type p f l))

-- how many bits a read as a scalar type has
abbrev pub scalar_bits : Program → Function → LVal → CType → ℕ
scalar_bits p f l t = unwrap_or (field_width p f l) (bits_of p.layout (Some t))

-- 6.7.2.1p4: a bit-field is no wider than an integer type may be
pub record HasNarrowFields (l : Layout) : Type 0 where
  pub narrow : (i m : ℕ) (info : StructInfo) (member : Member) → slice_get l.structs i ≡ Some info → slice_get info.members m ≡ Some member → IfSome member.bits (λ w. w ≤ 64)

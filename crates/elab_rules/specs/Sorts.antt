-- The sorts of types (C11 6.2.5).
use Rattle.std.specs.Prelude.{Bool, true, false, Option, Some, None}
use Rattle.c_types.specs.declared.types.IntKind.{IntKind}
use Rattle.c_types.specs.declared.types.StructId.{StructId}
use Rattle.elab_types.specs.declared.types.SourceType.{SourceType, out-SourceType}
use Rattle.elab_types.specs.declared.types.SourceType.TheOpen.{SourceType-F}

-- one level of a type
abbrev pub TypeLevel : Type 0
TypeLevel = SourceType-F SourceType

-- what an expression can't be used of: it broke a rule, or has a floating type
abbrev pub is_unusable_at : TypeLevel → Bool
is_unusable_at (SourceType-F.Floating q) = true
is_unusable_at SourceType-F.Faulty = true
is_unusable_at _ = false

unfoldable pub is_unusable : SourceType → Bool
is_unusable t = is_unusable_at (out-SourceType t)

abbrev pub kind_at : TypeLevel → Option IntKind
kind_at (SourceType-F.Int k q) = Some k
kind_at _ = None

-- the integer type of an operand
unfoldable pub kind_of : SourceType → Option IntKind
kind_of t = kind_at (out-SourceType t)

abbrev pub pointee_at : TypeLevel → Option SourceType
pointee_at (SourceType-F.Pointer t q) = Some t
pointee_at _ = None

-- what a pointer points to
unfoldable pub pointee_of : SourceType → Option SourceType
pointee_of t = pointee_at (out-SourceType t)

abbrev pub struct_at : TypeLevel → Option StructId
struct_at (SourceType-F.Struct id q) = Some id
struct_at _ = None

unfoldable pub struct_of : SourceType → Option StructId
struct_of t = struct_at (out-SourceType t)

abbrev pub is_void_at : TypeLevel → Bool
is_void_at (SourceType-F.Void q) = true
is_void_at _ = false

unfoldable pub is_void : SourceType → Bool
is_void t = is_void_at (out-SourceType t)

abbrev pub is_function_at : TypeLevel → Bool
is_function_at (SourceType-F.Function t ts v) = true
is_function_at _ = false

unfoldable pub is_function : SourceType → Bool
is_function t = is_function_at (out-SourceType t)

-- 6.2.5p21: arithmetic and pointer types are scalar
abbrev pub is_scalar_at : TypeLevel → Bool
is_scalar_at (SourceType-F.Int k q) = true
is_scalar_at (SourceType-F.Pointer t q) = true
is_scalar_at _ = false

unfoldable pub is_scalar : SourceType → Bool
is_scalar t = is_scalar_at (out-SourceType t)

abbrev pub is_faulty_at : TypeLevel → Bool
is_faulty_at SourceType-F.Faulty = true
is_faulty_at _ = false

-- what broke a rule
unfoldable pub is_faulty : SourceType → Bool
is_faulty t = is_faulty_at (out-SourceType t)

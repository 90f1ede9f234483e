-- Conversions of operands, each of them explicit (C11 6.3).
use Rattle.std.specs.Prelude.{ℕ, nat_lt, nat_le, ◌==◌, pos, Bool, false, not, ◌&&◌, ◌||◌, if◌then◌else◌, Option, Some, None, is_some}
use Rattle.std.specs.Ordering.{int_eq}
use Rattle.elab_findings.specs.declared.fault.Rule.TheVariants.{TypeError, ObjectTooLarge, OutOfProfile}
use Rattle.c_types.specs.declared.types.IntKind.{IntKind}
use Rattle.c_types.specs.declared.types.IntKind.TheVariants as kind
use Rattle.c_types.specs.Integers.{is_signed, promoted, usual_of}
use Rattle.c_types.specs.Sizes.{object_limit, size_of}
use Rattle.elab_types.specs.declared.types.SourceType.{SourceType, out-SourceType}
use Rattle.elab_types.specs.declared.types.SourceType.TheOpen.{SourceType-F}
use Rattle.elab_types.specs.Qualified.{no_qualifiers, unqualified}
use Rattle.elab_types.specs.Translated.{ctype_of}
use Rattle.elab_types.specs.declared.compatible.Likeness.TheVariants.{Compatible, ButForQualifiers}
use Rattle.elab_types.specs.Compatible.{same_kind, same_qualifiers, alike}
use Rattle.elab_environment.specs.declared.constant.Constant.{Constant}
use Rattle.elab_environment.specs.declared.constant.Constant.TheVariants as constant
use Rattle.elab_environment.specs.Elaborating.{Elaborating, ◌>>=◌, ◌>>◌, pure}
use Rattle.elab_environment.specs.Steps.{refuse, hold}
use Rattle.elab_environment.specs.Complete.{is_complete}
use Rattle.elab_rules.specs.declared.operand.Operand.{Operand}
use Rattle.elab_rules.specs.declared.operand.Form.TheVariants as form
use Rattle.elab_rules.specs.declared.operand.Sort.{Sort}
use Rattle.elab_rules.specs.declared.operand.Sort.TheVariants as sort
use Rattle.elab_rules.specs.Sorts.{TypeLevel, is_unusable, kind_of, is_void, is_function}
use Rattle.elab_rules.specs.Operands.{operand, faulty, int_type, pointer_to, null_of, is_lvalue, is_null, function_named, element_of, is_pointer, sort_of}
use Rattle.elab_rules.specs.Constants.{constant_value}

abbrev pub type_error : ℕ → Elaborating Operand
type_error at = refuse at TypeError >> pure faulty

abbrev pub left_out : ℕ → Elaborating Operand
left_out at = hold at OutOfProfile >> pure faulty

-- ---- the value of an operand (6.3.2.1)

abbrev pub loaded : Operand → Operand
loaded x = record { ty = unqualified x.ty; bits = x.bits; is_register = false; form = form.Load x }

abbrev pub decayed : Option SourceType → Operand → Operand
decayed (Some t) x = operand (pointer_to t) (form.Start x)
decayed None x = if is_lvalue x.form then loaded x else x

abbrev pub value_by : Option ℕ → Operand → Elaborating Operand
value_by (Some at) x = left_out at
value_by None x = pure (decayed (element_of x.ty) x)

-- an array is the pointer to its first element, an lvalue what stands in it; a function may be called alone
unfoldable pub value : Operand → Elaborating Operand
value x = if is_unusable x.ty then pure faulty else value_by (function_named x.form) x

-- ---- casts that change the type

-- the same type as the program keeps it needs no cast; null stays null
abbrev pub cast_to : SourceType → Operand → Operand
cast_to t x = if is_null x.form && is_pointer t then null_of t
    else (if alike Compatible x.ty t then x else operand t (form.Cast x))

-- a conversion that is allowed
unfoldable pub converted : SourceType → Operand → Operand
converted t x = if is_unusable t || is_unusable x.ty then faulty else cast_to (unqualified t) x

-- ---- promotions and usual conversions (6.3.1.1, 6.3.1.8)

-- a bit-field promotes to int where int holds its range
abbrev pub int_holds : IntKind → ℕ → Bool
int_holds k bits = if is_signed k then nat_le bits 32 else nat_lt bits 32

abbrev pub promoted_by : IntKind → Option ℕ → IntKind
promoted_by k (Some bits) = if int_holds k bits then kind.Int else promoted k
promoted_by k None = promoted k

abbrev pub promoted_kind : IntKind → Operand → IntKind
promoted_kind k x = promoted_by k x.bits

abbrev pub promoted_to : Option IntKind → Operand → Operand
promoted_to (Some k) x = converted (int_type (promoted_kind k x)) x
promoted_to None x = x

unfoldable pub promote : Operand → Operand
promote x = promoted_to (kind_of x.ty) x

-- the common kind of two integers
abbrev pub usual_kind : IntKind → Operand → IntKind → Operand → IntKind
usual_kind k x l y = usual_of (promoted_kind k x) (promoted_kind l y)

-- ---- pointers (6.3.2.3)

-- the same type but for qualifiers, at every level
abbrev pub same_but_qualifiers : SourceType → SourceType → Bool
same_but_qualifiers t u = alike ButForQualifiers t u

-- pointers that convert to each other without a cast
abbrev pub converts_silently : SourceType → SourceType → Bool
converts_silently from to = same_but_qualifiers from to || ((is_void from && not (is_function to)) || (is_void to && not (is_function from)))

abbrev pub is_zero : Constant → Bool
is_zero (constant.Number v) = int_eq v (pos 0)
is_zero _ = false

abbrev pub is_plain_void_at : TypeLevel → Bool
is_plain_void_at (SourceType-F.Void q) = same_qualifiers q no_qualifiers
is_plain_void_at _ = false

abbrev pub is_plain_void : SourceType → Bool
is_plain_void t = is_plain_void_at (out-SourceType t)

abbrev pub is_plain_void_pointer_at : TypeLevel → Bool
is_plain_void_pointer_at (SourceType-F.Pointer t q) = is_plain_void t
is_plain_void_pointer_at _ = false

abbrev pub is_plain_void_pointer : SourceType → Bool
is_plain_void_pointer t = is_plain_void_pointer_at (out-SourceType t)

-- 6.3.2.3p3: an integer constant expression with the value 0, or such a one cast to `void *`
unfoldable pub is_null_constant : Operand → Bool
is_null_constant x = if is_null x.form then is_plain_void_pointer x.ty else is_zero (constant_value x)

-- ---- conversion as if by assignment (6.5.16.1), which may break a rule at a token

abbrev pub is_bool : IntKind → Bool
is_bool k = same_kind k kind.Bool

abbrev pub null_assigned : ℕ → SourceType → Operand → Elaborating Operand
null_assigned at t x = if is_null_constant x then pure (null_of t) else left_out at

abbrev pub assigned_by : ℕ → SourceType → Sort → Operand → Sort → Elaborating Operand
assigned_by at t (sort.Integer k) x (sort.Integer l) = pure (converted t x)
assigned_by at t (sort.Integer k) x (sort.Pointer v) = if is_bool k then pure (converted t x) else left_out at
assigned_by at t (sort.Pointer u) x (sort.Pointer v) = if converts_silently v u then pure (converted t x) else type_error at
assigned_by at t (sort.Pointer u) x (sort.Integer l) = null_assigned at t x
assigned_by at t (sort.Struct id) x (sort.Struct other) = if id.0 == other.0 then pure x else type_error at
assigned_by at t _ x _ = type_error at

unfoldable pub assigned : ℕ → SourceType → Operand → Elaborating Operand
assigned at t x = if is_unusable t || is_unusable x.ty then pure faulty
    else assigned_by at (unqualified t) (sort_of t) x (sort_of x.ty)

-- ---- sizes that are asked for

abbrev pub sized_by : ℕ → ℕ → Elaborating (Option ℕ)
sized_by at n = if nat_lt object_limit n then hold at ObjectTooLarge >> pure None else pure (Some n)

-- the size of a complete type in bits; where it is too large for an object, that is noted
unfoldable pub sized : ℕ → SourceType → Elaborating (Option ℕ)
sized at t = λ s. sized_by at (size_of s.layout (ctype_of t)) s

abbrev pub is_sized : ℕ → SourceType → Elaborating Bool
is_sized at t = sized at t >>= (λ n. pure (is_some n))

-- 6.5.6p2: the pointed-to type is a complete object type
unfoldable pub steps_over : ℕ → SourceType → Elaborating Bool
steps_over at t = λ s.
    if is_unusable t || is_function t then (false, s)
    else (if is_complete s t then is_sized at t s else (refuse at TypeError >> pure false) s)

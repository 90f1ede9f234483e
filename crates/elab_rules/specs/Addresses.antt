-- What the initial value of a static object may be (C11 6.6p7 to p9, 6.7.9p4): an integer constant, null, or the address of an
-- object of static storage duration and a number. It is asked for where the types of all objects are known.
use Rattle.std.specs.Prelude.{ℕ, ◌/◌, ℤ, pos, neg_ℤ, ◌+ℤ◌, ◌*ℤ◌, int_le, int_lt, Bool, true, false, ◌&&◌, if◌then◌else◌, Option, Some, None, slice_get}
use Rattle.c_types.specs.declared.types.StructId.{StructId}
use Rattle.c_types.specs.declared.types.Member.{Member}
use Rattle.c_types.specs.declared.types.StructInfo.{StructInfo}
use Rattle.c_types.specs.Sizes.{size_of}
use Rattle.program.specs.declared.expressions.BinOp.{BinOp}
use Rattle.program.specs.declared.expressions.BinOp.TheVariants as op
use Rattle.elab_types.specs.declared.types.Extent.{Extent}
use Rattle.elab_types.specs.declared.types.Extent.TheVariants as extent
use Rattle.elab_types.specs.declared.types.SourceType.{SourceType, out-SourceType}
use Rattle.elab_types.specs.declared.types.SourceType.TheOpen.{SourceType-F}
use Rattle.elab_types.specs.Translated.{ctype_of}
use Rattle.elab_environment.specs.declared.constant.Constant.{Constant}
use Rattle.elab_environment.specs.declared.constant.Constant.TheVariants as constant
use Rattle.elab_environment.specs.declared.state.Standing.{Standing}
use Rattle.elab_environment.specs.declared.state.Standing.TheVariants as standing
use Rattle.elab_environment.specs.declared.state.Object.{Object as Known}
use Rattle.elab_environment.specs.declared.state.Environment.{Environment}
use Rattle.elab_rules.specs.declared.operand.Operand.{Operand}
use Rattle.elab_rules.specs.declared.operand.Form.{Form, out-Form, end_of-Operand, more_of-Operand}
use Rattle.elab_rules.specs.declared.operand.Form.TheOpen.{Form-F}
use Rattle.elab_rules.specs.declared.operand.Form.TheVariants.{Null, Object, Deref', Index', IndexFirst', Field', Start', Addr', Cast', Binary', Choose'}
use Rattle.elab_rules.specs.declared.operand.StaticValue.{StaticValue}
use Rattle.elab_rules.specs.declared.operand.StaticValue.TheVariants as static
use Rattle.elab_rules.specs.Sorts.{TypeLevel, is_unusable, pointee_of, struct_of}
use Rattle.elab_rules.specs.Operands.{FormLevel, is_pointer}
use Rattle.elab_rules.specs.Constants.{is_true, constant_at}

-- ---- objects

-- 6.2.4p3
abbrev pub is_static : Standing → Bool
is_static (standing.Linked l) = true
is_static standing.StaticLocal = true
is_static standing.Literal = true
is_static _ = false

abbrev pub object_place : ℕ → Option Known → StaticValue
object_place n (Some o) = if is_static o.standing then static.Address n (pos 0) else static.Variable
object_place n None = static.Variable

abbrev pub bytes_of : Environment → SourceType → ℕ
bytes_of s t = size_of s.layout (ctype_of t) / 8

-- 6.9.2p2: a tentative array whose length stays unknown has one element
abbrev pub whole_at : Environment → SourceType → TypeLevel → ℕ
whole_at s t (SourceType-F.Array u extent.Unknown) = bytes_of s u
whole_at s t _ = bytes_of s t

abbrev pub whole : Environment → SourceType → ℕ
whole s t = whole_at s t (out-SourceType t)

abbrev pub object_bytes : Environment → Option Known → ℕ
object_bytes s (Some o) = whole s o.ty
object_bytes s None = 0

-- a pointer goes to a byte of its object, or one past it
abbrev pub is_within : Environment → ℕ → ℤ → Bool
is_within s n v = int_le (pos 0) v && int_le v (pos (object_bytes s (slice_get s.objects n)))

abbrev pub address_in : Environment → ℕ → ℤ → StaticValue
address_in s n v = if is_within s n v then static.Address n v else static.Undefined

-- the address that a place has, as a pointer
abbrev pub within : Environment → StaticValue → StaticValue
within s (static.Address n v) = address_in s n v
within s r = r

-- ---- parts of objects

abbrev pub beyond : StaticValue → ℤ → StaticValue
beyond (static.Address n v) w = static.Address n (v +ℤ w)
beyond r w = r

abbrev pub dereferenced : StaticValue → StaticValue
dereferenced static.Null = static.Undefined
dereferenced r = r

abbrev pub offset_of : Option Member → ℕ
offset_of (Some m) = m.offset_bits / 8
offset_of None = 0

abbrev pub member_offset : Option StructInfo → ℕ → ℕ
member_offset (Some b) m = offset_of (slice_get b.members m)
member_offset None m = 0

abbrev pub field_offset : Environment → Option StructId → ℕ → ℕ
field_offset s (Some id) m = member_offset (slice_get s.layout.structs id.0) m
field_offset s None m = 0

abbrev pub field : Environment → StaticValue → Option StructId → ℕ → StaticValue
field s p id m = beyond p (pos (field_offset s id m))

abbrev pub extent_of : Extent → ℕ
extent_of (extent.Length n) = n
extent_of extent.Unknown = 1
extent_of extent.Variable = 0

abbrev pub length_by : TypeLevel → ℕ
length_by (SourceType-F.Array t n) = extent_of n
length_by _ = 0

abbrev pub length_of : SourceType → ℕ
length_of t = length_by (out-SourceType t)

abbrev pub object_length : SourceType → Option Known → ℕ
object_length t (Some o) = length_of o.ty
object_length t None = length_of t

abbrev pub length_in : Environment → SourceType → FormLevel → ℕ
length_in s t (Form-F.Object n) = object_length t (slice_get s.objects n)
length_in s t _ = length_of t

-- how many elements an array has: the type of its object is known by now
abbrev pub length_at : Environment → SourceType → Form → ℕ
length_at s t f = length_in s t (out-Form f)

abbrev pub is_index : ℤ → ℕ → Bool
is_index i n = int_le (pos 0) i && int_lt i (pos n)

-- an element of an array of so many elements of so many bytes
abbrev pub element_by : StaticValue → ℕ → ℕ → Constant → StaticValue
element_by a n bytes (constant.Number i) = if is_index i n then beyond a (i *ℤ pos bytes) else static.Undefined
element_by a n bytes constant.Undefined = static.Undefined
element_by a n bytes _ = static.Variable

abbrev pub element : Environment → SourceType → StaticValue → ℕ → Constant → StaticValue
element s t a n i = element_by a n (bytes_of s t) i

-- ---- sums

abbrev pub moved_by : Environment → StaticValue → ℤ → StaticValue
moved_by s (static.Address n v) w = address_in s n (v +ℤ w)
moved_by s static.Null w = static.Undefined
moved_by s r w = r

abbrev pub pointee_bytes : Environment → Option SourceType → ℕ
pointee_bytes s (Some t) = bytes_of s t
pointee_bytes s None = 0

abbrev pub element_bytes : Environment → SourceType → ℕ
element_bytes s t = pointee_bytes s (pointee_of t)

-- a pointer moved by a number of elements of so many bytes
abbrev pub sum_by : Environment → StaticValue → ℤ → Constant → StaticValue
sum_by s p bytes (constant.Number i) = moved_by s p (i *ℤ bytes)
sum_by s p bytes constant.Undefined = static.Undefined
sum_by s p bytes _ = static.Variable

-- a pointer and a number, with what each operand is as a pointer and as a number
abbrev pub sum_of : Environment → BinOp → SourceType → StaticValue → Constant → SourceType → StaticValue → Constant → StaticValue
sum_of s op.PtrAdd u p i v q j =
    if is_pointer u then sum_by s p (pos (element_bytes s u)) j else sum_by s q (pos (element_bytes s v)) i
sum_of s op.PtrSub u p i v q j = sum_by s p (neg_ℤ (pos (element_bytes s u))) j
sum_of s _ u p i v q j = static.Variable

-- ---- choices

abbrev pub is_constant : StaticValue → Bool
is_constant static.Variable = false
is_constant static.Faulty = false
is_constant _ = true

abbrev pub chosen_by : Constant → StaticValue → StaticValue → StaticValue
chosen_by (constant.Number v) p q = if is_true v then p else q
chosen_by constant.Undefined p q = static.Undefined
chosen_by _ p q = static.Variable

-- both are constants, whichever of them counts
abbrev pub chosen : Constant → StaticValue → StaticValue → StaticValue
chosen c p q = if is_constant p && is_constant q then chosen_by c p q else static.Variable

abbrev pub cast_by : SourceType → StaticValue → StaticValue
cast_by u p = if is_pointer u then p else static.Variable

unfoldable mutual
  -- the place that an lvalue designates
  pub place_at : Environment → SourceType → Form → StaticValue
  place_at s t (Object n) = object_place n (slice_get s.objects n)
  place_at s t (Deref' _ (more_of-Operand u b r f end_of-Operand)) = dereferenced (pointer_at s u f)
  place_at s t (Index' _ (more_of-Operand u b r f end_of-Operand) _ (more_of-Operand v c q g end_of-Operand)) =
      element s t (place_at s u f) (length_at s u f) (constant_at v g)
  place_at s t (IndexFirst' _ (more_of-Operand v c q g end_of-Operand) _ (more_of-Operand u b r f end_of-Operand)) =
      element s t (place_at s u f) (length_at s u f) (constant_at v g)
  place_at s t (Field' _ (more_of-Operand u b r f end_of-Operand) m) = field s (place_at s u f) (struct_of u) m
  place_at s t _ = static.Variable

  -- the value of an expression of pointer type
  pub pointer_at : Environment → SourceType → Form → StaticValue
  pointer_at s t Null = static.Null
  pointer_at s t (Start' _ (more_of-Operand u b r f end_of-Operand)) = within s (place_at s u f)
  pointer_at s t (Addr' _ (more_of-Operand u b r f end_of-Operand)) = within s (place_at s u f)
  pointer_at s t (Cast' _ (more_of-Operand u b r f end_of-Operand)) = cast_by u (pointer_at s u f)
  pointer_at s t (Binary' o _ (more_of-Operand u b r f end_of-Operand) _ (more_of-Operand v c q g end_of-Operand)) =
      sum_of s o u (pointer_at s u f) (constant_at u f) v (pointer_at s v g) (constant_at v g)
  pointer_at s t (Choose' _ (more_of-Operand u b r f end_of-Operand) _ (more_of-Operand v c q g end_of-Operand) _ (more_of-Operand w d p h end_of-Operand)) =
      chosen (constant_at u f) (pointer_at s v g) (pointer_at s w h)
  pointer_at s t _ = static.Variable

-- a number as an initial value
abbrev pub of_constant : Constant → StaticValue
of_constant (constant.Number v) = static.Number v
of_constant constant.Undefined = static.Undefined
of_constant constant.Variable = static.Variable
of_constant constant.OfOtherType = static.Variable
of_constant constant.Faulty = static.Faulty

-- what a value, converted to the type of the object, is as its initial value
unfoldable pub static_value : Environment → Operand → StaticValue
static_value s x =
    if is_unusable x.ty then static.Faulty
    else (if is_pointer x.ty then pointer_at s x.ty x.form else of_constant (constant_at x.ty x.form))

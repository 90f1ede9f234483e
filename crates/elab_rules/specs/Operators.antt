-- Expressions from their operands (C11 6.5). `at` is the expression's first token; operands are as they were elaborated,
-- before any conversion. Each rule answers `faulty` where a constraint is broken, and notes that at `at`.
use Rattle.std.specs.Prelude.{ℕ, pos, ◌/◌, ◌==◌, Bool, true, false, not, ◌&&◌, ◌||◌, if◌then◌else◌, Option, Some, None, is_some}
use Rattle.c_types.specs.declared.types.IntKind.{IntKind}
use Rattle.c_types.specs.declared.types.IntKind.TheVariants as kind
use Rattle.program.specs.declared.expressions.UnOp.{UnOp}
use Rattle.program.specs.declared.expressions.BinOp.{BinOp}
use Rattle.program.specs.declared.expressions.BinOp.TheVariants as op
use Rattle.elab_types.specs.declared.types.SourceType.{SourceType, out-SourceType}
use Rattle.elab_types.specs.declared.types.SourceType.TheOpen.{SourceType-F}
use Rattle.elab_types.specs.declared.types.SourceType.TheVariants as source
use Rattle.elab_types.specs.Qualified.{no_qualifiers, both, qualifiers_of, qualified, unqualified}
use Rattle.elab_environment.specs.Elaborating.{Elaborating, ◌>>=◌, ◌>>◌, pure}
use Rattle.elab_environment.specs.Complete.{is_complete}
use Rattle.elab_rules.specs.declared.operand.Operand.{Operand}
use Rattle.elab_rules.specs.declared.operand.Form.{Form}
use Rattle.elab_rules.specs.declared.operand.Sort.{Sort}
use Rattle.elab_rules.specs.declared.operand.Sort.TheVariants as sort
use Rattle.elab_rules.specs.declared.operand.Form.TheVariants as form
use Rattle.elab_rules.specs.Sorts.{TypeLevel, is_unusable, kind_of, pointee_of, is_void, is_function, is_scalar}
use Rattle.elab_rules.specs.Operands.{operand, faulty, int_type, pointer_to, number, null_of, is_lvalue, function_named, pointer_behind, is_member, sort_of}
use Rattle.elab_rules.specs.Conversions.{type_error, left_out, converted, promoted_kind, promote, usual_kind, same_but_qualifiers, is_null_constant, assigned, sized, is_sized, steps_over}

-- ---- arithmetic (6.5.5 to 6.5.12)

abbrev pub is_comparison : BinOp → Bool
is_comparison op.Lt = true
is_comparison op.Le = true
is_comparison op.Gt = true
is_comparison op.Ge = true
is_comparison op.Eq = true
is_comparison op.Ne = true
is_comparison _ = false

abbrev pub is_shift : BinOp → Bool
is_shift op.Shl = true
is_shift op.Shr = true
is_shift _ = false

-- 6.3.1.8: both converted to one kind
abbrev pub in_common : BinOp → IntKind → Operand → Operand → Operand
in_common o m x y =
    operand (if is_comparison o then int_type kind.Int else int_type m) (form.Binary o (converted (int_type m) x) (converted (int_type m) y))

-- the operands of a shift are promoted each by itself (6.5.7p3)
abbrev pub arithmetic_on : BinOp → IntKind → Operand → IntKind → Operand → Operand
arithmetic_on o k x l y =
    if is_shift o then operand (int_type (promoted_kind k x)) (form.Binary o (promote x) (promote y))
    else in_common o (usual_kind k x l y) x y

-- ---- pointers (6.5.6, 6.5.8, 6.5.9)

abbrev pub operation : SourceType → BinOp → Operand → Operand → Operand
operation t o x y = operand t (form.Binary o x y)

abbrev pub if_steps : ℕ → SourceType → Operand → Elaborating Operand
if_steps at t x = steps_over at t >>= (λ fine. pure (if fine then x else faulty))

abbrev pub difference : ℕ → Operand → SourceType → Operand → SourceType → Elaborating Operand
difference at x t y u = if same_but_qualifiers t u then if_steps at t (operation (int_type kind.Long) op.PtrDiff x y) else type_error at

abbrev pub compared : BinOp → Operand → Operand → Operand
compared o x y = operation (int_type kind.Int) o x y

abbrev pub ordered : ℕ → BinOp → Operand → SourceType → Operand → SourceType → Elaborating Operand
ordered at o x t y u = if same_but_qualifiers t u && not (is_function t) then pure (compared o x y) else type_error at

abbrev pub to_void : Operand → Operand
to_void x = converted (pointer_to (source.Void no_qualifiers)) x

abbrev pub null_like : Operand → Operand
null_like x = null_of x.ty

abbrev pub with_null : ℕ → BinOp → Operand → Operand → Elaborating Operand
with_null at o x y = if is_null_constant y then pure (compared o x (null_like x)) else type_error at

abbrev pub null_with : ℕ → BinOp → Operand → Operand → Elaborating Operand
null_with at o x y = if is_null_constant x then pure (compared o (null_like y) y) else type_error at

-- one side void: the other is converted to it
abbrev pub equated_types : ℕ → BinOp → Operand → SourceType → Operand → SourceType → Elaborating Operand
equated_types at o x t y u =
    if same_but_qualifiers t u then pure (compared o x y)
    else (if is_void t && not (is_function u) then pure (compared o x (to_void y))
    else (if is_void u && not (is_function t) then pure (compared o (to_void x) y) else type_error at))

abbrev pub equated : ℕ → BinOp → Operand → SourceType → Operand → SourceType → Elaborating Operand
equated at o x t y u =
    if is_null_constant x then null_with at o x y
    else (if is_null_constant y then with_null at o x y else equated_types at o x t y u)

abbrev pub on_pointers : ℕ → BinOp → Operand → SourceType → Operand → SourceType → Elaborating Operand
on_pointers at op.Sub x t y u = difference at x t y u
on_pointers at op.Eq x t y u = equated at op.Eq x t y u
on_pointers at op.Ne x t y u = equated at op.Ne x t y u
on_pointers at op.Lt x t y u = ordered at op.Lt x t y u
on_pointers at op.Le x t y u = ordered at op.Le x t y u
on_pointers at op.Gt x t y u = ordered at op.Gt x t y u
on_pointers at op.Ge x t y u = ordered at op.Ge x t y u
on_pointers at o x t y u = type_error at

-- the sum or difference, of a pointer type, of a pointer to this one and a number
abbrev pub moved : ℕ → BinOp → SourceType → SourceType → Operand → Operand → Elaborating Operand
moved at o t p x y = if_steps at t (operation p o x y)

-- a pointer and an integer, in either order
abbrev pub pointer_first : ℕ → BinOp → Operand → SourceType → Operand → Elaborating Operand
pointer_first at op.Add x t y = moved at op.PtrAdd t x.ty x y
pointer_first at op.Sub x t y = moved at op.PtrSub t x.ty x y
pointer_first at op.Eq x t y = with_null at op.Eq x y
pointer_first at op.Ne x t y = with_null at op.Ne x y
pointer_first at o x t y = type_error at

abbrev pub pointer_second : ℕ → BinOp → Operand → Operand → SourceType → Elaborating Operand
pointer_second at op.Add x y t = moved at op.PtrAdd t y.ty x y
pointer_second at op.Eq x y t = null_with at op.Eq x y
pointer_second at op.Ne x y t = null_with at op.Ne x y
pointer_second at o x y t = type_error at

abbrev pub binary_by : ℕ → BinOp → Operand → Sort → Operand → Sort → Elaborating Operand
binary_by at o x (sort.Integer k) y (sort.Integer l) = pure (arithmetic_on o k x l y)
binary_by at o x (sort.Pointer t) y (sort.Pointer u) = on_pointers at o x t y u
binary_by at o x (sort.Pointer t) y (sort.Integer l) = pointer_first at o x t y
binary_by at o x (sort.Integer k) y (sort.Pointer u) = pointer_second at o x y u
binary_by at o x _ y _ = type_error at

-- 6.5.5 to 6.5.12, of values
unfoldable pub binary : ℕ → BinOp → Operand → Operand → Elaborating Operand
binary at o x y = if is_unusable x.ty || is_unusable y.ty then pure faulty else binary_by at o x (sort_of x.ty) y (sort_of y.ty)

-- 6.5.13, 6.5.14
abbrev pub logical : (Operand → Operand → Form) → ℕ → Operand → Operand → Elaborating Operand
logical make at x y = if is_unusable x.ty || is_unusable y.ty then pure faulty
    else (if is_scalar x.ty && is_scalar y.ty then pure (operand (int_type kind.Int) (make x y)) else type_error at)

-- ---- unary operators (6.5.3)

-- 6.5.3.3, of a value
unfoldable pub unary : ℕ → UnOp → Operand → Elaborating Operand
unary at o x = if is_unusable x.ty then pure faulty
    else (if is_some (kind_of x.ty) then pure (operand (promote x).ty (form.Unary o (promote x))) else type_error at)

-- unary `+`: the promoted value, which is no lvalue
unfoldable pub plus : ℕ → Operand → Elaborating Operand
plus at x = if is_unusable x.ty then pure faulty
    else (if is_some (kind_of x.ty) then pure (operand (promote x).ty (form.Cast (promote x))) else type_error at)

unfoldable pub negation : ℕ → Operand → Elaborating Operand
negation at x = if is_unusable x.ty then pure faulty
    else (if is_scalar x.ty then pure (operand (int_type kind.Int) (form.Not x)) else type_error at)

abbrev pub pointed_by : ℕ → Operand → Option SourceType → Elaborating Operand
pointed_by at x (Some t) = pure (if is_unusable t || is_function t then faulty else operand t (form.Deref x))
pointed_by at x None = type_error at

-- 6.5.3.2p4, of a value; `*f` points to a function, which was refused already
unfoldable pub indirection : ℕ → Operand → Elaborating Operand
indirection at x = if is_unusable x.ty then pure faulty else pointed_by at x (pointee_of x.ty)

abbrev pub is_unknown_array_at : TypeLevel → Bool
is_unknown_array_at (SourceType-F.Array t Rattle.elab_types.specs.declared.types.Extent.TheVariants.Unknown) = true
is_unknown_array_at _ = false

abbrev pub is_unknown_array : SourceType → Bool
is_unknown_array t = is_unknown_array_at (out-SourceType t)

-- a bit-field has no address, nor has a register object
abbrev pub has_address : Operand → Bool
has_address x = is_lvalue x.form && not (is_some x.bits || x.is_register)

abbrev pub address_of : ℕ → Operand → Option Operand → Elaborating Operand
address_of at x (Some p) = pure p
address_of at x None =
    if has_address x then (if is_unknown_array x.ty then left_out at else pure (operand (pointer_to x.ty) (form.Addr x)))
    else type_error at

abbrev pub address_by : ℕ → Operand → Option ℕ → Elaborating Operand
address_by at x (Some name) = left_out at
address_by at x None = address_of at x (pointer_behind x.form)

-- 6.5.3.2p1 and p3, of an operand as it stands: `&*p` is p
unfoldable pub address : ℕ → Operand → Elaborating Operand
address at x = if is_unusable x.ty then pure faulty else address_by at x (function_named x.form)

-- ---- `sizeof` (6.5.3.4)

abbrev pub size_operand : Option ℕ → Operand
size_operand (Some n) = number kind.ULong (pos (n / 8))
size_operand None = faulty

unfoldable pub size_of_type : ℕ → SourceType → Elaborating Operand
size_of_type at t = λ s.
    if is_unusable t then (faulty, s)
    else (if is_complete s t then (sized at t >>= (λ n. pure (size_operand n))) s else type_error at s)

-- 6.5.3.4p1, of an operand as it stands
unfoldable pub size_of_operand : ℕ → Operand → Elaborating Operand
size_of_operand at x = if is_some (function_named x.form) || (is_member x.form && is_some x.bits) then type_error at else size_of_type at x.ty

-- ---- the conditional operator (6.5.15), of values

abbrev pub choice : SourceType → Operand → Operand → Operand → Operand
choice t c x y = operand (unqualified t) (form.Choose c x y)

abbrev pub converted_choice : ℕ → SourceType → Operand → Operand → Operand → Elaborating Operand
converted_choice at t c x y = assigned at t x >>= (λ v. assigned at t y >>= (λ w. pure (choice t c v w)))

-- 6.5.15p5: the common type of both
abbrev pub common_choice : IntKind → Operand → Operand → Operand → Operand
common_choice m c x y = choice (int_type m) c (converted (int_type m) x) (converted (int_type m) y)

abbrev pub struct_choice : ℕ → Operand → Operand → Operand → Elaborating Operand
struct_choice at c x y = is_sized at x.ty >>= (λ fine. pure (if fine then choice x.ty c x y else faulty))

abbrev pub as_first : ℕ → Operand → Operand → Operand → Elaborating Operand
as_first at c x y = converted_choice at x.ty c x y

abbrev pub as_second : ℕ → Operand → Operand → Operand → Elaborating Operand
as_second at c x y = converted_choice at y.ty c x y

-- 6.5.15p6: the pointed-to type has the qualifiers of both; a pointer to void where one is
abbrev pub chosen_types : ℕ → Operand → Operand → SourceType → Operand → SourceType → Elaborating Operand
chosen_types at c x t y u =
    let q = both (qualifiers_of t) (qualifiers_of u) in
    if same_but_qualifiers t u then converted_choice at (pointer_to (qualified q t)) c x y
    else (if is_void t || is_void u then converted_choice at (pointer_to (source.Void q)) c x y else type_error at)

abbrev pub chosen_pointer : ℕ → Operand → Operand → SourceType → Operand → SourceType → Elaborating Operand
chosen_pointer at c x t y u =
    if is_null_constant y then as_first at c x y
    else (if is_null_constant x then as_second at c x y else chosen_types at c x t y u)

abbrev pub chosen_by : ℕ → Operand → Operand → Sort → Operand → Sort → Elaborating Operand
chosen_by at c x (sort.Integer k) y (sort.Integer l) = pure (common_choice (usual_kind k x l y) c x y)
chosen_by at c x sort.Void y sort.Void = pure (choice (source.Void no_qualifiers) c x y)
chosen_by at c x (sort.Struct id) y (sort.Struct other) = if id.0 == other.0 then struct_choice at c x y else type_error at
chosen_by at c x (sort.Pointer t) y (sort.Pointer u) = chosen_pointer at c x t y u
chosen_by at c x (sort.Pointer t) y (sort.Integer l) = if is_null_constant y then as_first at c x y else type_error at
chosen_by at c x (sort.Integer k) y (sort.Pointer u) = if is_null_constant x then as_second at c x y else type_error at
chosen_by at c x _ y _ = type_error at

unfoldable pub conditional : ℕ → Operand → Operand → Operand → Elaborating Operand
conditional at c x y =
    if not (is_unusable c.ty) && not (is_scalar c.ty) then type_error at
    else (if is_unusable c.ty || (is_unusable x.ty || is_unusable y.ty) then pure faulty else chosen_by at c x (sort_of x.ty) y (sort_of y.ty))

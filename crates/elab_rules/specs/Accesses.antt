-- Accesses to parts, casts and assignments (C11 6.5.2, 6.5.4, 6.5.16). Operands are as they were elaborated.
use Rattle.std.specs.Prelude.{ℕ, pos, ◌==◌, Bool, true, false, not, ◌&&◌, ◌||◌, if◌then◌else◌, List, [], slice_get, position, Option, Some, None, is_some}
use Rattle.elab_findings.specs.declared.fault.Rule.TheVariants.{UnknownName}
use Rattle.c_types.specs.declared.types.IntKind.{IntKind}
use Rattle.c_types.specs.declared.types.StructId.{StructId}
use Rattle.c_types.specs.declared.types.IntKind.TheVariants as kind
use Rattle.program.specs.declared.expressions.BinOp.{BinOp}
use Rattle.program.specs.declared.expressions.BinOp.TheVariants as op
use Rattle.elab_types.specs.declared.types.SourceType.{SourceType}
use Rattle.elab_types.specs.Qualified.{qualifiers_of, qualified, unqualified}
use Rattle.elab_environment.specs.declared.state.Field.{Field}
use Rattle.elab_environment.specs.declared.state.Struct.{Struct as Body}
use Rattle.elab_environment.specs.declared.state.Environment.{Environment}
use Rattle.elab_environment.specs.Elaborating.{Elaborating, ◌>>=◌, ◌>>◌, pure}
use Rattle.elab_environment.specs.Steps.{refuse}
use Rattle.elab_rules.specs.declared.operand.Operand.{Operand}
use Rattle.elab_rules.specs.declared.operand.Form.{Form}
use Rattle.elab_rules.specs.declared.operand.Sort.{Sort}
use Rattle.elab_rules.specs.declared.operand.Sort.TheVariants as sort
use Rattle.elab_rules.specs.declared.operand.Form.TheVariants as form
use Rattle.elab_rules.specs.Sorts.{is_unusable, is_faulty, kind_of, pointee_of, struct_of, is_function, is_scalar}
use Rattle.elab_rules.specs.Operands.{operand, faulty, int_type, number, null_of, is_lvalue, function_named, element_of, sort_of}
use Rattle.elab_rules.specs.Conversions.{type_error, left_out, value, converted, promoted_kind, promote, usual_kind, is_null_constant, assigned, is_sized, steps_over, is_bool}
use Rattle.elab_rules.specs.Operators.{is_shift}

-- ---- subscripts (6.5.2.1)

-- an element of an array, written with the array or with the index first
abbrev pub element : ℕ → SourceType → Operand → Form → Operand → Elaborating Operand
element at t a f i =
    if is_unusable i.ty then pure faulty
    else (if is_some (kind_of i.ty) then pure (record { ty = t; bits = None; is_register = a.is_register; form = f }) else type_error at)

abbrev pub array_first : ℕ → SourceType → Operand → Operand → Elaborating Operand
array_first at t a i = element at t a (form.Index a i) i

abbrev pub index_first : ℕ → SourceType → Operand → Operand → Elaborating Operand
index_first at t i a = element at t a (form.IndexFirst i a) i

-- what the sum of a pointer of this type and a number points to
abbrev pub summed : ℕ → SourceType → SourceType → Operand → Operand → Elaborating Operand
summed at p t x y = steps_over at t >>= (λ fine. pure (if fine then operand t (form.Deref (operand p (form.Binary op.PtrAdd x y))) else faulty))

abbrev pub subscript_of : ℕ → Operand → Sort → Operand → Sort → Elaborating Operand
subscript_of at x (sort.Pointer t) y (sort.Integer k) = summed at x.ty t x y
subscript_of at x (sort.Integer k) y (sort.Pointer t) = summed at y.ty t x y
subscript_of at x _ y _ = type_error at

abbrev pub subscript_values : ℕ → Operand → Operand → Elaborating Operand
subscript_values at x y = if is_unusable x.ty || is_unusable y.ty then pure faulty else subscript_of at x (sort_of x.ty) y (sort_of y.ty)

abbrev pub subscript_by : ℕ → Operand → Option SourceType → Operand → Option SourceType → Elaborating Operand
subscript_by at a (Some t) i u = value i >>= array_first at t a
subscript_by at i None a (Some t) = value i >>= (λ v. index_first at t v a)
subscript_by at a None i None = value a >>= (λ x. value i >>= subscript_values at x)

-- on an array the element itself; on a pointer what the sum points to
unfoldable pub subscript : ℕ → Operand → Operand → Elaborating Operand
subscript at a i = if is_unusable a.ty || is_unusable i.ty then pure faulty else subscript_by at a (element_of a.ty) i (element_of i.ty)

-- ---- members (6.5.2.3)

-- the place of the member of a name among the named ones
abbrev pub place_of : ℕ → List Field → Option ℕ
place_of name fs = position (λ f. f.name == name) fs

abbrev pub fields_of : Option Body → List Field
fields_of (Some b) = b.fields
fields_of None = []

abbrev pub part_form : Operand → ℕ → Form
part_form a k = if is_lvalue a.form then form.Field a k else form.Part a k

-- 6.5.2.3p3: the member has the qualifiers of the struct too
abbrev pub part : Operand → ℕ → Field → Operand
part a k f = record { ty = qualified (qualifiers_of a.ty) f.ty; bits = f.bits; is_register = a.is_register; form = part_form a k }

abbrev pub unknown_member : ℕ → Elaborating Operand
unknown_member token = refuse token UnknownName >> pure faulty

abbrev pub part_at : ℕ → Operand → ℕ → Option Field → Elaborating Operand
part_at token a k (Some f) = pure (part a k f)
part_at token a k None = unknown_member token

abbrev pub member_by : ℕ → Operand → List Field → Option ℕ → Elaborating Operand
member_by token a fs (Some k) = part_at token a k (slice_get fs k)
member_by token a fs None = unknown_member token

abbrev pub member_in : ℕ → ℕ → Operand → List Field → Elaborating Operand
member_in token name a fs = member_by token a fs (place_of name fs)

-- a struct that is incomplete there has no members
abbrev pub member_of : ℕ → ℕ → ℕ → Operand → Option StructId → Elaborating Operand
member_of at token name a (Some id) = λ s. member_in token name a (fields_of (slice_get s.structs id.0)) s
member_of at token name a None = type_error at

-- `a.name`, of an operand as it stands; `token` is that of the name
unfoldable pub member : ℕ → ℕ → ℕ → Operand → Elaborating Operand
member at token name a = if is_unusable a.ty then pure faulty else member_of at token name a (struct_of a.ty)

abbrev pub arrow_by : ℕ → ℕ → ℕ → Operand → Option SourceType → Elaborating Operand
arrow_by at token name p (Some t) = if is_faulty t then pure faulty else member_of at token name (operand t (form.Deref p)) (struct_of t)
arrow_by at token name p None = type_error at

-- `p->name`, of a value
unfoldable pub arrow : ℕ → ℕ → ℕ → Operand → Elaborating Operand
arrow at token name p = if is_unusable p.ty then pure faulty else arrow_by at token name p (pointee_of p.ty)

-- ---- casts (6.5.4), of a value to a scalar type

abbrev pub cast_by : ℕ → SourceType → Sort → Operand → Sort → Elaborating Operand
cast_by at t (sort.Pointer u) x (sort.Pointer v) = pure (if is_function u then faulty else converted t x)
cast_by at t (sort.Pointer u) x (sort.Integer k) = if is_null_constant x then pure (null_of t) else left_out at
cast_by at t (sort.Integer k) x (sort.Pointer u) = if is_bool k then pure (converted t x) else left_out at
cast_by at t (sort.Integer k) x (sort.Integer l) = pure (operand t (form.Cast x))
cast_by at t _ x _ = type_error at

unfoldable pub cast : ℕ → SourceType → Operand → Elaborating Operand
cast at t x = if is_unusable t then pure faulty
    else (if not (is_scalar t) then type_error at
    else (if is_unusable x.ty then pure faulty else cast_by at (unqualified t) (sort_of t) x (sort_of x.ty)))

-- ---- what may be assigned to (6.3.2.1p1)

abbrev pub const_body : Option Body → Bool
const_body (Some b) = b.has_const || not b.is_complete
const_body None = true

abbrev pub is_modifiable_by : Environment → Sort → Bool
is_modifiable_by s (sort.Integer k) = true
is_modifiable_by s (sort.Pointer t) = true
is_modifiable_by s (sort.Struct id) = not (const_body (slice_get s.structs id.0))
is_modifiable_by s _ = false

abbrev pub is_modifiable : Environment → Operand → Bool
is_modifiable s x = is_lvalue x.form && (not (qualifiers_of x.ty).is_const && is_modifiable_by s (sort_of x.ty))

-- ---- assignments (6.5.16): of an lvalue as it stands and a value. The result has the left operand's type, and promotes as
-- its bit-field does.

abbrev pub stored_type : Operand → SourceType
stored_type l = unqualified l.ty

abbrev pub assignment_of : Operand → Form → Operand
assignment_of l f = record { ty = stored_type l; bits = l.bits; is_register = false; form = f }

abbrev pub stored_as : Operand → Operand → Bool → Operand
stored_as l r fine = if fine then assignment_of l (form.Assign l r) else faulty

abbrev pub stored : ℕ → Operand → Operand → Elaborating Operand
stored at l r = if is_unusable r.ty then pure faulty
    else (if is_some (struct_of l.ty) then is_sized at l.ty >>= (λ fine. pure (stored_as l r fine)) else pure (stored_as l r true))

abbrev pub assign_to : ℕ → Operand → Operand → Elaborating Operand
assign_to at l r = λ s.
    if not (is_modifiable s l) then type_error at s
    else (if is_unusable r.ty then (faulty, s) else (assigned at (stored_type l) r >>= stored at l) s)

abbrev pub assign_by : ℕ → Operand → Operand → Option ℕ → Elaborating Operand
assign_by at l r (Some name) = left_out name
assign_by at l r None = assign_to at l r

-- `l = r`
unfoldable pub assign : ℕ → Operand → Operand → Elaborating Operand
assign at l r = if is_unusable l.ty then pure faulty else assign_by at l r (function_named l.form)

abbrev pub steps_by : BinOp → Option BinOp
steps_by op.Add = Some op.PtrAdd
steps_by op.Sub = Some op.PtrSub
steps_by _ = None

abbrev pub stepped : ℕ → Operand → SourceType → Option BinOp → Operand → Elaborating Operand
stepped at l t (Some o) r = steps_over at t >>= (λ fine. pure (if fine then assignment_of l (form.Update l o (stored_type l) r) else faulty))
stepped at l t None r = type_error at

-- the kind in which `l op= r` computes: the promoted left one of a shift, else the common one
abbrev pub computed_in : BinOp → IntKind → Operand → IntKind → Operand → IntKind
computed_in o k l m r = if is_shift o then promoted_kind k l else usual_kind k l m r

abbrev pub right_of : BinOp → IntKind → Operand → Operand
right_of o k r = if is_shift o then promote r else converted (int_type k) r

abbrev pub computed : BinOp → IntKind → Operand → Operand → Operand
computed o c l r = assignment_of l (form.Update l o (int_type c) (right_of o c r))

abbrev pub updated_by : ℕ → BinOp → Operand → Sort → Operand → Sort → Elaborating Operand
updated_by at o l (sort.Integer k) r (sort.Integer m) = pure (computed o (computed_in o k l m r) l r)
updated_by at o l (sort.Pointer t) r (sort.Integer m) = stepped at l t (steps_by o) r
updated_by at o l _ r _ = type_error at

abbrev pub update_to : ℕ → BinOp → Operand → Operand → Elaborating Operand
update_to at o l r = λ s.
    if not (is_modifiable s l) then type_error at s
    else (if is_unusable r.ty then (faulty, s) else updated_by at o l (sort_of l.ty) r (sort_of r.ty) s)

abbrev pub update_by : ℕ → BinOp → Operand → Operand → Option ℕ → Elaborating Operand
update_by at o l r (Some name) = left_out name
update_by at o l r None = update_to at o l r

-- `l op= r`
unfoldable pub update : ℕ → BinOp → Operand → Operand → Elaborating Operand
update at o l r = if is_unusable l.ty then pure faulty else update_by at o l r (function_named l.form)

-- `++l`, `--l` are `l += 1`, `l -= 1` (6.5.3.1p2)
abbrev pub one : Operand
one = number kind.Int (pos 1)

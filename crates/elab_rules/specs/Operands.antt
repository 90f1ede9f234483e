-- Operands: expressions with their types.
use Rattle.std.specs.Prelude.{ℕ, ℤ, Bool, true, false, List, [], Option, Some, None}
use Rattle.c_types.specs.declared.types.IntKind.{IntKind}
use Rattle.elab_types.specs.declared.types.SourceType.{SourceType, out-SourceType}
use Rattle.elab_types.specs.declared.types.SourceType.TheOpen.{SourceType-F}
use Rattle.elab_types.specs.declared.types.SourceType.TheVariants as source
use Rattle.elab_types.specs.Qualified.{no_qualifiers}
use Rattle.elab_rules.specs.Sorts.{TypeLevel}
use Rattle.elab_rules.specs.declared.operand.Operand.{Operand}
use Rattle.elab_rules.specs.declared.operand.Sort.{Sort}
use Rattle.elab_rules.specs.declared.operand.Sort.TheVariants as sort
use Rattle.elab_rules.specs.declared.operand.Form.{Form, out-Form}
use Rattle.elab_rules.specs.declared.operand.Form.TheOpen.{Form-F}
use Rattle.elab_rules.specs.declared.operand.Form.TheVariants as form

abbrev pub FormLevel : Type 0
FormLevel = Form-F Form Operand

abbrev pub level : Operand → TypeLevel
level x = out-SourceType x.ty

abbrev pub form_of : Operand → FormLevel
form_of x = out-Form x.form

abbrev pub operand : SourceType → Form → Operand
operand t f = record { ty = t; bits = None; is_register = false; form = f }

abbrev pub faulty : Operand
faulty = operand source.Faulty form.Faulty

abbrev pub int_type : IntKind → SourceType
int_type k = source.Int k no_qualifiers

abbrev pub pointer_to : SourceType → SourceType
pointer_to t = source.Pointer t no_qualifiers

abbrev pub number : IntKind → ℤ → Operand
number k v = operand (int_type k) (form.Const v)

abbrev pub null_of : SourceType → Operand
null_of t = operand t form.Null

-- 6.3.2.1p1: an expression that designates an object
abbrev pub is_lvalue_at : FormLevel → Bool
is_lvalue_at (Form-F.Object n) = true
is_lvalue_at (Form-F.Deref x) = true
is_lvalue_at (Form-F.Index a i) = true
is_lvalue_at (Form-F.IndexFirst i a) = true
is_lvalue_at (Form-F.Field a m) = true
is_lvalue_at _ = false

abbrev pub is_lvalue : Form → Bool
is_lvalue f = is_lvalue_at (out-Form f)

abbrev pub is_null_at : FormLevel → Bool
is_null_at Form-F.Null = true
is_null_at _ = false

abbrev pub is_null : Form → Bool
is_null f = is_null_at (out-Form f)

abbrev pub function_named_at : FormLevel → Option ℕ
function_named_at (Form-F.Function n at) = Some at
function_named_at _ = None

-- a function designator: the token of its name
abbrev pub function_named : Form → Option ℕ
function_named f = function_named_at (out-Form f)

abbrev pub element_at : TypeLevel → Option SourceType
element_at (SourceType-F.Array t n) = Some t
element_at _ = None

-- the type of the elements of an array
abbrev pub element_of : SourceType → Option SourceType
element_of t = element_at (out-SourceType t)

abbrev pub is_pointer_at : TypeLevel → Bool
is_pointer_at (SourceType-F.Pointer t q) = true
is_pointer_at _ = false

abbrev pub is_pointer : SourceType → Bool
is_pointer t = is_pointer_at (out-SourceType t)

abbrev pub sort_at : TypeLevel → Sort
sort_at (SourceType-F.Void q) = sort.Void
sort_at (SourceType-F.Int k q) = sort.Integer k
sort_at (SourceType-F.Pointer t q) = sort.Pointer t
sort_at (SourceType-F.Struct id q) = sort.Struct id
sort_at _ = sort.Other

abbrev pub sort_of : SourceType → Sort
sort_of t = sort_at (out-SourceType t)

abbrev pub pointer_behind_at : FormLevel → Option Operand
pointer_behind_at (Form-F.Deref p) = Some p
pointer_behind_at _ = None

-- what `*` was applied to
abbrev pub pointer_behind : Form → Option Operand
pointer_behind f = pointer_behind_at (out-Form f)

abbrev pub is_member_at : FormLevel → Bool
is_member_at (Form-F.Field a m) = true
is_member_at (Form-F.Part a m) = true
is_member_at _ = false

-- a member of a struct, an lvalue or not
abbrev pub is_member : Form → Bool
is_member f = is_member_at (out-Form f)

abbrev pub designated_at : FormLevel → Option (ℕ × ℕ)
designated_at (Form-F.Function n at) = Some (n, at)
designated_at _ = None

-- a function designator: the number of the function and the token of its name
abbrev pub designated : Form → Option (ℕ × ℕ)
designated f = designated_at (out-Form f)

abbrev pub old_form_at : FormLevel → Option Form
old_form_at (Form-F.Update l o t v) = Some (form.PostUpdate l o t v)
old_form_at _ = None

-- the same update with the old value
abbrev pub old_form : Form → Option Form
old_form f = old_form_at (out-Form f)

abbrev pub params_at : TypeLevel → List SourceType
params_at (SourceType-F.Function t ts v) = ts
params_at _ = []

-- the types of the parameters of a function
abbrev pub params_of : SourceType → List SourceType
params_of t = params_at (out-SourceType t)

-- The members of structs and unions, and their completion (C11 6.7.2.1).
use Rattle.std.specs.Prelude.{ℕ, Bool, true, false, ◌||◌, ◌&&◌, ◌==◌, List, [], ◌∷◌, ◌++◌, slice_get, slice_set, Option, Some, None, is_some, if◌then◌else◌}
use Rattle.std.specs.List.{list_any}
use Rattle.elab_findings.specs.declared.fault.Rule.TheVariants.{Redefined}
use Rattle.c_types.specs.declared.types.Declared.{Declared as Laid}
use Rattle.c_types.specs.declared.types.StructInfo.{StructInfo}
use Rattle.c_types.specs.Structs.{laid_out}
use Rattle.elab_types.specs.declared.types.Extent.TheVariants as extent
use Rattle.elab_types.specs.declared.types.SourceType.{SourceType, out-SourceType, end_of-SourceType, more_of-SourceType}
use Rattle.elab_types.specs.declared.types.SourceType.TheOpen.{SourceType-F}
use Rattle.elab_types.specs.declared.types.SourceType.TheVariants.{Void, Array', Int, Pointer', Struct as AsStruct, Function', Floating, Faulty}
use Rattle.elab_types.specs.Translated.{ctype_of}
use Rattle.elab_environment.specs.declared.state.Collected.{Collected}
use Rattle.elab_environment.specs.declared.state.Field.{Field}
use Rattle.elab_environment.specs.declared.state.Struct.{Struct}
use Rattle.elab_environment.specs.declared.state.Environment.{Environment}
use Rattle.elab_environment.specs.Elaborating.{Elaborating, ◌>>◌, pure}
use Rattle.elab_environment.specs.Steps.{refuse}
use Rattle.elab_environment.specs.Complete.{is_flexible}

abbrev pub is_named : Collected → Bool
is_named c = is_some c.name

abbrev pub any_named : List Collected → Bool
any_named cs = list_any is_named cs

abbrev pub same_name : ℕ → Option ℕ → Bool
same_name n (Some m) = n == m
same_name n None = false

abbrev pub has_name : ℕ → List Collected → Bool
has_name n cs = list_any (λ c. same_name n c.name) cs

-- 6.7.2.1p2: member names differ
abbrev pub is_twice : Option ℕ → List Collected → Bool
is_twice (Some name) cs = has_name name cs
is_twice None cs = false

unfoldable pub collect : ℕ → Collected → List Collected → Elaborating (List Collected)
collect token c cs = if is_twice c.name cs then refuse token Redefined >> pure cs else pure (cs ++ c ∷ [])

-- an unnamed bit-field is no member
abbrev pub field_by : Collected → Option ℕ → List Field
field_by c (Some n) = record { name = n; ty = c.ty; bits = c.bits } ∷ []
field_by c None = []

abbrev pub fields_of : List Collected → List Field
fields_of [] = []
fields_of (c ∷ cs) = field_by c c.name ++ fields_of cs

abbrev pub laid : List Collected → List Laid
laid [] = []
laid (c ∷ cs) = record { name = c.name; ctype = ctype_of c.ty; bits = c.bits } ∷ laid cs

abbrev pub const_struct : Option Struct → Bool
const_struct (Some b) = b.has_const
const_struct None = false

-- 6.3.2.1p1: const, or with a const member, at any depth
unfoldable pub has_const : Environment → SourceType → Bool
has_const s (Void q) = false
has_const s (Int k q) = q.is_const
has_const s (Pointer' _ _ q) = q.is_const
has_const s (Array' _ (more_of-SourceType t end_of-SourceType) n) = has_const s t
has_const s (AsStruct id q) = q.is_const || const_struct (slice_get s.structs id.0)
has_const s (Function' _ _ _ _ _) = false
has_const s (Floating q) = false
has_const s Faulty = false

abbrev pub any_const : Environment → List Collected → Bool
any_const s [] = false
any_const s (c ∷ cs) = has_const s c.ty || any_const s cs

abbrev pub is_open_array_at : SourceType-F SourceType → Bool
is_open_array_at (SourceType-F.Array t extent.Unknown) = true
is_open_array_at _ = false

-- an array whose length stays unknown
unfoldable pub is_open_array : SourceType → Bool
is_open_array t = is_open_array_at (out-SourceType t)

-- 6.7.2.1p18: an array without a length is a member, or a union has such a struct in it
abbrev pub any_flexible : Environment → Bool → List Collected → Bool
any_flexible s is_union [] = false
any_flexible s is_union (c ∷ cs) = (is_open_array c.ty || (is_union && is_flexible s c.ty)) || any_flexible s is_union cs

abbrev pub tag_of : Option StructInfo → ℕ
tag_of (Some info) = info.tag
tag_of None = 0

-- the struct of a number behind its body, and its layout, which keeps the tag's name
unfoldable pub completed : ℕ → Bool → List Collected → Environment → Environment
completed id is_union cs s = record s {
  structs = slice_set s.structs id (record { is_union = is_union; is_complete = true; is_flexible = any_flexible s is_union cs; has_const = any_const s cs; fields = fields_of cs });
  layout = record { structs = slice_set s.layout.structs id (laid_out s.layout (tag_of (slice_get s.layout.structs id)) is_union (laid cs)) };
}

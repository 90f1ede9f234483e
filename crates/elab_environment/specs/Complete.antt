-- Complete types (C11 6.2.5p1).
use Rattle.std.specs.Prelude.{Bool, true, false, ◌&&◌, Option, Some, None, slice_get}
use Rattle.c_types.specs.declared.types.StructId.{StructId}
use Rattle.elab_types.specs.declared.types.Extent.{Extent}
use Rattle.elab_types.specs.declared.types.Extent.TheVariants as extent
use Rattle.elab_types.specs.declared.types.SourceType.{SourceType, end_of-SourceType, more_of-SourceType}
use Rattle.elab_types.specs.declared.types.SourceType.TheVariants.{Void, Int, Pointer', Array', Struct, Function', Floating, Faulty}
use Rattle.elab_environment.specs.declared.state.Struct.{Struct as Body}
use Rattle.elab_environment.specs.declared.state.Environment.{Environment}

abbrev pub has_body : Option Body → Bool
has_body (Some b) = b.is_complete
has_body None = false

abbrev pub ends_flexible : Option Body → Bool
ends_flexible (Some b) = b.is_flexible
ends_flexible None = false

abbrev pub struct_is_complete : Environment → StructId → Bool
struct_is_complete s id = has_body (slice_get s.structs id.0)

abbrev pub struct_is_flexible : Environment → StructId → Bool
struct_is_flexible s id = ends_flexible (slice_get s.structs id.0)

abbrev pub is_known : Extent → Bool
is_known extent.Unknown = false
is_known _ = true

-- an object type with a size; a type that broke a rule breaks no further one
unfoldable pub is_complete : Environment → SourceType → Bool
is_complete s (Void q) = false
is_complete s (Int k q) = true
is_complete s (Pointer' _ _ q) = true
is_complete s (Array' _ (more_of-SourceType t end_of-SourceType) n) = is_known n && is_complete s t
is_complete s (Struct id q) = struct_is_complete s id
is_complete s (Function' _ _ _ _ _) = false
is_complete s (Floating q) = true
is_complete s Faulty = true

-- 6.7.2.1p18: a struct whose last member has no length, or an array of one
unfoldable pub is_flexible : Environment → SourceType → Bool
is_flexible s (Array' _ (more_of-SourceType t end_of-SourceType) n) = is_flexible s t
is_flexible s (Struct id q) = struct_is_flexible s id
is_flexible s _ = false

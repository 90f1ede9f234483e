-- has_const at each variant.
use Rattle.std.specs.Prelude.{◌≡◌, refl, Bool, false, ◌||◌, List, slice_get}
use denote.Hole.Carrier.{hidden}
use Rattle.c_types.specs.declared.types.IntKind.{IntKind}
use Rattle.c_types.specs.declared.types.StructId.{StructId}
use Rattle.elab_types.specs.declared.types.Qualifiers.{Qualifiers}
use Rattle.elab_types.specs.declared.types.Extent.{Extent}
use Rattle.elab_types.specs.declared.types.SourceType.{SourceType}
use Rattle.elab_types.specs.declared.types.SourceType.TheVariants as source
use Rattle.elab_types.specs.declared.types.SourceType.TheBlock as block
use Rattle.elab_environment.specs.declared.state.Environment.{Environment}
use Rattle.elab_environment.specs.Structs.{const_struct, has_const}

pub has_const_void : (s : Environment) (p : Qualifiers) → has_const s (source.Void p) ≡ false
unfolding has_const hidden block.hidden-the_row-SourceType-0 block.hidden-the_row-SourceType-1
has_const_void _ _ = refl

pub has_const_int : (s : Environment) (k : IntKind) (p : Qualifiers) → has_const s (source.Int k p) ≡ p.is_const
unfolding has_const hidden block.hidden-the_row-SourceType-0 block.hidden-the_row-SourceType-1
has_const_int _ _ _ = refl

pub has_const_pointer : (s : Environment) (t : SourceType) (p : Qualifiers) → has_const s (source.Pointer t p) ≡ p.is_const
unfolding has_const hidden block.hidden-the_row-SourceType-0 block.hidden-the_row-SourceType-1
has_const_pointer _ _ _ = refl

pub has_const_array : (s : Environment) (t : SourceType) (n : Extent) → has_const s (source.Array t n) ≡ has_const s t
unfolding has_const hidden block.hidden-the_row-SourceType-0 block.hidden-the_row-SourceType-1
has_const_array _ _ _ = refl

pub has_const_struct : (s : Environment) (id : StructId) (p : Qualifiers) → has_const s (source.Struct id p) ≡ p.is_const || const_struct (slice_get s.structs id.0)
unfolding has_const hidden block.hidden-the_row-SourceType-0 block.hidden-the_row-SourceType-1
has_const_struct _ _ _ = refl

pub has_const_function : (s : Environment) (t : SourceType) (ts : List SourceType) (v : Bool) → has_const s (source.Function t ts v) ≡ false
unfolding has_const hidden block.hidden-the_row-SourceType-0 block.hidden-the_row-SourceType-1
has_const_function _ _ _ _ = refl

pub has_const_floating : (s : Environment) (p : Qualifiers) → has_const s (source.Floating p) ≡ false
unfolding has_const hidden block.hidden-the_row-SourceType-0 block.hidden-the_row-SourceType-1
has_const_floating _ _ = refl

pub has_const_faulty : (s : Environment) → has_const s source.Faulty ≡ false
unfolding has_const hidden block.hidden-the_row-SourceType-0 block.hidden-the_row-SourceType-1
has_const_faulty _ = refl

pub ruleset const_equations = (has_const_void, has_const_int, has_const_pointer, has_const_array, has_const_struct, has_const_function, has_const_floating, has_const_faulty)

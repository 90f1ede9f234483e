-- is_complete and is_flexible at each variant.
use Rattle.std.specs.Prelude.{◌≡◌, refl, Bool, true, false, ◌&&◌, List}
use denote.Hole.Carrier.{hidden}
use Rattle.c_types.specs.declared.types.IntKind.{IntKind}
use Rattle.c_types.specs.declared.types.StructId.{StructId}
use Rattle.elab_types.specs.declared.types.Qualifiers.{Qualifiers}
use Rattle.elab_types.specs.declared.types.Extent.{Extent}
use Rattle.elab_types.specs.declared.types.SourceType.{SourceType}
use Rattle.elab_types.specs.declared.types.SourceType.TheVariants as source
use Rattle.elab_types.specs.declared.types.SourceType.TheBlock as block
use Rattle.elab_environment.specs.declared.state.Environment.{Environment}
use Rattle.elab_environment.specs.Complete.{struct_is_complete, struct_is_flexible, is_known, is_complete, is_flexible}

pub complete_void : (s : Environment) (p : Qualifiers) → is_complete s (source.Void p) ≡ false
unfolding is_complete hidden block.hidden-the_row-SourceType-0 block.hidden-the_row-SourceType-1
complete_void _ _ = refl

pub complete_int : (s : Environment) (k : IntKind) (p : Qualifiers) → is_complete s (source.Int k p) ≡ true
unfolding is_complete hidden block.hidden-the_row-SourceType-0 block.hidden-the_row-SourceType-1
complete_int _ _ _ = refl

pub complete_pointer : (s : Environment) (t : SourceType) (p : Qualifiers) → is_complete s (source.Pointer t p) ≡ true
unfolding is_complete hidden block.hidden-the_row-SourceType-0 block.hidden-the_row-SourceType-1
complete_pointer _ _ _ = refl

pub complete_array : (s : Environment) (t : SourceType) (n : Extent) → is_complete s (source.Array t n) ≡ is_known n && is_complete s t
unfolding is_complete hidden block.hidden-the_row-SourceType-0 block.hidden-the_row-SourceType-1
complete_array _ _ _ = refl

pub complete_struct : (s : Environment) (id : StructId) (p : Qualifiers) → is_complete s (source.Struct id p) ≡ struct_is_complete s id
unfolding is_complete hidden block.hidden-the_row-SourceType-0 block.hidden-the_row-SourceType-1
complete_struct _ _ _ = refl

pub complete_function : (s : Environment) (t : SourceType) (ts : List SourceType) (v : Bool) → is_complete s (source.Function t ts v) ≡ false
unfolding is_complete hidden block.hidden-the_row-SourceType-0 block.hidden-the_row-SourceType-1
complete_function _ _ _ _ = refl

pub complete_floating : (s : Environment) (p : Qualifiers) → is_complete s (source.Floating p) ≡ true
unfolding is_complete hidden block.hidden-the_row-SourceType-0 block.hidden-the_row-SourceType-1
complete_floating _ _ = refl

pub complete_faulty : (s : Environment) → is_complete s source.Faulty ≡ true
unfolding is_complete hidden block.hidden-the_row-SourceType-0 block.hidden-the_row-SourceType-1
complete_faulty _ = refl

pub ruleset complete_equations = (complete_void, complete_int, complete_pointer, complete_array, complete_struct, complete_function, complete_floating, complete_faulty)

pub flexible_void : (s : Environment) (p : Qualifiers) → is_flexible s (source.Void p) ≡ false
unfolding is_flexible hidden block.hidden-the_row-SourceType-0 block.hidden-the_row-SourceType-1
flexible_void _ _ = refl

pub flexible_int : (s : Environment) (k : IntKind) (p : Qualifiers) → is_flexible s (source.Int k p) ≡ false
unfolding is_flexible hidden block.hidden-the_row-SourceType-0 block.hidden-the_row-SourceType-1
flexible_int _ _ _ = refl

pub flexible_pointer : (s : Environment) (t : SourceType) (p : Qualifiers) → is_flexible s (source.Pointer t p) ≡ false
unfolding is_flexible hidden block.hidden-the_row-SourceType-0 block.hidden-the_row-SourceType-1
flexible_pointer _ _ _ = refl

pub flexible_array : (s : Environment) (t : SourceType) (n : Extent) → is_flexible s (source.Array t n) ≡ is_flexible s t
unfolding is_flexible hidden block.hidden-the_row-SourceType-0 block.hidden-the_row-SourceType-1
flexible_array _ _ _ = refl

pub flexible_struct : (s : Environment) (id : StructId) (p : Qualifiers) → is_flexible s (source.Struct id p) ≡ struct_is_flexible s id
unfolding is_flexible hidden block.hidden-the_row-SourceType-0 block.hidden-the_row-SourceType-1
flexible_struct _ _ _ = refl

pub flexible_function : (s : Environment) (t : SourceType) (ts : List SourceType) (v : Bool) → is_flexible s (source.Function t ts v) ≡ false
unfolding is_flexible hidden block.hidden-the_row-SourceType-0 block.hidden-the_row-SourceType-1
flexible_function _ _ _ _ = refl

pub flexible_floating : (s : Environment) (p : Qualifiers) → is_flexible s (source.Floating p) ≡ false
unfolding is_flexible hidden block.hidden-the_row-SourceType-0 block.hidden-the_row-SourceType-1
flexible_floating _ _ = refl

pub flexible_faulty : (s : Environment) → is_flexible s source.Faulty ≡ false
unfolding is_flexible hidden block.hidden-the_row-SourceType-0 block.hidden-the_row-SourceType-1
flexible_faulty _ = refl

pub ruleset flexible_equations = (flexible_void, flexible_int, flexible_pointer, flexible_array, flexible_struct, flexible_function, flexible_floating, flexible_faulty)

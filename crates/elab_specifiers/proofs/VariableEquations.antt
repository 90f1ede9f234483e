-- is_variably_modified at each variant.
use Rattle.std.specs.Prelude.{◌≡◌, refl, Bool, false, ◌||◌, List}
use denote.Hole.Carrier.{hidden}
use Rattle.c_types.specs.declared.types.IntKind.{IntKind}
use Rattle.c_types.specs.declared.types.StructId.{StructId}
use Rattle.elab_types.specs.declared.types.Qualifiers.{Qualifiers}
use Rattle.elab_types.specs.declared.types.Extent.{Extent}
use Rattle.elab_types.specs.declared.types.SourceType.{SourceType}
use Rattle.elab_types.specs.declared.types.SourceType.TheVariants as source
use Rattle.elab_types.specs.declared.types.SourceType.TheBlock as block
use Rattle.elab_rules.specs.Bodies.{is_variable, is_variably_modified}

pub variable_void : (p : Qualifiers) → is_variably_modified (source.Void p) ≡ false
unfolding is_variably_modified hidden block.hidden-the_row-SourceType-0 block.hidden-the_row-SourceType-1
variable_void _ = refl

pub variable_int : (k : IntKind) (p : Qualifiers) → is_variably_modified (source.Int k p) ≡ false
unfolding is_variably_modified hidden block.hidden-the_row-SourceType-0 block.hidden-the_row-SourceType-1
variable_int _ _ = refl

pub variable_pointer : (t : SourceType) (p : Qualifiers) → is_variably_modified (source.Pointer t p) ≡ is_variably_modified t
unfolding is_variably_modified hidden block.hidden-the_row-SourceType-0 block.hidden-the_row-SourceType-1
variable_pointer _ _ = refl

pub variable_array : (t : SourceType) (n : Extent) → is_variably_modified (source.Array t n) ≡ is_variable n || is_variably_modified t
unfolding is_variably_modified hidden block.hidden-the_row-SourceType-0 block.hidden-the_row-SourceType-1
variable_array _ _ = refl

pub variable_struct : (id : StructId) (p : Qualifiers) → is_variably_modified (source.Struct id p) ≡ false
unfolding is_variably_modified hidden block.hidden-the_row-SourceType-0 block.hidden-the_row-SourceType-1
variable_struct _ _ = refl

pub variable_function : (t : SourceType) (ts : List SourceType) (v : Bool) → is_variably_modified (source.Function t ts v) ≡ is_variably_modified t
unfolding is_variably_modified hidden block.hidden-the_row-SourceType-0 block.hidden-the_row-SourceType-1
variable_function _ _ _ = refl

pub variable_floating : (p : Qualifiers) → is_variably_modified (source.Floating p) ≡ false
unfolding is_variably_modified hidden block.hidden-the_row-SourceType-0 block.hidden-the_row-SourceType-1
variable_floating _ = refl

pub variable_faulty : is_variably_modified source.Faulty ≡ false
unfolding is_variably_modified hidden block.hidden-the_row-SourceType-0 block.hidden-the_row-SourceType-1
variable_faulty = refl

pub ruleset variable_equations = (variable_void, variable_int, variable_pointer, variable_array, variable_struct, variable_function, variable_floating, variable_faulty)

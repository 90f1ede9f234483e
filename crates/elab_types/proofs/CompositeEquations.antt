-- The composite of types, at each form.
use Rattle.std.specs.Prelude.{◌≡◌, refl, Bool, List, [], ◌∷◌}
use Rattle.std.proofs.Common.{ap}
use denote.Hole.Carrier.{hidden}
use Rattle.c_types.specs.declared.types.IntKind.{IntKind}
use Rattle.c_types.specs.declared.types.StructId.{StructId}
use Rattle.elab_types.specs.declared.types.Qualifiers.{Qualifiers}
use Rattle.elab_types.specs.declared.types.Extent.{Extent}
use Rattle.elab_types.specs.declared.types.SourceType.{SourceType}
use Rattle.elab_types.specs.declared.types.SourceType.TheVariants as source
use Rattle.elab_types.specs.declared.types.SourceType.TheBlock as block
use Rattle.elab_types.specs.Composite.{known_extent, composite, composite_rows, all_composite}

rows_are : (ts us : List SourceType) → composite_rows (block.hidden-the_row-SourceType-1 ts) (block.hidden-the_row-SourceType-1 us) ≡ all_composite ts us
unfolding composite composite_rows hidden block.hidden-the_row-SourceType-1
rows_are [] us = refl
rows_are (t ∷ ts) [] = refl
rows_are (t ∷ ts) (u ∷ us) = ap (λ cs. composite t u ∷ cs) (rows_are ts us)

pub composite_void : (p1 : Qualifiers) (u : SourceType) → composite (source.Void p1) u ≡ u
unfolding composite composite_rows hidden block.hidden-the_row-SourceType-0 block.hidden-the_row-SourceType-1
composite_void _ _ = refl

pub composite_int : (k1 : IntKind) (p1 : Qualifiers) (u : SourceType) → composite (source.Int k1 p1) u ≡ u
unfolding composite composite_rows hidden block.hidden-the_row-SourceType-0 block.hidden-the_row-SourceType-1
composite_int _ _ _ = refl

pub composite_struct : (s1 : StructId) (p1 : Qualifiers) (u : SourceType) → composite (source.Struct s1 p1) u ≡ u
unfolding composite composite_rows hidden block.hidden-the_row-SourceType-0 block.hidden-the_row-SourceType-1
composite_struct _ _ _ = refl

pub composite_floating : (p1 : Qualifiers) (u : SourceType) → composite (source.Floating p1) u ≡ u
unfolding composite composite_rows hidden block.hidden-the_row-SourceType-0 block.hidden-the_row-SourceType-1
composite_floating _ _ = refl

pub composite_faulty : (u : SourceType) → composite source.Faulty u ≡ u
unfolding composite composite_rows hidden block.hidden-the_row-SourceType-0 block.hidden-the_row-SourceType-1
composite_faulty _ = refl

pub composite_pointer_void : (t1 : SourceType) (p1 : Qualifiers) (p2 : Qualifiers) → composite (source.Pointer t1 p1) (source.Void p2) ≡ (source.Void p2)
unfolding composite composite_rows hidden block.hidden-the_row-SourceType-0 block.hidden-the_row-SourceType-1
composite_pointer_void _ _ _ = refl

pub composite_pointer_int : (t1 : SourceType) (p1 : Qualifiers) (k2 : IntKind) (p2 : Qualifiers) → composite (source.Pointer t1 p1) (source.Int k2 p2) ≡ (source.Int k2 p2)
unfolding composite composite_rows hidden block.hidden-the_row-SourceType-0 block.hidden-the_row-SourceType-1
composite_pointer_int _ _ _ _ = refl

pub composite_pointer_pointer : (t1 : SourceType) (p1 : Qualifiers) (t2 : SourceType) (p2 : Qualifiers) → composite (source.Pointer t1 p1) (source.Pointer t2 p2) ≡ source.Pointer (composite t1 t2) p2
unfolding composite composite_rows hidden block.hidden-the_row-SourceType-0 block.hidden-the_row-SourceType-1
composite_pointer_pointer _ _ _ _ = refl

pub composite_pointer_array : (t1 : SourceType) (p1 : Qualifiers) (t2 : SourceType) (n2 : Extent) → composite (source.Pointer t1 p1) (source.Array t2 n2) ≡ (source.Array t2 n2)
unfolding composite composite_rows hidden block.hidden-the_row-SourceType-0 block.hidden-the_row-SourceType-1
composite_pointer_array _ _ _ _ = refl

pub composite_pointer_struct : (t1 : SourceType) (p1 : Qualifiers) (s2 : StructId) (p2 : Qualifiers) → composite (source.Pointer t1 p1) (source.Struct s2 p2) ≡ (source.Struct s2 p2)
unfolding composite composite_rows hidden block.hidden-the_row-SourceType-0 block.hidden-the_row-SourceType-1
composite_pointer_struct _ _ _ _ = refl

pub composite_pointer_function : (t1 : SourceType) (p1 : Qualifiers) (t2 : SourceType) (ts2 : List SourceType) (v2 : Bool) → composite (source.Pointer t1 p1) (source.Function t2 ts2 v2) ≡ (source.Function t2 ts2 v2)
unfolding composite composite_rows hidden block.hidden-the_row-SourceType-0 block.hidden-the_row-SourceType-1
composite_pointer_function _ _ _ _ _ = refl

pub composite_pointer_floating : (t1 : SourceType) (p1 : Qualifiers) (p2 : Qualifiers) → composite (source.Pointer t1 p1) (source.Floating p2) ≡ (source.Floating p2)
unfolding composite composite_rows hidden block.hidden-the_row-SourceType-0 block.hidden-the_row-SourceType-1
composite_pointer_floating _ _ _ = refl

pub composite_pointer_faulty : (t1 : SourceType) (p1 : Qualifiers) → composite (source.Pointer t1 p1) source.Faulty ≡ source.Faulty
unfolding composite composite_rows hidden block.hidden-the_row-SourceType-0 block.hidden-the_row-SourceType-1
composite_pointer_faulty _ _ = refl

pub composite_array_void : (t1 : SourceType) (n1 : Extent) (p2 : Qualifiers) → composite (source.Array t1 n1) (source.Void p2) ≡ (source.Void p2)
unfolding composite composite_rows hidden block.hidden-the_row-SourceType-0 block.hidden-the_row-SourceType-1
composite_array_void _ _ _ = refl

pub composite_array_int : (t1 : SourceType) (n1 : Extent) (k2 : IntKind) (p2 : Qualifiers) → composite (source.Array t1 n1) (source.Int k2 p2) ≡ (source.Int k2 p2)
unfolding composite composite_rows hidden block.hidden-the_row-SourceType-0 block.hidden-the_row-SourceType-1
composite_array_int _ _ _ _ = refl

pub composite_array_pointer : (t1 : SourceType) (n1 : Extent) (t2 : SourceType) (p2 : Qualifiers) → composite (source.Array t1 n1) (source.Pointer t2 p2) ≡ (source.Pointer t2 p2)
unfolding composite composite_rows hidden block.hidden-the_row-SourceType-0 block.hidden-the_row-SourceType-1
composite_array_pointer _ _ _ _ = refl

pub composite_array_array : (t1 : SourceType) (n1 : Extent) (t2 : SourceType) (n2 : Extent) → composite (source.Array t1 n1) (source.Array t2 n2) ≡ source.Array (composite t1 t2) (known_extent n1 n2)
unfolding composite composite_rows hidden block.hidden-the_row-SourceType-0 block.hidden-the_row-SourceType-1
composite_array_array _ _ _ _ = refl

pub composite_array_struct : (t1 : SourceType) (n1 : Extent) (s2 : StructId) (p2 : Qualifiers) → composite (source.Array t1 n1) (source.Struct s2 p2) ≡ (source.Struct s2 p2)
unfolding composite composite_rows hidden block.hidden-the_row-SourceType-0 block.hidden-the_row-SourceType-1
composite_array_struct _ _ _ _ = refl

pub composite_array_function : (t1 : SourceType) (n1 : Extent) (t2 : SourceType) (ts2 : List SourceType) (v2 : Bool) → composite (source.Array t1 n1) (source.Function t2 ts2 v2) ≡ (source.Function t2 ts2 v2)
unfolding composite composite_rows hidden block.hidden-the_row-SourceType-0 block.hidden-the_row-SourceType-1
composite_array_function _ _ _ _ _ = refl

pub composite_array_floating : (t1 : SourceType) (n1 : Extent) (p2 : Qualifiers) → composite (source.Array t1 n1) (source.Floating p2) ≡ (source.Floating p2)
unfolding composite composite_rows hidden block.hidden-the_row-SourceType-0 block.hidden-the_row-SourceType-1
composite_array_floating _ _ _ = refl

pub composite_array_faulty : (t1 : SourceType) (n1 : Extent) → composite (source.Array t1 n1) source.Faulty ≡ source.Faulty
unfolding composite composite_rows hidden block.hidden-the_row-SourceType-0 block.hidden-the_row-SourceType-1
composite_array_faulty _ _ = refl

pub composite_function_void : (t1 : SourceType) (ts1 : List SourceType) (v1 : Bool) (p2 : Qualifiers) → composite (source.Function t1 ts1 v1) (source.Void p2) ≡ (source.Void p2)
unfolding composite composite_rows hidden block.hidden-the_row-SourceType-0 block.hidden-the_row-SourceType-1
composite_function_void _ _ _ _ = refl

pub composite_function_int : (t1 : SourceType) (ts1 : List SourceType) (v1 : Bool) (k2 : IntKind) (p2 : Qualifiers) → composite (source.Function t1 ts1 v1) (source.Int k2 p2) ≡ (source.Int k2 p2)
unfolding composite composite_rows hidden block.hidden-the_row-SourceType-0 block.hidden-the_row-SourceType-1
composite_function_int _ _ _ _ _ = refl

pub composite_function_pointer : (t1 : SourceType) (ts1 : List SourceType) (v1 : Bool) (t2 : SourceType) (p2 : Qualifiers) → composite (source.Function t1 ts1 v1) (source.Pointer t2 p2) ≡ (source.Pointer t2 p2)
unfolding composite composite_rows hidden block.hidden-the_row-SourceType-0 block.hidden-the_row-SourceType-1
composite_function_pointer _ _ _ _ _ = refl

pub composite_function_array : (t1 : SourceType) (ts1 : List SourceType) (v1 : Bool) (t2 : SourceType) (n2 : Extent) → composite (source.Function t1 ts1 v1) (source.Array t2 n2) ≡ (source.Array t2 n2)
unfolding composite composite_rows hidden block.hidden-the_row-SourceType-0 block.hidden-the_row-SourceType-1
composite_function_array _ _ _ _ _ = refl

pub composite_function_struct : (t1 : SourceType) (ts1 : List SourceType) (v1 : Bool) (s2 : StructId) (p2 : Qualifiers) → composite (source.Function t1 ts1 v1) (source.Struct s2 p2) ≡ (source.Struct s2 p2)
unfolding composite composite_rows hidden block.hidden-the_row-SourceType-0 block.hidden-the_row-SourceType-1
composite_function_struct _ _ _ _ _ = refl

pub composite_function_function : (t1 : SourceType) (ts1 : List SourceType) (v1 : Bool) (t2 : SourceType) (ts2 : List SourceType) (v2 : Bool) → composite (source.Function t1 ts1 v1) (source.Function t2 ts2 v2) ≡ source.Function (composite t1 t2) (all_composite ts1 ts2) v2
unfolding composite composite_rows hidden block.hidden-the_row-SourceType-0 block.hidden-the_row-SourceType-1
composite_function_function t1 ts1 v1 t2 ts2 v2 = ap (λ cs. source.Function (composite t1 t2) cs v2) (rows_are ts1 ts2)

pub composite_function_floating : (t1 : SourceType) (ts1 : List SourceType) (v1 : Bool) (p2 : Qualifiers) → composite (source.Function t1 ts1 v1) (source.Floating p2) ≡ (source.Floating p2)
unfolding composite composite_rows hidden block.hidden-the_row-SourceType-0 block.hidden-the_row-SourceType-1
composite_function_floating _ _ _ _ = refl

pub composite_function_faulty : (t1 : SourceType) (ts1 : List SourceType) (v1 : Bool) → composite (source.Function t1 ts1 v1) source.Faulty ≡ source.Faulty
unfolding composite composite_rows hidden block.hidden-the_row-SourceType-0 block.hidden-the_row-SourceType-1
composite_function_faulty _ _ _ = refl

pub ruleset composite_equations = (composite_void, composite_int, composite_struct, composite_floating, composite_faulty, composite_pointer_void, composite_pointer_int, composite_pointer_pointer, composite_pointer_array, composite_pointer_struct, composite_pointer_function, composite_pointer_floating, composite_pointer_faulty, composite_array_void, composite_array_int, composite_array_pointer, composite_array_array, composite_array_struct, composite_array_function, composite_array_floating, composite_array_faulty, composite_function_void, composite_function_int, composite_function_pointer, composite_function_array, composite_function_struct, composite_function_function, composite_function_floating, composite_function_faulty)

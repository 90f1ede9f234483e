-- Each recursion over types at each variant.
use Rattle.std.specs.Prelude.{◌≡◌, refl, ◌==◌, Bool, true, false, ◌&&◌, List, [], ◌∷◌}
use Rattle.std.proofs.Common.{ap}
use denote.Hole.Carrier.{hidden}
use Rattle.c_types.specs.declared.types.IntKind.{IntKind}
use Rattle.c_types.specs.declared.types.StructId.{StructId}
use Rattle.c_types.specs.declared.types.CType.TheVariants as ctype
use Rattle.elab_types.specs.declared.types.Qualifiers.{Qualifiers}
use Rattle.elab_types.specs.declared.compatible.Likeness.{Likeness}
use Rattle.elab_types.specs.declared.types.Extent.{Extent}
use Rattle.elab_types.specs.declared.types.SourceType.{SourceType}
use Rattle.elab_types.specs.declared.types.SourceType.TheVariants as source
use Rattle.elab_types.specs.declared.types.SourceType.TheBlock as block
use Rattle.elab_types.specs.Qualified.{no_qualifiers, both, qualifiers_of, qualified, unqualified}
use Rattle.elab_types.specs.Translated.{array_of, ctype_of}
use Rattle.elab_types.specs.Compatible.{same, same_kind, agree, same_extent, alike, rows_alike, all_alike}

rows_are : (l : Likeness) (ts us : List SourceType) → rows_alike l (block.hidden-the_row-SourceType-1 ts) (block.hidden-the_row-SourceType-1 us) ≡ all_alike l ts us
unfolding alike rows_alike hidden block.hidden-the_row-SourceType-1
rows_are l [] [] = refl
rows_are l [] (u ∷ us) = refl
rows_are l (t ∷ ts) [] = refl
rows_are l (t ∷ ts) (u ∷ us) = ap (λ x. alike l t u && x) (rows_are l ts us)

pub alike_void_void : (l : Likeness) (p1 : Qualifiers) (p2 : Qualifiers) → alike l (source.Void p1) (source.Void p2) ≡ agree l p1 p2
unfolding alike rows_alike hidden block.hidden-the_row-SourceType-0 block.hidden-the_row-SourceType-1
alike_void_void _ _ _ = refl

pub alike_void_int : (l : Likeness) (p1 : Qualifiers) (k2 : IntKind) (p2 : Qualifiers) → alike l (source.Void p1) (source.Int k2 p2) ≡ false
unfolding alike rows_alike hidden block.hidden-the_row-SourceType-0 block.hidden-the_row-SourceType-1
alike_void_int _ _ _ _ = refl

pub alike_void_pointer : (l : Likeness) (p1 : Qualifiers) (t2 : SourceType) (p2 : Qualifiers) → alike l (source.Void p1) (source.Pointer t2 p2) ≡ false
unfolding alike rows_alike hidden block.hidden-the_row-SourceType-0 block.hidden-the_row-SourceType-1
alike_void_pointer _ _ _ _ = refl

pub alike_void_array : (l : Likeness) (p1 : Qualifiers) (t2 : SourceType) (n2 : Extent) → alike l (source.Void p1) (source.Array t2 n2) ≡ false
unfolding alike rows_alike hidden block.hidden-the_row-SourceType-0 block.hidden-the_row-SourceType-1
alike_void_array _ _ _ _ = refl

pub alike_void_struct : (l : Likeness) (p1 : Qualifiers) (s2 : StructId) (p2 : Qualifiers) → alike l (source.Void p1) (source.Struct s2 p2) ≡ false
unfolding alike rows_alike hidden block.hidden-the_row-SourceType-0 block.hidden-the_row-SourceType-1
alike_void_struct _ _ _ _ = refl

pub alike_void_function : (l : Likeness) (p1 : Qualifiers) (t2 : SourceType) (ts2 : List SourceType) (v2 : Bool) → alike l (source.Void p1) (source.Function t2 ts2 v2) ≡ false
unfolding alike rows_alike hidden block.hidden-the_row-SourceType-0 block.hidden-the_row-SourceType-1
alike_void_function _ _ _ _ _ = refl

pub alike_void_floating : (l : Likeness) (p1 : Qualifiers) (p2 : Qualifiers) → alike l (source.Void p1) (source.Floating p2) ≡ false
unfolding alike rows_alike hidden block.hidden-the_row-SourceType-0 block.hidden-the_row-SourceType-1
alike_void_floating _ _ _ = refl

pub alike_void_faulty : (l : Likeness) (p1 : Qualifiers) → alike l (source.Void p1) source.Faulty ≡ true
unfolding alike rows_alike hidden block.hidden-the_row-SourceType-0 block.hidden-the_row-SourceType-1
alike_void_faulty _ _ = refl

pub alike_int_void : (l : Likeness) (k1 : IntKind) (p1 : Qualifiers) (p2 : Qualifiers) → alike l (source.Int k1 p1) (source.Void p2) ≡ false
unfolding alike rows_alike hidden block.hidden-the_row-SourceType-0 block.hidden-the_row-SourceType-1
alike_int_void _ _ _ _ = refl

pub alike_int_int : (l : Likeness) (k1 : IntKind) (p1 : Qualifiers) (k2 : IntKind) (p2 : Qualifiers) → alike l (source.Int k1 p1) (source.Int k2 p2) ≡ same_kind k1 k2 && agree l p1 p2
unfolding alike rows_alike hidden block.hidden-the_row-SourceType-0 block.hidden-the_row-SourceType-1
alike_int_int _ _ _ _ _ = refl

pub alike_int_pointer : (l : Likeness) (k1 : IntKind) (p1 : Qualifiers) (t2 : SourceType) (p2 : Qualifiers) → alike l (source.Int k1 p1) (source.Pointer t2 p2) ≡ false
unfolding alike rows_alike hidden block.hidden-the_row-SourceType-0 block.hidden-the_row-SourceType-1
alike_int_pointer _ _ _ _ _ = refl

pub alike_int_array : (l : Likeness) (k1 : IntKind) (p1 : Qualifiers) (t2 : SourceType) (n2 : Extent) → alike l (source.Int k1 p1) (source.Array t2 n2) ≡ false
unfolding alike rows_alike hidden block.hidden-the_row-SourceType-0 block.hidden-the_row-SourceType-1
alike_int_array _ _ _ _ _ = refl

pub alike_int_struct : (l : Likeness) (k1 : IntKind) (p1 : Qualifiers) (s2 : StructId) (p2 : Qualifiers) → alike l (source.Int k1 p1) (source.Struct s2 p2) ≡ false
unfolding alike rows_alike hidden block.hidden-the_row-SourceType-0 block.hidden-the_row-SourceType-1
alike_int_struct _ _ _ _ _ = refl

pub alike_int_function : (l : Likeness) (k1 : IntKind) (p1 : Qualifiers) (t2 : SourceType) (ts2 : List SourceType) (v2 : Bool) → alike l (source.Int k1 p1) (source.Function t2 ts2 v2) ≡ false
unfolding alike rows_alike hidden block.hidden-the_row-SourceType-0 block.hidden-the_row-SourceType-1
alike_int_function _ _ _ _ _ _ = refl

pub alike_int_floating : (l : Likeness) (k1 : IntKind) (p1 : Qualifiers) (p2 : Qualifiers) → alike l (source.Int k1 p1) (source.Floating p2) ≡ false
unfolding alike rows_alike hidden block.hidden-the_row-SourceType-0 block.hidden-the_row-SourceType-1
alike_int_floating _ _ _ _ = refl

pub alike_int_faulty : (l : Likeness) (k1 : IntKind) (p1 : Qualifiers) → alike l (source.Int k1 p1) source.Faulty ≡ true
unfolding alike rows_alike hidden block.hidden-the_row-SourceType-0 block.hidden-the_row-SourceType-1
alike_int_faulty _ _ _ = refl

pub alike_pointer_void : (l : Likeness) (t1 : SourceType) (p1 : Qualifiers) (p2 : Qualifiers) → alike l (source.Pointer t1 p1) (source.Void p2) ≡ false
unfolding alike rows_alike hidden block.hidden-the_row-SourceType-0 block.hidden-the_row-SourceType-1
alike_pointer_void _ _ _ _ = refl

pub alike_pointer_int : (l : Likeness) (t1 : SourceType) (p1 : Qualifiers) (k2 : IntKind) (p2 : Qualifiers) → alike l (source.Pointer t1 p1) (source.Int k2 p2) ≡ false
unfolding alike rows_alike hidden block.hidden-the_row-SourceType-0 block.hidden-the_row-SourceType-1
alike_pointer_int _ _ _ _ _ = refl

pub alike_pointer_pointer : (l : Likeness) (t1 : SourceType) (p1 : Qualifiers) (t2 : SourceType) (p2 : Qualifiers) → alike l (source.Pointer t1 p1) (source.Pointer t2 p2) ≡ agree l p1 p2 && alike l t1 t2
unfolding alike rows_alike hidden block.hidden-the_row-SourceType-0 block.hidden-the_row-SourceType-1
alike_pointer_pointer _ _ _ _ _ = refl

pub alike_pointer_array : (l : Likeness) (t1 : SourceType) (p1 : Qualifiers) (t2 : SourceType) (n2 : Extent) → alike l (source.Pointer t1 p1) (source.Array t2 n2) ≡ false
unfolding alike rows_alike hidden block.hidden-the_row-SourceType-0 block.hidden-the_row-SourceType-1
alike_pointer_array _ _ _ _ _ = refl

pub alike_pointer_struct : (l : Likeness) (t1 : SourceType) (p1 : Qualifiers) (s2 : StructId) (p2 : Qualifiers) → alike l (source.Pointer t1 p1) (source.Struct s2 p2) ≡ false
unfolding alike rows_alike hidden block.hidden-the_row-SourceType-0 block.hidden-the_row-SourceType-1
alike_pointer_struct _ _ _ _ _ = refl

pub alike_pointer_function : (l : Likeness) (t1 : SourceType) (p1 : Qualifiers) (t2 : SourceType) (ts2 : List SourceType) (v2 : Bool) → alike l (source.Pointer t1 p1) (source.Function t2 ts2 v2) ≡ false
unfolding alike rows_alike hidden block.hidden-the_row-SourceType-0 block.hidden-the_row-SourceType-1
alike_pointer_function _ _ _ _ _ _ = refl

pub alike_pointer_floating : (l : Likeness) (t1 : SourceType) (p1 : Qualifiers) (p2 : Qualifiers) → alike l (source.Pointer t1 p1) (source.Floating p2) ≡ false
unfolding alike rows_alike hidden block.hidden-the_row-SourceType-0 block.hidden-the_row-SourceType-1
alike_pointer_floating _ _ _ _ = refl

pub alike_pointer_faulty : (l : Likeness) (t1 : SourceType) (p1 : Qualifiers) → alike l (source.Pointer t1 p1) source.Faulty ≡ true
unfolding alike rows_alike hidden block.hidden-the_row-SourceType-0 block.hidden-the_row-SourceType-1
alike_pointer_faulty _ _ _ = refl

pub alike_array_void : (l : Likeness) (t1 : SourceType) (n1 : Extent) (p2 : Qualifiers) → alike l (source.Array t1 n1) (source.Void p2) ≡ false
unfolding alike rows_alike hidden block.hidden-the_row-SourceType-0 block.hidden-the_row-SourceType-1
alike_array_void _ _ _ _ = refl

pub alike_array_int : (l : Likeness) (t1 : SourceType) (n1 : Extent) (k2 : IntKind) (p2 : Qualifiers) → alike l (source.Array t1 n1) (source.Int k2 p2) ≡ false
unfolding alike rows_alike hidden block.hidden-the_row-SourceType-0 block.hidden-the_row-SourceType-1
alike_array_int _ _ _ _ _ = refl

pub alike_array_pointer : (l : Likeness) (t1 : SourceType) (n1 : Extent) (t2 : SourceType) (p2 : Qualifiers) → alike l (source.Array t1 n1) (source.Pointer t2 p2) ≡ false
unfolding alike rows_alike hidden block.hidden-the_row-SourceType-0 block.hidden-the_row-SourceType-1
alike_array_pointer _ _ _ _ _ = refl

pub alike_array_array : (l : Likeness) (t1 : SourceType) (n1 : Extent) (t2 : SourceType) (n2 : Extent) → alike l (source.Array t1 n1) (source.Array t2 n2) ≡ same_extent l n1 n2 && alike l t1 t2
unfolding alike rows_alike hidden block.hidden-the_row-SourceType-0 block.hidden-the_row-SourceType-1
alike_array_array _ _ _ _ _ = refl

pub alike_array_struct : (l : Likeness) (t1 : SourceType) (n1 : Extent) (s2 : StructId) (p2 : Qualifiers) → alike l (source.Array t1 n1) (source.Struct s2 p2) ≡ false
unfolding alike rows_alike hidden block.hidden-the_row-SourceType-0 block.hidden-the_row-SourceType-1
alike_array_struct _ _ _ _ _ = refl

pub alike_array_function : (l : Likeness) (t1 : SourceType) (n1 : Extent) (t2 : SourceType) (ts2 : List SourceType) (v2 : Bool) → alike l (source.Array t1 n1) (source.Function t2 ts2 v2) ≡ false
unfolding alike rows_alike hidden block.hidden-the_row-SourceType-0 block.hidden-the_row-SourceType-1
alike_array_function _ _ _ _ _ _ = refl

pub alike_array_floating : (l : Likeness) (t1 : SourceType) (n1 : Extent) (p2 : Qualifiers) → alike l (source.Array t1 n1) (source.Floating p2) ≡ false
unfolding alike rows_alike hidden block.hidden-the_row-SourceType-0 block.hidden-the_row-SourceType-1
alike_array_floating _ _ _ _ = refl

pub alike_array_faulty : (l : Likeness) (t1 : SourceType) (n1 : Extent) → alike l (source.Array t1 n1) source.Faulty ≡ true
unfolding alike rows_alike hidden block.hidden-the_row-SourceType-0 block.hidden-the_row-SourceType-1
alike_array_faulty _ _ _ = refl

pub alike_struct_void : (l : Likeness) (s1 : StructId) (p1 : Qualifiers) (p2 : Qualifiers) → alike l (source.Struct s1 p1) (source.Void p2) ≡ false
unfolding alike rows_alike hidden block.hidden-the_row-SourceType-0 block.hidden-the_row-SourceType-1
alike_struct_void _ _ _ _ = refl

pub alike_struct_int : (l : Likeness) (s1 : StructId) (p1 : Qualifiers) (k2 : IntKind) (p2 : Qualifiers) → alike l (source.Struct s1 p1) (source.Int k2 p2) ≡ false
unfolding alike rows_alike hidden block.hidden-the_row-SourceType-0 block.hidden-the_row-SourceType-1
alike_struct_int _ _ _ _ _ = refl

pub alike_struct_pointer : (l : Likeness) (s1 : StructId) (p1 : Qualifiers) (t2 : SourceType) (p2 : Qualifiers) → alike l (source.Struct s1 p1) (source.Pointer t2 p2) ≡ false
unfolding alike rows_alike hidden block.hidden-the_row-SourceType-0 block.hidden-the_row-SourceType-1
alike_struct_pointer _ _ _ _ _ = refl

pub alike_struct_array : (l : Likeness) (s1 : StructId) (p1 : Qualifiers) (t2 : SourceType) (n2 : Extent) → alike l (source.Struct s1 p1) (source.Array t2 n2) ≡ false
unfolding alike rows_alike hidden block.hidden-the_row-SourceType-0 block.hidden-the_row-SourceType-1
alike_struct_array _ _ _ _ _ = refl

pub alike_struct_struct : (l : Likeness) (s1 : StructId) (p1 : Qualifiers) (s2 : StructId) (p2 : Qualifiers) → alike l (source.Struct s1 p1) (source.Struct s2 p2) ≡ (s1.0 == s2.0) && agree l p1 p2
unfolding alike rows_alike hidden block.hidden-the_row-SourceType-0 block.hidden-the_row-SourceType-1
alike_struct_struct _ _ _ _ _ = refl

pub alike_struct_function : (l : Likeness) (s1 : StructId) (p1 : Qualifiers) (t2 : SourceType) (ts2 : List SourceType) (v2 : Bool) → alike l (source.Struct s1 p1) (source.Function t2 ts2 v2) ≡ false
unfolding alike rows_alike hidden block.hidden-the_row-SourceType-0 block.hidden-the_row-SourceType-1
alike_struct_function _ _ _ _ _ _ = refl

pub alike_struct_floating : (l : Likeness) (s1 : StructId) (p1 : Qualifiers) (p2 : Qualifiers) → alike l (source.Struct s1 p1) (source.Floating p2) ≡ false
unfolding alike rows_alike hidden block.hidden-the_row-SourceType-0 block.hidden-the_row-SourceType-1
alike_struct_floating _ _ _ _ = refl

pub alike_struct_faulty : (l : Likeness) (s1 : StructId) (p1 : Qualifiers) → alike l (source.Struct s1 p1) source.Faulty ≡ true
unfolding alike rows_alike hidden block.hidden-the_row-SourceType-0 block.hidden-the_row-SourceType-1
alike_struct_faulty _ _ _ = refl

pub alike_function_void : (l : Likeness) (t1 : SourceType) (ts1 : List SourceType) (v1 : Bool) (p2 : Qualifiers) → alike l (source.Function t1 ts1 v1) (source.Void p2) ≡ false
unfolding alike rows_alike hidden block.hidden-the_row-SourceType-0 block.hidden-the_row-SourceType-1
alike_function_void _ _ _ _ _ = refl

pub alike_function_int : (l : Likeness) (t1 : SourceType) (ts1 : List SourceType) (v1 : Bool) (k2 : IntKind) (p2 : Qualifiers) → alike l (source.Function t1 ts1 v1) (source.Int k2 p2) ≡ false
unfolding alike rows_alike hidden block.hidden-the_row-SourceType-0 block.hidden-the_row-SourceType-1
alike_function_int _ _ _ _ _ _ = refl

pub alike_function_pointer : (l : Likeness) (t1 : SourceType) (ts1 : List SourceType) (v1 : Bool) (t2 : SourceType) (p2 : Qualifiers) → alike l (source.Function t1 ts1 v1) (source.Pointer t2 p2) ≡ false
unfolding alike rows_alike hidden block.hidden-the_row-SourceType-0 block.hidden-the_row-SourceType-1
alike_function_pointer _ _ _ _ _ _ = refl

pub alike_function_array : (l : Likeness) (t1 : SourceType) (ts1 : List SourceType) (v1 : Bool) (t2 : SourceType) (n2 : Extent) → alike l (source.Function t1 ts1 v1) (source.Array t2 n2) ≡ false
unfolding alike rows_alike hidden block.hidden-the_row-SourceType-0 block.hidden-the_row-SourceType-1
alike_function_array _ _ _ _ _ _ = refl

pub alike_function_struct : (l : Likeness) (t1 : SourceType) (ts1 : List SourceType) (v1 : Bool) (s2 : StructId) (p2 : Qualifiers) → alike l (source.Function t1 ts1 v1) (source.Struct s2 p2) ≡ false
unfolding alike rows_alike hidden block.hidden-the_row-SourceType-0 block.hidden-the_row-SourceType-1
alike_function_struct _ _ _ _ _ _ = refl

pub alike_function_function : (l : Likeness) (t1 : SourceType) (ts1 : List SourceType) (v1 : Bool) (t2 : SourceType) (ts2 : List SourceType) (v2 : Bool) → alike l (source.Function t1 ts1 v1) (source.Function t2 ts2 v2) ≡ same v1 v2 && (alike l t1 t2 && all_alike l ts1 ts2)
unfolding alike rows_alike hidden block.hidden-the_row-SourceType-0 block.hidden-the_row-SourceType-1
alike_function_function l t1 ts1 v1 t2 ts2 v2 = ap (λ x. same v1 v2 && (alike l t1 t2 && x)) (rows_are l ts1 ts2)

pub alike_function_floating : (l : Likeness) (t1 : SourceType) (ts1 : List SourceType) (v1 : Bool) (p2 : Qualifiers) → alike l (source.Function t1 ts1 v1) (source.Floating p2) ≡ false
unfolding alike rows_alike hidden block.hidden-the_row-SourceType-0 block.hidden-the_row-SourceType-1
alike_function_floating _ _ _ _ _ = refl

pub alike_function_faulty : (l : Likeness) (t1 : SourceType) (ts1 : List SourceType) (v1 : Bool) → alike l (source.Function t1 ts1 v1) source.Faulty ≡ true
unfolding alike rows_alike hidden block.hidden-the_row-SourceType-0 block.hidden-the_row-SourceType-1
alike_function_faulty _ _ _ _ = refl

pub alike_floating_void : (l : Likeness) (p1 : Qualifiers) (p2 : Qualifiers) → alike l (source.Floating p1) (source.Void p2) ≡ false
unfolding alike rows_alike hidden block.hidden-the_row-SourceType-0 block.hidden-the_row-SourceType-1
alike_floating_void _ _ _ = refl

pub alike_floating_int : (l : Likeness) (p1 : Qualifiers) (k2 : IntKind) (p2 : Qualifiers) → alike l (source.Floating p1) (source.Int k2 p2) ≡ false
unfolding alike rows_alike hidden block.hidden-the_row-SourceType-0 block.hidden-the_row-SourceType-1
alike_floating_int _ _ _ _ = refl

pub alike_floating_pointer : (l : Likeness) (p1 : Qualifiers) (t2 : SourceType) (p2 : Qualifiers) → alike l (source.Floating p1) (source.Pointer t2 p2) ≡ false
unfolding alike rows_alike hidden block.hidden-the_row-SourceType-0 block.hidden-the_row-SourceType-1
alike_floating_pointer _ _ _ _ = refl

pub alike_floating_array : (l : Likeness) (p1 : Qualifiers) (t2 : SourceType) (n2 : Extent) → alike l (source.Floating p1) (source.Array t2 n2) ≡ false
unfolding alike rows_alike hidden block.hidden-the_row-SourceType-0 block.hidden-the_row-SourceType-1
alike_floating_array _ _ _ _ = refl

pub alike_floating_struct : (l : Likeness) (p1 : Qualifiers) (s2 : StructId) (p2 : Qualifiers) → alike l (source.Floating p1) (source.Struct s2 p2) ≡ false
unfolding alike rows_alike hidden block.hidden-the_row-SourceType-0 block.hidden-the_row-SourceType-1
alike_floating_struct _ _ _ _ = refl

pub alike_floating_function : (l : Likeness) (p1 : Qualifiers) (t2 : SourceType) (ts2 : List SourceType) (v2 : Bool) → alike l (source.Floating p1) (source.Function t2 ts2 v2) ≡ false
unfolding alike rows_alike hidden block.hidden-the_row-SourceType-0 block.hidden-the_row-SourceType-1
alike_floating_function _ _ _ _ _ = refl

pub alike_floating_floating : (l : Likeness) (p1 : Qualifiers) (p2 : Qualifiers) → alike l (source.Floating p1) (source.Floating p2) ≡ agree l p1 p2
unfolding alike rows_alike hidden block.hidden-the_row-SourceType-0 block.hidden-the_row-SourceType-1
alike_floating_floating _ _ _ = refl

pub alike_floating_faulty : (l : Likeness) (p1 : Qualifiers) → alike l (source.Floating p1) source.Faulty ≡ true
unfolding alike rows_alike hidden block.hidden-the_row-SourceType-0 block.hidden-the_row-SourceType-1
alike_floating_faulty _ _ = refl

pub alike_faulty_void : (l : Likeness) (p2 : Qualifiers) → alike l source.Faulty (source.Void p2) ≡ true
unfolding alike rows_alike hidden block.hidden-the_row-SourceType-0 block.hidden-the_row-SourceType-1
alike_faulty_void _ _ = refl

pub alike_faulty_int : (l : Likeness) (k2 : IntKind) (p2 : Qualifiers) → alike l source.Faulty (source.Int k2 p2) ≡ true
unfolding alike rows_alike hidden block.hidden-the_row-SourceType-0 block.hidden-the_row-SourceType-1
alike_faulty_int _ _ _ = refl

pub alike_faulty_pointer : (l : Likeness) (t2 : SourceType) (p2 : Qualifiers) → alike l source.Faulty (source.Pointer t2 p2) ≡ true
unfolding alike rows_alike hidden block.hidden-the_row-SourceType-0 block.hidden-the_row-SourceType-1
alike_faulty_pointer _ _ _ = refl

pub alike_faulty_array : (l : Likeness) (t2 : SourceType) (n2 : Extent) → alike l source.Faulty (source.Array t2 n2) ≡ true
unfolding alike rows_alike hidden block.hidden-the_row-SourceType-0 block.hidden-the_row-SourceType-1
alike_faulty_array _ _ _ = refl

pub alike_faulty_struct : (l : Likeness) (s2 : StructId) (p2 : Qualifiers) → alike l source.Faulty (source.Struct s2 p2) ≡ true
unfolding alike rows_alike hidden block.hidden-the_row-SourceType-0 block.hidden-the_row-SourceType-1
alike_faulty_struct _ _ _ = refl

pub alike_faulty_function : (l : Likeness) (t2 : SourceType) (ts2 : List SourceType) (v2 : Bool) → alike l source.Faulty (source.Function t2 ts2 v2) ≡ true
unfolding alike rows_alike hidden block.hidden-the_row-SourceType-0 block.hidden-the_row-SourceType-1
alike_faulty_function _ _ _ _ = refl

pub alike_faulty_floating : (l : Likeness) (p2 : Qualifiers) → alike l source.Faulty (source.Floating p2) ≡ true
unfolding alike rows_alike hidden block.hidden-the_row-SourceType-0 block.hidden-the_row-SourceType-1
alike_faulty_floating _ _ = refl

pub alike_faulty_faulty : (l : Likeness) → alike l source.Faulty source.Faulty ≡ true
unfolding alike rows_alike hidden block.hidden-the_row-SourceType-0 block.hidden-the_row-SourceType-1
alike_faulty_faulty _ = refl

pub ruleset alike_equations = (alike_void_void, alike_void_int, alike_void_pointer, alike_void_array, alike_void_struct, alike_void_function, alike_void_floating, alike_void_faulty, alike_int_void, alike_int_int, alike_int_pointer, alike_int_array, alike_int_struct, alike_int_function, alike_int_floating, alike_int_faulty, alike_pointer_void, alike_pointer_int, alike_pointer_pointer, alike_pointer_array, alike_pointer_struct, alike_pointer_function, alike_pointer_floating, alike_pointer_faulty, alike_array_void, alike_array_int, alike_array_pointer, alike_array_array, alike_array_struct, alike_array_function, alike_array_floating, alike_array_faulty, alike_struct_void, alike_struct_int, alike_struct_pointer, alike_struct_array, alike_struct_struct, alike_struct_function, alike_struct_floating, alike_struct_faulty, alike_function_void, alike_function_int, alike_function_pointer, alike_function_array, alike_function_struct, alike_function_function, alike_function_floating, alike_function_faulty, alike_floating_void, alike_floating_int, alike_floating_pointer, alike_floating_array, alike_floating_struct, alike_floating_function, alike_floating_floating, alike_floating_faulty, alike_faulty_void, alike_faulty_int, alike_faulty_pointer, alike_faulty_array, alike_faulty_struct, alike_faulty_function, alike_faulty_floating, alike_faulty_faulty)

pub qualifiers_void : (p : Qualifiers) → qualifiers_of (source.Void p) ≡ p
unfolding qualifiers_of hidden block.hidden-the_row-SourceType-0
qualifiers_void _ = refl

pub qualifiers_int : (k : IntKind) (p : Qualifiers) → qualifiers_of (source.Int k p) ≡ p
unfolding qualifiers_of hidden block.hidden-the_row-SourceType-0
qualifiers_int _ _ = refl

pub qualifiers_pointer : (t : SourceType) (p : Qualifiers) → qualifiers_of (source.Pointer t p) ≡ p
unfolding qualifiers_of hidden block.hidden-the_row-SourceType-0
qualifiers_pointer _ _ = refl

pub qualifiers_array : (t : SourceType) (n : Extent) → qualifiers_of (source.Array t n) ≡ qualifiers_of t
unfolding qualifiers_of hidden block.hidden-the_row-SourceType-0
qualifiers_array _ _ = refl

pub qualifiers_struct : (s : StructId) (p : Qualifiers) → qualifiers_of (source.Struct s p) ≡ p
unfolding qualifiers_of hidden block.hidden-the_row-SourceType-0
qualifiers_struct _ _ = refl

pub qualifiers_function : (t : SourceType) (ts : List SourceType) (v : Bool) → qualifiers_of (source.Function t ts v) ≡ no_qualifiers
unfolding qualifiers_of hidden block.hidden-the_row-SourceType-0
qualifiers_function _ _ _ = refl

pub qualifiers_floating : (p : Qualifiers) → qualifiers_of (source.Floating p) ≡ p
unfolding qualifiers_of hidden block.hidden-the_row-SourceType-0
qualifiers_floating _ = refl

pub qualifiers_faulty : qualifiers_of source.Faulty ≡ no_qualifiers
unfolding qualifiers_of hidden block.hidden-the_row-SourceType-0
qualifiers_faulty = refl

pub ruleset qualifiers_equations = (qualifiers_void, qualifiers_int, qualifiers_pointer, qualifiers_array, qualifiers_struct, qualifiers_function, qualifiers_floating, qualifiers_faulty)

pub qualified_void : (q : Qualifiers) (p : Qualifiers) → qualified q (source.Void p) ≡ source.Void (both q p)
unfolding qualified hidden block.hidden-the_row-SourceType-0
qualified_void _ _ = refl

pub qualified_int : (q : Qualifiers) (k : IntKind) (p : Qualifiers) → qualified q (source.Int k p) ≡ source.Int k (both q p)
unfolding qualified hidden block.hidden-the_row-SourceType-0
qualified_int _ _ _ = refl

pub qualified_pointer : (q : Qualifiers) (t : SourceType) (p : Qualifiers) → qualified q (source.Pointer t p) ≡ source.Pointer t (both q p)
unfolding qualified hidden block.hidden-the_row-SourceType-0
qualified_pointer _ _ _ = refl

pub qualified_array : (q : Qualifiers) (t : SourceType) (n : Extent) → qualified q (source.Array t n) ≡ source.Array (qualified q t) n
unfolding qualified hidden block.hidden-the_row-SourceType-0
qualified_array _ _ _ = refl

pub qualified_struct : (q : Qualifiers) (s : StructId) (p : Qualifiers) → qualified q (source.Struct s p) ≡ source.Struct s (both q p)
unfolding qualified hidden block.hidden-the_row-SourceType-0
qualified_struct _ _ _ = refl

pub qualified_function : (q : Qualifiers) (t : SourceType) (ts : List SourceType) (v : Bool) → qualified q (source.Function t ts v) ≡ source.Function t ts v
unfolding qualified hidden block.hidden-the_row-SourceType-0
qualified_function _ _ _ _ = refl

pub qualified_floating : (q : Qualifiers) (p : Qualifiers) → qualified q (source.Floating p) ≡ source.Floating (both q p)
unfolding qualified hidden block.hidden-the_row-SourceType-0
qualified_floating _ _ = refl

pub qualified_faulty : (q : Qualifiers) → qualified q source.Faulty ≡ source.Faulty
unfolding qualified hidden block.hidden-the_row-SourceType-0
qualified_faulty _ = refl

pub ruleset qualified_equations = (qualified_void, qualified_int, qualified_pointer, qualified_array, qualified_struct, qualified_function, qualified_floating, qualified_faulty)

pub unqualified_void : (p : Qualifiers) → unqualified (source.Void p) ≡ source.Void no_qualifiers
unfolding unqualified hidden block.hidden-the_row-SourceType-0
unqualified_void _ = refl

pub unqualified_int : (k : IntKind) (p : Qualifiers) → unqualified (source.Int k p) ≡ source.Int k no_qualifiers
unfolding unqualified hidden block.hidden-the_row-SourceType-0
unqualified_int _ _ = refl

pub unqualified_pointer : (t : SourceType) (p : Qualifiers) → unqualified (source.Pointer t p) ≡ source.Pointer t no_qualifiers
unfolding unqualified hidden block.hidden-the_row-SourceType-0
unqualified_pointer _ _ = refl

pub unqualified_array : (t : SourceType) (n : Extent) → unqualified (source.Array t n) ≡ source.Array t n
unfolding unqualified hidden block.hidden-the_row-SourceType-0
unqualified_array _ _ = refl

pub unqualified_struct : (s : StructId) (p : Qualifiers) → unqualified (source.Struct s p) ≡ source.Struct s no_qualifiers
unfolding unqualified hidden block.hidden-the_row-SourceType-0
unqualified_struct _ _ = refl

pub unqualified_function : (t : SourceType) (ts : List SourceType) (v : Bool) → unqualified (source.Function t ts v) ≡ source.Function t ts v
unfolding unqualified hidden block.hidden-the_row-SourceType-0
unqualified_function _ _ _ = refl

pub unqualified_floating : (p : Qualifiers) → unqualified (source.Floating p) ≡ source.Floating no_qualifiers
unfolding unqualified hidden block.hidden-the_row-SourceType-0
unqualified_floating _ = refl

pub unqualified_faulty : unqualified source.Faulty ≡ source.Faulty
unfolding unqualified hidden block.hidden-the_row-SourceType-0
unqualified_faulty = refl

pub ruleset unqualified_equations = (unqualified_void, unqualified_int, unqualified_pointer, unqualified_array, unqualified_struct, unqualified_function, unqualified_floating, unqualified_faulty)

pub ctype_void : (p : Qualifiers) → ctype_of (source.Void p) ≡ ctype.Void
unfolding ctype_of hidden block.hidden-the_row-SourceType-0
ctype_void _ = refl

pub ctype_int : (k : IntKind) (p : Qualifiers) → ctype_of (source.Int k p) ≡ ctype.Int k p.is_volatile
unfolding ctype_of hidden block.hidden-the_row-SourceType-0
ctype_int _ _ = refl

pub ctype_pointer : (t : SourceType) (p : Qualifiers) → ctype_of (source.Pointer t p) ≡ ctype.Ptr (ctype_of t)
unfolding ctype_of hidden block.hidden-the_row-SourceType-0
ctype_pointer _ _ = refl

pub ctype_array : (t : SourceType) (n : Extent) → ctype_of (source.Array t n) ≡ array_of (ctype_of t) n
unfolding ctype_of hidden block.hidden-the_row-SourceType-0
ctype_array _ _ = refl

pub ctype_struct : (s : StructId) (p : Qualifiers) → ctype_of (source.Struct s p) ≡ ctype.Struct s
unfolding ctype_of hidden block.hidden-the_row-SourceType-0
ctype_struct _ _ = refl

pub ctype_function : (t : SourceType) (ts : List SourceType) (v : Bool) → ctype_of (source.Function t ts v) ≡ ctype.Unusable
unfolding ctype_of hidden block.hidden-the_row-SourceType-0
ctype_function _ _ _ = refl

pub ctype_floating : (p : Qualifiers) → ctype_of (source.Floating p) ≡ ctype.Unusable
unfolding ctype_of hidden block.hidden-the_row-SourceType-0
ctype_floating _ = refl

pub ctype_faulty : ctype_of source.Faulty ≡ ctype.Unusable
unfolding ctype_of hidden block.hidden-the_row-SourceType-0
ctype_faulty = refl

pub ruleset ctype_equations = (ctype_void, ctype_int, ctype_pointer, ctype_array, ctype_struct, ctype_function, ctype_floating, ctype_faulty)

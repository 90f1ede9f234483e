-- pointed, element, length_of_array at each variant; written by tools/equations.py.
use Rattle.std.specs.Prelude.{◌≡◌, ℕ, Bool, Some, None}
use Rattle.c_types.specs.declared.types.IntKind.{IntKind}
use Rattle.c_types.specs.declared.types.CType.{CType}
use Rattle.c_types.specs.declared.types.CType.TheVariants.{Int, Struct}
use Rattle.c_meaning.specs.PlaceTypes.{pointed, element, length_of_array}
use Rattle.std.specs.Prelude.{refl}
use Rattle.c_types.specs.declared.types.StructId.{StructId}
use Rattle.c_types.specs.declared.types.CType.TheVariants as in_CType
use denote.Hole.Carrier.{hidden}
use Rattle.c_types.specs.declared.types.CType.TheBlock.{hidden-the_row-CType-0}

pub pointed_ptr : (to : CType) → pointed (in_CType.Ptr to) ≡ Some to
unfolding pointed element length_of_array hidden hidden-the_row-CType-0
pointed_ptr _ = refl

pub pointed_void : pointed in_CType.Void ≡ None
unfolding pointed element length_of_array hidden hidden-the_row-CType-0
pointed_void = refl

pub pointed_int : (x1 : IntKind) (x2 : Bool) → pointed (in_CType.Int x1 x2) ≡ None
unfolding pointed element length_of_array hidden hidden-the_row-CType-0
pointed_int _ _ = refl

pub pointed_array : (x3 : CType) (x4 : ℕ) → pointed (in_CType.Array x3 x4) ≡ None
unfolding pointed element length_of_array hidden hidden-the_row-CType-0
pointed_array _ _ = refl

pub pointed_struct : (x5 : StructId) → pointed (in_CType.Struct x5) ≡ None
unfolding pointed element length_of_array hidden hidden-the_row-CType-0
pointed_struct _ = refl

pub pointed_unusable : pointed in_CType.Unusable ≡ None
unfolding pointed element length_of_array hidden hidden-the_row-CType-0
pointed_unusable = refl

pub element_array : (t : CType) (n : ℕ) → element (in_CType.Array t n) ≡ Some t
unfolding pointed element length_of_array hidden hidden-the_row-CType-0
element_array _ _ = refl

pub element_void : element in_CType.Void ≡ None
unfolding pointed element length_of_array hidden hidden-the_row-CType-0
element_void = refl

pub element_int : (x1 : IntKind) (x2 : Bool) → element (in_CType.Int x1 x2) ≡ None
unfolding pointed element length_of_array hidden hidden-the_row-CType-0
element_int _ _ = refl

pub element_ptr : (x3 : CType) → element (in_CType.Ptr x3) ≡ None
unfolding pointed element length_of_array hidden hidden-the_row-CType-0
element_ptr _ = refl

pub element_struct : (x4 : StructId) → element (in_CType.Struct x4) ≡ None
unfolding pointed element length_of_array hidden hidden-the_row-CType-0
element_struct _ = refl

pub element_unusable : element in_CType.Unusable ≡ None
unfolding pointed element length_of_array hidden hidden-the_row-CType-0
element_unusable = refl

pub length_of_array_array : (t : CType) (n : ℕ) → length_of_array (in_CType.Array t n) ≡ n
unfolding pointed element length_of_array hidden hidden-the_row-CType-0
length_of_array_array _ _ = refl

pub length_of_array_void : length_of_array in_CType.Void ≡ 0
unfolding pointed element length_of_array hidden hidden-the_row-CType-0
length_of_array_void = refl

pub length_of_array_int : (x1 : IntKind) (x2 : Bool) → length_of_array (in_CType.Int x1 x2) ≡ 0
unfolding pointed element length_of_array hidden hidden-the_row-CType-0
length_of_array_int _ _ = refl

pub length_of_array_ptr : (x3 : CType) → length_of_array (in_CType.Ptr x3) ≡ 0
unfolding pointed element length_of_array hidden hidden-the_row-CType-0
length_of_array_ptr _ = refl

pub length_of_array_struct : (x4 : StructId) → length_of_array (in_CType.Struct x4) ≡ 0
unfolding pointed element length_of_array hidden hidden-the_row-CType-0
length_of_array_struct _ = refl

pub length_of_array_unusable : length_of_array in_CType.Unusable ≡ 0
unfolding pointed element length_of_array hidden hidden-the_row-CType-0
length_of_array_unusable = refl

pub ruleset part_equations = (pointed_ptr, pointed_void, pointed_int, pointed_array, pointed_struct, pointed_unusable, element_array, element_void, element_int, element_ptr, element_struct, element_unusable, length_of_array_array, length_of_array_void, length_of_array_int, length_of_array_ptr, length_of_array_struct, length_of_array_unusable)

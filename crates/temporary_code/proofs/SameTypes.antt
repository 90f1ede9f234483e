-- Whether two types are the same, at each two variants.
use Rattle.std.specs.Prelude.{◌≡◌, ℕ, Bool, true, false, ◌&&◌, nat_eq, refl}
use Rattle.c_types.specs.declared.types.IntKind.{IntKind}
use Rattle.c_types.specs.declared.types.StructId.{StructId}
use Rattle.c_types.specs.declared.types.CType.{CType}
use Rattle.c_types.specs.declared.types.CType.TheVariants as ctype
use Rattle.temporary_code.specs.Temporaries.{kind_number, same_bool, same}
use denote.Hole.Carrier.{hidden}
use Rattle.c_types.specs.declared.types.CType.TheBlock.{hidden-the_row-CType-0}

pub same_void_void : same ctype.Void ctype.Void ≡ true
unfolding same hidden hidden-the_row-CType-0
same_void_void = refl

pub same_void_int : (l : IntKind) (w : Bool) → same ctype.Void (ctype.Int l w) ≡ false
unfolding same hidden hidden-the_row-CType-0
same_void_int _ _ = refl

pub same_void_ptr : (b : CType) → same ctype.Void (ctype.Ptr b) ≡ false
unfolding same hidden hidden-the_row-CType-0
same_void_ptr _ = refl

pub same_void_array : (b : CType) (m : ℕ) → same ctype.Void (ctype.Array b m) ≡ false
unfolding same hidden hidden-the_row-CType-0
same_void_array _ _ = refl

pub same_void_struct : (j : StructId) → same ctype.Void (ctype.Struct j) ≡ false
unfolding same hidden hidden-the_row-CType-0
same_void_struct _ = refl

pub same_void_unusable : same ctype.Void ctype.Unusable ≡ false
unfolding same hidden hidden-the_row-CType-0
same_void_unusable = refl

pub same_int_void : (k : IntKind) (v : Bool) → same (ctype.Int k v) ctype.Void ≡ false
unfolding same hidden hidden-the_row-CType-0
same_int_void _ _ = refl

pub same_int_int : (k : IntKind) (v : Bool) (l : IntKind) (w : Bool) → same (ctype.Int k v) (ctype.Int l w) ≡ nat_eq (kind_number k) (kind_number l) && same_bool v w
unfolding same hidden hidden-the_row-CType-0
same_int_int _ _ _ _ = refl

pub same_int_ptr : (k : IntKind) (v : Bool) (b : CType) → same (ctype.Int k v) (ctype.Ptr b) ≡ false
unfolding same hidden hidden-the_row-CType-0
same_int_ptr _ _ _ = refl

pub same_int_array : (k : IntKind) (v : Bool) (b : CType) (m : ℕ) → same (ctype.Int k v) (ctype.Array b m) ≡ false
unfolding same hidden hidden-the_row-CType-0
same_int_array _ _ _ _ = refl

pub same_int_struct : (k : IntKind) (v : Bool) (j : StructId) → same (ctype.Int k v) (ctype.Struct j) ≡ false
unfolding same hidden hidden-the_row-CType-0
same_int_struct _ _ _ = refl

pub same_int_unusable : (k : IntKind) (v : Bool) → same (ctype.Int k v) ctype.Unusable ≡ false
unfolding same hidden hidden-the_row-CType-0
same_int_unusable _ _ = refl

pub same_ptr_void : (a : CType) → same (ctype.Ptr a) ctype.Void ≡ false
unfolding same hidden hidden-the_row-CType-0
same_ptr_void _ = refl

pub same_ptr_int : (a : CType) (l : IntKind) (w : Bool) → same (ctype.Ptr a) (ctype.Int l w) ≡ false
unfolding same hidden hidden-the_row-CType-0
same_ptr_int _ _ _ = refl

pub same_ptr_ptr : (a : CType) (b : CType) → same (ctype.Ptr a) (ctype.Ptr b) ≡ same a b
unfolding same hidden hidden-the_row-CType-0
same_ptr_ptr _ _ = refl

pub same_ptr_array : (a : CType) (b : CType) (m : ℕ) → same (ctype.Ptr a) (ctype.Array b m) ≡ false
unfolding same hidden hidden-the_row-CType-0
same_ptr_array _ _ _ = refl

pub same_ptr_struct : (a : CType) (j : StructId) → same (ctype.Ptr a) (ctype.Struct j) ≡ false
unfolding same hidden hidden-the_row-CType-0
same_ptr_struct _ _ = refl

pub same_ptr_unusable : (a : CType) → same (ctype.Ptr a) ctype.Unusable ≡ false
unfolding same hidden hidden-the_row-CType-0
same_ptr_unusable _ = refl

pub same_array_void : (a : CType) (n : ℕ) → same (ctype.Array a n) ctype.Void ≡ false
unfolding same hidden hidden-the_row-CType-0
same_array_void _ _ = refl

pub same_array_int : (a : CType) (n : ℕ) (l : IntKind) (w : Bool) → same (ctype.Array a n) (ctype.Int l w) ≡ false
unfolding same hidden hidden-the_row-CType-0
same_array_int _ _ _ _ = refl

pub same_array_ptr : (a : CType) (n : ℕ) (b : CType) → same (ctype.Array a n) (ctype.Ptr b) ≡ false
unfolding same hidden hidden-the_row-CType-0
same_array_ptr _ _ _ = refl

pub same_array_array : (a : CType) (n : ℕ) (b : CType) (m : ℕ) → same (ctype.Array a n) (ctype.Array b m) ≡ nat_eq n m && same a b
unfolding same hidden hidden-the_row-CType-0
same_array_array _ _ _ _ = refl

pub same_array_struct : (a : CType) (n : ℕ) (j : StructId) → same (ctype.Array a n) (ctype.Struct j) ≡ false
unfolding same hidden hidden-the_row-CType-0
same_array_struct _ _ _ = refl

pub same_array_unusable : (a : CType) (n : ℕ) → same (ctype.Array a n) ctype.Unusable ≡ false
unfolding same hidden hidden-the_row-CType-0
same_array_unusable _ _ = refl

pub same_struct_void : (i : StructId) → same (ctype.Struct i) ctype.Void ≡ false
unfolding same hidden hidden-the_row-CType-0
same_struct_void _ = refl

pub same_struct_int : (i : StructId) (l : IntKind) (w : Bool) → same (ctype.Struct i) (ctype.Int l w) ≡ false
unfolding same hidden hidden-the_row-CType-0
same_struct_int _ _ _ = refl

pub same_struct_ptr : (i : StructId) (b : CType) → same (ctype.Struct i) (ctype.Ptr b) ≡ false
unfolding same hidden hidden-the_row-CType-0
same_struct_ptr _ _ = refl

pub same_struct_array : (i : StructId) (b : CType) (m : ℕ) → same (ctype.Struct i) (ctype.Array b m) ≡ false
unfolding same hidden hidden-the_row-CType-0
same_struct_array _ _ _ = refl

pub same_struct_struct : (i : StructId) (j : StructId) → same (ctype.Struct i) (ctype.Struct j) ≡ nat_eq i.0 j.0
unfolding same hidden hidden-the_row-CType-0
same_struct_struct _ _ = refl

pub same_struct_unusable : (i : StructId) → same (ctype.Struct i) ctype.Unusable ≡ false
unfolding same hidden hidden-the_row-CType-0
same_struct_unusable _ = refl

pub same_unusable_void : same ctype.Unusable ctype.Void ≡ false
unfolding same hidden hidden-the_row-CType-0
same_unusable_void = refl

pub same_unusable_int : (l : IntKind) (w : Bool) → same ctype.Unusable (ctype.Int l w) ≡ false
unfolding same hidden hidden-the_row-CType-0
same_unusable_int _ _ = refl

pub same_unusable_ptr : (b : CType) → same ctype.Unusable (ctype.Ptr b) ≡ false
unfolding same hidden hidden-the_row-CType-0
same_unusable_ptr _ = refl

pub same_unusable_array : (b : CType) (m : ℕ) → same ctype.Unusable (ctype.Array b m) ≡ false
unfolding same hidden hidden-the_row-CType-0
same_unusable_array _ _ = refl

pub same_unusable_struct : (j : StructId) → same ctype.Unusable (ctype.Struct j) ≡ false
unfolding same hidden hidden-the_row-CType-0
same_unusable_struct _ = refl

pub same_unusable_unusable : same ctype.Unusable ctype.Unusable ≡ true
unfolding same hidden hidden-the_row-CType-0
same_unusable_unusable = refl

pub ruleset same_types = (same_void_void, same_void_int, same_void_ptr, same_void_array, same_void_struct, same_void_unusable, same_int_void, same_int_int, same_int_ptr, same_int_array, same_int_struct, same_int_unusable, same_ptr_void, same_ptr_int, same_ptr_ptr, same_ptr_array, same_ptr_struct, same_ptr_unusable, same_array_void, same_array_int, same_array_ptr, same_array_array, same_array_struct, same_array_unusable, same_struct_void, same_struct_int, same_struct_ptr, same_struct_array, same_struct_struct, same_struct_unusable, same_unusable_void, same_unusable_int, same_unusable_ptr, same_unusable_array, same_unusable_struct, same_unusable_unusable)

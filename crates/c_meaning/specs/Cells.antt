-- The values that bits of an object stand for (C11 6.2.6).
use Rattle.std.specs.Prelude.{ℕ, ◌+◌, ◌-◌, ◌*◌, ◌^◌, nat_eq, nat_le, ℤ, pos, ◌-ℤ◌, Bool, true, false, ◌&&◌, ◌||◌, if◌then◌else◌, List, [], ◌∷◌, length, map, Result, Ok, Err}
use Rattle.std.specs.List.{list_any, range_with_len}
use Rattle.std.specs.Ordering.{int_eq}
use Rattle.c_types.specs.declared.types.IntKind.{IntKind}
use Rattle.c_types.specs.declared.types.IntKind.TheVariants as kind
use Rattle.c_types.specs.declared.types.CType.{CType}
use Rattle.c_types.specs.declared.types.CType.TheVariants.{Int}
use Rattle.c_types.specs.Integers.{is_signed}
use Rattle.program.specs.declared.sites.Kind.{Kind}
use Rattle.program.specs.declared.sites.Kind.TheVariants.{Initialization, Dangling as DanglingRead, PointerBytes}
use Rattle.c_arithmetic.specs.Arithmetic.{IsPlain}
use Rattle.c_memory.specs.Cells.{bit_of}
use Rattle.c_memory.specs.declared.cells.Cell.{Cell}
use Rattle.c_memory.specs.declared.cells.Cell.TheVariants.{Uninit, Dangling, Bit, Ptr}
use Rattle.c_meaning.specs.declared.value.Value.{Value}
use Rattle.c_meaning.specs.declared.value.Value.TheVariants.{Number, Pointer}

-- ---- values as cells

-- the lowest n bits of a number, the lowest first
abbrev pub number_cells : ℕ → ℤ → List Cell
number_cells n x = map (λ j. Bit (bit_of x j)) (range_with_len 0 n)

-- the 64 bits of a pointer
abbrev pub pointer_cells : ℕ → ℤ → List Cell
pointer_cells base offset = map (λ j. Ptr base offset j) (range_with_len 0 64)

-- a value as n bits; a pointer has 64
abbrev pub value_cells : ℕ → Value → List Cell
value_cells n (Number x) = number_cells n x
value_cells n (Pointer base offset) = pointer_cells base offset

-- ---- cells as values

abbrev pub is_uninit : Cell → Bool
is_uninit Uninit = true
is_uninit _ = false

abbrev pub is_dangling : Cell → Bool
is_dangling Dangling = true
is_dangling _ = false

abbrev pub is_pointer_bit : Cell → Bool
is_pointer_bit (Ptr base offset bit) = true
is_pointer_bit _ = false

-- the bit 1
abbrev pub is_set : Cell → Bool
is_set (Bit b) = b
is_set _ = false

-- the number that bits spell, the lowest first
abbrev pub spelled : List Cell → ℕ
spelled [] = 0
spelled (c ∷ cs) = (if is_set c then 1 else 0) + 2 * spelled cs

-- 6.2.6.2p2: the number of n bits as one of a signed or unsigned type of this width
abbrev pub interpreted : Bool → ℕ → ℕ → ℤ
interpreted signed n v = if signed && nat_le (2 ^ (n - 1)) v then pos v -ℤ pos (2 ^ n) else pos v

-- a number read as a kind; 6.3.1.2: as `_Bool` it is 0 or 1
abbrev pub number_of : IntKind → List Cell → ℤ
number_of kind.Bool cells = if nat_eq (spelled cells) 0 then pos 0 else pos 1
number_of k cells = interpreted (is_signed k) (length cells) (spelled cells)

-- the bits of one pointer, from bit j on
abbrev pub are_bits_from : ℕ → ℤ → ℕ → List Cell → Bool
are_bits_from base offset j [] = true
are_bits_from base offset j (Ptr b o i ∷ cells) = nat_eq b base && int_eq o offset && nat_eq i j && are_bits_from base offset (j + 1) cells
are_bits_from base offset j (c ∷ cells) = false

-- a whole pointer; bits that are all 0 are null, which is the number 0
abbrev pub pointer_of : List Cell → Result Value Kind
pointer_of (Ptr base offset i ∷ cells) =
    if nat_eq (length cells) 63 && are_bits_from base offset 0 (Ptr base offset i ∷ cells) then Ok (Pointer base offset) else Err PointerBytes
pointer_of cells = if list_any is_pointer_bit cells || list_any is_set cells then Err PointerBytes else Ok (Number (pos 0))

-- initialised bits as a value of a type
abbrev pub defined_as : CType → List Cell → Result Value Kind
defined_as (Int k volatile) cells = if list_any is_pointer_bit cells then Err PointerBytes else Ok (Number (number_of k cells))
defined_as _ cells = pointer_of cells

-- 6.3.2.1p2: the value of a scalar type that cells hold. An uninitialised bit comes before one of an
-- object that is gone, and that before bits of a pointer that aren't read whole as one.
unfoldable pub held : CType → List Cell → Result Value Kind
held t cells =
    if list_any is_uninit cells then Err Initialization
    else (if list_any is_dangling cells then Err DanglingRead else defined_as t cells)

-- a number of some integer type, or a pointer
abbrev pub IsPlainValue : Value → Type 0
IsPlainValue (Number v) = IsPlain v
IsPlainValue (Pointer base offset) = Unit {0}

-- Accesses to memories, and pointers into their objects.
use Rattle.std.specs.Prelude.{ℕ, ◌+◌, ◌*◌, nat_le, ℤ, pos, int_le, unsigned_abs, Bool, false, ◌&&◌, if◌then◌else◌, List, length, slice_range, Option, Some, None, Result, Ok, Err}
use Rattle.program.specs.declared.sites.Kind.{Kind}
use Rattle.program.specs.declared.sites.Kind.TheVariants.{MemAccess, PointerArithmetic}
use Rattle.c_memory.specs.declared.cells.Cell.{Cell}
use Rattle.c_memory.specs.declared.memory.Object.{Object}
use Rattle.c_memory.specs.Memory.{object, put}
use Rattle.c_meaning.specs.declared.value.Value.{Value}
use Rattle.c_meaning.specs.declared.value.Value.TheVariants.{Pointer}
use Rattle.c_meaning.specs.declared.value.BitAddress.{BitAddress}
use Rattle.c_arithmetic.specs.Arithmetic.{and_then}

-- ---- reading and writing

-- n bits from a place on lie wholly in an object of this size
abbrev pub is_within : ℕ → ℤ → ℕ → Bool
is_within size bit n = int_le (pos 0) bit && nat_le (unsigned_abs bit + n) size

abbrev pub bits_within : Option (List Cell) → ℤ → ℕ → Result (List Cell) Kind
bits_within None bit n = Err MemAccess
bits_within (Some cells) bit n = if is_within (length cells) bit n then Ok (slice_range cells (unsigned_abs bit) (unsigned_abs bit + n)) else Err MemAccess

-- the n bits from a place on; an access that isn't wholly in its object is undefined
abbrev pub accessed : List Object → BitAddress → ℕ → Result (List Cell) Kind
accessed m at n = bits_within (object m at.base) at.bit n

-- the memory after a write
abbrev pub written : List Object → BitAddress → List Cell → Result (List Object) Kind
written m at new = and_then (accessed m at (length new)) (λ old. Ok (put m at.base (unsigned_abs at.bit) new))

-- ---- pointers

abbrev pub size_of_object : Option (List Cell) → ℕ
size_of_object None = 0
size_of_object (Some cells) = length cells

-- 6.5.6p8: a pointer into an object or one past its end, by an offset in bytes
abbrev pub in_or_past : Option (List Cell) → ℤ → Bool
in_or_past None byte = false
in_or_past (Some cells) byte = int_le (pos 0) byte && nat_le (8 * unsigned_abs byte) (length cells)

abbrev pub pointer_to : List Object → ℕ → ℤ → Result Value Kind
pointer_to m base byte = if in_or_past (object m base) byte then Ok (Pointer base byte) else Err PointerArithmetic

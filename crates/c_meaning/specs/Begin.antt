-- The described initial states of a function, made from picks: static objects by their initialisers
-- (C11 6.7.9p10), and free integers and pointers of objects that come from outside.
use Rattle.std.specs.Prelude.{◌≡◌, ℕ, zero, suc, ◌+◌, ◌≤◌, ℤ, pos, int_le, Bool, false, ◌&&◌, ◌||◌, if◌then◌else◌, List, [], ◌∷◌, ◌++◌, length, drop, replicate, slice_get, Option, Some, None, unwrap_or, Result, Ok, Err, flat_map}
use Rattle.std.specs.Ordering.{int_eq}
use Rattle.c_types.specs.declared.types.IntKind.{IntKind}
use Rattle.c_types.specs.declared.types.CType.{CType, end_of-CType, more_of-CType}
use Rattle.c_types.specs.declared.types.CType.TheVariants.{Void, Int, Ptr', Array', Struct, Unusable}
use Rattle.c_types.specs.declared.types.Member.{Member}
use Rattle.c_types.specs.declared.types.Layout.{Layout}
use Rattle.c_types.specs.Integers.{width}
use Rattle.c_types.specs.Sizes.{kept, size_of}
use Rattle.program.specs.declared.graph.Initial.{Initial}
use Rattle.program.specs.declared.graph.Initial.TheVariants as initial
use Rattle.program.specs.declared.graph.Scalar.{Scalar}
use Rattle.program.specs.declared.graph.Start.{Start}
use Rattle.program.specs.declared.graph.Start.TheVariants as start
use Rattle.program.specs.declared.graph.Base.{Base}
use Rattle.program.specs.declared.graph.Function.{Function}
use Rattle.program.specs.declared.graph.Program.{Program}
use Rattle.program.specs.Pointers.{members_begun}
use Rattle.program.specs.Graph.{has, is_static}
use Rattle.c_memory.specs.declared.cells.Cell.{Cell}
use Rattle.c_memory.specs.declared.cells.Cell.TheVariants.{Uninit, Bit}
use Rattle.c_memory.specs.declared.memory.Object.{Object}
use Rattle.c_meaning.specs.declared.parts.Part.{Part}
use Rattle.c_meaning.specs.declared.parts.Free.{Free}
use Rattle.c_meaning.specs.declared.parts.Free.TheVariants as free
use Rattle.c_meaning.specs.declared.initial.Begun.{Begun}
use Rattle.c_meaning.specs.declared.initial.BeginStop.{BeginStop}
use Rattle.c_meaning.specs.declared.initial.BeginStop.TheVariants.{OutOfRange, Memory}
use Rattle.c_arithmetic.specs.Arithmetic.{and_then}
use Rattle.c_meaning.specs.Cells.{number_cells, pointer_cells}
use Rattle.c_memory.specs.Memory.{overwritten}
use Rattle.c_meaning.specs.PlaceTypes.{kind_of_type}
use Rattle.c_meaning.specs.Steps.{range_of_bits, with_result}

-- ---- the scalars of a type, by offset

-- n times what one element has, at places so many bits apart
abbrev pub in_a_row : ℕ → ℕ → ℕ → (ℕ → List Part) → List Part
in_a_row step zero at element = []
in_a_row step (suc n) at element = element at ++ in_a_row step n (kept (at + step)) element

-- from those in each struct at a place
unfoldable pub parts_given : (ℕ → ℕ → List Part) → Layout → ℕ → CType → List Part
parts_given structs l at Void = []
parts_given structs l at (Int k volatile) = record { at = at; bits = width k; kind = Some k } ∷ []
parts_given structs l at (Ptr' _ _) = record { at = at; bits = 64; kind = None } ∷ []
parts_given structs l at (Array' _ (more_of-CType t end_of-CType) n) = in_a_row (kept (size_of l t)) n at (λ x. parts_given structs l x t)
parts_given structs l at (Struct id) = structs id.0 at
parts_given structs l at Unusable = []

abbrev pub field_or : Option ℕ → ℕ → IntKind → List Part → List Part
field_or None at k parts = parts
field_or (Some w) at k parts = record { at = at; bits = w; kind = Some k } ∷ []

-- a bit-field is one scalar of its width
abbrev pub member_parts : (ℕ → ℕ → List Part) → Layout → ℕ → Member → List Part
member_parts structs l at m = field_or m.bits (kept (at + m.offset_bits)) (kind_of_type m.ctype) (parts_given structs l (kept (at + m.offset_bits)) m.ctype)

-- those of a struct, nested so deep at most
unfoldable pub struct_parts : ℕ → Layout → ℕ → ℕ → List Part
struct_parts zero l id at = []
struct_parts (suc depth) l id at = flat_map (member_parts (struct_parts depth l) l at) (members_begun (slice_get l.structs id))

-- structs nest no deeper than there are any
abbrev pub parts_of : Layout → CType → List Part
parts_of l t = parts_given (struct_parts (length l.structs) l) l 0 t

-- ---- what is free in an object

abbrev pub first_target : List (Option ℕ) → Option ℕ
first_target [] = None
first_target (t ∷ ts) = t

abbrev pub freed_part : Option IntKind → Part → List Free → List Free → List Free
freed_part (Some k) part integers pointers = free.Integer part.at part.bits k ∷ integers
freed_part None part integers pointers = pointers

-- integers are free; a pointer is null alone, or free where it may point to a hidden array
abbrev pub freed : List Part → List (Option ℕ) → List Free
freed [] targets = []
freed (part ∷ parts) targets = freed_part part.kind part (freed parts targets) (free.Pointer part.at (first_target targets) ∷ freed parts (drop 1 targets))

abbrev pub free_in : Layout → CType → Start → List Free
free_in l t (start.Given scalars) = []
free_in l t start.Any = freed (parts_of l t) []
free_in l t start.Uninit = []
free_in l t (start.Choice target) = free.Pointer 0 target ∷ []
free_in l t (start.Hidden targets) = freed (parts_of l t) targets

-- a free integer has no more bits than the widest integer type
abbrev pub HasFewBits : Free → Type 0
HasFewBits (free.Integer at bits k) = bits ≤ 64
HasFewBits (free.Pointer at target) = Unit {0}

-- ---- what is given

abbrev pub initial_cells : ℕ → Initial → List Cell
initial_cells bits (initial.Number v) = number_cells bits v
initial_cells bits (initial.Address base offset) = pointer_cells base offset

-- 6.7.9p10 and p19: zero bits, and over these the given scalars
abbrev pub with_scalars : List Scalar → List Cell → List Cell
with_scalars [] cells = cells
with_scalars (s ∷ ss) cells = with_scalars ss (overwritten cells s.at (initial_cells s.bits s.value))

abbrev pub cells_before : ℕ → Start → List Cell
cells_before size (start.Given scalars) = with_scalars scalars (replicate size (Bit false))
cells_before size _ = replicate size Uninit

-- ---- picks

-- a missing pick is 0
abbrev pub pick_at : List ℤ → ℕ → ℤ
pick_at picks i = unwrap_or (slice_get picks i) (pos 0)

-- the pick of this number, where it lies in its range; else its number
abbrev pub picked : List ℤ → ℕ → ℤ × ℤ → Result ℤ ℕ
picked picks i range = if int_le range.0 (pick_at picks i) && int_le (pick_at picks i) range.1 then Ok (pick_at picks i) else Err i

abbrev pub pointer_or_null : ℕ → ℤ → List Cell
pointer_or_null target choice = if int_eq choice (pos 0) then replicate 64 (Bit false) else pointer_cells target (pos 0)

-- the cells of a scalar, and the number of the next pick
abbrev pub chosen : List ℤ → ℕ → Free → Result (List Cell × ℕ) ℕ
chosen picks i (free.Integer at bits k) = and_then (picked picks i (range_of_bits k bits)) (λ v. Ok (number_cells bits v, i + 1))
chosen picks i (free.Pointer at None) = Ok (replicate 64 (Bit false), i)
chosen picks i (free.Pointer at (Some target)) = and_then (picked picks i (pos 0, pos 1)) (λ v. Ok (pointer_or_null target v, i + 1))

abbrev pub place_of : Free → ℕ
place_of (free.Integer at bits k) = at
place_of (free.Pointer at target) = at

-- an object's bits, from the pick of this number on
abbrev pub filled : List ℤ → ℕ → List Free → List Cell → Result (List Cell × ℕ) ℕ
filled picks i [] cells = Ok (cells, i)
filled picks i (s ∷ ss) cells = and_then (chosen picks i s) (λ c. filled picks c.1 ss (overwritten cells (place_of s) c.0))

-- ---- states

-- the objects that live where a function is entered first, its result aside
abbrev pub lives_at_entry : Program → Function → ℕ → Bool
lives_at_entry p f b = is_static p b || has (f.params ++ f.locals ++ f.temps ++ f.hidden) b

-- one object more in front
abbrev pub in_front : Object → List Object × ℕ → List Object × ℕ
in_front o rest = (o ∷ rest.0, rest.1)

-- the objects of bases that live, the first base with this number, from the pick of this number on
abbrev pub objects_begun : Program → Function → List ℤ → ℕ → ℕ → List Base → Result (List Object × ℕ) ℕ
objects_begun p f picks i b [] = Ok ([], i)
objects_begun p f picks i b (base ∷ bases) =
    if lives_at_entry p f b
    then and_then (filled picks i (free_in p.layout base.ctype base.start) (cells_before base.size_bits base.start)) (λ c.
    and_then (objects_begun p f picks c.1 (b + 1) bases) (λ rest. Ok (in_front (record { base = b; cells = c.0 }) rest)))
    else objects_begun p f picks i (b + 1) bases

abbrev pub begun_of : Program → ℕ → Function → List Object × ℕ → Begun
begun_of p fun f objects = record {
  config = record { fun = fun; node = f.entry; stack = []; memory = with_result p f objects.0 };
  used = objects.1;
}

abbrev pub begun_in : Program → ℕ → List ℤ → Option Function → Result Begun ℕ
begun_in p fun picks None = Err 0
begun_in p fun picks (Some f) = and_then (objects_begun p f picks 0 0 p.bases) (λ objects. Ok (begun_of p fun f objects))

-- the initial state of a function that these picks make, or the first pick out of its range
unfoldable pub begun : Program → ℕ → List ℤ → Result Begun ℕ
begun p fun picks = begun_in p fun picks (slice_get p.functions fun)

-- what a refusal tells; want of memory tells nothing
abbrev pub Tells : Result Begun ℕ → BeginStop → Type 0
Tells r (OutOfRange i) = r ≡ Err i
Tells r Memory = Unit {0}

-- The described initial states of a function: what is known of the objects that come from outside.
use Rattle.std.specs.Prelude.{◌≡◌, ℕ, ◌+◌, ◌<◌, ◌≤◌, ◌⊎◌, ℤ, pos, ◌≤ℤ◌, Bool, true, false, List, [], ◌∷◌, length, replicate, slice_get, Some, None, All}
use Rattle.program.specs.declared.graph.Base.{Base}
use Rattle.program.specs.declared.graph.Function.{Function}
use Rattle.program.specs.declared.graph.Program.{Program}
use Rattle.c_memory.specs.declared.cells.Cell.{Cell}
use Rattle.c_memory.specs.declared.cells.Cell.TheVariants.{Bit}
use Rattle.c_memory.specs.declared.memory.Object.{Object}
use Rattle.c_meaning.specs.declared.config.Config.{Config}
use Rattle.c_meaning.specs.declared.parts.Free.{Free}
use Rattle.c_meaning.specs.declared.parts.Free.TheVariants as free
use Rattle.c_meaning.specs.Cells.{number_cells, pointer_cells}
use Rattle.c_memory.specs.Memory.{cell_at}
use Rattle.c_meaning.specs.Steps.{range_of_bits, with_result}
use Rattle.c_meaning.specs.Begin.{free_in, cells_before, place_of, lives_at_entry}

-- the bits of an object from a place on are these
abbrev pub Shows : List Cell → ℕ → List Cell → Type 0
Shows cells at new = (j : ℕ) → j < length new → cell_at cells (at + j) ≡ cell_at new j

-- how many bits a free scalar has
abbrev pub bits_of_free : Free → ℕ
bits_of_free (free.Integer at bits k) = bits
bits_of_free (free.Pointer at target) = 64

-- an integer has any value of its range; a pointer is null, or points to the first element of its
-- hidden array
abbrev pub IsAny : List Cell → Free → Type 0
IsAny cells (free.Integer at bits k) = (v : ℤ) × ((range_of_bits k bits).0 ≤ℤ v) × (v ≤ℤ (range_of_bits k bits).1) × Shows cells at (number_cells bits v)
IsAny cells (free.Pointer at None) = Shows cells at (replicate 64 (Bit false))
IsAny cells (free.Pointer at (Some target)) = Shows cells at (replicate 64 (Bit false)) ⊎ Shows cells at (pointer_cells target (pos 0))

-- a bit of none of these scalars
abbrev pub IsOutside : List Free → ℕ → Type 0
IsOutside ss x = All (λ s. (x < place_of s) ⊎ (place_of s + bits_of_free s ≤ x)) ss

-- each free scalar has one of its values, and all other bits are as the object's start gives them
pub record IsDescribedObject (p : Program) (base : Base) (cells : List Cell) : Type 0 where
  pub size : length cells ≡ base.size_bits
  pub free_scalars : All (IsAny cells) (free_in p.layout base.ctype base.start)
  pub others : (x : ℕ) → x < base.size_bits → IsOutside (free_in p.layout base.ctype base.start) x → cell_at cells x ≡ cell_at (cells_before base.size_bits base.start) x

-- an object in front, and others behind it
abbrev pub BeginsWith : Program → ℕ → Base → List Object → (List Object → Type 0) → Type 0
BeginsWith p b base [] Others = ⊥
BeginsWith p b base (o ∷ os) Others = (o.base ≡ b) × IsDescribedObject p base o.cells × Others os

-- one fact of a base that lives, another of one that doesn't
abbrev pub WhereLives : Bool → Type 0 → Type 0 → Type 0
WhereLives true Lives Other = Lives
WhereLives false Lives Other = Other

-- the objects of the bases that live, in order, the first base with this number
abbrev pub AreDescribed : Program → Function → ℕ → List Base → List Object → Type 0
AreDescribed p f b [] os = os ≡ []
AreDescribed p f b (base ∷ bases) os =
    WhereLives (lives_at_entry p f b) (BeginsWith p b base os (AreDescribed p f (b + 1) bases)) (AreDescribed p f (b + 1) bases os)

pub record IsDescribed (p : Program) (fun : ℕ) (c : Config) : Type 0 where
  pub f : Function
  pub function : slice_get p.functions fun ≡ Some f
  pub at_fun : c.fun ≡ fun
  pub at_entry : c.node ≡ f.entry
  pub no_callers : c.stack ≡ []
  pub objects : List Object
  pub described : AreDescribed p f 0 p.bases objects
  pub memory : c.memory ≡ with_result p f objects

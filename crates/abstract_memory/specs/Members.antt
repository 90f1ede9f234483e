-- The cells that an object may have.
use Rattle.std.specs.Prelude.{ℕ, ◌+◌, ◌<◌, ◌≡◌, ◌≢◌, length}
use Rattle.c_memory.specs.Cells.{bit_of, HoldsNumber, HoldsPointer}
use Rattle.c_memory.specs.declared.cells.Cell.{Cell}
use Rattle.c_memory.specs.declared.cells.Cell.TheVariants.{Uninit, Dangling, Bit, Ptr}
use Rattle.avalue.specs.Members.{Member, uninit, dangling, number, pointer, HasMember}
use Rattle.avalue.specs.declared.value.Value.{Value}
use Rattle.abstract_memory.specs.Objects.{Entry, Object, entry_at}

-- cell j of a group of w bits shows a member: its bit j; a bit by itself shows any bit of a pointer
unfoldable pub Shows : ℕ → Member → ℕ → Cell → Type 0
Shows w uninit j c = c ≡ Uninit
Shows w dangling j c = c ≡ Dangling
Shows w (number x) j c = c ≡ Bit (bit_of x j)
Shows w (pointer base offset) j c = (k : ℕ) × (w ≢ 1 → k ≡ j) × (c ≡ Ptr base offset k)

-- the w cells from s on show one member of a value
pub record Shown (w : ℕ) (v : Value) (m : ℕ → Cell) (s : ℕ) : Type 0 where
  pub member : Member
  pub is_in : HasMember v member
  pub shows : (j : ℕ) → j < w → Shows w member j (m (s + j))

-- each group shows a member of its value
abbrev pub Fits : ℕ → (ℕ → Entry) → (ℕ → Cell) → Type 0
Fits size f m = (x : ℕ) → x < size → (f x).place ≡ 0 → Shown (f x).width (f x).value m x

-- the cells m are a member of the object
abbrev pub HasCells : Object → (ℕ → Cell) → Type 0
HasCells o m = Fits (length o) (entry_at o) m

-- what a read of the n cells c may find: a cell without a value, a number, or a whole pointer
unfoldable pub Sees : ℕ → Member → (ℕ → Cell) → Type 0
Sees n uninit c = (j : ℕ) × (j < n) × (c j ≡ Uninit)
Sees n dangling c = (j : ℕ) × (j < n) × (c j ≡ Dangling)
Sees n (number x) c = HoldsNumber n x c
Sees n (pointer base offset) c = HoldsPointer n base offset c

-- What the operations on objects keep of their members.
use Rattle.std.specs.Prelude.{ℕ, ◌+◌, ◌<◌, ◌≤◌, ◌≡◌, ◌⊎◌, length, List, ℤ, pos, ◌-◌, ◌&&◌, nat_le, nat_lt, true, if◌then◌else◌}
use Rattle.c_memory.specs.Memory.{dangled}
use Rattle.c_memory.specs.declared.cells.Cell.{Cell}
use Rattle.c_memory.specs.declared.cells.Cell.TheVariants.{Ptr}
use Rattle.ival.specs.Forms.{Has}
use Rattle.ival.specs.declared.forms.Ival.{Ival}
use Rattle.avalue.specs.Members.{Member, pointer, HasMember}
use Rattle.avalue.specs.declared.value.Value.{Value}
use Rattle.abstract_memory.specs.Objects.{Object, IsObject, IsWritable}
use Rattle.abstract_memory.specs.Reads.{read, read_at, IsAccess}
use Rattle.abstract_memory.specs.Joins.{join, widen, included, escape}
use Rattle.abstract_memory.specs.Writes.{write_strong, write_weak, copy}
use Rattle.abstract_memory.specs.Members.{Shown, HasCells, Sees}

-- the cells m with n of them replaced, from bit at on
abbrev pub put : (ℕ → Cell) → ℕ → ℕ → (ℕ → Cell) → ℕ → Cell
put m at n c x = if nat_le at x && nat_lt x (at + n) then c (x - at) else m x

-- what the cells show at one of the offsets is a member of the value that is read, a number as far as its n bits say
abbrev pub ReadKeeps : Type 0
ReadKeeps = (o : Object) (m : ℕ → Cell) (at : Ival) (n x : ℕ) → IsObject o → HasCells o m → IsAccess at n (length o) → n ≤ 64 → Has at (pos x)
    → (u : Member) → Sees n u (λ j. m (x + j)) → (w : Member) × HasMember (read o at n).0 w × Sees n w (λ j. m (x + j))

-- the same at one offset
abbrev pub ReadAtKeeps : Type 0
ReadAtKeeps = (o : Object) (m : ℕ → Cell) (n x : ℕ) → IsObject o → HasCells o m → 0 < n → n ≤ 64 → x + n ≤ length o
    → (u : Member) → Sees n u (λ j. m (x + j)) → (w : Member) × HasMember (read_at o x n).0 w × Sees n w (λ j. m (x + j))

-- a bit of a pointer that is read shows as a pointer of the value, or as torn
abbrev pub ReadTells : Type 0
ReadTells = (o : Object) (m : ℕ → Cell) (at : Ival) (n x j base bit : ℕ) (offset : ℤ) → IsObject o → HasCells o m → IsAccess at n (length o) → n ≤ 64 → Has at (pos x)
    → j < n → m (x + j) ≡ Ptr base offset bit → HasMember (read o at n).0 (pointer base offset) ⊎ ((read o at n).1 ≡ true)

-- n cells that show a member of the value come to bit at
abbrev pub WriteKeeps : Type 0
WriteKeeps = (o : Object) (m c : ℕ → Cell) (at n : ℕ) (v : Value) → IsObject o → HasCells o m → 0 < n → n ≤ 64 → at + n ≤ length o → IsWritable n v
    → Shown n v c 0 → HasCells (write_strong o at n v) (put m at n c)

-- and to one of the offsets
abbrev pub WeakWriteKeeps : Type 0
WeakWriteKeeps = (o : Object) (m c : ℕ → Cell) (at : Ival) (n x : ℕ) (v : Value) → IsObject o → HasCells o m → IsAccess at n (length o) → n ≤ 64 → IsWritable n v
    → Has at (pos x) → Shown n v c 0 → HasCells (write_weak o at n v) (put m x n c)

-- the n cells of k from at on come to bit to
abbrev pub CopyKeeps : Type 0
CopyKeeps = (from o : Object) (k m : ℕ → Cell) (at to n : ℕ) → IsObject from → IsObject o → HasCells from k → HasCells o m → at + n ≤ length from → to + n ≤ length o
    → HasCells (copy from at o to n) (put m to n (λ j. k (at + j)))

-- a join has the members of both sides
abbrev pub JoinKeeps : Type 0
JoinKeeps = (a b : Object) (m : ℕ → Cell) → IsObject a → IsObject b → length a ≡ length b → HasCells a m ⊎ HasCells b m → HasCells (join a b) m

abbrev pub WideningKeeps : Type 0
WideningKeeps = (thresholds : List ℤ) (a b : Object) (m : ℕ → Cell) → IsObject a → IsObject b → length a ≡ length b → HasCells a m ⊎ HasCells b m
    → HasCells (widen thresholds a b) m

-- yes means that each member of the first is one of the second
abbrev pub InclusionIsSound : Type 0
InclusionIsSound = (a b : Object) (m : ℕ → Cell) → IsObject a → IsObject b → length a ≡ length b → included a b ≡ true → HasCells a m → HasCells b m

-- what is left of cells where the bases end
abbrev pub EscapeKeeps : Type 0
EscapeKeeps = (bases : List ℕ) (o : Object) (m : ℕ → Cell) → IsObject o → HasCells o m → HasCells (escape bases o) (λ x. dangled bases (m x))

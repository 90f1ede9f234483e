-- What keeps memories lawful: each pointer in them points into an object that lives, or to its end.
use Rattle.std.specs.Prelude.{◌≡◌, ℕ, nat_eq, ◌≤ℤ◌, ◌*ℤ◌, ℤ, pos, List, length, Some, None, Ok, All}
use Rattle.std.specs.List.{IsDistinct}
use Rattle.program.specs.declared.expressions.Expr.{Expr}
use Rattle.program.specs.declared.instructions.Instr.{Instr}
use Rattle.program.specs.declared.instructions.Instr.TheVariants as instr
use Rattle.program.specs.declared.graph.Function.{Function}
use Rattle.program.specs.declared.graph.Program.{Program}
use Rattle.c_memory.specs.declared.cells.Cell.{Cell}
use Rattle.c_memory.specs.declared.memory.Object.{Object}
use Rattle.c_memory.specs.Memory.{object, put, entered, left}
use Rattle.c_meaning.specs.declared.value.Value.TheVariants.{Pointer}
use Rattle.c_meaning.specs.Value.{value}
use Rattle.c_meaning.specs.Steps.{after}
use Rattle.c_meaning.specs.Lawful.{PointsInside, LawfulMemory}

-- bits are written whose pointers point inside
abbrev pub WritesStayLawful : Type 0
WritesStayLawful = (m : List Object) (base at : ℕ) (new : List Cell) → LawfulMemory m → All (PointsInside m) new → LawfulMemory (put m base at new)

-- an object comes to life that didn't live
abbrev pub EntriesStayLawful : Type 0
EntriesStayLawful = (m : List Object) (base size : ℕ) → LawfulMemory m → object m base ≡ None → LawfulMemory (entered base size m)

-- 6.2.4p2: objects end
abbrev pub EndsOfLivesStayLawful : Type 0
EndsOfLivesStayLawful = (m : List Object) (bases : List ℕ) → LawfulMemory m → LawfulMemory (left bases m)

-- 6.5.6p8: a pointer that an expression gives points into an object, or one past its end
abbrev pub PointersStayInside : Type 0
PointersStayInside =
    (p : Program) (f : Function) (m : List Object) (s : ℕ) (e : Expr) (base : ℕ) (offset : ℤ) → LawfulMemory m → value p f m s e ≡ Ok (Pointer base offset) →
    (cells : List Cell) × (object m base ≡ Some cells) × (pos 0 ≤ℤ offset) × ((pos 8 *ℤ offset) ≤ℤ pos (length cells))

-- an Enter meets no object of its bases that lives, and names each once
abbrev pub EntersNew : List Object → Instr → Type 0
EntersNew m (instr.Enter bs) = IsDistinct nat_eq bs × All (λ b. object m b ≡ None) bs
EntersNew m _ = Unit {0}

-- what an instruction leaves that stays in its function
abbrev pub InstructionsStayLawful : Type 0
InstructionsStayLawful = (p : Program) (f : Function) (m n : List Object) (i : Instr) → LawfulMemory m → EntersNew m i → after p f m i ≡ Ok n → LawfulMemory n

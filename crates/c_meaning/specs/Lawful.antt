-- Lawful memories and configurations.
use Rattle.std.specs.Prelude.{◌≡◌, ◌≢◌, ℕ, ◌<◌, nat_eq, pos, ◌≤ℤ◌, ◌*ℤ◌, if◌then◌else◌, true, List, [], ◌∷◌, ◌++◌, length, slice_get, Option, Some, All, Contains}
use Rattle.program.specs.declared.expressions.Expr.{Expr}
use Rattle.program.specs.declared.instructions.Instr.TheVariants as instr
use Rattle.program.specs.declared.graph.Node.{Node}
use Rattle.program.specs.declared.graph.Function.{Function}
use Rattle.program.specs.declared.graph.Program.{Program}
use Rattle.program.specs.Graph.{InnerAt, InLife, is_static}
use Rattle.c_memory.specs.declared.cells.Cell.{Cell}
use Rattle.c_memory.specs.declared.cells.Cell.TheVariants.{Ptr}
use Rattle.c_memory.specs.declared.memory.Object.{Object}
use Rattle.c_meaning.specs.declared.config.Config.{Config}
use Rattle.c_memory.specs.Memory.{object}
use Rattle.c_meaning.specs.PlaceTypes.{bits_of}
use Rattle.c_meaning.specs.Steps.{base_bits, own_bases}

-- ---- memories

-- objects stand in the order of their bases, each once
abbrev pub InOrder : List Object → Type 0
InOrder [] = Unit {0}
InOrder (o ∷ os) = All (λ q. o.base < q.base) os × InOrder os

-- a bit of a pointer is one of 64, and points into an object that lives, or to its end
abbrev pub PointsInside : List Object → Cell → Type 0
PointsInside m (Ptr base offset bit) = (bit < 64) × ((cells : List Cell) × (object m base ≡ Some cells) × (pos 0 ≤ℤ offset) × ((pos 8 *ℤ offset) ≤ℤ pos (length cells)))
PointsInside m c = Unit {0}

pub record LawfulMemory (m : List Object) : Type 0 where
  pub in_order : InOrder m
  pub pointers : All (λ o. All (PointsInside m) o.cells) m

-- ---- configurations

-- the size of a base while this function runs; base 0 is its result
abbrev pub size_in : Program → Function → ℕ → ℕ
size_in p f b = if nat_eq b 0 then bits_of p.layout (Some f.result) else base_bits p b

-- an object of this size lives
abbrev pub LivesAt : List Object → ℕ → ℕ → Type 0
LivesAt m b size = (cells : List Cell) × (object m b ≡ Some cells) × (length cells ≡ size)

-- an execution can stand at a node of a function, with these inner bases in life
pub record StandsAt (p : Program) (fun n : ℕ) (f : Function) (node : Node) (inner : List ℕ) : Type 0 where
  pub function : slice_get p.functions fun ≡ Some f
  pub node_is : slice_get f.nodes n ≡ Some node
  pub reached : InnerAt f n inner

-- the bases in life at the running node
pub record Runs (p : Program) (c : Config) : Type 0 where
  pub f : Function
  pub node : Node
  pub inner : List ℕ
  pub stands : StandsAt p c.fun c.node f node inner
  pub lives : (b : ℕ) → InLife p f inner b → LivesAt c.memory b (size_in p f b)
  -- what else lives is a base of the program, with its size
  pub others : (b : ℕ) (cells : List Cell) → object c.memory b ≡ Some cells → (b < length p.bases) × (length cells ≡ size_in p f b)

-- a caller waits at a call of the function above it; its bases in life are there, its result aside
pub record Waits (p : Program) (m : List Object) (callee : ℕ) (frame : ℕ × ℕ) : Type 0 where
  pub f : Function
  pub node : Node
  pub inner : List ℕ
  pub to : Option ℕ
  pub args : List Expr
  pub stands : StandsAt p frame.0 frame.1 f node inner
  pub calls : node.instr ≡ instr.Call to callee args
  pub lives : (b : ℕ) → b ≢ 0 → InLife p f inner b → LivesAt m b (base_bits p b)

-- a function that runs or waits at a node has the base: as a parameter, a local, a temporary, or an inner one in life
pub record HasAt (p : Program) (frame : ℕ × ℕ) (b : ℕ) : Type 0 where
  pub f : Function
  pub inner : List ℕ
  pub function : slice_get p.functions frame.0 ≡ Some f
  pub reached : InnerAt f frame.1 inner
  pub own : Contains (own_bases f ++ inner) b

-- what a base that lives belongs to: the running function's result, the whole program, what lies outside of it, or a call
pub data Belongs (p : Program) (frames : List (ℕ × ℕ)) : ℕ → Type 0 where
  result : Belongs p frames 0
  static : (b : ℕ) → is_static p b ≡ true → Belongs p frames b
  hidden : (b fun : ℕ) (f : Function) → slice_get p.functions fun ≡ Some f → Contains f.hidden b → Belongs p frames b
  call : (b : ℕ) (frame : ℕ × ℕ) → Contains frames frame → HasAt p frame b → Belongs p frames b

abbrev pub AllWait : Program → List Object → ℕ → List (ℕ × ℕ) → Type 0
AllWait p m callee [] = Unit {0}
AllWait p m callee (frame ∷ rest) = Waits p m callee frame × AllWait p m frame.0 rest

pub record LawfulConfig (p : Program) (c : Config) : Type 0 where
  pub memory : LawfulMemory c.memory
  pub runs : Runs p c
  pub callers : AllWait p c.memory c.fun c.stack
  -- no other object lives
  pub belongs : (b : ℕ) (cells : List Cell) → object c.memory b ≡ Some cells → Belongs p ((c.fun, c.node) ∷ c.stack) b

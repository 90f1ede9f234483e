-- How many turns a run takes where no edge goes back.
use Rattle.std.specs.Prelude.{◌≡◌, ℕ, zero, suc, ◌+◌, ◌*◌, ◌<◌, ◌≤◌, length, List, [], ◌∷◌, Option, Some, None, slice_get}
use Rattle.program.specs.declared.graph.Node.{Node}
use Rattle.program.specs.declared.graph.Function.{Function}
use Rattle.program.specs.Lawful.{callee_of}
use Rattle.lone_run.specs.Analysis.{Analysis}
use Rattle.lone_run.specs.Lone.{Result, lone}
use Rattle.lone_run.specs.Soundness.{IsNode}

-- a node has one turn, and at a call those of the callee
abbrev pub node_turns : (ℕ → ℕ) → Option ℕ → ℕ
node_turns callee_turns None = 1
node_turns callee_turns (Some g) = 1 + callee_turns g

abbrev pub turns_of : (ℕ → ℕ) → List Node → ℕ
turns_of callee_turns [] = 0
turns_of callee_turns (node ∷ nodes) = node_turns callee_turns (callee_of node.instr) + turns_of callee_turns nodes

-- for each of the states of a node, the separate ones and the joined one
abbrev pub function_turns : ℕ → (ℕ → ℕ) → Option Function → ℕ
function_turns slevel callee_turns None = 0
function_turns slevel callee_turns (Some function) = (slevel + 1) * turns_of callee_turns function.nodes

-- the first number bounds the height of the calls
unfoldable pub turns_within : ℕ → ℕ → List Function → ℕ → ℕ
turns_within zero slevel functions f = 0
turns_within (suc h) slevel functions f = function_turns slevel (turns_within h slevel functions) (slice_get functions f)

abbrev pub most_turns : ℕ → List Function → ℕ → ℕ
most_turns slevel functions f = turns_within (length functions) slevel functions f

-- f is g, or calls lead from f to g
pub data Reaches (functions : List Function) (f : ℕ) : ℕ → Type 0 where
  itself : Reaches functions f f
  by_call : (g n callee : ℕ) (function : Function) (node : Node) → Reaches functions f g → IsNode functions g n function node → callee_of node.instr ≡ Some callee → Reaches functions f callee

-- all edges of f and of the functions that it reaches go to greater numbers
abbrev pub GoesForward : List Function → ℕ → Type 0
GoesForward functions f = (g n : ℕ) (function : Function) (node : Node) (k t : ℕ) → Reaches functions f g → IsNode functions g n function node → slice_get node.edges k ≡ Some t → n < t

-- no calls go round, and each is of a defined function
pub record CallsEnd (functions : List Function) (height : ℕ → ℕ) : Type 0 where
  pub lower : (f n g : ℕ) (function : Function) (node : Node) → IsNode functions f n function node → callee_of node.instr ≡ Some g → height g < height f
  pub defined : (f n g : ℕ) (function : Function) (node : Node) → IsNode functions f n function node → callee_of node.instr ≡ Some g → (callee : Function) × (slice_get functions g ≡ Some callee)

-- so many turns are enough
pub record IsEnough {State : Type 0} (A : Analysis State) (slevel : ℕ) (functions : List Function) (f budget : ℕ) : Type 0 where
  pub result : Result A slevel functions
  pub is_result : lone A slevel functions f budget ≡ Some result
  pub few : result.turns ≤ most_turns slevel functions f

abbrev pub ForwardRunIsBounded : Type 0 → Type 0
ForwardRunIsBounded State = (A : Analysis State) (slevel : ℕ) (functions : List Function) (height : ℕ → ℕ) → CallsEnd functions height → (f budget : ℕ) (function : Function) →
    slice_get functions f ≡ Some function → GoesForward functions f → most_turns slevel functions f ≤ budget → IsEnough A slevel functions f budget

-- A run takes no more turns than the budget, and with each budget that has room for its turns it is the same run.
abbrev pub BudgetIsExact : Type 0 → Type 0
BudgetIsExact State = (A : Analysis State) (slevel : ℕ) (functions : List Function) (f budget : ℕ) (r : Result A slevel functions) → lone A slevel functions f budget ≡ Some r →
    (r.turns ≤ budget) × ((other : ℕ) → r.turns ≤ other → lone A slevel functions f other ≡ Some r)

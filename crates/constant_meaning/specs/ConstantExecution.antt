-- The execution of a function whose nodes set its result to constant expressions, and where it is undefined.
use Rattle.std.specs.Prelude.{◌≡◌, ℕ, ◌+◌, ◌<◌, ◌^◌, ◌⊎◌, ℤ, [], ◌∷◌, length, slice_get, Contains, Option, Some, None, Ok, Err}
use Rattle.program.specs.declared.expressions.Expr.{Expr}
use Rattle.program.specs.declared.expressions.LVal.TheVariants.{Var}
use Rattle.program.specs.declared.instructions.Instr.{Instr}
use Rattle.program.specs.declared.instructions.Instr.TheVariants.{Set, Return}
use Rattle.program.specs.declared.graph.Node.{Node}
use Rattle.program.specs.declared.graph.Function.{Function}
use Rattle.program.specs.declared.sites.Site.{Site}
use Rattle.program.specs.Numbers.{count_expr}
use Rattle.constant_meaning.specs.declared.constant.Undefined.{Undefined}
use Rattle.constant_meaning.specs.ConstantValue.{IsConstant, value}

-- the function's result is base 0
abbrev pub set_result : Expr → Instr
set_result e = Set (Var 0) e

-- ---- which functions

-- Node n of a function with so many nodes sets the result, and goes on along one edge, to a greater number. The numbers of
-- its subexpressions lie below 2^32, that of the target among them.
pub record SetsResult (count n : ℕ) (node : Node) (e : Expr) : Type 0 where
  pub next : ℕ
  pub sets : node.instr ≡ set_result e
  pub constant : IsConstant e
  pub numbered : 1 + count_expr e < 2 ^ 32
  pub edge : node.edges ≡ next ∷ []
  pub forward : n < next
  pub within : next < count

abbrev pub IsResultNode : ℕ → ℕ → Node → Type 0
IsResultNode count n node = ((e : Expr) × SetsResult count n node e) ⊎ (node.instr ≡ Return)

-- each node sets the result, or is an exit
pub record IsResultFunction (f : Function) : Type 0 where
  pub begins : f.entry < length f.nodes
  pub nodes : (n : ℕ) (node : Node) → slice_get f.nodes n ≡ Some node → IsResultNode (length f.nodes) n node

-- ---- executions

-- Where an execution stands: the node that is to be executed next, and the function's result, none before it is set.
pub record Config : Type 0 where
  pub node : ℕ
  pub outcome : Option ℤ

abbrev pub initial : Function → Config
initial f = record { node = f.entry; outcome = None }

-- One step: a node that sets the result to a defined value goes on along an edge. The target has number 0, so the
-- expression's numbers begin at 1.
pub record Step (f : Function) (before after : Config) : Type 0 where
  pub node : Node
  pub value_of : Expr
  pub v : ℤ
  pub next : ℕ
  pub at : slice_get f.nodes before.node ≡ Some node
  pub sets : node.instr ≡ set_result value_of
  pub defined : value 1 value_of ≡ Ok v
  pub edge : Contains node.edges next
  pub same : after ≡ record { node = next; outcome = Some v }

-- no steps, or more
pub data Executes (f : Function) : Config → Config → Type 0 where
  here : (c : Config) → Executes f c c
  on : (b c d : Config) → Step f b c → Executes f c d → Executes f b d

-- the execution of this function, which has the number `fun`, has come to a node whose expression is undefined there
pub record IsUndefinedAt (fun : ℕ) (f : Function) (c : Config) (site : Site) : Type 0 where
  pub node : Node
  pub value_of : Expr
  pub place : Undefined
  pub at : slice_get f.nodes c.node ≡ Some node
  pub sets : node.instr ≡ set_result value_of
  pub undefined : value 1 value_of ≡ Err place
  pub same : site ≡ record { fun = fun; node = c.node; sub = place.sub; kind = place.kind }

-- the execution has come to the exit
pub record Returns (f : Function) (c : Config) : Type 0 where
  pub node : Node
  pub at : slice_get f.nodes c.node ≡ Some node
  pub exits : node.instr ≡ Return

-- The lone run of a function that sets its result to constant expressions: turn by turn, with no memory shared.
use Rattle.std.specs.Prelude.{◌≡◌, ℕ, ◌+◌, ℤ, pos, List, [], ◌∷◌, ◌++◌, map, slice_get, Option, Some, None, Result, Ok, Err}
use Rattle.program.specs.declared.expressions.Expr.{Expr, end_of-Expr, more_of-Expr}
use Rattle.program.specs.declared.expressions.Expr.TheVariants.{Const, Unary', Binary'}
use Rattle.program.specs.declared.instructions.Instr.TheVariants.{Return}
use Rattle.program.specs.declared.graph.Node.{Node}
use Rattle.program.specs.declared.graph.Function.{Function}
use Rattle.program.specs.declared.sites.Kind.{Kind}
use Rattle.program.specs.declared.sites.Site.{Site}
use Rattle.program.specs.Numbers.{count_expr}
use Rattle.constant_meaning.specs.ConstantValue.{negation, operation}
use Rattle.constant_meaning.specs.ConstantExecution.{set_result}
use Rattle.iterate.specs.declared.constant.State.TheVariants.{Bottom, Live}
use Rattle.iterate.specs.declared.constant.EntryResult.{EntryResult}

-- An alarm within an instruction.
pub record Alarm : Type 0 where
  pub sub : ℕ
  pub kind : Kind

-- What is left of an expression, and the alarms that it raises.
pub record Left : Type 0 where
  pub number : Option ℤ
  pub alarms : List Alarm

-- an operation on numbers leaves one number, or raises an alarm and leaves nothing
abbrev pub left_at : ℕ → Result ℤ Kind → Left
left_at sub (Ok v) = record { number = Some v; alarms = [] }
left_at sub (Err kind) = record { number = None; alarms = record { sub = sub; kind = kind } ∷ [] }

-- once an operand leaves nothing, no later subexpression is evaluated
abbrev pub evaluated : List Alarm → Option ℤ → (ℤ → Left) → Left
evaluated alarms (Some v) later = record { number = (later v).number; alarms = alarms ++ (later v).alarms }
evaluated alarms None later = record { number = None; alarms = alarms }

abbrev pub and_then : Left → (ℤ → Left) → Left
and_then operand later = evaluated operand.alarms operand.number later

-- what is left of an expression whose root has this number, in preorder
unfoldable pub left : ℕ → Expr → Left
left sub (Const k v) = record { number = Some v; alarms = [] }
left sub (Unary' u _ (more_of-Expr a end_of-Expr)) = and_then (left (sub + 1) a) (λ x. left_at sub (negation x))
left sub (Binary' o _ (more_of-Expr a end_of-Expr) _ (more_of-Expr b end_of-Expr)) =
    and_then (left (sub + 1) a) (λ x. and_then (left (sub + 1 + count_expr a) b) (λ y. left_at sub (operation o x y)))
left sub _ = record { number = Some (pos 0); alarms = [] }

-- the alarms of node n of the function with the number `fun`
abbrev pub sites : ℕ → ℕ → List Alarm → List Site
sites fun n alarms = map (λ a. record { fun = fun; node = n; sub = a.sub; kind = a.kind }) alarms

-- The run from node n on, where the result is so far the given one. Each turn takes the one pending node: its alarms are
-- raised, and what is left goes along its edge; where nothing is left, no node is pending, and the exit is never reached.
-- The target has number 0, so the expression's numbers begin at 1.
pub data RunFrom (fun : ℕ) (f : Function) : ℕ → Option ℤ → EntryResult → Type 0 where
  goes_on : (n : ℕ) (before : Option ℤ) (r : EntryResult) (node : Node) (e : Expr) (v : ℤ) (next : ℕ) (rest : EntryResult) → slice_get f.nodes n ≡ Some node → node.instr ≡ set_result e →
      (left 1 e).number ≡ Some v → node.edges ≡ next ∷ [] → RunFrom fun f next (Some v) rest →
      r ≡ record { end = rest.end; alarms = sites fun n (left 1 e).alarms ++ rest.alarms; turns = rest.turns + 1 } → RunFrom fun f n before r
  stops : (n : ℕ) (before : Option ℤ) (r : EntryResult) (node : Node) (e : Expr) → slice_get f.nodes n ≡ Some node → node.instr ≡ set_result e → (left 1 e).number ≡ None →
      r ≡ record { end = Bottom; alarms = sites fun n (left 1 e).alarms; turns = 1 } → RunFrom fun f n before r
  ends : (n : ℕ) (before : Option ℤ) (r : EntryResult) (node : Node) → slice_get f.nodes n ≡ Some node → node.instr ≡ Return →
      r ≡ record { end = Live before; alarms = []; turns = 1 } → RunFrom fun f n before r

-- The run begins at the entry, with a result that isn't set.
abbrev pub LoneRun : ℕ → Function → EntryResult → Type 0
LoneRun fun f r = RunFrom fun f f.entry None r

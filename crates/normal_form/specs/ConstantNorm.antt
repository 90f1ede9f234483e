-- The function of `program` that a definition `int NAME(void) { return E; }` stands for.
use Rattle.std.specs.Prelude.{ℕ, pos, Bool, false, if◌then◌else◌, List, [], ◌∷◌}
use lib.Chars.{codes}
use Rattle.std.specs.Str.{bytes_eq}
use Rattle.c_types.specs.declared.types.CType.TheVariants.{Int}
use Rattle.c_types.specs.declared.types.IntKind.TheVariants as kind
use Rattle.program.specs.declared.expressions.Expr.{Expr}
use Rattle.program.specs.declared.expressions.Expr.TheVariants.{Const}
use Rattle.program.specs.declared.expressions.LVal.TheVariants.{Var}
use Rattle.program.specs.declared.instructions.Instr.TheVariants.{Set, Return}
use Rattle.program.specs.declared.graph.Place.{Place}
use Rattle.program.specs.declared.graph.Node.{Node}
use Rattle.program.specs.declared.graph.Function.{Function}
use Rattle.normal_form.specs.declared.constant.Returning.{Returning}

abbrev pub is_main : List ℕ → Bool
is_main name = bytes_eq name (codes "main")

-- a node that sets the result, base 0, and goes on along one edge
abbrev pub set_node : Expr → ℕ → Place → Node
set_node e next place = record { instr = Set (Var 0) e; edges = next ∷ []; place = place }

-- the exit
abbrev pub return_node : Place → Node
return_node place = record { instr = Return; edges = []; place = place }

-- 6.8.6.4p3: a `return` sets the result and goes to the exit. 5.1.2.2.3: the end of `main` sets the result to 0. The last
-- node is the exit.
abbrev pub nodes : List ℕ → Expr → Place → List Node
nodes name e place =
    if is_main name
    then set_node e 2 place ∷ set_node (Const kind.Int (pos 0)) 2 place ∷ return_node place ∷ []
    else set_node e 1 place ∷ return_node place ∷ []

abbrev pub exit_of : List ℕ → ℕ
exit_of name = if is_main name then 2 else 1

-- the function has no objects, and its result is an int
abbrev pub norm : Returning → Function
norm d = record {
  name = d.name;
  params = [];
  locals = [];
  inner = [];
  temps = [];
  hidden = [];
  result = Int kind.Int false;
  nodes = nodes d.name d.value d.place;
  entry = 0;
  exit = exit_of d.name;
}

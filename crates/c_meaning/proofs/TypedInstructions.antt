-- The trees of a typed instruction are typed.
use Rattle.std.proofs.Common.{List, [], ◌∷◌, ℕ, Some, None, Option}
use Rattle.std.specs.Prelude.{All}
use Rattle.std.proofs.lemmas.List.Elements.{All-nil, All-cons}
use Rattle.program.specs.declared.expressions.Expr.{Expr}
use Rattle.program.specs.declared.instructions.What.{What}
use Rattle.program.specs.declared.instructions.What.TheVariants as what
use Rattle.program.specs.declared.instructions.Instr.{Instr}
use Rattle.program.specs.declared.instructions.Instr.TheVariants as instr
use Rattle.program.specs.declared.graph.Function.{Function}
use Rattle.program.specs.declared.graph.Program.{Program}
use Rattle.program.specs.Typing.{IsTyped, IsTypedWhat, FitParams, AreNumbers}
use Rattle.c_meaning.specs.Typed.{IsTypedExpr, IsTypedSource, TreesAreTyped}

arguments : (p : Program) (f : Function) (es : List Expr) (bs : List ℕ) → FitParams p f es bs → All (IsTypedExpr p f) es
arguments p f [] bs h = All-nil (IsTypedExpr p f)
arguments p f (e ∷ es) [] h = absurd h
arguments p f (e ∷ es) (b ∷ bs) h = All-cons (IsTypedExpr p f) e es (record { ctype = _; typed = h.0.2 }) (arguments p f es bs h.1)

numbers : (p : Program) (f : Function) (es : List Expr) → AreNumbers p f es → All (IsTypedExpr p f) es
numbers p f [] h = All-nil (IsTypedExpr p f)
numbers p f (e ∷ es) h = All-cons (IsTypedExpr p f) e es (record { ctype = _; typed = h.0.1 }) (numbers p f es h.1)

source : (p : Program) (f : Function) (to : Option ℕ) (w : What) → IsTypedWhat p f to w → IsTypedSource p f w
source p f to (what.Function args None) h = numbers p f args h.0
source p f to (what.Function args (Some k)) h = numbers p f args h.0
source p f to (what.Interval lo hi) h = (record { ctype = _; typed = h.0 }, record { ctype = _; typed = h.1 })
source p f to (what.Volatile l k) h = record { ctype = _; typed = h.0 }

pub trees_are_typed : (p : Program) (f : Function) (i : Instr) → IsTyped p f i → TreesAreTyped p f i
trees_are_typed p f (instr.Set l e) h = (record { ctype = h.0; typed = h.2 }, record { ctype = _; typed = h.3 })
trees_are_typed p f (instr.Copy to from) h = (record { ctype = _; typed = h.1 }, record { ctype = _; typed = h.2 })
trees_are_typed p f (instr.Zero l) h = record { ctype = h.0; typed = h.2 }
trees_are_typed p f (instr.Guard e) h = record { ctype = h.0; typed = h.2 }
trees_are_typed p f (instr.Enter bs) h = tt
trees_are_typed p f (instr.Leave bs) h = tt
trees_are_typed p f (instr.Call to callee args) h = arguments p f args h.called.params h.arguments
trees_are_typed p f (instr.External to w) h = source p f to w h
trees_are_typed p f instr.Return h = tt
trees_are_typed p f (instr.Skip None) h = tt
trees_are_typed p f (instr.Skip (Some e)) h = record { ctype = h.0; typed = h.2 }

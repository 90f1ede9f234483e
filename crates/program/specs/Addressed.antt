-- The bases of which an instruction takes an address: `&` of a place in them, or the pointer to an array's first element there.
use Rattle.std.specs.Prelude.{ℕ, ◌++◌, List, [], ◌∷◌, Some, None}
use Rattle.std.specs.List.{flat_map}
use Rattle.program.specs.declared.expressions.Expr.{Expr, end_of-Expr, more_of-Expr}
use Rattle.program.specs.declared.expressions.Expr.TheVariants.{Const, Null, Load, Addr, Start, Unary', Binary', Cast'}
use Rattle.program.specs.declared.expressions.LVal.{LVal, end_of-LVal, more_of-LVal}
use Rattle.program.specs.declared.expressions.LVal.TheVariants.{Var, Deref', Index', Field'}
use Rattle.program.specs.declared.instructions.What.{What}
use Rattle.program.specs.declared.instructions.What.TheVariants as what
use Rattle.program.specs.declared.instructions.Instr.{Instr}
use Rattle.program.specs.declared.instructions.Instr.TheVariants as instr

-- the base that a place lies in, where no pointer leads to it
unfoldable pub holder_of : LVal → List ℕ
holder_of (Var b) = b ∷ []
holder_of (Deref' _ e) = []
holder_of (Index' _ (more_of-LVal a end_of-LVal) _ i) = holder_of a
holder_of (Field' _ (more_of-LVal a end_of-LVal) m) = holder_of a

unfoldable mutual
  pub addressed_in_expr : Expr → List ℕ
  addressed_in_expr (Const k v) = []
  addressed_in_expr Null = []
  addressed_in_expr (Load l t) = addressed_in_lval l
  addressed_in_expr (Addr l) = holder_of l ++ addressed_in_lval l
  addressed_in_expr (Start l) = holder_of l ++ addressed_in_lval l
  addressed_in_expr (Unary' op _ (more_of-Expr a end_of-Expr)) = addressed_in_expr a
  addressed_in_expr (Binary' op _ (more_of-Expr a end_of-Expr) _ (more_of-Expr b end_of-Expr)) = addressed_in_expr a ++ addressed_in_expr b
  addressed_in_expr (Cast' t _ (more_of-Expr a end_of-Expr)) = addressed_in_expr a

  pub addressed_in_lval : LVal → List ℕ
  addressed_in_lval (Var b) = []
  addressed_in_lval (Deref' _ (more_of-Expr e end_of-Expr)) = addressed_in_expr e
  addressed_in_lval (Index' _ (more_of-LVal a end_of-LVal) _ (more_of-Expr i end_of-Expr)) = addressed_in_lval a ++ addressed_in_expr i
  addressed_in_lval (Field' _ (more_of-LVal a end_of-LVal) m) = addressed_in_lval a

abbrev pub addressed_in_exprs : List Expr → List ℕ
addressed_in_exprs es = flat_map addressed_in_expr es

abbrev pub addressed_in_what : What → List ℕ
addressed_in_what (what.Function args k) = addressed_in_exprs args
addressed_in_what (what.Interval a b) = addressed_in_expr a ++ addressed_in_expr b
addressed_in_what (what.Volatile l k) = addressed_in_lval l

abbrev pub addressed_in_instr : Instr → List ℕ
addressed_in_instr (instr.Set l e) = addressed_in_lval l ++ addressed_in_expr e
addressed_in_instr (instr.Copy to from) = addressed_in_lval to ++ addressed_in_lval from
addressed_in_instr (instr.Zero l) = addressed_in_lval l
addressed_in_instr (instr.Guard e) = addressed_in_expr e
addressed_in_instr (instr.Enter bs) = []
addressed_in_instr (instr.Leave bs) = []
addressed_in_instr (instr.Call to f args) = addressed_in_exprs args
addressed_in_instr (instr.External to w) = addressed_in_what w
addressed_in_instr instr.Return = []
addressed_in_instr (instr.Skip None) = []
addressed_in_instr (instr.Skip (Some e)) = addressed_in_expr e

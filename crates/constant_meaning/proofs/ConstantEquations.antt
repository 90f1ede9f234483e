-- value at each variant; written by tools/equations.py.
use Rattle.std.specs.Prelude.{◌≡◌, ℕ, ◌+◌, ℤ, pos, Ok}
use Rattle.program.specs.declared.expressions.BinOp.{BinOp}
use Rattle.program.specs.declared.expressions.Expr.{Expr}
use Rattle.program.specs.Numbers.{count_expr}
use Rattle.constant_meaning.specs.ConstantValue.{negation, operation, undefined_at, go_on, value}
use Rattle.std.specs.Prelude.{refl}
use Rattle.program.specs.declared.expressions.UnOp.{UnOp}
use Rattle.program.specs.declared.expressions.Expr.TheVariants as in_Expr
use Rattle.program.specs.declared.expressions.LVal.{LVal}
use Rattle.c_types.specs.declared.types.IntKind.{IntKind}
use Rattle.c_types.specs.declared.types.CType.{CType}
use denote.Hole.Carrier.{hidden}
use Rattle.program.specs.declared.expressions.Expr.TheBlock.{hidden-the_row-Expr-0, hidden-the_row-LVal-1}

pub value_const : (sub : ℕ) (k : IntKind) (v : ℤ) → value sub (in_Expr.Const k v) ≡ Ok v
unfolding value hidden hidden-the_row-Expr-0 hidden-the_row-LVal-1
value_const _ _ _ = refl

pub value_unary : (sub : ℕ) (u : UnOp) (a : Expr) → value sub (in_Expr.Unary u a) ≡ go_on (value (sub + 1) a) (λ x. undefined_at sub (negation x))
unfolding value hidden hidden-the_row-Expr-0 hidden-the_row-LVal-1
value_unary _ _ _ = refl

pub value_binary : (sub : ℕ) (o : BinOp) (a : Expr) (b : Expr) → value sub (in_Expr.Binary o a b) ≡ go_on (value (sub + 1) a) (λ x. go_on (value (sub + 1 + count_expr a) b) (λ y. undefined_at sub (operation o x y)))
unfolding value hidden hidden-the_row-Expr-0 hidden-the_row-LVal-1
value_binary _ _ _ _ = refl

pub value_null : (sub : ℕ) → value sub in_Expr.Null ≡ Ok (pos 0)
unfolding value hidden hidden-the_row-Expr-0 hidden-the_row-LVal-1
value_null _ = refl

pub value_load : (sub : ℕ) (x1 : LVal) (x2 : CType) → value sub (in_Expr.Load x1 x2) ≡ Ok (pos 0)
unfolding value hidden hidden-the_row-Expr-0 hidden-the_row-LVal-1
value_load _ _ _ = refl

pub value_addr : (sub : ℕ) (x3 : LVal) → value sub (in_Expr.Addr x3) ≡ Ok (pos 0)
unfolding value hidden hidden-the_row-Expr-0 hidden-the_row-LVal-1
value_addr _ _ = refl

pub value_start : (sub : ℕ) (x4 : LVal) → value sub (in_Expr.Start x4) ≡ Ok (pos 0)
unfolding value hidden hidden-the_row-Expr-0 hidden-the_row-LVal-1
value_start _ _ = refl

pub value_cast : (sub : ℕ) (x5 : CType) (x6 : Expr) → value sub (in_Expr.Cast x5 x6) ≡ Ok (pos 0)
unfolding value hidden hidden-the_row-Expr-0 hidden-the_row-LVal-1
value_cast _ _ _ = refl

pub ruleset value_equations = (value_const, value_unary, value_binary, value_null, value_load, value_addr, value_start, value_cast)

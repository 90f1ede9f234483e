-- IsConstant at each variant; written by tools/equations.py.
use Rattle.std.specs.Prelude.{◌≡◌, ℤ, IsTrue}
use Rattle.c_types.specs.declared.types.IntKind.{IntKind}
use Rattle.program.specs.declared.expressions.UnOp.TheVariants as un
use Rattle.program.specs.declared.expressions.BinOp.{BinOp}
use Rattle.program.specs.declared.expressions.Expr.{Expr}
use Rattle.program.specs.declared.expressions.Expr.TheVariants.{Const, Unary', Binary'}
use Rattle.normal_form.specs.ConstantExpression.{is_arithmetic, IsConstant, IsIntConstant}
use Rattle.program.specs.declared.expressions.UnOp.{UnOp}
use Rattle.program.specs.declared.expressions.Expr.TheVariants as in_Expr
use Rattle.program.specs.declared.expressions.LVal.{LVal}
use Rattle.c_types.specs.declared.types.CType.{CType}
use denote.Hole.Carrier.{hidden}
use Rattle.program.specs.declared.expressions.Expr.TheBlock.{hidden-the_row-Expr-0, hidden-the_row-LVal-1}

pub isconstant_const : (k : IntKind) (v : ℤ) → IsConstant (in_Expr.Const k v) → IsIntConstant k v
unfolding IsConstant hidden hidden-the_row-Expr-0 hidden-the_row-LVal-1
isconstant_const _ _ h = h

pub isconstant_const_is : (k : IntKind) (v : ℤ) → (IsIntConstant k v) → IsConstant (in_Expr.Const k v)
unfolding IsConstant hidden hidden-the_row-Expr-0 hidden-the_row-LVal-1
isconstant_const_is _ _ h = h

pub isconstant_unary : (u : UnOp) (a : Expr) → IsConstant (in_Expr.Unary u a) → (u ≡ un.Neg) × IsConstant a
unfolding IsConstant hidden hidden-the_row-Expr-0 hidden-the_row-LVal-1
isconstant_unary _ _ h = h

pub isconstant_unary_is : (u : UnOp) (a : Expr) → ((u ≡ un.Neg) × IsConstant a) → IsConstant (in_Expr.Unary u a)
unfolding IsConstant hidden hidden-the_row-Expr-0 hidden-the_row-LVal-1
isconstant_unary_is _ _ h = h

pub isconstant_binary : (o : BinOp) (a : Expr) (b : Expr) → IsConstant (in_Expr.Binary o a b) → IsTrue (is_arithmetic o) × IsConstant a × IsConstant b
unfolding IsConstant hidden hidden-the_row-Expr-0 hidden-the_row-LVal-1
isconstant_binary _ _ _ h = h

pub isconstant_binary_is : (o : BinOp) (a : Expr) (b : Expr) → (IsTrue (is_arithmetic o) × IsConstant a × IsConstant b) → IsConstant (in_Expr.Binary o a b)
unfolding IsConstant hidden hidden-the_row-Expr-0 hidden-the_row-LVal-1
isconstant_binary_is _ _ _ h = h

pub isconstant_null : IsConstant in_Expr.Null → ⊥
unfolding IsConstant hidden hidden-the_row-Expr-0 hidden-the_row-LVal-1
isconstant_null h = h

pub isconstant_null_is : (⊥) → IsConstant in_Expr.Null
unfolding IsConstant hidden hidden-the_row-Expr-0 hidden-the_row-LVal-1
isconstant_null_is h = h

pub isconstant_load : (x1 : LVal) (x2 : CType) → IsConstant (in_Expr.Load x1 x2) → ⊥
unfolding IsConstant hidden hidden-the_row-Expr-0 hidden-the_row-LVal-1
isconstant_load _ _ h = h

pub isconstant_load_is : (x1 : LVal) (x2 : CType) → (⊥) → IsConstant (in_Expr.Load x1 x2)
unfolding IsConstant hidden hidden-the_row-Expr-0 hidden-the_row-LVal-1
isconstant_load_is _ _ h = h

pub isconstant_addr : (x3 : LVal) → IsConstant (in_Expr.Addr x3) → ⊥
unfolding IsConstant hidden hidden-the_row-Expr-0 hidden-the_row-LVal-1
isconstant_addr _ h = h

pub isconstant_addr_is : (x3 : LVal) → (⊥) → IsConstant (in_Expr.Addr x3)
unfolding IsConstant hidden hidden-the_row-Expr-0 hidden-the_row-LVal-1
isconstant_addr_is _ h = h

pub isconstant_start : (x4 : LVal) → IsConstant (in_Expr.Start x4) → ⊥
unfolding IsConstant hidden hidden-the_row-Expr-0 hidden-the_row-LVal-1
isconstant_start _ h = h

pub isconstant_start_is : (x4 : LVal) → (⊥) → IsConstant (in_Expr.Start x4)
unfolding IsConstant hidden hidden-the_row-Expr-0 hidden-the_row-LVal-1
isconstant_start_is _ h = h

pub isconstant_cast : (x5 : CType) (x6 : Expr) → IsConstant (in_Expr.Cast x5 x6) → ⊥
unfolding IsConstant hidden hidden-the_row-Expr-0 hidden-the_row-LVal-1
isconstant_cast _ _ h = h

pub isconstant_cast_is : (x5 : CType) (x6 : Expr) → (⊥) → IsConstant (in_Expr.Cast x5 x6)
unfolding IsConstant hidden hidden-the_row-Expr-0 hidden-the_row-LVal-1
isconstant_cast_is _ _ h = h

pub ruleset constant_expression_equations = (isconstant_const, isconstant_const_is, isconstant_unary, isconstant_unary_is, isconstant_binary, isconstant_binary_is, isconstant_null, isconstant_null_is, isconstant_load, isconstant_load_is, isconstant_addr, isconstant_addr_is, isconstant_start, isconstant_start_is, isconstant_cast, isconstant_cast_is)

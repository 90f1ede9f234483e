-- Which expressions are constant expressions of type int (C11 6.6) in a file of functions that return constants.
use Rattle.std.specs.Prelude.{◌≡◌, ℤ, pos, ◌≤ℤ◌, Bool, true, false, IsTrue}
use Rattle.c_types.specs.declared.types.IntKind.{IntKind}
use Rattle.c_types.specs.declared.types.IntKind.TheVariants as int_kind
use Rattle.program.specs.declared.expressions.UnOp.TheVariants as un
use Rattle.program.specs.declared.expressions.BinOp.{BinOp}
use Rattle.program.specs.declared.expressions.BinOp.TheVariants as op
use Rattle.program.specs.declared.expressions.Expr.{Expr, end_of-Expr, more_of-Expr}
use Rattle.program.specs.declared.expressions.Expr.TheVariants.{Const, Unary', Binary'}

-- 6.4.4.1p5: an unsuffixed constant that int can represent
pub record IsIntConstant (k : IntKind) (v : ℤ) : Type 0 where
  pub is_int : k ≡ int_kind.Int
  pub above : pos 0 ≤ℤ v
  pub below : v ≤ℤ pos 2147483647

-- 6.5.5, 6.5.6: the operators `+ - * /`
abbrev pub is_arithmetic : BinOp → Bool
is_arithmetic op.Add = true
is_arithmetic op.Sub = true
is_arithmetic op.Mul = true
is_arithmetic op.Div = true
is_arithmetic _ = false

-- int constants under unary `-` and binary `+ - * /`
unfoldable pub IsConstant : Expr → Type 0
IsConstant (Const k v) = IsIntConstant k v
IsConstant (Unary' u _ (more_of-Expr a end_of-Expr)) = (u ≡ un.Neg) × IsConstant a
IsConstant (Binary' o _ (more_of-Expr a end_of-Expr) _ (more_of-Expr b end_of-Expr)) = IsTrue (is_arithmetic o) × IsConstant a × IsConstant b
IsConstant _ = ⊥

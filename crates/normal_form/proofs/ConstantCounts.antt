-- The operands of a constant expression, where its subexpressions are counted.
use Rattle.std.proofs.Common.{◌≡◌, sym, subst}
use Rattle.program.specs.declared.expressions.UnOp.{UnOp}
use Rattle.program.specs.declared.expressions.BinOp.{BinOp}
use Rattle.program.specs.declared.expressions.Expr.{Expr}
use Rattle.program.specs.declared.expressions.Expr.TheVariants as in_Expr
use Rattle.program.proofs.Equations.{count_equations}
use Rattle.normal_form.specs.ConstantExpression.{IsConstant}
use Rattle.normal_form.proofs.ConstantEquations.{isconstant_unary, isconstant_binary, constant_expression_equations}

pub ruleset constant_counts = (count_equations, constant_expression_equations)

pub operand : (e : Expr) (u : UnOp) (a b : Expr) → e ≡ in_Expr.Unary u a → b ≡ a → IsConstant e → IsConstant b
operand e u a b is same h = subst IsConstant (sym same) (isconstant_unary u a (subst IsConstant is h)).1

module _ (e : Expr) (o : BinOp) (a b : Expr) (is : e ≡ in_Expr.Binary o a b) where
  pub left_operand : (d : Expr) → d ≡ a → IsConstant e → IsConstant d
  left_operand d same h = subst IsConstant (sym same) (isconstant_binary o a b (subst IsConstant is h)).1

  pub right_operand : (d : Expr) → d ≡ b → IsConstant e → IsConstant d
  right_operand d same h = subst IsConstant (sym same) (isconstant_binary o a b (subst IsConstant is h)).2

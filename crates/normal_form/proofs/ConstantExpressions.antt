-- What a tree stands for is a constant expression.
use Rattle.std.proofs.Common.{◌≡◌, ℕ, ◌<◌, pos, Bool, true, false, Option, Some, None, refl, subst, sym, arith, IfSome}
use Rattle.std.proofs.lemmas.Bool.{ltb-true}
use Rattle.std.proofs.lemmas.Int.{ints}
use Rattle.std.specs.Prelude.{nat_lt, if◌then◌else◌, not, ◌&&◌, bytes_eq, IsTrue}
use Rattle.std.specs.Option.{option_map}
use lib.Chars.{codes}
use Rattle.c_lex.specs.Bytes.{Text}
use Rattle.c_lex.specs.Constant.{int_constant}
use Rattle.c_lex.specs.declared.constant.IntConstant.{IntConstant}
use Rattle.c_types.specs.declared.types.IntKind.TheVariants as kind
use Rattle.c_tree.specs.declared.tree.ExForm.{ExForm, end_of-Ex, more_of-Ex}
use Rattle.c_tree.specs.declared.tree.ExForm.TheVariants.{Int, Paren', Unary', Binary'}
use Rattle.c_tree.specs.declared.tree.Ex.{Ex}
use Rattle.program.specs.declared.expressions.UnOp.TheVariants as un
use Rattle.program.specs.declared.expressions.BinOp.{BinOp}
use Rattle.program.specs.declared.expressions.BinOp.TheVariants as op
use Rattle.program.specs.declared.expressions.Expr.{Expr}
use Rattle.program.specs.declared.expressions.Expr.TheVariants as expr
use Rattle.normal_form.specs.ConstantExpression.{IsConstant, is_arithmetic}
use Rattle.normal_form.specs.ConstantForm.{is_zero, is_int, int_of, operator, combined, constant_at, constant_of}
use Rattle.normal_form.proofs.ConstantEquations.{isconstant_const_is, isconstant_unary_is, isconstant_binary_is}

small : (u z l : Bool) → not u && (z && l) ≡ true → l ≡ true
small true z l h = cc
small false true l h = h
small false false l h = cc

int_if : (c : IntConstant) (b : Bool) → is_int c ≡ b → IfSome (if b then Some (expr.Const kind.Int (pos c.value)) else None) IsConstant
int_if c true h =
    let l : nat_lt c.value 2147483648 ≡ true = small c.unsigned (is_zero c.longs) _ h in
    let k : c.value < 2147483648 = ltb-true c.value 2147483648 l in
    isconstant_const_is _ _ (record { is_int = refl; above = omega (arith, ints); below = omega (arith, ints) })
int_if c false h = tt

int_is_constant : (c : Option IntConstant) → IfSome (int_of c) IsConstant
int_is_constant (Some c) = int_if c (is_int c) refl
int_is_constant None = tt

negated_if : (b : Bool) (a : Option Expr) → IfSome a IsConstant → IfSome (if b then option_map (expr.Unary un.Neg) a else None) IsConstant
negated_if true (Some a) h = isconstant_unary_is un.Neg a (refl, h)
negated_if true None h = tt
negated_if false a h = tt

-- an operator that is found is arithmetic
operator_if : (p m t d : Bool) →
    IfSome (if p then Some op.Add else (if m then Some op.Sub else (if t then Some op.Mul else (if d then Some op.Div else None)))) (λ o. IsTrue (is_arithmetic o))
operator_if true m t d = refl
operator_if false true t d = refl
operator_if false false true d = refl
operator_if false false false true = refl
operator_if false false false false = tt

combined_is : (o : Option BinOp) (a b : Option Expr) → IfSome o (λ x. IsTrue (is_arithmetic x)) → IfSome a IsConstant → IfSome b IsConstant → IfSome (combined o a b) IsConstant
combined_is (Some o) (Some a) (Some b) h k l = isconstant_binary_is o a b (h, k, l)
combined_is (Some o) (Some a) None h k l = tt
combined_is (Some o) None b h k l = tt
combined_is None a b h k l = tt

module _ (text : ℕ → Text) where
  at_is_constant : (at : ℕ) (f : ExForm) → IfSome (constant_at text at f) IsConstant
  unfolding constant_at
  at_is_constant at Int = int_is_constant (int_constant (text at))
  at_is_constant at (Paren' _ (more_of-Ex i f end_of-Ex)) = at_is_constant i f
  at_is_constant at (Unary' _ (more_of-Ex i f end_of-Ex)) =
      negated_if (bytes_eq (text at) (codes "-")) (constant_at text i f) (at_is_constant i f)
  at_is_constant at (Binary' o _ (more_of-Ex i f end_of-Ex) _ (more_of-Ex j g end_of-Ex)) =
      combined_is (operator (text o)) (constant_at text i f) (constant_at text j g)
      (operator_if (bytes_eq (text o) (codes "+")) (bytes_eq (text o) (codes "-")) (bytes_eq (text o) (codes "*")) (bytes_eq (text o) (codes "/")))
      (at_is_constant i f) (at_is_constant j g)
  at_is_constant at _ = tt

  pub constant_is : (e : Ex) (x : Expr) → Some x ≡ constant_of text e → IsConstant x
  constant_is e x h = subst (λ (o : Option Expr). IfSome o IsConstant) (sym h) (at_is_constant e.at e.form)

-- How the walk over a constant expression adds up.
use Rattle.std.proofs.Common.{◌≡◌, ℕ, ◌+◌, ◌^◌, ◌<◌, ℤ, Ok, Err, Result, ap, ◌∙◌, sym, subst, arith}
use Rattle.std.specs.Prelude.{IsTrue}
use Rattle.c_types.specs.declared.types.IntKind.{IntKind}
use Rattle.program.specs.declared.expressions.UnOp.{UnOp}
use Rattle.program.specs.declared.expressions.BinOp.{BinOp}
use Rattle.program.specs.declared.expressions.Expr.{Expr}
use Rattle.program.specs.declared.expressions.Expr.TheVariants as in_Expr
use Rattle.program.specs.Numbers.{count_expr}
use Rattle.program.proofs.Equations.{count_expr_const, count_expr_unary, count_expr_binary}
use Rattle.normal_form.proofs.ConstantEquations.{isconstant_const, isconstant_unary, isconstant_binary}
use Rattle.constant_meaning.specs.declared.constant.Undefined.{Undefined}
use Rattle.normal_form.specs.ConstantExpression.{IsIntConstant}
use Rattle.constant_meaning.specs.ConstantValue.{IsConstant, is_arithmetic, negation, operation, undefined_at, go_on, value, with_next}
use Rattle.constant_meaning.proofs.ConstantEquations.{value_const, value_unary, value_binary}

-- what an operand's walk says of its value
taken : (n : ℕ) (r : Result ℤ Undefined) (x : ℤ) (next : ℕ) → Ok (x, next) ≡ with_next n r → r ≡ Ok x
taken n (Ok y) x next h = let q : (x, next) ≡ (y, n) = cc in ap (λ (z : ℤ × ℕ). Ok z.0) (sym q)
taken n (Err u) x next h = cc

reached : (n : ℕ) (r : Result ℤ Undefined) (x : ℤ) (next : ℕ) → Ok (x, next) ≡ with_next n r → next ≡ n
reached n (Ok y) x next h = let q : (x, next) ≡ (y, n) = cc in ap (λ (z : ℤ × ℕ). z.1) q
reached n (Err u) x next h = cc

refused : (n m : ℕ) (r : Result ℤ Undefined) (u : Undefined) (later : ℤ → Result ℤ Undefined) → Err u ≡ with_next n r → Err u ≡ with_next m (go_on r later)
refused n m (Ok y) u later h = cc
refused n m (Err v) u later h = h

-- an operation, by other names of its operands
pub binary_shape : (e a b c d : Expr) (o : BinOp) → e ≡ in_Expr.Binary o a b → c ≡ a → d ≡ b → e ≡ in_Expr.Binary o c d
binary_shape e a b c d o is left right = is ∙ ap (λ (x : Expr). in_Expr.Binary o x b) (sym left) ∙ ap (in_Expr.Binary o c) (sym right)

module _ (sub : ℕ) (e : Expr) where
  module _ (k : IntKind) (v : ℤ) (is : e ≡ in_Expr.Const k v) where
    pub const_constant : IsConstant e → IsIntConstant k v
    const_constant h = isconstant_const k v (subst IsConstant is h)

    pub const_count : count_expr e ≡ 1
    const_count = ap count_expr is ∙ count_expr_const k v

    pub const_is : Ok (v, sub + 1) ≡ with_next (sub + count_expr e) (value sub e)
    const_is = sym (ap (λ (n : ℕ). with_next (sub + n) (value sub e)) const_count
        ∙ ap (λ (x : Expr). with_next (sub + 1) (value sub x)) is ∙ ap (with_next (sub + 1)) (value_const sub k v))

  module _ (u : UnOp) (a : Expr) (is : e ≡ in_Expr.Unary u a) where
    pub unary_constant : IsConstant e → IsConstant a
    unary_constant h = (isconstant_unary u a (subst IsConstant is h)).1

    pub unary_count : count_expr e ≡ 1 + count_expr a
    unary_count = ap count_expr is ∙ count_expr_unary u a

    unary_value : value sub e ≡ go_on (value (sub + 1) a) (λ x. undefined_at sub (negation x))
    unary_value = ap (value sub) is ∙ value_unary sub u a

    pub unary_requires : (b : Expr) → b ≡ a → IsConstant e → sub + count_expr e < 2 ^ 32 → IsConstant b × (sub + 1 + count_expr b < 2 ^ 32)
    unary_requires b same h n =
        let c = unary_count in
        let d = ap count_expr same in
        (subst IsConstant (sym same) (unary_constant h), omega (arith, n, c, d))

    pub unary_is : (x : ℤ) (next : ℕ) → Ok (x, next) ≡ with_next (sub + 1 + count_expr a) (value (sub + 1) a) →
        with_next next (undefined_at sub (negation x)) ≡ with_next (sub + count_expr e) (value sub e)
    unary_is x next h =
        let r = taken _ _ _ _ h in
        let n = reached _ _ _ _ h in
        let c = unary_count in
        let m : next ≡ sub + count_expr e = omega (arith, n, c) in
        let w : value sub e ≡ undefined_at sub (negation x) =
        unary_value ∙ ap (λ (q : Result ℤ Undefined). go_on q (λ y. undefined_at sub (negation y))) r in
        ap (λ (k : ℕ). with_next k (undefined_at sub (negation x))) m ∙ ap (with_next (sub + count_expr e)) (sym w)

    pub unary_err : (v : Undefined) → Err v ≡ with_next (sub + 1 + count_expr a) (value (sub + 1) a) → Err v ≡ with_next (sub + count_expr e) (value sub e)
    unary_err v h = refused _ (sub + count_expr e) _ v _ h ∙ ap (with_next (sub + count_expr e)) (sym unary_value)

  module _ (o : BinOp) (a b : Expr) (is : e ≡ in_Expr.Binary o a b) where
    binary_parts : IsConstant e → IsTrue (is_arithmetic o) × IsConstant a × IsConstant b
    binary_parts h = isconstant_binary o a b (subst IsConstant is h)

    pub binary_arithmetic : IsConstant e → IsTrue (is_arithmetic o)
    binary_arithmetic h = (binary_parts h).0

    pub left_constant : IsConstant e → IsConstant a
    left_constant h = (binary_parts h).1

    pub right_constant : IsConstant e → IsConstant b
    right_constant h = (binary_parts h).2

    pub binary_count : count_expr e ≡ 1 + count_expr a + count_expr b
    binary_count = ap count_expr is ∙ count_expr_binary o a b

    pub left_requires : (d : Expr) → d ≡ a → IsConstant e → sub + count_expr e < 2 ^ 32 → IsConstant d × (sub + 1 + count_expr d < 2 ^ 32)
    left_requires d same h n =
        let c = binary_count in
        let k = ap count_expr same in
        (subst IsConstant (sym same) (left_constant h), omega (arith, n, c, k))

    binary_value : value sub e ≡ go_on (value (sub + 1) a) (λ x. go_on (value (sub + 1 + count_expr a) b) (λ y. undefined_at sub (operation o x y)))
    binary_value = ap (value sub) is ∙ value_binary sub o a b

    pub between_is : (x : ℤ) (between : ℕ) → Ok (x, between) ≡ with_next (sub + 1 + count_expr a) (value (sub + 1) a) → between ≡ sub + 1 + count_expr a
    between_is x between h = reached _ _ _ _ h

    pub right_requires : (x : ℤ) (between : ℕ) → Ok (x, between) ≡ with_next (sub + 1 + count_expr a) (value (sub + 1) a) →
        (d : Expr) → d ≡ b → IsConstant e → sub + count_expr e < 2 ^ 32 → IsConstant d × (between + count_expr d < 2 ^ 32)
    right_requires x between first d same h n =
        let c = binary_count in
        let k = ap count_expr same in
        let w = between_is x between first in
        (subst IsConstant (sym same) (right_constant h), omega (arith, n, c, k, w))

    pub left_err : (v : Undefined) → Err v ≡ with_next (sub + 1 + count_expr a) (value (sub + 1) a) → Err v ≡ with_next (sub + count_expr e) (value sub e)
    left_err v h = refused _ (sub + count_expr e) _ v _ h ∙ ap (with_next (sub + count_expr e)) (sym binary_value)

    module _ (x : ℤ) (between : ℕ) (first : Ok (x, between) ≡ with_next (sub + 1 + count_expr a) (value (sub + 1) a)) where
      after_left : value sub e ≡ go_on (value between b) (λ y. undefined_at sub (operation o x y))
      after_left =
          let r = taken _ _ _ _ first in
          binary_value ∙ ap (λ (q : Result ℤ Undefined). go_on q (λ x'. go_on (value (sub + 1 + count_expr a) b) (λ y. undefined_at sub (operation o x' y)))) r
          ∙ ap (λ (n : ℕ). go_on (value n b) (λ y. undefined_at sub (operation o x y))) (sym (between_is x between first))

      pub right_err : (v : Undefined) → Err v ≡ with_next (between + count_expr b) (value between b) → Err v ≡ with_next (sub + count_expr e) (value sub e)
      right_err v h = refused _ (sub + count_expr e) _ v _ h ∙ ap (with_next (sub + count_expr e)) (sym after_left)

      pub binary_is : (y : ℤ) (next : ℕ) → Ok (y, next) ≡ with_next (between + count_expr b) (value between b) →
          with_next next (undefined_at sub (operation o x y)) ≡ with_next (sub + count_expr e) (value sub e)
      binary_is y next h =
          let r = taken _ _ _ _ h in
          let n = reached _ _ _ _ h in
          let c = binary_count in
          let d = between_is x between first in
          let m : next ≡ sub + count_expr e = omega (arith, n, c, d) in
          let w : value sub e ≡ undefined_at sub (operation o x y) =
          after_left ∙ ap (λ (q : Result ℤ Undefined). go_on q (λ y'. undefined_at sub (operation o x y'))) r in
          ap (λ (k : ℕ). with_next k (undefined_at sub (operation o x y))) m ∙ ap (with_next (sub + count_expr e)) (sym w)

use Rattle.std.proofs.Common.{arith, rules, ap, ◌∙◌, sym, Ok, Result, ℤ, ◌+◌, refl}
use Rattle.std.proofs.lemmas.Int.{to_z-of_z}
use Rattle.std.specs.Int.{w32, w128}
use mir.Val.{to_z, of_z}
use Rattle.std.specs.Int.RustNames.{FitsSigned}
use Rattle.program.specs.declared.expressions.Expr.{the_lemmas}
use Rattle.program.specs.declared.expressions.Expr.TheVariants as in_Expr
use Rattle.program.specs.declared.sites.Kind.{Kind}
use Rattle.constant_meaning.specs.ConstantValue.{negation, operation, undefined_at, with_next}
use Rattle.constant_meaning.proofs.ConstantWalk.{const_count, const_is, unary_count, unary_requires, unary_is, binary_count, left_requires, right_requires, binary_shape, binary_is}
use Rattle.constant_meaning.proofs.constant.+evaluating.Goals as goal

pub overflow_add-result : goal.overflow_add-result
overflow_add-result t c =
    let n = const_count c.args.sub c.args.e.now _ _ c.in-Const.is in
    let h = c.requires.numbers in
    omega (arith, n, h)

pub overflow_add-sub : goal.overflow_add-sub
overflow_add-sub t c =
    let n = unary_count c.args.sub c.args.e.now _ _ c.in-Unary.is in
    let h = c.requires.numbers in
    omega (arith, n, h)

pub overflow_add-sub-in-Binary : goal.overflow_add-sub-in-Binary
overflow_add-sub-in-Binary t c =
    let n = binary_count c.args.sub c.args.e.now _ _ _ c.in-Binary.is in
    let h = c.requires.numbers in
    omega (arith, n, h)

pub evaluate_on-requires : goal.evaluate_on-requires
evaluate_on-requires t c =
    (search (rules, the_lemmas), unary_requires c.args.sub c.args.e.now _ _ c.in-Unary.is _ c.get.ensures c.requires.constant c.requires.numbers)

pub evaluate_on-requires-in-Binary : goal.evaluate_on-requires-in-Binary
evaluate_on-requires-in-Binary t c = (
  search (rules, the_lemmas),
  left_requires c.args.sub c.args.e.now _ _ _ c.in-Binary.is _ c.get-in-Binary.ensures c.requires.constant c.requires.numbers,
)

pub evaluate_on-requires-in-Binary-2 : goal.evaluate_on-requires-in-Binary-2
evaluate_on-requires-in-Binary-2 t c = (
  search (rules, the_lemmas),
  right_requires c.args.sub c.args.e.now _ _ _ (binary_shape _ _ _ _ _ _ c.in-Binary.is c.get-in-Binary.ensures refl) _ _ c.in_ok-x-in-Binary.ensures _
      c.get-in-Binary-2.ensures c.requires.constant c.requires.numbers,
)

pub returns-in-Const : goal.returns-in-Const
returns-in-Const t c =
    let fits : FitsSigned w32 c.int_of.result = search rules in
    let wide : FitsSigned w128 c.in-Const.v = search rules in
    ap (λ (x : ℤ). Ok (x, c.args.sub + 1)) (to_z-of_z w32 c.int_of.result fits ∙ c.int_of.ensures ∙ to_z-of_z w128 c.in-Const.v wide)
    ∙ const_is c.args.sub c.args.e.now _ _ c.in-Const.is

pub returns-in_ok-x-in-Unary : goal.returns-in_ok-x-in-Unary
returns-in_ok-x-in-Unary t c =
    let is = c.in-Unary.is ∙ ap (in_Expr.Unary _) (sym c.get.ensures) in
    let fits : FitsSigned w32 c.in_ok-x-in-Unary.x = search rules in
    let given = c.negate.ensures ∙ ap negation (to_z-of_z w32 c.in_ok-x-in-Unary.x fits) in
    c.placed.ensures ∙ ap (λ (r : Result ℤ Kind). with_next c.in_ok-x-in-Unary.next (undefined_at c.args.sub r)) given
    ∙ unary_is c.args.sub c.args.e.now _ _ is _ _ c.in_ok-x-in-Unary.ensures

pub returns-in_ok-y-in-Binary : goal.returns-in_ok-y-in-Binary
returns-in_ok-y-in-Binary t c =
    let fits : FitsSigned w32 c.in_ok-x-in-Binary.x = search rules in
    let fits' : FitsSigned w32 c.in_ok-y-in-Binary.y = search rules in
    let given = c.operate.ensures ∙ ap (λ (x : ℤ). operation c.in-Binary.op x (to_z w32 (of_z w32 c.in_ok-y-in-Binary.y))) (to_z-of_z w32 c.in_ok-x-in-Binary.x fits)
    ∙ ap (operation c.in-Binary.op c.in_ok-x-in-Binary.x) (to_z-of_z w32 c.in_ok-y-in-Binary.y fits') in
    c.placed-in-Binary.ensures ∙ ap (λ (r : Result ℤ Kind). with_next c.in_ok-y-in-Binary.next (undefined_at c.args.sub r)) given
    ∙ binary_is c.args.sub c.args.e.now _ _ _ (binary_shape _ _ _ _ _ _ c.in-Binary.is c.get-in-Binary.ensures c.get-in-Binary-2.ensures) _ _ c.in_ok-x-in-Binary.ensures _ _ c.in_ok-y-in-Binary.ensures

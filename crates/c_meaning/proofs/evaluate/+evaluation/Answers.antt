use Rattle.std.proofs.Common.{rules, arith, sym, subst, ap, ◌∙◌}
use Rattle.std.specs.Prelude.{FitsSigned}
use Rattle.std.specs.Int.{w128}
use Rattle.std.proofs.lemmas.Int.{to_z-of_z}
use Rattle.program.specs.declared.expressions.Expr.{the_lemmas}
use Rattle.program.specs.Numbers.{count_expr, count_lval}
use Rattle.program.proofs.Equations.{count_equations, count_lval_index}
use Rattle.c_arithmetic.specs.Arithmetic.{IsPlain}
use Rattle.c_meaning.specs.Typed.{IsTypedExpr, IsTypedPlace}
use Rattle.c_meaning.proofs.TypedParts.{typed_parts, typed_const, typed_load, typed_scalar, typed_index}
use Rattle.c_meaning.proofs.evaluate.+evaluation.Goals as goal

pub value-place-requires : goal.value-place-requires
value-place-requires t c =
    let typed = typed_load _ _ _ c.in-Load.t (subst (IsTypedExpr c.args.p.now c.args.f.now) c.in-Load.is c.requires.typed) in
    (search (rules, the_lemmas), (c.requires.narrow, (typed, grind (arith, count_equations))))

pub value-place-requires-in-Addr : goal.value-place-requires-in-Addr
value-place-requires-in-Addr t c = (search (rules, the_lemmas), (c.requires.narrow, (grind (arith, typed_parts), grind (arith, count_equations))))

pub value-place-requires-in-Start : goal.value-place-requires-in-Start
value-place-requires-in-Start t c = (search (rules, the_lemmas), (c.requires.narrow, (grind (arith, typed_parts), grind (arith, count_equations))))

pub value-value-requires : goal.value-value-requires
value-value-requires t c = (search (rules, the_lemmas), (c.requires.narrow, (grind (arith, typed_parts), grind (arith, count_equations))))

pub value-value-requires-in-Binary : goal.value-value-requires-in-Binary
value-value-requires-in-Binary t c = (search (rules, the_lemmas), (c.requires.narrow, (grind (arith, typed_parts), grind (arith, count_equations))))

pub value-value-requires-in-Binary-2 : goal.value-value-requires-in-Binary-2
value-value-requires-in-Binary-2 t c = (search (rules, the_lemmas), (c.requires.narrow, (grind (arith, typed_parts), grind (arith, count_equations))))

pub value-value-requires-in-Cast : goal.value-value-requires-in-Cast
value-value-requires-in-Cast t c = (search (rules, the_lemmas), (c.requires.narrow, (grind (arith, typed_parts), grind (arith, count_equations))))

pub place-value-requires : goal.place-value-requires
place-value-requires t c = (search (rules, the_lemmas), (c.requires.narrow, (grind (arith, typed_parts), grind (arith, count_equations))))

pub place-place-requires : goal.place-place-requires
place-place-requires t c = (search (rules, the_lemmas), (c.requires.narrow, (grind (arith, typed_parts), grind (arith, count_equations))))

pub place-value-requires-in-Index : goal.place-value-requires-in-Index
place-value-requires-in-Index t c =
    let whole = ap count_lval c.in-Index.is ∙ count_lval_index c.in-Index.a c.in-Index.i in
    let array = ap count_lval c.get-a.ensures in
    let index = ap count_expr c.get-i.ensures in
    let typed = typed_index _ _ c.in-Index.a c.in-Index.i (subst (IsTypedPlace c.args.p.now c.args.f.now) c.in-Index.is c.requires.typed) in
    let typed_there = subst (IsTypedExpr c.args.p.now c.args.f.now) (sym c.get-i.ensures) typed in
    (search (rules, the_lemmas), (c.requires.narrow, (typed_there, omega (arith, c.requires.numbered))))

pub place-place-requires-in-Field : goal.place-place-requires-in-Field
place-place-requires-in-Field t c = (search (rules, the_lemmas), (c.requires.narrow, (grind (arith, typed_parts), grind (arith, count_equations))))

pub value-load-requires : goal.value-load-requires
value-load-requires t c =
    c.scalar_bits.ensures.narrow (typed_scalar _ _ _ _ (subst (IsTypedExpr c.args.p.now c.args.f.now) c.in-Load.is c.requires.typed))

pub value-returns-in-Const-clause-plain : goal.value-returns-in-Const-clause-plain
value-returns-in-Const-clause-plain t c =
    let fits : FitsSigned w128 c.in-Const.v = search rules in
    let plain = typed_const _ _ _ _ (subst (IsTypedExpr c.args.p.now c.args.f.now) c.in-Const.is c.requires.typed) in
    subst IsPlain (sym (to_z-of_z w128 c.in-Const.v fits)) plain

use Rattle.std.proofs.Common.{◌≡◌, ◌+◌, ◌∷◌, [], drop, refl, sym, ◌∙◌, Ok, Err, arith}
use Rattle.std.proofs.lemmas.Grind.{common_steps}
use Rattle.c_meaning.specs.Value.{value}
use Rattle.c_meaning.proofs.Arguments.{following_none, found_more, found_stop, found_all}
use Rattle.c_meaning.proofs.execution.values.Goals as goal

pub loop-e-init : goal.loop-e-init
loop-e-init c = (rw c.new-found.ensures (following_none _), refl)

pub returns-in-Err : goal.returns-in-Err
returns-in-Err c =
    let left_is : drop c.loop-e.e-index c.args.args.now ≡ c.e-item.result ∷ drop (c.loop-e.e-index + 1) c.args.args.now = grind (arith, common_steps) in
    let one : Err c.in-Err.undefined ≡ value c.args.p.now c.args.f.now c.args.memory.now c.loop-e.sub c.e-item.result = sym c.in-Err.is ∙ c.value.ensures.value in
    found_stop _ _ _ _ _ _ _ _ _ _ _ c.loop-e.invariant.0 left_is one

pub loop-e-preserved : goal.loop-e-preserved
loop-e-preserved c =
    let left_is : drop c.loop-e.e-index c.args.args.now ≡ c.e-item.result ∷ drop (c.loop-e.e-index + 1) c.args.args.now = grind (arith, common_steps) in
    let one : Ok c.in-Ok.v ≡ value c.args.p.now c.args.f.now c.args.memory.now c.loop-e.sub c.e-item.result = sym c.in-Ok.is ∙ c.value.ensures.value in
    (found_more _ _ _ _ _ _ _ _ _ _ _ _ _ c.loop-e.invariant.0 left_is one c.in_ok-push-in-Ok.ensures.ok c.count_expr-sub.ensures, grind (arith, common_steps))

pub returns : goal.returns
returns c =
    let left_is : drop c.loop-e.e-index c.args.args.now ≡ [] = grind (arith, common_steps) in
    found_all _ _ _ _ _ _ _ _ c.loop-e.invariant.0 left_is

use Rattle.std.proofs.Common.{arith, rules, ◌≡◌, ◌≢◌, ◌∙◌, sym, ap, Ok, pos, ◌%◌, ◌*◌, ◌^◌}
use Rattle.std.specs.Prelude.{unsigned_abs, FitsSigned}
use Rattle.std.specs.Int.{w128}
use Rattle.std.proofs.lemmas.Int.{ints, to_z-of_z}
use Rattle.c_types.specs.declared.types.IntKind.TheVariants as kind
use Rattle.c_types.specs.Integers.{wrapped}
use Rattle.c_arithmetic.proofs.Products.{is_large, signed_large, truth_large, unsigned_large}
use Rattle.c_arithmetic.proofs.integers.large_product.Goals as goal

pub returns-then-is_signed-clause-value : goal.returns-then-is_signed-clause-value
returns-then-is_signed-clause-value c =
    sym (signed_large _ _ _ (is_large _ _ c.requires.left c.requires.right c.requires.large) (sym c.is_signed.ensures ∙ c.if-is_signed.true))

pub returns-then-eq-clause-value : goal.returns-then-eq-clause-value
returns-then-eq-clause-value c =
    sym (truth_large _ _ _ (is_large _ _ c.requires.left c.requires.right c.requires.large) (search rules))

pub returns-clause-value : goal.returns-clause-value
returns-clause-value c =
    let large = is_large _ _ c.requires.left c.requires.right c.requires.large in
    let other : c.args.kind ≢ kind.Bool = search rules in
    let fits : FitsSigned w128 c.converted.result = search rules in
    let left = c.unsigned_abs.ensures.value ∙ ap unsigned_abs (to_z-of_z w128 c.args.a c.ranges.a) in
    let right = c.unsigned_abs-2.ensures.value ∙ ap unsigned_abs (to_z-of_z w128 c.args.b c.ranges.b) in
    let lowest : pos ((c.unsigned_abs.result * c.unsigned_abs-2.result) % 2 ^ 64) ≡ pos ((unsigned_abs c.args.a * unsigned_abs c.args.b) % 2 ^ 64) = rw (left, right) in
    ap Ok (to_z-of_z w128 c.converted.result fits ∙ c.converted.ensures.value ∙ ap (wrapped c.args.kind) (omega (arith, ints) ∙ lowest))
    ∙ sym (unsigned_large _ _ _ large (sym c.is_signed.ensures ∙ c.if-is_signed.false) other)

use Rattle.std.proofs.Common.{◌∙◌, rules}
use mir.Syntax.{w128}
use Rattle.std.proofs.lemmas.Int.{to_z-of_z}
use Rattle.std.specs.Int.RustNames.{FitsSigned}
use Rattle.value_trees.proofs.Sets.{range_is}
use Rattle.value_trees.proofs.integers.range_in.Goals as goal

pub returns : goal.returns
returns c =
    let e1 = to_z-of_z w128 c.number_at.result (let fits : FitsSigned w128 c.number_at.result = search rules in fits) ∙ c.number_at.ensures in
    let e2 = to_z-of_z w128 c.number_at-2.result (let fits : FitsSigned w128 c.number_at-2.result = search rules in fits) ∙ c.number_at-2.ensures in
    let e3 = to_z-of_z w128 c.number_at-3.result (let fits : FitsSigned w128 c.number_at-3.result = search rules in fits) ∙ c.number_at-3.ensures in
    let e4 = to_z-of_z w128 c.number_at-4.result (let fits : FitsSigned w128 c.number_at-4.result = search rules in fits) ∙ c.number_at-4.ensures in
    range_is c.args.node.now _ _ _ _ e1 e2 e3 e4

-- A constant by its form: what is made of it equals `constant_at` at that form.
use Rattle.std.proofs.Common.{◌≡◌, ℤ, Option, FitsSigned, ap, sym, ◌∙◌, rules}
use Rattle.std.proofs.lemmas.Int.{to_z-of_z}
use Rattle.std.specs.Int.{w128}
use Rattle.c_types.specs.declared.types.IntKind.{IntKind}
use Rattle.elab_rules.specs.declared.operand.Operand.{Operand}
use Rattle.elab_rules.specs.declared.operand.Form.TheVariants as form
use Rattle.elab_rules.specs.Sorts.{kind_of}
use Rattle.elab_rules.specs.Constants.{literal, constant_at}
use Rattle.elab_conversions.proofs.ConstantEquations.{constant_const}
use Rattle.elab_conversions.proofs.constants.+constant_at.Goals as goal

const_is : (x : Operand) (v : ℤ) → x.form ≡ form.Const v → literal (kind_of x.ty) v ≡ constant_at x.ty x.form
const_is x v h = sym (ap (constant_at x.ty) h ∙ constant_const x.ty v)

pub returns-in-Const-clause-value : goal.returns-in-Const-clause-value
returns-in-Const-clause-value t c =
    let wide : FitsSigned w128 c.in-Const.v = search rules in
    c.literal.ensures.value ∙ ap (λ (z : ℤ). literal c.kind_of.result z) (to_z-of_z w128 c.in-Const.v wide)
    ∙ ap (λ (k : Option IntKind). literal k c.in-Const.v) c.kind_of.ensures ∙ const_is c.args.x.now c.in-Const.v c.in-Const.is

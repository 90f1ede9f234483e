use Rattle.std.proofs.Common.{◌≡◌, Result, Ok, Err, List, ◌∙◌, ap, sym, subst, arith}
use Rattle.std.specs.Prelude.{IfErr, IsErrAnd}
use Rattle.c_lex.specs.declared.token.Token.{Token}
use Rattle.normal_form.specs.ConstantForm.{definitions}
use Rattle.eva_front.specs.declared.refusals.Refusal.TheVariants.{NotOfForm}
use Rattle.eva_front.specs.FrontEnd.{not_of_form, without_tree}
use Rattle.eva_front.proofs.Definitions.{few_definitions}
use Rattle.eva_front.proofs.Tokens.{no_more_tokens}
use Rattle.eva_front.proofs.front_end.read_definitions.Goals as goal

err_kept : {T E : Type 0} (o : Result T E) (x : E) (P : E → Type 0) → IsErrAnd o (λ e. e ≡ x) → P x → IfErr o P
err_kept (Ok v) x P h p = absurd h
err_kept (Err e) x P h p = subst P (sym h) p

pub returns-in_err-parsed-clause-refused : goal.returns-in_err-parsed-clause-refused
returns-in_err-parsed-clause-refused c =
    err_kept c.from_residual.result c.in_err-parsed.field-0.0 _ c.from_residual.ensures.1 (λ r e. without_tree (c.in_err-parsed.ensures.refused r e))

pub returns-in-Some-clause-few : goal.returns-in-Some-clause-few
returns-in-Some-clause-few c =
    let h = c.in_ok-parsed.ensures.tree in
    let t = no_more_tokens c.args.file.now c.in_ok-parsed.parsed.tokens.items h.lexed in
    let s = h.short in
    let are = ap (λ (ts : List Token). definitions c.args.file.now ts c.in_ok-parsed.parsed.tree) (sym c.as_slice.ensures.value)
    ∙ sym c.in_ok-found.ensures.equal ∙ c.in-Some.is in
    let n = few_definitions c.args.file.now c.in_ok-parsed.parsed.tokens.items c.in_ok-parsed.parsed.tree c.in-Some.found are in
    omega (arith, n, t, s)

pub returns-clause-refused : goal.returns-clause-refused
returns-clause-refused c = λ r e.
    let none = ap (λ (ts : List Token). definitions c.args.file.now ts c.in_ok-parsed.parsed.tree) (sym c.as_slice.ensures.value)
    ∙ sym c.in_ok-found.ensures.equal ∙ c.in-None.is in
    let same : r ≡ NotOfForm = cc in
    not_of_form c.in_ok-parsed.parsed.tokens.items c.in_ok-parsed.parsed.tree c.in_ok-parsed.ensures.tree none same

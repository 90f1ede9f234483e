use Rattle.std.proofs.Common.{ap, ◌∙◌, sym}
use Rattle.c_lex.specs.Source.{text_in}
use Rattle.c_lex.specs.Constant.{int_constant}
use Rattle.normal_form.proofs.ConstantForms.{int_is, paren_is, unary_is, binary_is, none_at}
use Rattle.normal_form.specs.ConstantForm as spec
use Rattle.normal_form.proofs.expression.+folding.Goals as goal

pub returns-in-Int : goal.returns-in-Int
returns-in-Int t c =
    let whole = int_is (text_in c.args.file.now c.args.tokens.now) c.args.e.now c.in-Int.is in
    let g = c.int_of.ensures in
    g ∙ ap (λ w. spec.int_of (int_constant w)) c.text_in.ensures ∙ sym whole

pub returns-in-Paren : goal.returns-in-Paren
returns-in-Paren t c =
    let whole = paren_is (text_in c.args.file.now c.args.tokens.now) c.args.e.now _ _ c.in-Paren.is c.get.ensures in
    let g = c.constant_of.ensures in rw whole g

pub returns-in_ok-a-in-Unary : goal.returns-in_ok-a-in-Unary
returns-in_ok-a-in-Unary t c =
    let whole = unary_is (text_in c.args.file.now c.args.tokens.now) c.args.e.now _ _ c.in-Unary.is c.get-in-Unary.ensures in
    let g = c.negated.ensures in
    let h = c.in_ok-a-in-Unary.ensures in
    let i = c.text_in-in-Unary.ensures in
    rw (whole, sym h, sym i) g

pub returns-in_ok-b-in-Binary : goal.returns-in_ok-b-in-Binary
returns-in_ok-b-in-Binary t c =
    let whole = binary_is (text_in c.args.file.now c.args.tokens.now) c.args.e.now _ _ _ _ _ c.in-Binary.is c.get-in-Binary.ensures c.get-in-Binary-2.ensures in
    let g = c.combined.ensures in
    let h = c.in_ok-a-in-Binary.ensures in
    let k = c.in_ok-b-in-Binary.ensures in
    let i = c.text_in-in-Binary.ensures in
    let o = c.operator.ensures in
    rw (whole, sym h, sym k, sym i, sym o) g

pub returns-in_default : goal.returns-in_default
returns-in_default t c = sym (none_at (text_in c.args.file.now c.args.tokens.now) c.args.e.now.at c.args.e.now.form c.in_default.not-Int c.in_default.not-Paren c.in_default.not-Unary c.in_default.not-Binary)

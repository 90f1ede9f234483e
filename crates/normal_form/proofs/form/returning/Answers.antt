use Rattle.std.proofs.Common.{sym, ◌∙◌, rules}
use Rattle.c_lex.specs.Source.{text_in}
use Rattle.normal_form.specs.ConstantForm as spec
use Rattle.normal_form.proofs.ConstantExpressions.{constant_is}
use Rattle.normal_form.proofs.form.returning.Goals as goal

pub is_numbered-requires : goal.is_numbered-requires
is_numbered-requires c =
    constant_is (text_in c.args.file.now c.args.tokens.now) c.in-Some.value.now c.in-Some-2.value (sym c.in-Some-2.is ∙ c.in_ok-value.ensures)

pub returns-clause-lawful : goal.returns-clause-lawful
returns-clause-lawful c = record {
  constant = constant_is (text_in c.args.file.now c.args.tokens.now) c.in-Some.value.now c.in-Some-2.value (sym c.in-Some-2.is ∙ c.in_ok-value.ensures);
  numbered = search rules;
}

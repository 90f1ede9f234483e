use Rattle.std.proofs.Common.{rules}
use Rattle.program.specs.declared.expressions.Expr.{the_lemmas}
use Rattle.normal_form.proofs.ConstantCounts.{operand, left_operand, right_operand}
use Rattle.normal_form.proofs.expression.+counting.Goals as goal

pub count_of-requires : goal.count_of-requires
count_of-requires t c = (search (rules, the_lemmas), operand c.args.e.now _ _ _ c.in-Unary.is c.get.ensures c.requires)

pub count_of-requires-in-Binary : goal.count_of-requires-in-Binary
count_of-requires-in-Binary t c = (search (rules, the_lemmas), left_operand c.args.e.now _ _ _ c.in-Binary.is _ c.get-in-Binary.ensures c.requires)

pub count_of-requires-in-Binary-2 : goal.count_of-requires-in-Binary-2
count_of-requires-in-Binary-2 t c = (search (rules, the_lemmas), right_operand c.args.e.now _ _ _ c.in-Binary.is _ c.get-in-Binary-2.ensures c.requires)

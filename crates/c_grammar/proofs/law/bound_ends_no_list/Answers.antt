use Rattle.c_grammar.proofs.ListRules.{lists_are_by_rule}
use Rattle.c_grammar.proofs.law.bound_ends_no_list.Goals as goal

pub returns : goal.returns
returns c = lists_are_by_rule

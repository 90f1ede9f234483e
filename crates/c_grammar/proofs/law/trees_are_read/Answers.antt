use Rattle.c_grammar.proofs.FileFound.{tree_is_read, tree_is_the_only_one}
use Rattle.c_grammar.proofs.law.trees_are_read.Goals as goal

pub returns-clause-read : goal.returns-clause-read
returns-clause-read c = tree_is_read

pub returns-clause-only : goal.returns-clause-only
returns-clause-only c = tree_is_the_only_one

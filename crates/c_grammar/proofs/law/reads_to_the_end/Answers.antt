use Rattle.c_grammar.proofs.Files.{tree_is_of_file}
use Rattle.c_grammar.proofs.law.reads_to_the_end.Goals as goal

pub returns : goal.returns
returns c = tree_is_of_file

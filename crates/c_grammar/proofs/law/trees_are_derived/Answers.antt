use Rattle.c_grammar.proofs.FileTreesRead.{tree_is_derived}
use Rattle.c_grammar.proofs.law.trees_are_derived.Goals as goal

pub returns : goal.returns
returns c = tree_is_derived

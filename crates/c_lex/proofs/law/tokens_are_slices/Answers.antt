use Rattle.c_lex.proofs.Slices.{slices}
use Rattle.c_lex.proofs.law.tokens_are_slices.Goals as goal

pub returns : goal.returns
returns c = slices

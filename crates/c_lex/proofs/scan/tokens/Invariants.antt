use Rattle.std.proofs.Common.{length}
use Rattle.c_lex.specs.Reading.{state_of}
use Rattle.c_lex.proofs.Reading.{Reached}
use Rattle.c_lex.proofs.scan.tokens.Given as goal

abbrev pub invariant-pieces : goal.invariant-pieces
invariant-pieces l = Reached l.file (state_of l.scanner) l.text l.tokens.items

abbrev pub decreases-pieces : goal.decreases-pieces
decreases-pieces l = length l.text

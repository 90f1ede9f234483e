use Rattle.c_lex.proofs.Escapes.{characters_read, characters_all}
use Rattle.c_lex.proofs.law.characters_by_rule.Goals as goal

pub returns-clause-read : goal.returns-clause-read
returns-clause-read c = characters_read

pub returns-clause-all : goal.returns-clause-all
returns-clause-all c = characters_all

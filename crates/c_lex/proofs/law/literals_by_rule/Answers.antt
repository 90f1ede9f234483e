use Rattle.c_lex.proofs.Literals.{strings_read, chars_read, strings_have_bytes}
use Rattle.c_lex.proofs.law.literals_by_rule.Goals as goal

pub returns-clause-string : goal.returns-clause-string
returns-clause-string c = strings_read

pub returns-clause-char : goal.returns-clause-char
returns-clause-char c = chars_read

pub returns-clause-bytes : goal.returns-clause-bytes
returns-clause-bytes c = strings_have_bytes

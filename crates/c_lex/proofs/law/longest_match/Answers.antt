use Rattle.c_lex.proofs.Pieces.{word_is, number_is, punctuator_is, comment_is}
use Rattle.c_lex.proofs.Words.{word_longest}
use Rattle.c_lex.proofs.Numbers.{number_longest}
use Rattle.c_lex.proofs.Punctuators.{punctuator_longest}
use Rattle.c_lex.proofs.Comments.{comment_longest}
use Rattle.c_lex.proofs.law.longest_match.Goals as goal

pub returns-clause-word : goal.returns-clause-word
returns-clause-word c = λ fresh z n h. let e = word_is fresh z n h in word_longest z n e.0 e.1

pub returns-clause-number : goal.returns-clause-number
returns-clause-number c = λ fresh z n h. let e = number_is fresh z n h in number_longest z n e.0 e.1

pub returns-clause-punctuator : goal.returns-clause-punctuator
returns-clause-punctuator c = λ fresh z n h. let e = punctuator_is fresh z n h in punctuator_longest z n e.1 e.2

pub returns-clause-comment : goal.returns-clause-comment
returns-clause-comment c = λ fresh z n h. let e = comment_is fresh z n h in comment_longest z n e.0 e.1

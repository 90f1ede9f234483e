use Rattle.c_lex.specs.Reading.{start}
use Rattle.c_lex.proofs.Unique.{one_list, one_stop, never_both}
use Rattle.c_lex.proofs.law.one_reading.Goals as goal

pub returns-clause-list : goal.returns-clause-list
returns-clause-list c = λ file ts us a b. one_list start file ts us a b

pub returns-clause-stop : goal.returns-clause-stop
returns-clause-stop c = λ file e f a b. one_stop start file e f a b

pub returns-clause-either : goal.returns-clause-either
returns-clause-either c = λ file ts e a b. never_both start file ts e a b

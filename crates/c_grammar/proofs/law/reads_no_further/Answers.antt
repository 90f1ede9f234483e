use Rattle.std.proofs.Common.{arith}
use Rattle.c_grammar.proofs.FileRules.{reads_translation_unit}
use Rattle.c_grammar.proofs.Files.{stop_is_final, stop_is_in_file}
use Rattle.c_grammar.proofs.law.reads_no_further.Goals as goal

pub returns-clause-forward : goal.returns-clause-forward
returns-clause-forward c = (reads_translation_unit {k = 0}).forward

pub returns-clause-local : goal.returns-clause-local
returns-clause-local c = (reads_translation_unit {k = 0}).local

pub returns-clause-inside : goal.returns-clause-inside
returns-clause-inside c = λ W s n none le. (reads_translation_unit {k = 0}).inside W s n none (omega arith)

pub returns-clause-stop : goal.returns-clause-stop
returns-clause-stop c = stop_is_final

pub returns-clause-file : goal.returns-clause-file
returns-clause-file c = stop_is_in_file

use Rattle.std.proofs.Common.{◌≡◌, length}
use Rattle.c_lex.specs.Reading.{behind}
use Rattle.c_lex.proofs.scan.behind.Given as goal

abbrev pub invariant-skip : goal.invariant-skip
invariant-skip l = behind l.fresh l.text ≡ behind l.initial.fresh l.initial.text

abbrev pub decreases-skip : goal.decreases-skip
decreases-skip l = length l.text

use Rattle.std.proofs.Common.{◌≡◌, ◌+◌, drop}
use Rattle.c_lex.specs.Literal.{before_close}
use Rattle.c_lex.proofs.literal.before_close.Given as goal

abbrev pub invariant-loop-at : goal.invariant-loop-at
invariant-loop-at l = l.at + before_close (drop l.at l.text) ≡ before_close l.text

use Rattle.std.proofs.Common.{◌≡◌, take}
use Rattle.c_lex.specs.Bytes.{fresh_past}
use Rattle.c_lex.proofs.scan.fresh_past.Given as goal

abbrev pub invariant-loop-b : goal.invariant-loop-b
invariant-loop-b l = l.fresh ≡ fresh_past l.fn.fresh (take l.b-index l.text)

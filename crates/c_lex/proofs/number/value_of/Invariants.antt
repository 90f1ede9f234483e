use Rattle.std.proofs.Common.{◌≡◌, ◌<◌, ◌^◌, take}
use Rattle.c_lex.specs.Number.{value_of}
use Rattle.c_lex.proofs.number.value_of.Given as goal

abbrev pub invariant-loop-b : goal.invariant-loop-b
invariant-loop-b l = (l.value ≡ value_of l.base (take l.b-index l.digits)) × (l.value < 2 ^ 64)

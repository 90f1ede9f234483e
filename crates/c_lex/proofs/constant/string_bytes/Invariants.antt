use Rattle.std.proofs.Common.{◌≡◌, ◌++◌, length}
use Rattle.c_lex.specs.Literal.{characters, string_bytes}
use Rattle.c_lex.proofs.constant.string_bytes.Given as goal

abbrev pub invariant-characters : goal.invariant-characters
invariant-characters l = l.bytes.items ++ characters 34 l.rest ≡ string_bytes l.text

abbrev pub decreases-characters : goal.decreases-characters
decreases-characters l = length l.rest

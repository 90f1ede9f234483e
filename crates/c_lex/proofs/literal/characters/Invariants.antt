use Rattle.std.proofs.Common.{◌≡◌, ◌+◌, ◌-◌, ◌≤◌, length, drop}
use Rattle.c_lex.specs.Bytes.{run}
use Rattle.c_lex.specs.Literal.{character_len}
use Rattle.c_lex.proofs.literal.characters.Given as goal

abbrev pub invariant-characters : goal.invariant-characters
invariant-characters l = (l.end + run (character_len 34) (drop l.end l.text) ≡ run (character_len 34) l.text) × (l.end ≤ length l.text)

abbrev pub decreases-characters : goal.decreases-characters
decreases-characters l = length l.text - l.end

use Rattle.std.proofs.Common.{◌≡◌, ◌+◌, ◌-◌, ◌≤◌, length, drop}
use Rattle.c_lex.specs.Bytes.{run}
use Rattle.c_lex.specs.Line.{name_part}
use Rattle.c_lex.proofs.line.name_parts.Given as goal

abbrev pub invariant-parts : goal.invariant-parts
invariant-parts l = (l.end + run name_part (drop l.end l.text) ≡ run name_part l.text) × (l.end ≤ length l.text)

abbrev pub decreases-parts : goal.decreases-parts
decreases-parts l = length l.text - l.end

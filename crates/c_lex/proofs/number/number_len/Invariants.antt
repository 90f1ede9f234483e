use Rattle.std.proofs.Common.{◌≡◌, ◌+◌, ◌-◌, ◌≤◌, length, drop, get_or}
use Rattle.c_lex.specs.Number.{goes_on_from}
use Rattle.c_lex.proofs.number.number_len.Given as goal

abbrev pub invariant-loop-end : goal.invariant-loop-end
invariant-loop-end l =
    (l.end + goes_on_from (get_or l.text (l.end - 1) 0) (drop l.end l.text) ≡ 1 + goes_on_from (get_or l.text 0 0) (drop 1 l.text)) × (1 ≤ l.end) × (l.end ≤ length l.text)

abbrev pub decreases-loop-end : goal.decreases-loop-end
decreases-loop-end l = length l.text - l.end

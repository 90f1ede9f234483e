use Rattle.std.proofs.Common.{◌≡◌, ◌≤◌, ◌-◌}
use Rattle.c_input.specs.Parser.{skip}
use Rattle.c_expressions.specs.Expressions.{is_str, strings}
use Rattle.c_input.specs.Words.{words_of}
use Rattle.c_input.proofs.Lists.{left, count_one}
use Rattle.c_expressions.proofs.operands.strings.Given as goal

abbrev pub invariant-loop-turn : goal.invariant-loop-turn
invariant-loop-turn l = record {
  same : strings (words_of l.words) l.fn.place ≡ left count_one (words_of l.words) is_str skip l.count (1048577 - l._turn) l.place;
  below : l.count ≤ l._turn;
  small : l.count ≤ 1048577;
}

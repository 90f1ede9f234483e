use Rattle.std.proofs.Common.{◌≡◌, ◌≤◌, ◌-◌}
use Rattle.c_expressions.specs.Levels.{nest}
use Rattle.c_input.specs.Parser.{gathered, trailed}
use Rattle.c_expressions.specs.Specifiers.{enumerator}
use Rattle.c_input.specs.Words.{words_of}
use Rattle.c_input.specs.Signs.{is_comma, is_close_brace}
use Rattle.c_input.proofs.Lists.{trailing, add_tree}
use Rattle.c_expressions.proofs.nest.Grammar.enumerator_list.Given as goal

abbrev pub invariant-loop-turn : goal.invariant-loop-turn
invariant-loop-turn g l = record {
  same : gathered (trailed is_comma is_close_brace (enumerator (nest l.self.room))) (words_of l.words) l.fn.place
      ≡ trailing add_tree (words_of l.words) is_comma is_close_brace (enumerator (nest l.self.room)) (record { tree = l.all; height = l.height }) (1048577 - l._turn) l.place;
  small : l.height ≤ l.self.room;
}

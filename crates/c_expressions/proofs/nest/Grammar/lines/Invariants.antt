use Rattle.std.proofs.Common.{◌≡◌, ◌≤◌, ◌-◌}
use Rattle.c_input.specs.Parser.{gathered, one_or_more}
use Rattle.c_expressions.specs.Levels.{nest}
use Rattle.c_input.specs.Words.{words_of}
use Rattle.c_input.specs.Signs.{is_no_close_brace}
use Rattle.c_input.proofs.Lists.{left, add_tree}
use Rattle.c_expressions.proofs.nest.Grammar.lines.Given as goal

abbrev pub invariant-loop-turn : goal.invariant-loop-turn
invariant-loop-turn g l =
    let item = (nest l.self.room).line in
    record {
      same : gathered (one_or_more is_no_close_brace item) (words_of l.words) l.fn.place
          ≡ left add_tree (words_of l.words) is_no_close_brace item (record { tree = l.all; height = l.height }) (1048577 - l._turn) l.place;
      small : l.height ≤ l.self.room;
    }

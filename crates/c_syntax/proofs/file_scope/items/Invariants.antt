use Rattle.std.proofs.Common.{◌≡◌, ◌-◌}
use Rattle.c_syntax.specs.FileScope.{file_items, file_item, is_no_end, limit}
use Rattle.c_syntax.specs.Statements.{parts_within}
use Rattle.c_input.specs.Parser.{most_words}
use Rattle.c_input.specs.Words.{words_of}
use Rattle.c_input.proofs.Rows.{Rest}
use Rattle.c_syntax.proofs.file_scope.items.Given as goal

abbrev pub invariant-loop-turn : goal.invariant-loop-turn
invariant-loop-turn l = file_items (words_of l.words) l.fn.place
    ≡ Rest (words_of l.words) is_no_end (file_item (parts_within limit)) l.items (most_words - l._turn) l.place

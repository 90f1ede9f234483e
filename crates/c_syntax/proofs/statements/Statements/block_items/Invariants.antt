use Rattle.std.proofs.Common.{◌≡◌, ◌-◌}
use Rattle.c_syntax.specs.Statements.{block_items, block_item, parts_within}
use Rattle.c_input.specs.Parser.{most_words}
use Rattle.c_input.specs.Words.{words_of}
use Rattle.c_input.specs.Signs.{is_no_close_brace}
use Rattle.c_input.proofs.Rows.{Rest}
use Rattle.c_syntax.proofs.statements.Statements.block_items.Given as goal

abbrev pub invariant-loop-turn : goal.invariant-loop-turn
invariant-loop-turn g l = block_items (parts_within l.self.room) (words_of l.words) l.fn.place
    ≡ Rest (words_of l.words) is_no_close_brace (block_item (parts_within l.self.room)) l.items (most_words - l._turn) l.place

use Rattle.std.proofs.Common.{◌≡◌, ◌-◌}
use Rattle.c_syntax.specs.Initialisers.{init_parts, inits_within, part}
use Rattle.c_input.specs.Parser.{most_words}
use Rattle.c_input.specs.Words.{words_of}
use Rattle.c_input.specs.Signs.{is_comma, is_close_brace}
use Rattle.c_input.proofs.Rows.{Left}
use Rattle.c_syntax.proofs.initialisers.Initialisers.parts.Given as goal

abbrev pub invariant-loop-turn : goal.invariant-loop-turn
invariant-loop-turn g l = init_parts (inits_within l.self.room) (words_of l.words) l.fn.place
    ≡ Left (words_of l.words) is_comma is_close_brace (part (inits_within l.self.room)) l.parts (most_words - l._turn) l.place

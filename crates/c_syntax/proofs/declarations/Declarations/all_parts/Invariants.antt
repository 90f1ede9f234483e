use Rattle.std.proofs.Common.{◌≡◌, ◌-◌}
use Rattle.c_syntax.specs.Declarations.{all_parts, next_part}
use Rattle.c_syntax.specs.Initialisers.{inits_within}
use Rattle.c_input.specs.Parser.{most_words}
use Rattle.c_input.specs.Words.{words_of}
use Rattle.c_input.specs.Signs.{is_comma}
use Rattle.c_input.proofs.Rows.{Rest}
use Rattle.c_syntax.proofs.declarations.Declarations.all_parts.Given as goal

abbrev pub invariant-loop-turn : goal.invariant-loop-turn
invariant-loop-turn l = all_parts (inits_within l.self.room) l.is_typedef l.fn.first (words_of l.words) l.fn.place
    ≡ Rest (words_of l.words) is_comma (next_part (inits_within l.self.room) l.is_typedef) l.parts (most_words - l._turn) l.place

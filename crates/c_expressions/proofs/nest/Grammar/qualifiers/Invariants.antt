use Rattle.std.proofs.Common.{◌≡◌, ◌-◌}
use Rattle.c_expressions.specs.Declarators.{is_qualifier, taken, qualifiers}
use Rattle.c_input.specs.Words.{words_of}
use Rattle.c_input.proofs.Lists.{left, add_item}
use Rattle.c_expressions.proofs.nest.Grammar.qualifiers.Given as goal

abbrev pub invariant-loop-turn : goal.invariant-loop-turn
invariant-loop-turn g l = qualifiers (words_of l.words) l.fn.place ≡ left add_item (words_of l.words) is_qualifier taken l.all (1048577 - l._turn) l.place

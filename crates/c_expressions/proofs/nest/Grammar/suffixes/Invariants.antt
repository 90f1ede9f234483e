use Rattle.std.proofs.Common.{◌≡◌, ◌-◌, ◌≤◌, suc}
use Rattle.c_expressions.specs.Levels.{nest}
use Rattle.c_expressions.specs.Declarators.{suffixes}
use Rattle.c_input.specs.Words.{words_of}
use Rattle.c_expressions.proofs.nest.Grammar.suffixes.Given as goal

abbrev pub invariant-loop-turn : goal.invariant-loop-turn
invariant-loop-turn g l = record {
  same : suffixes (nest l.self.room) (suc l.self.room) (suc l.self.room) l.at l.fn.d (words_of l.words) l.fn.place
      ≡ suffixes (nest l.self.room) (suc l.self.room) (l._turn-end - l._turn) l.at l.d (words_of l.words) l.place;
  small : l.d.height ≤ suc l.self.room;
}

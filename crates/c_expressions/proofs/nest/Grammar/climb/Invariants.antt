use Rattle.std.proofs.Common.{◌≡◌, ◌-◌, ◌≤◌, suc}
use Rattle.c_expressions.specs.Levels.{nest}
use Rattle.c_expressions.specs.Expressions.{climb}
use Rattle.c_input.specs.Words.{words_of}
use Rattle.c_expressions.proofs.nest.Grammar.climb.Given as goal

abbrev pub invariant-loop-turn : goal.invariant-loop-turn
invariant-loop-turn g l = record {
  same : climb (nest l.self.room) (suc l.self.room) l.least (suc l.self.room) l.at l.fn.a (words_of l.words) l.fn.place
      ≡ climb (nest l.self.room) (suc l.self.room) l.least (l._turn-end - l._turn) l.at l.a (words_of l.words) l.place;
  small : l.a.height ≤ suc l.self.room;
}

use Rattle.std.proofs.Common.{◌≡◌, ◌≤◌, ◌-◌}
use Rattle.c_expressions.specs.Levels.{nest}
use Rattle.c_expressions.specs.Specifiers.{allows}
use Rattle.c_input.specs.Words.{words_of}
use Rattle.c_expressions.proofs.SpecifierLists.{specs_left}
use Rattle.c_expressions.proofs.nest.Grammar.specs.Given as goal

abbrev pub invariant-loop-turn : goal.invariant-loop-turn
invariant-loop-turn g l = record {
  same : specs_left (nest l.self.room) (allows l.allowed) (words_of l.words) l.fn.specs (1048577 - l.fn.place.at) l.fn.place
      ≡ specs_left (nest l.self.room) (allows l.allowed) (words_of l.words) l.specs (1048577 - l._turn) l.place;
  small : l.specs.height ≤ l.self.room;
}

use Rattle.std.proofs.Common.{◌≡◌, ◌≤◌, ◌-◌, false}
use Rattle.c_expressions.specs.Levels.{nest}
use Rattle.c_expressions.specs.Declarators.{parameters}
use Rattle.c_input.specs.Words.{words_of}
use Rattle.c_expressions.proofs.ParameterLists.{parameters_left}
use Rattle.c_expressions.proofs.nest.Grammar.parameters.Given as goal

abbrev pub invariant-loop-turn : goal.invariant-loop-turn
invariant-loop-turn g l = record {
  same : parameters (nest l.self.room) (words_of l.words) l.fn.place
      ≡ parameters_left (nest l.self.room) (words_of l.words) (record { tree = l.all; height = l.height }) (1048577 - l._turn) l.place;
  plain : l.variadic ≡ false;
  small : l.height ≤ l.self.room;
}

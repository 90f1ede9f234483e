use Rattle.std.proofs.Common.{◌≡◌, ◌≤◌, suc, ◌-◌}
use Rattle.c_expressions.specs.Specifiers.{member}
use Rattle.c_input.specs.Parser.{gathered, separated, skip, ◌>>◌}
use Rattle.c_expressions.specs.Levels.{nest}
use Rattle.c_input.specs.Words.{words_of}
use Rattle.c_input.specs.Signs.{is_comma}
use Rattle.c_input.proofs.Lists.{left, add_tree}
use Rattle.c_expressions.proofs.nest.Grammar.member_list.Given as goal

abbrev pub invariant-loop-turn : goal.invariant-loop-turn
invariant-loop-turn g l =
    let item = (member (nest l.self.room) (suc l.self.room)) in
    record {
      same : gathered (separated is_comma item) (words_of l.words) l.fn.place
          ≡ left add_tree (words_of l.words) is_comma (skip >> item) (record { tree = l.all; height = l.height }) (1048577 - l._turn) l.place;
      small : l.height ≤ l.self.room;
    }

-- What the parsers of each level of room read is a tree of its words.
use Rattle.std.proofs.Common.{◌≤◌, ℕ, zero, suc, Ok, Err}
use Rattle.c_input.specs.declared.word.Sign.{Sign}
use Rattle.c_input.specs.declared.word.Sign.TheVariants as sign
use Rattle.c_input.specs.declared.word.Place.{Place as State}
use Rattle.c_input.specs.Input.{Words, step, look_at}
use Rattle.c_input.specs.Parser.{Outcome, too_deep_here, left_out_here, no_room}
use Rattle.c_tree.specs.declared.tree.MemberLine.{MemberLine}
use Rattle.c_input.specs.declared.measured.Measured.{Measured}
use Rattle.c_expressions.specs.Nest.{Nest}
use Rattle.c_expressions.specs.Specifiers.{member_line}
use Rattle.c_expressions.specs.Levels.{opened_by, nothing, one_level, nest}
use Rattle.c_grammar.specs.Below.{Below}
use Rattle.c_grammar.specs.SpecifierTrees.{LineIs}
use Rattle.c_grammar.specs.LevelTrees.{Derived}
use Rattle.c_grammar.proofs.SpecifierRules.{ReadsNest}
use Rattle.c_grammar.proofs.LevelRules.{reads_nest}
use Rattle.c_grammar.proofs.TreeLevels.{an_expression, a_declarator, a_line}
use Rattle.c_grammar.proofs.ExpressionTreesRead.{All, IsEx, expression_all, after_open_all, after_name_all, from_star_all}
use Rattle.c_grammar.proofs.SpecifierTreesRead.{Ends, Sound, IsLine, line_all}
use Rattle.c_grammar.proofs.DeclaratorTreesRead.{type_name_all, declarator_all}

module _ (horizon : ℕ) (W : Words) (ends : Ends W) where
  abbrev B : Below
  B = Derived horizon W

  nothing_sound : Sound W B nothing
  unfolding no_room too_deep_here left_out_here
  nothing_sound = record {
    expr = λ l s le. tt;
    opened = λ s e. by s (look_at W (step s));
    named = λ s e. tt;
    starred = λ alone s. tt;
    declarator = λ m s. tt;
    line = λ s. tt;
  }
    where
      by : (s : State) (q : Sign) → All (IsEx B 15 s) (opened_by q W (step s))
      by s sign.OpenBrace = tt
      by s _ = tt

  level_sound : (sub : Nest) (room : ℕ) → ReadsNest sub → Sound W B sub → Sound W B (one_level sub room)
  level_sound sub room rs sound =
      let up = an_expression horizon W in
      let opens = sound.opened in
      let types = type_name_all horizon W ends B sub rs sound (a_declarator horizon W) in
      record {
        expr = λ l s le. expression_all horizon W B sub up sound.expr opens types room l s le;
        opened = λ s e. after_open_all horizon W B sub up sound.expr opens types room s e;
        named = λ s e. after_name_all horizon W B sub up sound.expr opens types room s e;
        starred = λ alone s. from_star_all horizon W B sub up sound.expr opens types room alone s;
        declarator = λ m s. declarator_all horizon W ends B sub rs sound (a_declarator horizon W) room m s;
        line = λ s. lines s (member_line sub room W s) (line_all horizon W ends B sub rs sound room s);
      }
    where
      lines : (s : State) (o : Outcome (Measured MemberLine)) → All (λ x t. (r : ℕ) → x.height ≤ r → LineIs horizon W B r x.tree s t) o → All (IsLine B s) o
      lines s (Ok x) h = λ r tall. a_line horizon W r x.0.tree s x.1 (h r tall)
      lines s (Err e) h = tt

  pub nest_sound : (room : ℕ) → Sound W B (nest room)
  unfolding nest
  nest_sound zero = nothing_sound
  nest_sound (suc room) = level_sound (nest room) (suc room) (reads_nest room) (nest_sound room)

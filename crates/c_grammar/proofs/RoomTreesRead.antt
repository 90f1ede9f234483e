-- What the parsers of so much room read is a tree of that room, at each horizon.
use Rattle.std.proofs.Common.{◌≡◌, ℕ, ◌≤◌, true, Ok, Err, arith}
use Rattle.c_expressions.specs.declared.grown.Grown.{Grown}
use Rattle.c_expressions.specs.declared.grown.Specs.{Specs}
use Rattle.c_expressions.specs.declared.grown.Declares.{Declares}
use Rattle.c_expressions.specs.declared.grown.Mode.{Mode}
use Rattle.c_input.specs.declared.word.Sign.TheVariants as sign
use Rattle.c_input.specs.declared.word.Place.{Place as State}
use Rattle.c_input.specs.Input.{Words, step, look_at, specifies}
use Rattle.c_input.specs.Parser.{Outcome}
use Rattle.c_expressions.specs.Nest.{Nest}
use Rattle.c_expressions.specs.Specifiers.{declaration_specs, specs_after_name}
use Rattle.c_expressions.specs.Levels.{nest}
use Rattle.c_grammar.specs.Below.{Below}
use Rattle.c_grammar.specs.SpecifierTrees.{SomeSpecifiers}
use Rattle.c_grammar.specs.LevelTrees.{Derived}
use Rattle.c_grammar.proofs.HeightRules.{AllGive, Gives, gives_pure}
use Rattle.c_grammar.proofs.LevelRules.{reads_nest}
use Rattle.c_grammar.proofs.RoomRules.{gives_from, low_specs, low_some_specs, low_nest}
use Rattle.c_grammar.proofs.ExpressionTreesRead.{All, IsEx}
use Rattle.c_grammar.proofs.SpecifierTreesRead.{Ends, IsDeclarator, declared_of, declaration_specs_all, specs_after_name_all}
use Rattle.c_grammar.proofs.LevelTreesRead.{nest_sound}

-- an expression of at least this level, and of each level up to its own
abbrev pub IsExIn : ℕ → Words → ℕ → ℕ → State → Grown → State → Type 0
IsExIn horizon W room l s g t = (l ≤ g.level) × ((r l' : ℕ) → l' ≤ g.level → room ≤ r → (Derived horizon W).expr r l' g.tree s t)

abbrev pub IsDeclaratorIn : ℕ → Words → ℕ → Mode → State → Declares → State → Type 0
IsDeclaratorIn horizon W room m s d t = (r : ℕ) → room ≤ r → (Derived horizon W).declarator r m (declared_of d) s t

abbrev pub AreSpecifiers : ℕ → Words → ℕ → State → Specs → State → Type 0
AreSpecifiers horizon W room s x t = (r : ℕ) → room ≤ r → SomeSpecifiers horizon W (Derived horizon W) specifies r x.list x.is_typed x.is_typedef s t

-- what is read is a tree of each room that is no less
pub record InRoom (horizon : ℕ) (W : Words) (room : ℕ) (sub : Nest) : Type 0 where
  pub expr : (l : ℕ) (s : State) → l ≤ 15 → All (IsExIn horizon W room l s) (sub.expr l W s)
  pub named : (s : State) → look_at W s ≡ sign.Name → All (IsExIn horizon W room 1 s) (sub.named s.at W (step s))
  pub declarator : (m : Mode) (s : State) → All (IsDeclaratorIn horizon W room m s) (sub.declarator m W s)
  pub specs : (s : State) → All (AreSpecifiers horizon W room s) (declaration_specs sub W s)
  pub specs_after_name : (s : State) → look_at W s ≡ sign.TypeName → All (AreSpecifiers horizon W room s) (specs_after_name sub s.at W (step s))

module _ (horizon : ℕ) (W : Words) (ends : Ends W) (room : ℕ) where
  abbrev B : Below
  B = Derived horizon W

  expression_in : (l : ℕ) (s : State) (o : Outcome Grown) → AllGive (λ e. e.height ≤ room) o → All (IsEx B l s) o → All (IsExIn horizon W room l s) o
  expression_in l s (Ok x) low h = (h.0, λ r l' le tall. h.1 r l' le (omega arith))
  expression_in l s (Err e) low h = tt

  declarator_in : (m : Mode) (s : State) (o : Outcome Declares) → AllGive (λ d. d.height ≤ room) o → All (IsDeclarator B m s) o → All (IsDeclaratorIn horizon W room m s) o
  declarator_in m s (Ok x) low h = λ r tall. h r (omega arith)
  declarator_in m s (Err e) low h = tt

  specifiers_in : (s : State) (o : Outcome Specs) → AllGive (λ a. a.height ≤ room) o →
      All (λ x t. (r : ℕ) → x.height ≤ r → SomeSpecifiers horizon W B specifies r x.list x.is_typed x.is_typedef s t) o → All (AreSpecifiers horizon W room s) o
  specifiers_in s (Ok x) low h = λ r tall. h r (omega arith)
  specifiers_in s (Err e) low h = tt

  low_after_name : (at : ℕ) → Gives (λ a. a.height ≤ room) (specs_after_name (nest room) at)
  unfolding specs_after_name
  low_after_name at = gives_from (low_specs (nest room) room (low_nest room) specifies true) (λ rest le. gives_pure _ (omega arith))

  pub in_room : InRoom horizon W room (nest room)
  in_room =
      let sound = nest_sound horizon W ends room in
      let low = low_nest room in
      record {
        expr = λ l s le. expression_in l s ((nest room).expr l W s) ((low.expr l).gives W s) (sound.expr l s le);
        named = λ s e. expression_in 1 s ((nest room).named s.at W (step s)) ((low.named s.at).gives W (step s)) (sound.named s e);
        declarator = λ m s. declarator_in m s ((nest room).declarator m W s) ((low.declarator m).gives W s) (sound.declarator m s);
        specs = λ s. specifiers_in s (declaration_specs (nest room) W s) ((low_some_specs (nest room) room low specifies).gives W s)
            (declaration_specs_all horizon W ends B (nest room) (reads_nest room) sound s);
        specs_after_name = λ s e. specifiers_in s (specs_after_name (nest room) s.at W (step s)) ((low_after_name s.at).gives W (step s))
            (specs_after_name_all horizon W ends B (nest room) (reads_nest room) sound s e);
      }

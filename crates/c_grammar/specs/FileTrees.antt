-- External declarations (6.9), and the trees of a file.
use Rattle.std.specs.Prelude.{◌≡◌, ℕ, Bool, List, [], ◌∷◌, length}
use Rattle.c_tree.specs.declared.tree.Unit.{Unit as Tree}
use Rattle.c_tree.specs.declared.tree.Spec.{Spec}
use Rattle.c_tree.specs.declared.tree.Stmt.{Stmt}
use Rattle.c_tree.specs.declared.tree.Declaration.{Declaration}
use Rattle.c_tree.specs.declared.tree.Item.{Item}
use Rattle.c_tree.specs.declared.tree.Item.TheVariants as item
use Rattle.c_expressions.specs.declared.grown.Mode.TheVariants as mode
use Rattle.c_input.specs.declared.word.Sign.TheVariants as sign
use Rattle.c_input.specs.declared.word.Word.{Word}
use Rattle.c_input.specs.declared.word.Place.{Place as State}
use Rattle.c_input.specs.Input.{Words, step, look_at, specifies}
use Rattle.c_input.specs.Words.{words_of}
use Rattle.c_syntax.specs.FileScope.{limit, start, with_params}
use Rattle.c_grammar.specs.Below.{Declared}
use Rattle.c_grammar.specs.SpecifierTrees.{SomeSpecifiers}
use Rattle.c_grammar.specs.DeclaratorTrees.{declaring_any}
use Rattle.c_grammar.specs.LevelTrees.{Derived}
use Rattle.c_grammar.specs.DeclarationTrees.{DeclarationIs}
use Rattle.c_grammar.specs.StatementTrees.{StatementIs, leaving}

module _ (horizon : ℕ) (W : Words) where
  -- external-declaration (6.9), or a lone semicolon
  pub data ItemIs (room : ℕ) : Item → State → State → Type 0 where
    -- function-definition (6.9.1): its parameters have the scope of its body
    definition : (all : List Spec) (a b waits : Bool) (d : Declared) (body : Stmt) (s t u v : State) →
        SomeSpecifiers horizon W (Derived horizon W) specifies room all a b s t → (Derived horizon W).declarator room mode.Named d t u →
        look_at W (declaring_any d.name b u) ≡ sign.OpenBrace → StatementIs horizon W room waits body (with_params d.params (declaring_any d.name b u)) v →
        ItemIs room (item.Function s.at all d.tree body) s (leaving (declaring_any d.name b u) v)
    declaration : (d : Declaration) (s t : State) → DeclarationIs horizon W room d s t → ItemIs room (item.Declaration d) s t
    lone_semicolon : (s : State) → look_at W s ≡ sign.Semicolon → ItemIs room (item.Empty s.at) s (step s)

  -- translation-unit (6.9), which may be empty
  pub data ItemsAre (room : ℕ) : List Item → State → State → Type 0 where
    no_item : (s : State) → ItemsAre room [] s s
    item_and_more : (x : Item) (rest : List Item) (s t u : State) → ItemIs room x s t → ItemsAre room rest t u → ItemsAre room (x ∷ rest) s u

-- the tree is one of all the words, whose nodes that begin before the horizon are nested no deeper than the limit
abbrev pub Spells : ℕ → List Word → Tree → Type 0
Spells horizon ws tree = (t : State) × ItemsAre horizon (words_of ws) limit tree.items start t × (t.at ≡ length ws)

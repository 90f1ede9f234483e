-- Initialisers (6.7.9) and declarations (6.7).
use Rattle.std.specs.Prelude.{◌≡◌, ℕ, ◌-◌, Bool, true, List, [], ◌∷◌, Option, Some, None}
use Rattle.c_tree.specs.declared.tree.Ex.{Ex}
use Rattle.c_tree.specs.declared.tree.Spec.{Spec}
use Rattle.c_tree.specs.declared.tree.Init.{Init}
use Rattle.c_tree.specs.declared.tree.Init.TheVariants as init
use Rattle.c_tree.specs.declared.tree.Given.{Given, roll-Given}
use Rattle.c_tree.specs.declared.tree.Designator.{Designator}
use Rattle.c_tree.specs.declared.tree.Designator.TheVariants as designator
use Rattle.c_tree.specs.declared.tree.InitPart.{InitPart}
use Rattle.c_tree.specs.declared.tree.Declaration.{Declaration}
use Rattle.c_expressions.specs.declared.grown.Mode.TheVariants as mode
use Rattle.c_input.specs.declared.word.Sign.TheVariants as sign
use Rattle.c_input.specs.declared.word.Place.{Place as State}
use Rattle.c_input.specs.Input.{Words, step, look_at, is_name, specifies}
use Rattle.c_grammar.specs.Below.{Declared, Room}
use Rattle.c_grammar.specs.SpecifierTrees.{SomeSpecifiers}
use Rattle.c_grammar.specs.DeclaratorTrees.{declaring_any}
use Rattle.c_grammar.specs.LevelTrees.{Derived}

module _ (horizon : ℕ) (W : Words) where
  -- designation (6.7.9) of one level, which may be left out
  pub data Designation (room : ℕ) : Option Designator → State → State → Type 0 where
    no_designation : (s : State) → Designation room None s s
    member : (s : State) → look_at W s ≡ sign.Dot → is_name (look_at W (step s)) ≡ true → look_at W (step (step s)) ≡ sign.Equal →
        Designation room (Some (designator.Member s.at (step s).at)) s (step (step (step s)))
    place : (e : Ex) (s t : State) → look_at W s ≡ sign.OpenBracket → (Derived horizon W).expr room 3 e (step s) t → look_at W t ≡ sign.CloseBracket →
        look_at W (step t) ≡ sign.Equal → Designation room (Some (designator.Place s.at e)) s (step (step t))

  mutual
    -- initializer (6.7.9)
    pub data InitializerIs : ℕ → Init → State → State → Type 0 where
      expression : (room : ℕ) (e : Ex) (s t : State) → Room horizon room s → (Derived horizon W).expr (room - 1) 2 e s t → InitializerIs room (init.One e) s t
      list : (room : ℕ) (parts : List Given) (s t : State) → Room horizon room s → look_at W s ≡ sign.OpenBrace → Initializers (room - 1) parts (step s) t →
          look_at W t ≡ sign.CloseBrace → InitializerIs room (init.List s.at parts) s (step t)

    -- initializer-list (6.7.9), and the comma that may end it
    pub data Initializers : ℕ → List Given → State → State → Type 0 where
      last_part : (room : ℕ) (d : Option Designator) (i : Init) (s t u : State) → Designation room d s t → InitializerIs room i t u →
          Initializers room (roll-Given (record { designator = d; init = i }) ∷ []) s u
      last_and_comma : (room : ℕ) (d : Option Designator) (i : Init) (s t u : State) → Designation room d s t → InitializerIs room i t u →
          look_at W u ≡ sign.Comma → Initializers room (roll-Given (record { designator = d; init = i }) ∷ []) s (step u)
      part_and_more : (room : ℕ) (d : Option Designator) (i : Init) (rest : List Given) (s t u v : State) → Designation room d s t → InitializerIs room i t u →
          look_at W u ≡ sign.Comma → Initializers room rest (step u) v → Initializers room (roll-Given (record { designator = d; init = i }) ∷ rest) s v

  -- init-declarator (6.7): its name is in scope in its initialiser (6.2.1p7)
  pub data PartIs (room : ℕ) (is_typedef : Bool) : InitPart → State → State → Type 0 where
    declarator : (d : Declared) (s t : State) → (Derived horizon W).declarator room mode.Named d s t →
        PartIs room is_typedef (record { declarator = d.tree; init = None }) s (declaring_any d.name is_typedef t)
    initialised : (d : Declared) (i : Init) (s t u : State) → (Derived horizon W).declarator room mode.Named d s t →
        look_at W (declaring_any d.name is_typedef t) ≡ sign.Equal → InitializerIs room i (step (declaring_any d.name is_typedef t)) u →
        PartIs room is_typedef (record { declarator = d.tree; init = Some i }) s u

  -- init-declarator-list (6.7)
  pub data PartsAre (room : ℕ) (is_typedef : Bool) : List InitPart → State → State → Type 0 where
    last_part : (x : InitPart) (s t : State) → PartIs room is_typedef x s t → PartsAre room is_typedef (x ∷ []) s t
    part_and_more : (x : InitPart) (rest : List InitPart) (s t u : State) → PartIs room is_typedef x s t → look_at W t ≡ sign.Comma →
        PartsAre room is_typedef rest (step t) u → PartsAre room is_typedef (x ∷ rest) s u

  -- declaration (6.7)
  pub data DeclarationIs (room : ℕ) : Declaration → State → State → Type 0 where
    no_parts : (all : List Spec) (a b : Bool) (s t : State) → SomeSpecifiers horizon W (Derived horizon W) specifies room all a b s t →
        look_at W t ≡ sign.Semicolon → DeclarationIs room (record { at = s.at; specs = all; parts = [] }) s (step t)
    parts : (all : List Spec) (a b : Bool) (xs : List InitPart) (s t u : State) → SomeSpecifiers horizon W (Derived horizon W) specifies room all a b s t →
        PartsAre room b xs t u → look_at W u ≡ sign.Semicolon → DeclarationIs room (record { at = s.at; specs = all; parts = xs }) s (step u)

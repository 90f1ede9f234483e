-- Statements and blocks (6.8).
use Rattle.std.specs.Prelude.{◌≡◌, ℕ, ◌-◌, Bool, true, false, List, [], ◌∷◌, Option, Some, None}
use Rattle.c_tree.specs.declared.tree.Ex.{Ex}
use Rattle.c_tree.specs.declared.tree.Declaration.{Declaration}
use Rattle.c_tree.specs.declared.tree.Stmt.{Stmt}
use Rattle.c_tree.specs.declared.tree.StmtForm.TheVariants as form
use Rattle.c_tree.specs.declared.tree.BlockItem.{BlockItem}
use Rattle.c_tree.specs.declared.tree.BlockItem.TheVariants as item
use Rattle.c_tree.specs.declared.tree.ForStart.{ForStart}
use Rattle.c_tree.specs.declared.tree.ForStart.TheVariants as start
use Rattle.c_input.specs.declared.word.Sign.TheVariants as sign
use Rattle.c_input.specs.declared.word.Place.{Place as State}
use Rattle.c_input.specs.Input.{Words, step, look_at, is_name}
use Rattle.c_syntax.specs.Statements.{statement_node}
use Rattle.c_grammar.specs.Below.{Room}
use Rattle.c_grammar.specs.LevelTrees.{Derived}
use Rattle.c_grammar.specs.DeclarationTrees.{DeclarationIs}

-- a scope ends: the names of its beginning
abbrev pub leaving : State → State → State
leaving s t = record { at = t.at; names = s.names }

module _ (horizon : ℕ) (W : Words) where
  -- an expression that may be left out
  pub data Optional (room : ℕ) : Option Ex → State → State → Type 0 where
    left_out : (s : State) → Optional room None s s
    given : (e : Ex) (s t : State) → (Derived horizon W).expr room 1 e s t → Optional room (Some e) s t

  -- an expression in brackets
  pub data Condition (room : ℕ) : Ex → State → State → Type 0 where
    condition : (e : Ex) (s t : State) → look_at W s ≡ sign.OpenParen → (Derived horizon W).expr room 1 e (step s) t → look_at W t ≡ sign.CloseParen →
        Condition room e s (step t)

  -- the first clause of a `for` statement, with its semicolon
  pub data StartIs (room : ℕ) : ForStart → State → State → Type 0 where
    nothing : (s : State) → look_at W s ≡ sign.Semicolon → StartIs room start.Nothing s (step s)
    value : (e : Ex) (s t : State) → (Derived horizon W).expr room 1 e s t → look_at W t ≡ sign.Semicolon → StartIs room (start.Value e) s (step t)
    declaration : (d : Declaration) (s t : State) → DeclarationIs horizon W room d s t → StartIs room (start.Declaration d) s t

  mutual
    -- The flag says that the statement ends in an `if` without `else`: an `else` behind it would be that one's (6.8.4.1p3).
    pub data StatementIs : ℕ → Bool → Stmt → State → State → Type 0 where
      -- labeled-statement (6.8.1)
      label : (room : ℕ) (waits : Bool) (a : Stmt) (s t : State) → Room horizon room s → is_name (look_at W s) ≡ true → look_at W (step s) ≡ sign.Colon →
          StatementIs (room - 1) waits a (step (step s)) t → StatementIs room waits (statement_node s.at (form.Label a)) s t
      case_ : (room : ℕ) (waits : Bool) (e : Ex) (a : Stmt) (s t u : State) → Room horizon room s → look_at W s ≡ sign.Case →
          (Derived horizon W).expr (room - 1) 3 e (step s) t → look_at W t ≡ sign.Colon → StatementIs (room - 1) waits a (step t) u →
          StatementIs room waits (statement_node s.at (form.Case e a)) s u
      default_ : (room : ℕ) (waits : Bool) (a : Stmt) (s t : State) → Room horizon room s → look_at W s ≡ sign.Default → look_at W (step s) ≡ sign.Colon →
          StatementIs (room - 1) waits a (step (step s)) t → StatementIs room waits (statement_node s.at (form.Default a)) s t
      -- compound-statement (6.8.2)
      block : (room : ℕ) (all : List BlockItem) (s t : State) → Room horizon room s → look_at W s ≡ sign.OpenBrace → BlockItems (room - 1) all (step s) t →
          look_at W t ≡ sign.CloseBrace → StatementIs room false (statement_node s.at (form.Block all)) s (leaving s (step t))
      -- expression-statement (6.8.3)
      expression : (room : ℕ) (e : Ex) (s t : State) → Room horizon room s → (Derived horizon W).expr (room - 1) 1 e s t → look_at W t ≡ sign.Semicolon →
          StatementIs room false (statement_node s.at (form.Expr (Some e))) s (step t)
      empty : (room : ℕ) (s : State) → Room horizon room s → look_at W s ≡ sign.Semicolon → StatementIs room false (statement_node s.at (form.Expr None)) s (step s)
      -- selection-statement (6.8.4)
      if_then : (room : ℕ) (waits : Bool) (e : Ex) (a : Stmt) (s t u : State) → Room horizon room s → look_at W s ≡ sign.If →
          Condition (room - 1) e (step s) t → StatementIs (room - 1) waits a t u →
          StatementIs room true (statement_node s.at (form.If e a None)) s (leaving s u)
      if_else : (room : ℕ) (waits : Bool) (e : Ex) (a b : Stmt) (s t u v : State) → Room horizon room s → look_at W s ≡ sign.If →
          Condition (room - 1) e (step s) t → StatementIs (room - 1) false a t u → look_at W (leaving t u) ≡ sign.Else →
          StatementIs (room - 1) waits b (step (leaving t u)) v → StatementIs room waits (statement_node s.at (form.If e a (Some b))) s (leaving s v)
      switch : (room : ℕ) (waits : Bool) (e : Ex) (a : Stmt) (s t u : State) → Room horizon room s → look_at W s ≡ sign.Switch →
          Condition (room - 1) e (step s) t → StatementIs (room - 1) waits a t u →
          StatementIs room waits (statement_node s.at (form.Switch e a)) s (leaving s u)
      -- iteration-statement (6.8.5)
      while_ : (room : ℕ) (waits : Bool) (e : Ex) (a : Stmt) (s t u : State) → Room horizon room s → look_at W s ≡ sign.While →
          Condition (room - 1) e (step s) t → StatementIs (room - 1) waits a t u →
          StatementIs room waits (statement_node s.at (form.While e a)) s (leaving s u)
      do_ : (room : ℕ) (waits : Bool) (e : Ex) (a : Stmt) (s t u : State) → Room horizon room s → look_at W s ≡ sign.Do →
          StatementIs (room - 1) waits a (step s) t → look_at W (leaving s t) ≡ sign.While → Condition (room - 1) e (step (leaving s t)) u →
          look_at W u ≡ sign.Semicolon → StatementIs room false (statement_node s.at (form.Do a e)) s (leaving s (step u))
      for_ : (room : ℕ) (waits : Bool) (first : ForStart) (test last : Option Ex) (a : Stmt) (s t u v w : State) → Room horizon room s → look_at W s ≡ sign.For →
          look_at W (step s) ≡ sign.OpenParen → StartIs (room - 1) first (step (step s)) t → Optional (room - 1) test t u → look_at W u ≡ sign.Semicolon →
          Optional (room - 1) last (step u) v → look_at W v ≡ sign.CloseParen → StatementIs (room - 1) waits a (step v) w →
          StatementIs room waits (statement_node s.at (form.For first test last a)) s (leaving s w)
      -- jump-statement (6.8.6)
      goto_ : (room : ℕ) (s : State) → Room horizon room s → look_at W s ≡ sign.Goto → is_name (look_at W (step s)) ≡ true →
          look_at W (step (step s)) ≡ sign.Semicolon → StatementIs room false (statement_node s.at (form.Goto (step s).at)) s (step (step (step s)))
      continue_ : (room : ℕ) (s : State) → Room horizon room s → look_at W s ≡ sign.Continue → look_at W (step s) ≡ sign.Semicolon →
          StatementIs room false (statement_node s.at form.Continue) s (step (step s))
      break_ : (room : ℕ) (s : State) → Room horizon room s → look_at W s ≡ sign.Break → look_at W (step s) ≡ sign.Semicolon →
          StatementIs room false (statement_node s.at form.Break) s (step (step s))
      return_ : (room : ℕ) (e : Option Ex) (s t : State) → Room horizon room s → look_at W s ≡ sign.Return → Optional (room - 1) e (step s) t →
          look_at W t ≡ sign.Semicolon → StatementIs room false (statement_node s.at (form.Return e)) s (step t)

    -- block-item-list (6.8.2), which may be empty
    pub data BlockItems : ℕ → List BlockItem → State → State → Type 0 where
      no_item : (room : ℕ) (s : State) → BlockItems room [] s s
      declaration : (room : ℕ) (d : Declaration) (rest : List BlockItem) (s t u : State) → DeclarationIs horizon W room d s t → BlockItems room rest t u →
          BlockItems room (item.Declaration d ∷ rest) s u
      statement : (room : ℕ) (waits : Bool) (a : Stmt) (rest : List BlockItem) (s t u : State) → StatementIs room waits a s t → BlockItems room rest t u →
          BlockItems room (item.Stmt a ∷ rest) s u

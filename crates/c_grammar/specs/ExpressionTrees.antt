-- Expressions (6.5), by their level of precedence: 1 expression, 2 assignment, 3 conditional, 4 to 13 binary operators, 14 cast,
-- 15 unary, 16 postfix and primary.
use Rattle.std.specs.Prelude.{◌≡◌, ◌≤◌, ℕ, suc, ◌-◌, Bool, true, false, List, [], ◌∷◌}
use Rattle.c_tree.specs.declared.tree.Ex.{Ex}
use Rattle.c_tree.specs.declared.tree.ExForm.TheVariants as form
use Rattle.c_tree.specs.declared.tree.Param.{Param}
use Rattle.c_input.specs.declared.word.Sign.{Sign}
use Rattle.c_input.specs.declared.word.Sign.TheVariants as sign
use Rattle.c_input.specs.declared.word.Place.{Place as State}
use Rattle.c_input.specs.Input.{Words, step, look_at, is_name, binds}
use Rattle.c_expressions.specs.Expressions.{node}
use Rattle.c_grammar.specs.Below.{Below, Room}
use Rattle.c_grammar.specs.DeclaratorTrees.{TypeName}

-- `++` and `--`
abbrev pub is_step : Sign → Bool
is_step sign.Increment = true
is_step sign.Decrement = true
is_step _ = false

-- unary-operator (6.5.3)
abbrev pub is_unary_operator : Sign → Bool
is_unary_operator sign.Amp = true
is_unary_operator sign.Star = true
is_unary_operator sign.Additive = true
is_unary_operator sign.Complement = true
is_unary_operator _ = false

module _ (horizon : ℕ) (W : Words) (B : Below) where
  -- so many string literals
  pub data Strings : ℕ → State → State → Type 0 where
    no_string : (s : State) → Strings 0 s s
    string : (n : ℕ) (s t : State) → look_at W s ≡ sign.Str → Strings n (step s) t → Strings (suc n) s t

  -- argument-expression-list (6.5.2)
  pub data Arguments (room : ℕ) : List Ex → State → State → Type 0 where
    last_argument : (e : Ex) (s t : State) → B.expr room 2 e s t → Arguments room (e ∷ []) s t
    argument_and_more : (e : Ex) (rest : List Ex) (s t u : State) → B.expr room 2 e s t → look_at W t ≡ sign.Comma → Arguments room rest (step t) u →
        Arguments room (e ∷ rest) s u

  pub data ExpressionIs (room : ℕ) : ℕ → Ex → State → State → Type 0 where
    -- primary-expression (6.5.1); neighbouring string literals are one (6.4.5p5)
    identifier : (l : ℕ) (s : State) → Room horizon room s → l ≤ 16 → look_at W s ≡ sign.Name → ExpressionIs room l (node s.at form.Name) s (step s)
    integer : (l : ℕ) (s : State) → Room horizon room s → l ≤ 16 → look_at W s ≡ sign.Int → ExpressionIs room l (node s.at form.Int) s (step s)
    floating : (l : ℕ) (s : State) → Room horizon room s → l ≤ 16 → look_at W s ≡ sign.Float → ExpressionIs room l (node s.at form.Float) s (step s)
    character : (l : ℕ) (s : State) → Room horizon room s → l ≤ 16 → look_at W s ≡ sign.Char → ExpressionIs room l (node s.at form.Char) s (step s)
    string_literal : (l n : ℕ) (s t : State) → Room horizon room s → l ≤ 16 → Strings (suc n) s t → ExpressionIs room l (node s.at (form.Str (suc n))) s t
    bracketed : (l : ℕ) (e : Ex) (s t : State) → Room horizon room s → l ≤ 16 → look_at W s ≡ sign.OpenParen → B.expr (room - 1) 1 e (step s) t →
        look_at W t ≡ sign.CloseParen → ExpressionIs room l (node s.at (form.Paren e)) s (step t)
    -- postfix-expression (6.5.2)
    subscript : (l : ℕ) (a e : Ex) (s t u : State) → Room horizon room s → l ≤ 16 → B.expr (room - 1) 16 a s t → look_at W t ≡ sign.OpenBracket →
        B.expr (room - 1) 1 e (step t) u → look_at W u ≡ sign.CloseBracket → ExpressionIs room l (node s.at (form.Index a e)) s (step u)
    call_of_none : (l : ℕ) (a : Ex) (s t : State) → Room horizon room s → l ≤ 16 → B.expr (room - 1) 16 a s t → look_at W t ≡ sign.OpenParen →
        look_at W (step t) ≡ sign.CloseParen → ExpressionIs room l (node s.at (form.Call a [])) s (step (step t))
    call : (l : ℕ) (a : Ex) (all : List Ex) (s t u : State) → Room horizon room s → l ≤ 16 → B.expr (room - 1) 16 a s t → look_at W t ≡ sign.OpenParen →
        Arguments (room - 1) all (step t) u → look_at W u ≡ sign.CloseParen → ExpressionIs room l (node s.at (form.Call a all)) s (step u)
    member : (l : ℕ) (a : Ex) (s t : State) → Room horizon room s → l ≤ 16 → B.expr (room - 1) 16 a s t → look_at W t ≡ sign.Dot →
        is_name (look_at W (step t)) ≡ true → ExpressionIs room l (node s.at (form.Member a (step t).at)) s (step (step t))
    arrow : (l : ℕ) (a : Ex) (s t : State) → Room horizon room s → l ≤ 16 → B.expr (room - 1) 16 a s t → look_at W t ≡ sign.Arrow →
        is_name (look_at W (step t)) ≡ true → ExpressionIs room l (node s.at (form.Arrow a (step t).at)) s (step (step t))
    increment : (l : ℕ) (a : Ex) (s t : State) → Room horizon room s → l ≤ 16 → B.expr (room - 1) 16 a s t → look_at W t ≡ sign.Increment →
        ExpressionIs room l (node s.at (form.PostInc a)) s (step t)
    decrement : (l : ℕ) (a : Ex) (s t : State) → Room horizon room s → l ≤ 16 → B.expr (room - 1) 16 a s t → look_at W t ≡ sign.Decrement →
        ExpressionIs room l (node s.at (form.PostDec a)) s (step t)
    -- unary-expression (6.5.3)
    step_before : (l : ℕ) (e : Ex) (s t : State) → Room horizon room s → l ≤ 15 → is_step (look_at W s) ≡ true → B.expr (room - 1) 15 e (step s) t →
        ExpressionIs room l (node s.at (form.Unary e)) s t
    unary : (l : ℕ) (e : Ex) (s t : State) → Room horizon room s → l ≤ 15 → is_unary_operator (look_at W s) ≡ true → B.expr (room - 1) 14 e (step s) t →
        ExpressionIs room l (node s.at (form.Unary e)) s t
    size_of_expression : (l : ℕ) (e : Ex) (s t : State) → Room horizon room s → l ≤ 15 → look_at W s ≡ sign.Sizeof → B.expr (room - 1) 15 e (step s) t →
        ExpressionIs room l (node s.at (form.SizeofEx e)) s t
    size_of_type : (l : ℕ) (x : Param) (s t : State) → Room horizon room s → l ≤ 15 → look_at W s ≡ sign.Sizeof → look_at W (step s) ≡ sign.OpenParen →
        TypeName horizon W B (room - 1) x (step (step s)) t → look_at W t ≡ sign.CloseParen → ExpressionIs room l (node s.at (form.SizeofType x)) s (step t)
    -- cast-expression (6.5.4)
    cast : (l : ℕ) (x : Param) (e : Ex) (s t u : State) → Room horizon room s → l ≤ 14 → look_at W s ≡ sign.OpenParen →
        TypeName horizon W B (room - 1) x (step s) t → look_at W t ≡ sign.CloseParen → B.expr (room - 1) 14 e (step t) u →
        ExpressionIs room l (node s.at (form.Cast x e)) s u
    -- 6.5.5 to 6.5.14, which group to the left
    binary : (l : ℕ) (a b : Ex) (s t u : State) → Room horizon room s → 4 ≤ binds (look_at W t) → binds (look_at W t) ≤ 13 → l ≤ binds (look_at W t) →
        B.expr (room - 1) (binds (look_at W t)) a s t → B.expr (room - 1) (suc (binds (look_at W t))) b (step t) u →
        ExpressionIs room l (node s.at (form.Binary t.at a b)) s u
    -- conditional-expression (6.5.15)
    conditional : (l : ℕ) (a b c : Ex) (s t u v : State) → Room horizon room s → l ≤ 3 → B.expr (room - 1) 4 a s t → look_at W t ≡ sign.Question →
        B.expr (room - 1) 1 b (step t) u → look_at W u ≡ sign.Colon → B.expr (room - 1) 3 c (step u) v →
        ExpressionIs room l (node s.at (form.Cond a b c)) s v
    -- assignment-expression (6.5.16)
    assignment : (l : ℕ) (a b : Ex) (s t u : State) → Room horizon room s → l ≤ 2 → B.expr (room - 1) 15 a s t → binds (look_at W t) ≡ 2 →
        B.expr (room - 1) 2 b (step t) u → ExpressionIs room l (node s.at (form.Assign t.at a b)) s u
    -- expression (6.5.17)
    comma : (l : ℕ) (a b : Ex) (s t u : State) → Room horizon room s → l ≤ 1 → B.expr (room - 1) 1 a s t → look_at W t ≡ sign.Comma →
        B.expr (room - 1) 2 b (step t) u → ExpressionIs room l (node s.at (form.Comma a b)) s u

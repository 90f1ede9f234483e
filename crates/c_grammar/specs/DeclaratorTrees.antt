-- Declarators, parameters and type names (6.7.6, 6.7.7).
use Rattle.std.specs.Prelude.{◌≡◌, ◌⊎◌, ℕ, suc, ◌-◌, ◌||◌, Bool, true, false, List, [], ◌∷◌, ◌++◌, Option, Some, None}
use Rattle.c_tree.specs.declared.tree.Ex.{Ex}
use Rattle.c_tree.specs.declared.tree.Spec.{Spec}
use Rattle.c_tree.specs.declared.tree.Param.{Param, roll-Param}
use Rattle.c_tree.specs.declared.tree.DeclForm.{DeclForm}
use Rattle.c_tree.specs.declared.tree.DeclForm.TheVariants as form
use Rattle.c_expressions.specs.declared.grown.Mode.{Mode}
use Rattle.c_expressions.specs.declared.grown.Mode.TheVariants as mode
use Rattle.c_input.specs.declared.word.Sign.{Sign}
use Rattle.c_input.specs.declared.word.Sign.TheVariants as sign
use Rattle.c_input.specs.declared.word.Place.{Place as State}
use Rattle.c_input.specs.Input.{Names, Words, step, look_at, is_name, specifies, qualifies}
use Rattle.c_input.specs.Signs.{is_close_paren}
use Rattle.c_expressions.specs.Declarators.{node, enclosed, or_first}
use Rattle.c_grammar.specs.Below.{Below, Declared, Room, name_at, declaring}
use Rattle.c_grammar.specs.SpecifierTrees.{SomeSpecifiers}

abbrev pub is_pointer : Sign → Bool
is_pointer sign.Star = true
is_pointer _ = false

abbrev pub may_be_named : Mode → Bool
may_be_named mode.Abstract = false
may_be_named _ = true

abbrev pub may_be_unnamed : Mode → Bool
may_be_unnamed mode.Named = false
may_be_unnamed _ = true

-- a declarator around another, which declares the same
abbrev pub around : State → DeclForm → Declared → Declared
around s f d = record { tree = node s.at f; name = d.name; params = d.params }

-- behind the bracket of a declarator whose name may be left out: a list of parameters (6.7.6.3p11)
abbrev pub lists_parameters : Sign → Bool
lists_parameters q = is_close_paren q || specifies false q

-- the names that a parameter's declarator adds
abbrev pub declaring_any : Option ℕ → Bool → State → State
declaring_any (Some n) is_typedef s = declaring n is_typedef s
declaring_any None is_typedef s = s

module _ (horizon : ℕ) (W : Words) (B : Below) where
  -- type-qualifier-list (6.7.6), which may be empty: the places of its words
  pub data Qualifiers : List ℕ → State → State → Type 0 where
    no_qualifier : (s : State) → Qualifiers [] s s
    qualifier : (rest : List ℕ) (s t : State) → look_at W s ≡ sign.Qualifier → Qualifiers rest (step s) t → Qualifiers (s.at ∷ rest) s t

  -- type-name (6.7.7)
  pub data TypeName (room : ℕ) : Param → State → State → Type 0 where
    type_name : (all : List Spec) (a b : Bool) (d : Declared) (s t u : State) → SomeSpecifiers horizon W B qualifies room all a b s t →
        B.declarator room mode.Abstract d t u → TypeName room (roll-Param (record { at = s.at; specs = all; declarator = d.tree })) s u

  -- parameter-declaration (6.7.6)
  pub data ParameterIs (room : ℕ) : Param → State → State → Type 0 where
    parameter : (all : List Spec) (a b : Bool) (d : Declared) (s t u : State) → SomeSpecifiers horizon W B specifies room all a b s t →
        B.declarator room mode.Parameter d t u →
        ParameterIs room (roll-Param (record { at = s.at; specs = all; declarator = d.tree })) s (declaring_any d.name b u)

  -- parameter-type-list (6.7.6), and whether three dots end it
  pub data Parameters (room : ℕ) : List Param → Bool → State → State → Type 0 where
    last_parameter : (x : Param) (s t : State) → ParameterIs room x s t → Parameters room (x ∷ []) false s t
    and_dots : (x : Param) (s t : State) → ParameterIs room x s t → look_at W t ≡ sign.Comma → look_at W (step t) ≡ sign.Ellipsis →
        Parameters room (x ∷ []) true s (step (step t))
    parameter_and_more : (x : Param) (rest : List Param) (dots : Bool) (s t u : State) → ParameterIs room x s t →
        look_at W t ≡ sign.Comma → Parameters room rest dots (step t) u → Parameters room (x ∷ rest) dots s u

  -- what stands in the brackets of a function declarator (6.7.6.3); identifier lists are left out
  pub data Listed (room : ℕ) : List Param → Bool → State → State → Type 0 where
    no_parameters : (s : State) → look_at W s ≡ sign.CloseParen → Listed room [] false s s
    parameters : (all : List Param) (dots : Bool) (s t : State) → Parameters room all dots s t → Listed room all dots s t

  -- what stands in the brackets of an array declarator (6.7.6.2): the places of its words, and its length; `*` alone is left out
  pub data Length (room : ℕ) : List ℕ → Option Ex → State → State → Type 0 where
    no_length : (words : List ℕ) (s t : State) → Qualifiers words s t → Length room words None s t
    length_ : (words : List ℕ) (e : Ex) (s t u : State) → Qualifiers words s t → B.expr room 2 e t u → Length room words (Some e) s u
    static_first : (words : List ℕ) (e : Ex) (s t u : State) → look_at W s ≡ sign.Static → Qualifiers words (step s) t → B.expr room 2 e t u →
        Length room (s.at ∷ words) (Some e) s u
    static_behind : (words : List ℕ) (e : Ex) (s t u : State) → Qualifiers words s t → look_at W t ≡ sign.Static → B.expr room 2 e (step t) u →
        Length room (words ++ t.at ∷ []) (Some e) s u

  -- declarator (6.7.6) and abstract-declarator (6.7.7); what follows a pointer belongs to what it points from
  pub data DeclaratorIs (room : ℕ) : Mode → Declared → State → State → Type 0 where
    identifier : (m : Mode) (s : State) → Room horizon room s → may_be_named m ≡ true → is_name (look_at W s) ≡ true →
        DeclaratorIs room m (record { tree = node s.at form.Name; name = Some (name_at W s); params = None }) s (step s)
    omitted : (m : Mode) (s : State) → Room horizon room s → may_be_unnamed m ≡ true →
        DeclaratorIs room m (record { tree = node s.at form.Abstract; name = None; params = None }) s s
    bracketed : (m : Mode) (d : Declared) (s t : State) → Room horizon room s → look_at W s ≡ sign.OpenParen →
        (m ≡ mode.Named) ⊎ (lists_parameters (look_at W (step s)) ≡ false) → B.declarator (room - 1) (enclosed m) d (step s) t → look_at W t ≡ sign.CloseParen →
        DeclaratorIs room m (around s (form.Paren d.tree) d) s (step t)
    pointer : (m : Mode) (words : List ℕ) (d : Declared) (s t u : State) → Room horizon room s → look_at W s ≡ sign.Star → Qualifiers words (step s) t →
        B.declarator (room - 1) m d t u → DeclaratorIs room m (around s (form.Pointer words d.tree) d) s u
    array : (m : Mode) (words : List ℕ) (length : Option Ex) (d : Declared) (s t u : State) → Room horizon room s → is_pointer (look_at W s) ≡ false →
        B.declarator (room - 1) m d s t → look_at W t ≡ sign.OpenBracket → Length (room - 1) words length (step t) u → look_at W u ≡ sign.CloseBracket →
        DeclaratorIs room m (around s (form.Array d.tree words length) d) s (step u)
    -- the scope of the names that a list of parameters declares ends with it (6.2.1p4)
    function : (m : Mode) (all : List Param) (dots : Bool) (names : Names) (d : Declared) (s t u : State) → Room horizon room s →
        is_pointer (look_at W s) ≡ false → B.declarator (room - 1) m d s t → look_at W t ≡ sign.OpenParen → Listed (room - 1) all dots (step t) u → u.names ≡ names ++ t.names →
        look_at W u ≡ sign.CloseParen →
        DeclaratorIs room m (record { tree = node s.at (form.Function d.tree all dots); name = d.name; params = or_first d.params names })
        s (record { at = suc u.at; names = t.names })

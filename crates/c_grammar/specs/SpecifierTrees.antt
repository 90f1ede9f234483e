-- Specifiers, structs and enumerations (6.7 to 6.7.3).
use Rattle.std.specs.Prelude.{◌≡◌, ℕ, ◌-◌, ◌||◌, Bool, true, false, List, [], ◌∷◌, Option, Some, None}
use Rattle.c_tree.specs.declared.tree.Ex.{Ex}
use Rattle.c_tree.specs.declared.tree.Declarator.{Declarator}
use Rattle.c_tree.specs.declared.tree.Spec.{Spec}
use Rattle.c_tree.specs.declared.tree.Spec.TheVariants as spec
use Rattle.c_tree.specs.declared.tree.MemberLine.{MemberLine, roll-MemberLine}
use Rattle.c_tree.specs.declared.tree.MemberPart.{MemberPart, roll-MemberPart}
use Rattle.c_tree.specs.declared.tree.Enumerator.{Enumerator, roll-Enumerator}
use Rattle.c_expressions.specs.declared.grown.Mode.TheVariants as mode
use Rattle.c_input.specs.declared.word.Sign.{Sign}
use Rattle.c_input.specs.declared.word.Sign.TheVariants as sign
use Rattle.c_input.specs.declared.word.Place.{Place as State}
use Rattle.c_input.specs.Input.{Words, step, look_at, is_name, qualifies}
use Rattle.c_tree.specs.declared.tree.DeclForm.TheVariants as form
use Rattle.c_expressions.specs.Specifiers.{is_type_specifier, is_typedef}
use Rattle.c_expressions.specs.Declarators.{node}
use Rattle.c_grammar.specs.Below.{Below, Declared, Room, name_at, declaring}

-- a specifier of one word that isn't a typedef name
abbrev pub is_spec_word : Sign → Bool
is_spec_word sign.Storage = true
is_spec_word sign.Static = true
is_spec_word sign.Typedef = true
is_spec_word sign.Qualifier = true
is_spec_word sign.TypeWord = true
is_spec_word _ = false

-- the first word of a struct-or-union-specifier
abbrev pub is_struct_or_union : Sign → Bool
is_struct_or_union sign.Struct = true
is_struct_or_union sign.Union = true
is_struct_or_union _ = false

-- a struct-declarator: the width is that of a bit-field
abbrev pub member_part : Declarator → Option Ex → MemberPart
member_part d width = roll-MemberPart (record { declarator = d; width = width })

module _ (horizon : ℕ) (W : Words) (B : Below) where
  -- a tag, which may be left out before a brace (6.7.2.3)
  pub data Tag : Option ℕ → State → State → Type 0 where
    no_tag : (s : State) → look_at W s ≡ sign.OpenBrace → Tag None s s
    tag : (s : State) → is_name (look_at W s) ≡ true → Tag (Some s.at) s (step s)

  -- struct-declaration-list (6.7.2.1)
  pub data Lines (room : ℕ) : List MemberLine → State → State → Type 0 where
    last_line : (x : MemberLine) (s t : State) → B.line room x s t → Lines room (x ∷ []) s t
    line_and_more : (x : MemberLine) (rest : List MemberLine) (s t u : State) → B.line room x s t → Lines room rest t u → Lines room (x ∷ rest) s u

  -- enumerator (6.7.2.2): its name is in scope behind it (6.2.1p7)
  pub data EnumeratorIs (room : ℕ) : Enumerator → State → State → Type 0 where
    enumeration_constant : (s : State) → is_name (look_at W s) ≡ true →
        EnumeratorIs room (roll-Enumerator (record { name = s.at; value = None })) s (declaring (name_at W s) false (step s))
    with_value : (e : Ex) (s t : State) → is_name (look_at W s) ≡ true → look_at W (step s) ≡ sign.Equal → B.expr room 3 e (step (step s)) t →
        EnumeratorIs room (roll-Enumerator (record { name = s.at; value = Some e })) s (declaring (name_at W s) false t)

  -- enumerator-list (6.7.2.2), and the comma that may end it
  pub data Enumerators (room : ℕ) : List Enumerator → State → State → Type 0 where
    last_enumerator : (x : Enumerator) (s t : State) → EnumeratorIs room x s t → Enumerators room (x ∷ []) s t
    last_and_comma : (x : Enumerator) (s t : State) → EnumeratorIs room x s t → look_at W t ≡ sign.Comma → Enumerators room (x ∷ []) s (step t)
    enumerator_and_more : (x : Enumerator) (rest : List Enumerator) (s t u : State) → EnumeratorIs room x s t → look_at W t ≡ sign.Comma →
        Enumerators room rest (step t) u → Enumerators room (x ∷ rest) s u

  pub data SpecifierIs (room : ℕ) : Spec → State → State → Type 0 where
    -- storage-class-specifier, type-qualifier, function-specifier, and the type-specifiers of one word
    spec_word : (s : State) → is_spec_word (look_at W s) ≡ true → SpecifierIs room (spec.Word s.at) s (step s)
    -- typedef-name (6.7.8)
    typedef_name : (s : State) → look_at W s ≡ sign.TypeName → SpecifierIs room (spec.Named s.at) s (step s)
    -- struct-or-union-specifier (6.7.2.1)
    struct_ : (name : Option ℕ) (lines : List MemberLine) (s t u : State) → is_struct_or_union (look_at W s) ≡ true → Tag name (step s) t → look_at W t ≡ sign.OpenBrace →
        Lines room lines (step t) u → look_at W u ≡ sign.CloseBrace → SpecifierIs room (spec.Struct s.at name (Some lines)) s (step u)
    struct_tag : (s : State) → is_struct_or_union (look_at W s) ≡ true → is_name (look_at W (step s)) ≡ true →
        SpecifierIs room (spec.Struct s.at (Some (step s).at) None) s (step (step s))
    -- enum-specifier (6.7.2.2)
    enum_ : (name : Option ℕ) (all : List Enumerator) (s t u : State) → look_at W s ≡ sign.Enum → Tag name (step s) t → look_at W t ≡ sign.OpenBrace →
        Enumerators room all (step t) u → look_at W u ≡ sign.CloseBrace → SpecifierIs room (spec.Enum s.at name (Some all)) s (step u)
    enum_tag : (s : State) → look_at W s ≡ sign.Enum → is_name (look_at W (step s)) ≡ true →
        SpecifierIs room (spec.Enum s.at (Some (step s).at) None) s (step (step s))

  -- A list of specifiers takes each word that may stand in it. A typedef name may where no type specifier stands before it
  -- (6.7.2p2). The flags say whether a type specifier and `typedef` are among them.
  pub data SpecifiersAre (more : Bool → Sign → Bool) (room : ℕ) : Bool → List Spec → Bool → Bool → State → State → Type 0 where
    no_specifier : (typed : Bool) (s : State) → more typed (look_at W s) ≡ false → SpecifiersAre more room typed [] false false s s
    specifier : (typed : Bool) (x : Spec) (rest : List Spec) (a b : Bool) (s t u : State) → more typed (look_at W s) ≡ true → SpecifierIs room x s t →
        SpecifiersAre more room (typed || is_type_specifier (look_at W s)) rest a b t u →
        SpecifiersAre more room typed (x ∷ rest) (is_type_specifier (look_at W s) || a) (is_typedef (look_at W s) || b) s u

  -- one at least: declaration-specifiers (6.7), specifier-qualifier-list (6.7.2.1)
  pub data SomeSpecifiers (more : Bool → Sign → Bool) (room : ℕ) : List Spec → Bool → Bool → State → State → Type 0 where
    some_specifiers : (all : List Spec) (a b : Bool) (s t : State) → more false (look_at W s) ≡ true → SpecifiersAre more room false all a b s t →
        SomeSpecifiers more room all a b s t

  -- struct-declarator (6.7.2.1)
  pub data MemberIs (room : ℕ) : MemberPart → State → State → Type 0 where
    member : (d : Declared) (s t : State) → B.declarator room mode.Named d s t → MemberIs room (member_part d.tree None) s t
    bit_field : (d : Declared) (e : Ex) (s t u : State) → B.declarator room mode.Named d s t → look_at W t ≡ sign.Colon → B.expr room 3 e (step t) u →
        MemberIs room (member_part d.tree (Some e)) s u
    -- its declarator is abstract, without words
    nameless_bit_field : (e : Ex) (s t : State) → Room horizon room s → look_at W s ≡ sign.Colon → B.expr room 3 e (step s) t →
        MemberIs room (member_part (node s.at form.Abstract) (Some e)) s t

  -- struct-declarator-list (6.7.2.1)
  pub data Members (room : ℕ) : List MemberPart → State → State → Type 0 where
    last_member : (x : MemberPart) (s t : State) → MemberIs room x s t → Members room (x ∷ []) s t
    member_and_more : (x : MemberPart) (rest : List MemberPart) (s t u : State) → MemberIs room x s t → look_at W t ≡ sign.Comma → Members room rest (step t) u →
        Members room (x ∷ rest) s u

  -- struct-declaration (6.7.2.1), with or without its declarators
  pub data LineIs (room : ℕ) : MemberLine → State → State → Type 0 where
    members : (all : List Spec) (a b : Bool) (parts : List MemberPart) (s t u : State) → Room horizon room s →
        SomeSpecifiers qualifies (room - 1) all a b s t → Members (room - 1) parts t u → look_at W u ≡ sign.Semicolon →
        LineIs room (roll-MemberLine (record { at = s.at; specs = all; parts = parts })) s (step u)
    no_members : (all : List Spec) (a b : Bool) (s t : State) → Room horizon room s → SomeSpecifiers qualifies (room - 1) all a b s t →
        look_at W t ≡ sign.Semicolon → LineIs room (roll-MemberLine (record { at = s.at; specs = all; parts = [] })) s (step t)

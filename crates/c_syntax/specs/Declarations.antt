-- Declarations (6.7).
use Rattle.std.specs.Prelude.{ℕ, Bool, List, [], ◌∷◌, Option, Some, None, Ok}
use Rattle.c_tree.specs.declared.tree.InitPart.{InitPart}
use Rattle.c_tree.specs.declared.tree.Declaration.{Declaration}
use Rattle.c_expressions.specs.declared.grown.Specs.{Specs}
use Rattle.c_expressions.specs.declared.grown.Declares.{Declares}
use Rattle.c_expressions.specs.declared.grown.Mode.TheVariants as mode
use Rattle.c_input.specs.declared.word.Sign.TheVariants as sign
use Rattle.c_input.specs.declared.word.Place.{Place as State}
use Rattle.c_input.specs.declared.word.Sign.{Sign}
use Rattle.c_input.specs.Input.{Names}
use Rattle.c_input.specs.Parser.{Parser, ◌>>=◌, ◌>>◌, pure, look, here, skip, expect, many}
use Rattle.c_input.specs.Signs.{is_comma, is_semicolon}
use Rattle.c_expressions.specs.Specifiers.{declaration_specs, specs_after_name}
use Rattle.c_syntax.specs.Initialisers.{Inits}

-- the names in scope behind a declarator, which may have none
abbrev pub with_name : Option ℕ → Bool → Names → Names
with_name (Some n) t names = (n, t) ∷ names
with_name None t names = names

abbrev pub declared : Option ℕ → Bool → State → State
declared n t s = record { at = s.at; names = with_name n t s.names }

abbrev pub declare_name : Option ℕ → Bool → Parser (Unit {0})
declare_name n t = λ W s. Ok (tt, declared n t s)

-- `sub` has the room of the declarators and initialisers
module _ (sub : Inits) where
  abbrev pub init_by : Declares → Sign → Parser InitPart
  init_by d sign.Equal = skip >> sub.init >>= (λ i. pure (record { declarator = d.tree; init = Some i }))
  init_by d _ = pure (record { declarator = d.tree; init = None })

  -- init-declarator: the name is declared before its initialiser (6.2.1p7)
  unfoldable pub part_of : Bool → Declares → Parser InitPart
  part_of t d = do
    declare_name d.name t
    look (init_by d)

  unfoldable pub part : Bool → Parser InitPart
  part t = sub.exprs.declarator mode.Named >>= part_of t

  abbrev pub next_part : Bool → Parser InitPart
  next_part t = skip >> part t

  -- behind the first part
  unfoldable pub all_parts : Bool → InitPart → Parser (List InitPart)
  all_parts t x = many is_comma (next_part t) >>= (λ rest. pure (x ∷ rest))

  unfoldable pub parts_after : ℕ → Specs → InitPart → Parser Declaration
  parts_after at a x = do
    parts ← all_parts a.is_typedef x
    expect is_semicolon
    pure (record { at = at; specs = a.list; parts = parts })

  abbrev pub parts_by : ℕ → Specs → Sign → Parser Declaration
  parts_by at a sign.Semicolon = skip >> pure (record { at = at; specs = a.list; parts = [] })
  parts_by at a _ = part a.is_typedef >>= parts_after at a

  unfoldable pub declaration : Parser Declaration
  declaration = do
    at ← here
    a ← declaration_specs sub.exprs
    look (parts_by at a)

  -- behind a typedef name at the place
  unfoldable pub declaration_after_name : ℕ → Parser Declaration
  declaration_after_name at = specs_after_name sub.exprs at >>= (λ a. look (parts_by at a))

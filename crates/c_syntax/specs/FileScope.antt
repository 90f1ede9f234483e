-- External declarations (6.9), and the whole of a file.
use Rattle.std.specs.Prelude.{ℕ, Bool, true, false, List, [], ◌++◌, Option, Some, None, Result, Ok, Err, ◌≡◌}
use Rattle.c_tree.specs.declared.tree.Unit.{Unit as Tree}
use Rattle.c_tree.specs.declared.tree.Item.{Item}
use Rattle.c_tree.specs.declared.tree.Item.TheVariants as item
use Rattle.c_expressions.specs.declared.grown.Specs.{Specs}
use Rattle.c_expressions.specs.declared.grown.Declares.{Declares}
use Rattle.c_syntax.specs.declared.built.Built.{Built}
use Rattle.c_expressions.specs.declared.grown.Mode.TheVariants as mode
use Rattle.c_input.specs.declared.word.Sign.TheVariants as sign
use Rattle.c_input.specs.declared.word.Place.{Place as State}
use Rattle.c_input.specs.declared.word.Sign.{Sign}
use Rattle.c_input.specs.Input.{Names}
use Rattle.c_input.specs.Parser.{Outcome, Parser, ◌>>=◌, ◌>>◌, pure, look, here, skip, scoped, many}
use Rattle.c_input.specs.declared.error.SyntaxStop.{SyntaxStop}
use Rattle.c_input.specs.Gives.{Refuses}
use Rattle.c_expressions.specs.Specifiers.{declaration_specs}
use Rattle.c_syntax.specs.Declarations.{declare_name, init_by, parts_after}
use Rattle.c_syntax.specs.Statements.{Parts, parts_within}

-- how deep nodes may nest
abbrev pub limit : ℕ
limit = 200

abbrev pub or_none : Option Names → Names
or_none (Some xs) = xs
or_none None = []

-- the parameters of a definition have the scope of its body (6.2.1p4)
abbrev pub with_params : Option Names → State → State
with_params params s = record { at = s.at; names = or_none params ++ s.names }

abbrev pub declare_params : Option Names → Parser (Unit {0})
declare_params params = λ W s. Ok (tt, with_params params s)

module _ (sub : Parts) where
  -- function-definition (6.9.1)
  unfoldable pub definition_body : Option Names → Parser Built
  definition_body params = scoped (declare_params params >> sub.statement)

  unfoldable pub definition : ℕ → Specs → Declares → Parser Item
  definition at a d = definition_body d.params >>= (λ body. pure (item.Function at a.list d.tree body.tree))

  -- behind the first declarator
  abbrev pub external_by : ℕ → Specs → Declares → Sign → Parser Item
  external_by at a d sign.OpenBrace = definition at a d
  external_by at a d _ = look (init_by sub.inits d) >>= (λ x. parts_after sub.inits at a x >>= (λ all. pure (item.Declaration all)))

  unfoldable pub external_rest : ℕ → Specs → Parser Item
  external_rest at a = do
    d ← sub.inits.exprs.declarator mode.Named
    declare_name d.name a.is_typedef
    look (external_by at a d)

  abbrev pub declared_by : ℕ → Specs → Sign → Parser Item
  declared_by at a sign.Semicolon = skip >> pure (item.Declaration (record { at = at; specs = a.list; parts = [] }))
  declared_by at a _ = external_rest at a

  unfoldable pub external : Parser Item
  external = do
    at ← here
    a ← declaration_specs sub.inits.exprs
    look (declared_by at a)

  abbrev pub item_by : Sign → Parser Item
  item_by sign.Semicolon = here >>= (λ at. skip >> pure (item.Empty at))
  item_by _ = external

  unfoldable pub file_item : Parser Item
  file_item = look item_by

abbrev pub is_no_end : Sign → Bool
is_no_end sign.Eof = false
is_no_end _ = true

unfoldable pub file_items : Parser (List Item)
file_items = many is_no_end (file_item (parts_within limit))

-- translation-unit, which may be empty
unfoldable pub translation_unit : Parser Tree
translation_unit = file_items >>= (λ items. pure (record { items = items }))

abbrev pub start : State
start = record { at = 0; names = [] }

-- the tree, or the stop, unless memory fails
abbrev pub Answers : Outcome Tree → Result Tree SyntaxStop → Type 0
Answers o (Ok tree) = (end : State) × (o ≡ Ok (tree, end))
Answers o (Err e) = Refuses o e

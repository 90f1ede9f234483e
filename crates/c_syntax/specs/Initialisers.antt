-- Initialisers (6.7.9).
use Rattle.std.specs.Prelude.{ℕ, zero, suc, Bool, true, List, Option, Some, None}
use Rattle.c_tree.specs.declared.tree.Init.{Init}
use Rattle.c_tree.specs.declared.tree.Init.TheVariants as init
use Rattle.c_tree.specs.declared.tree.Given.{Given, roll-Given}
use Rattle.c_tree.specs.declared.tree.Designator.{Designator}
use Rattle.c_tree.specs.declared.tree.Designator.TheVariants as designator
use Rattle.c_input.specs.declared.word.Sign.TheVariants as sign
use Rattle.c_input.specs.declared.word.Sign.{Sign}
use Rattle.c_input.specs.Input.{begins_expression}
use Rattle.c_input.specs.Parser.{Parser, ◌>>=◌, ◌>>◌, pure, look, here, skip, refuse, left_out_here, no_room, expect, any_name, trailed}
use Rattle.c_input.specs.Signs.{is_comma, is_close_brace, is_close_bracket}
use Rattle.c_expressions.specs.Nest.{Nest}
use Rattle.c_expressions.specs.Levels.{nest}

-- what an initialiser holds, one level of room below
pub record Inits : Type 0 where
  pub exprs : Nest
  pub init : Parser Init

-- A designation has one level; a nested one is left out at its second designator.
abbrev pub equal_by : Designator → Sign → Parser Designator
equal_by d sign.Equal = skip >> pure d
equal_by d sign.Dot = left_out_here
equal_by d sign.OpenBracket = left_out_here
equal_by d _ = refuse

unfoldable pub member_designator : Parser Designator
member_designator = do
  at ← here
  skip
  n ← any_name
  look (equal_by (designator.Member at n.1))

module _ (sub : Inits) where
  unfoldable pub place_designator : Parser Designator
  place_designator = do
    at ← here
    skip
    e ← sub.exprs.expr 3
    expect is_close_bracket
    look (equal_by (designator.Place at e.tree))

  abbrev pub given : Option Designator → Parser Given
  given d = sub.init >>= (λ i. pure (roll-Given (record { designator = d; init = i })))

  abbrev pub designation_by : Sign → Parser (Option Designator)
  designation_by sign.Dot = member_designator >>= (λ d. pure (Some d))
  designation_by sign.OpenBracket = place_designator >>= (λ d. pure (Some d))
  designation_by _ = pure None

  unfoldable pub part : Parser Given
  part = look designation_by >>= given

  -- after each part a comma or the end, and after the comma one more or the end (initializer-list)
  unfoldable pub init_parts : Parser (List Given)
  init_parts = trailed is_comma is_close_brace part

  unfoldable pub init_list : ℕ → Parser Init
  init_list at = do
    skip
    parts ← init_parts
    expect is_close_brace
    pure (init.List at parts)

  abbrev pub initializer_by : Sign → Parser Init
  initializer_by sign.OpenBrace = here >>= init_list
  initializer_by _ = sub.exprs.expr 2 >>= (λ e. pure (init.One e.tree))

  unfoldable pub initializer : Parser Init
  initializer = look initializer_by

abbrev pub begins_initializer : Sign → Bool
begins_initializer sign.OpenBrace = true
begins_initializer q = begins_expression q

unfoldable pub init_within : ℕ → Parser Init
init_within zero = look (λ q. no_room (begins_initializer q))
init_within (suc room) = initializer (record { exprs = nest room; init = init_within room })

abbrev pub inits_within : ℕ → Inits
inits_within room = record { exprs = nest room; init = init_within room }

-- Declaration specifiers, structs and enumerations (6.7 to 6.7.3).
use Rattle.std.specs.Prelude.{ℕ, zero, suc, ◌-◌, max, nat_lt, Bool, true, false, ◌||◌, List, [], ◌∷◌, ◌++◌, Option, Some, None}
use Rattle.c_tree.specs.declared.tree.Spec.{Spec}
use Rattle.c_tree.specs.declared.tree.Spec.TheVariants as spec
use Rattle.c_tree.specs.declared.tree.Ex.{Ex}
use Rattle.c_tree.specs.declared.tree.Declarator.{Declarator, roll-Declarator}
use Rattle.c_tree.specs.declared.tree.DeclForm.TheVariants as form
use Rattle.c_tree.specs.declared.tree.MemberLine.{MemberLine, roll-MemberLine}
use Rattle.c_tree.specs.declared.tree.MemberPart.{MemberPart, roll-MemberPart}
use Rattle.c_tree.specs.declared.tree.Enumerator.{Enumerator, roll-Enumerator}
use Rattle.c_expressions.specs.declared.grown.Mode.TheVariants as mode
use Rattle.c_expressions.specs.declared.grown.Declares.{Declares}
use Rattle.c_expressions.specs.declared.grown.Specs.{Specs}
use Rattle.c_expressions.specs.declared.specifiers.Allowed.{Allowed}
use Rattle.c_expressions.specs.declared.specifiers.Allowed.TheVariants as allowed
use Rattle.c_input.specs.declared.word.Sign.TheVariants as sign
use Rattle.c_input.specs.declared.word.Sign.{Sign}
use Rattle.c_input.specs.Input.{qualifies, specifies}
use Rattle.c_input.specs.declared.measured.Measured.{Measured}
use Rattle.c_input.specs.Parser.{Parser, ◌>>=◌, ◌>>◌, pure, look, here, skip, refuse, too_deep_here, most_words, if_so, expect, any_name, declare, one_or_more, separated, trailed, gathered}
use Rattle.c_input.specs.Signs.{is_comma, is_semicolon, is_close_brace, is_no_close_brace}
use Rattle.c_expressions.specs.Nest.{Nest}

abbrev pub is_typedef : Sign → Bool
is_typedef sign.Typedef = true
is_typedef _ = false

-- a type specifier (6.7.2)
abbrev pub is_type_specifier : Sign → Bool
is_type_specifier sign.TypeWord = true
is_type_specifier sign.TypeName = true
is_type_specifier sign.Struct = true
is_type_specifier sign.Union = true
is_type_specifier sign.Enum = true
is_type_specifier _ = false

-- the words that may stand in a list of specifiers
abbrev pub allows : Allowed → Bool → Sign → Bool
allows allowed.All = specifies
allows allowed.Qualifiers = qualifies

abbrev pub no_specs : Specs
no_specs = record { list = []; height = 0; is_typed = false; is_typedef = false }

-- one more in front
abbrev pub with_spec : Sign → Measured Spec → Specs → Specs
with_spec q x more = record {
  list = x.tree ∷ more.list;
  height = max x.height more.height;
  is_typed = is_type_specifier q || more.is_typed;
  is_typedef = is_typedef q || more.is_typedef;
}

-- those of one list, and those of another behind it
abbrev pub behind : Specs → Specs → Specs
behind first more = record {
  list = first.list ++ more.list;
  height = max first.height more.height;
  is_typed = first.is_typed || more.is_typed;
  is_typedef = first.is_typedef || more.is_typedef;
}

abbrev pub flat : Spec → Measured Spec
flat x = record { tree = x; height = 0 }

-- an abstract declarator without words
abbrev pub nameless : ℕ → Declares
nameless at = record { tree = roll-Declarator (record { at = at; form = form.Abstract }); height = 1; name = None; params = None }

-- a declarator with its width, which only a bit-field has
abbrev pub member_part : Declarator → Option Ex → ℕ → Measured MemberPart
member_part d width height = record { tree = roll-MemberPart (record { declarator = d; width = width }); height = height }

-- a tag, which may be left out before a brace
abbrev pub tag_by : Sign → Parser (Option ℕ)
tag_by sign.OpenBrace = pure None
tag_by _ = any_name >>= (λ n. pure (Some n.1))

unfoldable pub tag : Parser (Option ℕ)
tag = look tag_by

module _ (sub : Nest) where
  -- struct-or-union-specifier (6.7.2.1)
  unfoldable pub member_lines : Parser (Measured (List MemberLine))
  member_lines = do
    skip
    lines ← gathered (one_or_more is_no_close_brace sub.line)
    expect is_close_brace
    pure lines

  abbrev pub struct_by : ℕ → Option ℕ → Sign → Parser (Measured Spec)
  struct_by at name sign.OpenBrace = member_lines >>= (λ lines. pure (record { tree = spec.Struct at name (Some lines.tree); height = lines.height }))
  struct_by at name _ = pure (flat (spec.Struct at name None))

  unfoldable pub struct_specifier : Parser (Measured Spec)
  struct_specifier = do
    at ← here
    skip
    name ← tag
    look (struct_by at name)

  -- enumerator (6.7.2.2): its name is declared behind it
  abbrev pub enumerator_by : ℕ → ℕ → Sign → Parser (Measured Enumerator)
  enumerator_by n at sign.Equal = do
    skip
    e ← sub.expr 3
    declare n false
    pure (record { tree = roll-Enumerator (record { name = at; value = Some e.tree }); height = e.height })
  enumerator_by n at _ = do
    declare n false
    pure (record { tree = roll-Enumerator (record { name = at; value = None }); height = 0 })

  unfoldable pub enumerator : Parser (Measured Enumerator)
  enumerator = do
    n ← any_name
    look (enumerator_by n.0 n.1)

  unfoldable pub enumerators : Parser (Measured (List Enumerator))
  enumerators = do
    skip
    all ← gathered (trailed is_comma is_close_brace enumerator)
    expect is_close_brace
    pure all

  abbrev pub enum_by : ℕ → Option ℕ → Sign → Parser (Measured Spec)
  enum_by at name sign.OpenBrace = enumerators >>= (λ all. pure (record { tree = spec.Enum at name (Some all.tree); height = all.height }))
  enum_by at name _ = pure (flat (spec.Enum at name None))

  unfoldable pub enum_specifier : Parser (Measured Spec)
  enum_specifier = do
    at ← here
    skip
    name ← tag
    look (enum_by at name)

  abbrev pub spec_by : Sign → Parser (Measured Spec)
  spec_by sign.Struct = struct_specifier
  spec_by sign.Union = struct_specifier
  spec_by sign.Enum = enum_specifier
  spec_by sign.TypeName = here >>= (λ at. skip >> pure (flat (spec.Named at)))
  spec_by _ = here >>= (λ at. skip >> pure (flat (spec.Word at)))

  -- A list of specifiers by the words that may stand in it. A typedef name is a specifier only where no type specifier
  -- stands before it (6.7.2p2, 6.7.8).
  unfoldable pub specs_from : (Bool → Sign → Bool) → ℕ → Bool → Parser Specs
  specs_from more zero typed = pure no_specs
  specs_from more (suc n) typed = look (λ q. if_so (more typed q)
      (spec_by q >>= (λ x. specs_from more n (typed || is_type_specifier q) >>= (λ rest. pure (with_spec q x rest))))
      (pure no_specs))

  unfoldable pub specs : (Bool → Sign → Bool) → Bool → Parser Specs
  specs more typed = λ W s. specs_from more (most_words - s.at) typed W s

  -- one specifier at least
  unfoldable pub some_specs : (Bool → Sign → Bool) → Parser Specs
  some_specs more = look (λ q. if_so (more false q) (specs more false) refuse)

  -- declaration-specifiers
  abbrev pub declaration_specs : Parser Specs
  declaration_specs = some_specs specifies

  -- specifier-qualifier-list
  abbrev pub qualifier_specs : Parser Specs
  qualifier_specs = some_specs qualifies

  -- the declaration specifiers behind a typedef name at the place
  unfoldable pub specs_after_name : ℕ → Parser Specs
  specs_after_name at = specs specifies true >>= (λ rest. pure (with_spec sign.TypeName (flat (spec.Named at)) rest))

  -- struct-declarator (6.7.2.1)
  unfoldable pub bit_field : Declares → Parser (Measured MemberPart)
  bit_field d = do
    skip
    e ← sub.expr 3
    pure (member_part d.tree (Some e.tree) (max d.height e.height))

  abbrev pub width_by : Declares → Sign → Parser (Measured MemberPart)
  width_by d sign.Colon = bit_field d
  width_by d _ = pure (member_part d.tree None d.height)

  -- a bit-field without a name has an abstract declarator without words, which is a node too
  abbrev pub member_by : ℕ → ℕ → Sign → Parser (Measured MemberPart)
  member_by room at sign.Colon = if_so (nat_lt 1 room) (bit_field (nameless at)) too_deep_here
  member_by room at _ = sub.declarator mode.Named >>= (λ d. look (width_by d))

  -- the room is that of the whole struct declaration
  unfoldable pub member : ℕ → Parser (Measured MemberPart)
  member room = here >>= (λ at. look (member_by room at))

  abbrev pub members_by : ℕ → Sign → Parser (List (Measured MemberPart))
  members_by room sign.Semicolon = pure []
  members_by room _ = separated is_comma (member room)

  unfoldable pub members : ℕ → Parser (Measured (List MemberPart))
  members room = gathered (look (members_by room))

  -- struct-declaration
  unfoldable pub member_line : ℕ → Parser (Measured MemberLine)
  member_line room = do
    at ← here
    a ← qualifier_specs
    parts ← members room
    expect is_semicolon
    pure (record { tree = roll-MemberLine (record { at = at; specs = a.list; parts = parts.tree }); height = suc (max a.height parts.height) })

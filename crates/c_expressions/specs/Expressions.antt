-- Expressions (6.5).
use Rattle.std.specs.Prelude.{ℕ, zero, suc, max, nat_lt, nat_le, Bool, true, false, if◌then◌else◌, List, [], length}
use Rattle.c_tree.specs.declared.tree.Ex.{Ex, roll-Ex}
use Rattle.c_tree.specs.declared.tree.ExForm.{ExForm}
use Rattle.c_tree.specs.declared.tree.ExForm.TheVariants as form
use Rattle.c_tree.specs.declared.tree.Param.{Param}
use Rattle.c_expressions.specs.declared.grown.Grown.{Grown}
use Rattle.c_input.specs.declared.word.Sign.TheVariants as sign
use Rattle.c_input.specs.declared.word.Sign.{Sign}
use Rattle.c_input.specs.Input.{look_at, qualifies, binds, wants}
use Rattle.c_input.specs.declared.measured.Measured.{Measured}
use Rattle.c_input.specs.Parser.{Parser, ◌>>=◌, ◌>>◌, pure, look, here, skip, refuse, too_deep_here, left_out_here, if_so, expect, any_name, many, separated, gathered}
use Rattle.c_input.specs.Signs.{is, is_comma, is_close_paren, is_close_bracket, is_colon}
use Rattle.c_expressions.specs.Nest.{Nest}
use Rattle.c_expressions.specs.Declarators.{type_name}

abbrev pub is_str : Sign → Bool
is_str sign.Str = true
is_str _ = false

abbrev pub is_star : Sign → Bool
is_star = is sign.Star

abbrev pub node : ℕ → ExForm → Ex
node at f = roll-Ex (record { at = at; form = f })

abbrev pub leaf : ℕ → ExForm → Grown
leaf at f = record { tree = node at f; height = 1; level = 16 }

-- one production over nodes of this height
abbrev pub over : ℕ → ExForm → ℕ → ℕ → Grown
over at f below l = record { tree = node at f; height = suc below; level = l }

abbrev pub goes_on_at : ℕ → ℕ → Sign → Bool
goes_on_at least level q = if nat_le 1 (binds q) then (if nat_le least (binds q) then nat_le (wants q) level else false) else false

-- `.` or `->` with a member's name
abbrev pub member_form : Sign → Ex → ℕ → ExForm
member_form sign.Dot e name = form.Member e name
member_form _ e name = form.Arrow e name

-- how many string literals follow
unfoldable pub strings : Parser ℕ
strings = many is_str skip >>= (λ more. pure (length more))

-- neighbouring string literals are one (6.4.5p5)
unfoldable pub string : ℕ → Parser Grown
string at = do
  skip
  more ← strings
  pure (leaf at (form.Str (suc more)))

module _ (sub : Nest) where
  -- a type name in brackets, behind the first of them; a compound literal is left out at its brace (6.5.2.5)
  abbrev pub closed_by : Measured Param → Sign → Parser (Measured Param)
  closed_by t sign.OpenBrace = left_out_here
  closed_by t _ = pure t

  unfoldable pub closed_type : Parser (Measured Param)
  closed_type = do
    t ← type_name sub
    expect is_close_paren
    look (closed_by t)

  -- cast-expression (6.5.4)
  unfoldable pub cast_rest : ℕ → Parser Grown
  cast_rest at = do
    t ← closed_type
    e ← sub.expr 14
    pure (over at (form.Cast t.tree e.tree) (max t.height e.height) 14)

  -- primary-expression in brackets (6.5.1); a statement expression is left out at its brace
  abbrev pub paren_by : ℕ → Sign → Parser Grown
  paren_by at sign.OpenBrace = left_out_here
  paren_by at _ = do
    e ← sub.expr 1
    expect is_close_paren
    pure (over at (form.Paren e.tree) e.height 16)

  unfoldable pub paren_rest : ℕ → Parser Grown
  paren_rest at = look (paren_by at)

  -- a cast stands where an expression of level 14 or below may
  unfoldable pub open_rest : ℕ → ℕ → Parser Grown
  open_rest least at = look (λ q. if_so (qualifies false q) (if_so (nat_le least 14) (cast_rest at) refuse) (paren_rest at))

  -- `sizeof` (6.5.3.4)
  abbrev pub size_of_expr : ℕ → Grown → Parser Grown
  size_of_expr at e = pure (over at (form.SizeofEx e.tree) e.height 15)

  -- behind its bracket at the second place
  unfoldable pub size_open : ℕ → ℕ → Parser Grown
  size_open at open_at = look (λ q. if_so (qualifies false q)
      (closed_type >>= (λ t. pure (over at (form.SizeofType t.tree) t.height 15)))
      (sub.opened open_at >>= size_of_expr at))

  abbrev pub sizeof_by : ℕ → Sign → Parser Grown
  sizeof_by at sign.OpenParen = here >>= (λ open_at. skip >> size_open at open_at)
  sizeof_by at _ = sub.expr 15 >>= size_of_expr at

  unfoldable pub size_of : ℕ → Parser Grown
  size_of at = look (sizeof_by at)

  -- unary-expression: `++` and `--` want one too, the operators of 6.5.3.3 a cast
  unfoldable pub unary : ℕ → ℕ → Parser Grown
  unary at least = do
    skip
    e ← sub.expr least
    pure (over at (form.Unary e.tree) e.height 15)

  abbrev pub constant : ℕ → ExForm → Parser Grown
  constant at f = skip >> pure (leaf at f)

  -- the first production of an expression of this level, whose first word is the sign
  abbrev pub first_by : ℕ → ℕ → Sign → Parser Grown
  first_by least at sign.Name = constant at form.Name
  first_by least at sign.Int = constant at form.Int
  first_by least at sign.Float = constant at form.Float
  first_by least at sign.Char = constant at form.Char
  first_by least at sign.Str = string at
  first_by least at sign.OpenParen = skip >> open_rest least at
  first_by least at sign.Increment = unary at 15
  first_by least at sign.Decrement = unary at 15
  first_by least at sign.Amp = unary at 14
  first_by least at sign.Star = unary at 14
  first_by least at sign.Additive = unary at 14
  first_by least at sign.Complement = unary at 14
  first_by least at sign.Sizeof = skip >> size_of at
  first_by least at _ = refuse

  unfoldable pub first : ℕ → Parser Grown
  first least = λ W s. first_by least s.at (look_at W s) W s

  -- postfix-expression (6.5.2)
  unfoldable pub indexed : ℕ → Grown → Parser Grown
  indexed at a = do
    skip
    e ← sub.expr 1
    expect is_close_bracket
    pure (over at (form.Index a.tree e.tree) (max a.height e.height) 16)

  unfoldable pub argument : Parser (Measured Ex)
  argument = sub.expr 2 >>= (λ e. pure (record { tree = e.tree; height = e.height }))

  abbrev pub arguments_by : Sign → Parser (List (Measured Ex))
  arguments_by sign.CloseParen = pure []
  arguments_by _ = separated is_comma argument

  unfoldable pub arguments : Parser (Measured (List Ex))
  arguments = gathered (look arguments_by)

  unfoldable pub called : ℕ → Grown → Parser Grown
  called at a = do
    skip
    args ← arguments
    expect is_close_paren
    pure (over at (form.Call a.tree args.tree) (max a.height args.height) 16)

  unfoldable pub member_of : ℕ → Grown → Sign → Parser Grown
  member_of at a q = do
    skip
    n ← any_name
    pure (over at (member_form q a.tree n.1) a.height 16)

  -- binary operators (6.5.5 to 6.5.14) group to the left
  unfoldable pub joined : ℕ → Grown → ℕ → Parser Grown
  joined at a l = do
    op ← here
    skip
    b ← sub.expr (suc l)
    pure (over at (form.Binary op a.tree b.tree) (max a.height b.height) l)

  -- assignment-expression (6.5.16) groups to the right
  unfoldable pub assigned : ℕ → Grown → Parser Grown
  assigned at a = do
    op ← here
    skip
    b ← sub.expr 2
    pure (over at (form.Assign op a.tree b.tree) (max a.height b.height) 2)

  -- conditional-expression (6.5.15)
  unfoldable pub otherwise : ℕ → Grown → Grown → Parser Grown
  otherwise at a b = do
    expect is_colon
    c ← sub.expr 3
    pure (over at (form.Cond a.tree b.tree c.tree) (max a.height (max b.height c.height)) 3)

  unfoldable pub conditional : ℕ → Grown → Parser Grown
  conditional at a = do
    skip
    b ← sub.expr 1
    otherwise at a b

  unfoldable pub followed : ℕ → Grown → Parser Grown
  followed at a = do
    skip
    b ← sub.expr 2
    pure (over at (form.Comma a.tree b.tree) (max a.height b.height) 1)

  -- one production more around what was read from the place on
  abbrev pub longer_by : ℕ → Grown → Sign → Parser Grown
  longer_by at a sign.OpenBracket = indexed at a
  longer_by at a sign.OpenParen = called at a
  longer_by at a sign.Dot = member_of at a sign.Dot
  longer_by at a sign.Arrow = member_of at a sign.Arrow
  longer_by at a sign.Increment = skip >> pure (over at (form.PostInc a.tree) a.height 16)
  longer_by at a sign.Decrement = skip >> pure (over at (form.PostDec a.tree) a.height 16)
  longer_by at a sign.Equal = assigned at a
  longer_by at a sign.AssignOp = assigned at a
  longer_by at a sign.Question = conditional at a
  longer_by at a sign.Comma = followed at a
  longer_by at a q = joined at a (binds q)

  unfoldable pub longer : ℕ → Grown → Sign → Parser Grown
  longer at a q = longer_by at a q

  -- whether the word goes on with what was read
  abbrev pub goes_on : ℕ → Grown → Sign → Bool
  goes_on least a q = goes_on_at least a.level q

  -- The room is that of the whole expression, and the second number bounds the turns: each adds to the height.
  unfoldable pub climb : ℕ → ℕ → ℕ → ℕ → Grown → Parser Grown
  climb room least zero at a = look (λ q. if_so (goes_on least a q) too_deep_here (pure a))
  climb room least (suc n) at a = look (λ q. if_so (goes_on least a q)
      (if_so (nat_lt a.height room) (longer at a q >>= climb room least n at) too_deep_here)
      (pure a))

  unfoldable pub expression : ℕ → ℕ → Parser Grown
  expression room least = do
    at ← here
    a ← first least
    climb room least room at a

  -- a unary expression behind the bracket at the place
  unfoldable pub after_open : ℕ → ℕ → Parser Grown
  after_open room at = paren_rest at >>= climb room 15 room at

  -- an expression behind the name at the place
  unfoldable pub after_name : ℕ → ℕ → Parser Grown
  after_name room at = climb room 1 room at (leaf at form.Name)

  -- a length that begins with `*`
  abbrev pub star_by : ℕ → ℕ → Bool → Sign → Parser Grown
  star_by room at true sign.CloseBracket = left_out_here
  star_by room at alone _ = sub.expr 14 >>= (λ e. climb room 2 room at (over at (form.Unary e.tree) e.height 15))

  unfoldable pub from_star : ℕ → Bool → Parser Grown
  from_star room alone = do
    at ← here
    expect is_star
    look (star_by room at alone)

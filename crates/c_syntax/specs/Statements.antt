-- Statements and blocks (6.8).
use Rattle.std.specs.Prelude.{ℕ, zero, suc, Bool, true, false, List, Option, Some, None}
use Rattle.c_tree.specs.declared.tree.Ex.{Ex}
use Rattle.c_tree.specs.declared.tree.Stmt.{Stmt, roll-Stmt}
use Rattle.c_tree.specs.declared.tree.StmtForm.{StmtForm}
use Rattle.c_tree.specs.declared.tree.StmtForm.TheVariants as form
use Rattle.c_tree.specs.declared.tree.BlockItem.{BlockItem}
use Rattle.c_tree.specs.declared.tree.BlockItem.TheVariants as item
use Rattle.c_tree.specs.declared.tree.ForStart.{ForStart}
use Rattle.c_tree.specs.declared.tree.ForStart.TheVariants as start
use Rattle.c_expressions.specs.declared.grown.Grown.{Grown}
use Rattle.c_syntax.specs.declared.built.Built.{Built}
use Rattle.c_syntax.specs.declared.branches.ForHead.{ForHead}
use Rattle.c_input.specs.declared.word.Sign.TheVariants as sign
use Rattle.c_input.specs.declared.word.Sign.{Sign}
use Rattle.c_input.specs.Input.{specifies, begins_expression}
use Rattle.c_input.specs.Parser.{Parser, ◌>>=◌, ◌>>◌, pure, look, here, skip, refuse, left_out_here, no_room, too_deep_here, if_so, expect, any_name, scoped, many}
use Rattle.c_input.specs.Signs.{is_semicolon, is_close_brace, is_no_close_brace, is_open_paren, is_close_paren, is_colon, is_while}
use Rattle.c_syntax.specs.Initialisers.{Inits, inits_within}
use Rattle.c_syntax.specs.Declarations.{declaration, declaration_after_name}

-- compound, selection and iteration statements (6.8.2p1, 6.8.4p3, 6.8.5p5)
abbrev pub has_scope : Sign → Bool
has_scope sign.OpenBrace = true
has_scope sign.If = true
has_scope sign.Switch = true
has_scope sign.While = true
has_scope sign.Do = true
has_scope sign.For = true
has_scope _ = false

abbrev pub is_jump : Sign → Bool
is_jump sign.Goto = true
is_jump sign.Continue = true
is_jump sign.Break = true
is_jump sign.Return = true
is_jump _ = false

abbrev pub is_type_name : Sign → Bool
is_type_name sign.TypeName = true
is_type_name _ = false

abbrev pub statement_node : ℕ → StmtForm → Stmt
statement_node at f = roll-Stmt (record { at = at; form = f })

abbrev pub built : ℕ → StmtForm → Bool → Built
built at f waits = record { tree = statement_node at f; waits = waits }

-- what a statement holds, one level of room below
pub record Parts : Type 0 where
  pub inits : Inits
  pub statement : Parser Built
  -- a labelled statement at its colon; the name stands at the place
  pub labelled : ℕ → Parser Built

module _ (sub : Parts) where
  -- a substatement is a block (6.8.4p3, 6.8.5p5)
  abbrev pub inner : Parser Built
  inner = scoped sub.statement

  unfoldable pub condition : Parser Ex
  condition = do
    expect is_open_paren
    e ← sub.inits.exprs.expr 1
    expect is_close_paren
    pure e.tree

  abbrev pub optional : Bool → Parser (Option Ex)
  optional ends = if_so ends (pure None) (sub.inits.exprs.expr 1 >>= (λ e. pure (Some e.tree)))

  -- an expression that may be left out, and the word behind it
  unfoldable pub optional_before : (Sign → Bool) → Parser (Option Ex)
  optional_before ends = do
    e ← look (λ q. optional (ends q))
    expect ends
    pure e

  -- selection-statement (6.8.4): an `else` belongs to the nearest `if` that may have one
  abbrev pub else_by : ℕ → Ex → Built → Sign → Parser Built
  else_by at e a sign.Else = if_so a.waits (pure (built at (form.If e a.tree None) true))
      (skip >> inner >>= (λ b. pure (built at (form.If e a.tree (Some b.tree)) b.waits)))
  else_by at e a _ = pure (built at (form.If e a.tree None) true)

  unfoldable pub if_statement : ℕ → Parser Built
  if_statement at = do
    skip
    e ← condition
    a ← inner
    look (else_by at e a)

  unfoldable pub switch_statement : ℕ → Parser Built
  switch_statement at = do
    skip
    e ← condition
    a ← inner
    pure (built at (form.Switch e a.tree) a.waits)

  -- iteration-statement (6.8.5)
  unfoldable pub while_statement : ℕ → Parser Built
  while_statement at = do
    skip
    e ← condition
    a ← inner
    pure (built at (form.While e a.tree) a.waits)

  unfoldable pub do_statement : ℕ → Parser Built
  do_statement at = do
    skip
    a ← inner
    expect is_while
    e ← condition
    expect is_semicolon
    pure (built at (form.Do a.tree e) false)

  unfoldable pub value_start : Parser ForStart
  value_start = do
    e ← sub.inits.exprs.expr 1
    expect is_semicolon
    pure (start.Value e.tree)

  abbrev pub start_by : Sign → Parser ForStart
  start_by q = if_so (is_semicolon q) (skip >> pure start.Nothing)
      (if_so (specifies false q) (declaration sub.inits >>= (λ d. pure (start.Declaration d))) value_start)

  -- what stands in the brackets of a `for` statement
  unfoldable pub for_head : Parser ForHead
  for_head = do
    expect is_open_paren
    first ← look start_by
    test ← optional_before is_semicolon
    last ← optional_before is_close_paren
    pure (record { start = first; test = test; last = last })

  unfoldable pub for_statement : ℕ → Parser Built
  for_statement at = do
    skip
    h ← for_head
    a ← inner
    pure (built at (form.For h.start h.test h.last a.tree) a.waits)

  -- jump-statement (6.8.6)
  unfoldable pub goto_statement : ℕ → Parser Built
  goto_statement at = do
    skip
    n ← any_name
    expect is_semicolon
    pure (built at (form.Goto n.1) false)

  unfoldable pub return_statement : ℕ → Parser Built
  return_statement at = do
    skip
    e ← optional_before is_semicolon
    pure (built at (form.Return e) false)

  unfoldable pub plain_jump : ℕ → StmtForm → Parser Built
  plain_jump at f = skip >> expect is_semicolon >> pure (built at f false)

  -- labeled-statement (6.8.1); a range of cases is left out at its dots
  abbrev pub case_by : ℕ → Grown → Sign → Parser Built
  case_by at e sign.Ellipsis = left_out_here
  case_by at e sign.Colon = skip >> sub.statement >>= (λ a. pure (built at (form.Case e.tree a.tree) a.waits))
  case_by at e _ = refuse

  unfoldable pub case_statement : ℕ → Parser Built
  case_statement at = do
    skip
    e ← sub.inits.exprs.expr 3
    look (case_by at e)

  unfoldable pub default_statement : ℕ → Parser Built
  default_statement at = do
    skip
    expect is_colon
    a ← sub.statement
    pure (built at (form.Default a.tree) a.waits)

  -- at the colon
  unfoldable pub label_rest : ℕ → Parser Built
  label_rest at = do
    expect is_colon
    a ← sub.statement
    pure (built at (form.Label a.tree) a.waits)

  -- expression-statement (6.8.3)
  abbrev pub ended : ℕ → Grown → Parser Built
  ended at e = expect is_semicolon >> pure (built at (form.Expr (Some e.tree)) false)

  unfoldable pub expression_statement : ℕ → Parser Built
  expression_statement at = sub.inits.exprs.expr 1 >>= ended at

  unfoldable pub empty_statement : ℕ → Parser Built
  empty_statement at = skip >> pure (built at (form.Expr None) false)

  -- a statement that begins with a name: a label, or an expression
  abbrev pub name_by : ℕ → Sign → Parser Built
  name_by at sign.Colon = label_rest at
  name_by at _ = sub.inits.exprs.named at >>= ended at

  unfoldable pub name_statement : ℕ → Parser Built
  name_statement at = skip >> look (name_by at)

  unfoldable pub type_name_statement : ℕ → Parser Built
  type_name_statement at = skip >> label_rest at

  -- Compound-statement (6.8.2). A typedef name begins a declaration, or is a label.
  abbrev pub type_name_by : ℕ → Sign → Parser BlockItem
  type_name_by at sign.Colon = sub.labelled at >>= (λ a. pure (item.Stmt a.tree))
  type_name_by at _ = declaration_after_name sub.inits at >>= (λ d. pure (item.Declaration d))

  unfoldable pub type_name_item : Parser BlockItem
  type_name_item = here >>= (λ at. skip >> look (type_name_by at))

  abbrev pub item_by : Sign → Parser BlockItem
  item_by q = if_so (is_type_name q) type_name_item
      (if_so (specifies false q) (declaration sub.inits >>= (λ d. pure (item.Declaration d))) (sub.statement >>= (λ a. pure (item.Stmt a.tree))))

  unfoldable pub block_item : Parser BlockItem
  block_item = look item_by

  unfoldable pub block_items : Parser (List BlockItem)
  block_items = many is_no_close_brace block_item

  unfoldable pub block : ℕ → Parser Built
  block at = do
    skip
    items ← block_items
    expect is_close_brace
    pure (built at (form.Block items) false)

  -- the statements that have a scope of their own
  abbrev pub compound_by : ℕ → Sign → Parser Built
  compound_by at sign.OpenBrace = block at
  compound_by at sign.If = if_statement at
  compound_by at sign.Switch = switch_statement at
  compound_by at sign.While = while_statement at
  compound_by at sign.Do = do_statement at
  compound_by at _ = for_statement at

  -- jump-statement (6.8.6)
  abbrev pub jump_by : ℕ → Sign → Parser Built
  jump_by at sign.Goto = goto_statement at
  jump_by at sign.Continue = plain_jump at form.Continue
  jump_by at sign.Break = plain_jump at form.Break
  jump_by at _ = return_statement at

  abbrev pub simple_by : ℕ → Sign → Parser Built
  simple_by at sign.Name = name_statement at
  simple_by at sign.TypeName = type_name_statement at
  simple_by at sign.Semicolon = empty_statement at
  simple_by at sign.Case = case_statement at
  simple_by at sign.Default = default_statement at
  simple_by at _ = expression_statement at

  abbrev pub statement_by : ℕ → Sign → Parser Built
  statement_by at q = if_so (has_scope q) (scoped (compound_by at q)) (if_so (is_jump q) (jump_by at q) (simple_by at q))

  unfoldable pub statement : Parser Built
  statement = here >>= (λ at. look (statement_by at))

abbrev pub begins_statement : Sign → Bool
begins_statement sign.TypeName = true
begins_statement sign.Semicolon = true
begins_statement sign.OpenBrace = true
begins_statement sign.If = true
begins_statement sign.Switch = true
begins_statement sign.While = true
begins_statement sign.Do = true
begins_statement sign.For = true
begins_statement sign.Goto = true
begins_statement sign.Continue = true
begins_statement sign.Break = true
begins_statement sign.Return = true
begins_statement sign.Case = true
begins_statement sign.Default = true
begins_statement q = begins_expression q

-- what reads a statement, and a labelled one at its colon, in so much room
pub record Nested : Type 0 where
  pub statement : Parser Built
  pub labelled : ℕ → Parser Built

abbrev pub parts_of : ℕ → Nested → Parts
parts_of room below = record { inits = inits_within room; statement = below.statement; labelled = below.labelled }

unfoldable pub nested : ℕ → Nested
nested zero = record { statement = look (λ q. no_room (begins_statement q)); labelled = λ at. too_deep_here }
nested (suc room) = record { statement = statement (parts_of room (nested room)); labelled = label_rest (parts_of room (nested room)) }

abbrev pub parts_within : ℕ → Parts
parts_within room = parts_of room (nested room)

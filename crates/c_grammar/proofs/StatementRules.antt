-- Statements and blocks go forward, are local and stay inside the words.
use Rattle.std.proofs.Common.{◌≡◌, ℕ, zero, suc, Bool, true, false, None, refl}
use Rattle.c_tree.specs.declared.tree.Ex.{Ex}
use Rattle.c_tree.specs.declared.tree.StmtForm.{StmtForm}
use Rattle.c_tree.specs.declared.tree.StmtForm.TheVariants as form
use Rattle.c_tree.specs.declared.tree.BlockItem.TheVariants as item
use Rattle.c_tree.specs.declared.tree.ForStart.TheVariants as start
use Rattle.c_expressions.specs.declared.grown.Grown.{Grown}
use Rattle.c_syntax.specs.declared.built.Built.{Built}
use Rattle.c_input.specs.declared.word.Sign.{Sign}
use Rattle.c_input.specs.declared.word.Sign.TheVariants as sign
use Rattle.c_input.specs.Input.{specifies}
use Rattle.c_input.specs.Signs.{is_semicolon, is_close_brace, is_no_close_brace, is_open_paren, is_close_paren, is_colon, is_while}
use Rattle.c_syntax.specs.Statements.{has_scope, is_jump, is_type_name, built, Parts, inner, condition, optional, optional_before, else_by, if_statement, switch_statement, while_statement, do_statement, value_start, start_by, for_head, for_statement, goto_statement, return_statement, plain_jump, case_by, case_statement, default_statement, label_rest, ended, expression_statement, empty_statement, name_by, name_statement, type_name_statement, type_name_by, type_name_item, item_by, block_item, block_items, block, compound_by, jump_by, simple_by, statement_by, statement, begins_statement, Nested, parts_of, nested, parts_within}
use Rattle.c_grammar.proofs.Combinators.{Reads, known, reads_pure, reads_refuse, reads_too_deep, reads_left_out, reads_no_room, reads_skip, reads_bind, reads_then, reads_from_here, reads_look, reads_if, reads_if_word, reads_expect, reads_any_name, reads_scoped, reads_many}
use Rattle.c_grammar.proofs.InitialiserRules.{ReadsInits, reads_inits_within}
use Rattle.c_grammar.proofs.DeclarationRules.{reads_declaration, reads_declaration_after_name}

pub record ReadsParts (sub : Parts) : Type 0 where
  pub inits : ReadsInits sub.inits
  pub statement : {k : ℕ} {moves : Bool} → Reads k moves sub.statement
  pub labelled : {k : ℕ} {moves : Bool} (at : ℕ) → Reads k moves (sub.labelled at)

module _ (sub : Parts) (rs : ReadsParts sub) where
  reads_inner : {k : ℕ} → Reads k false (inner sub)
  reads_inner = reads_scoped rs.statement

  reads_condition : {k : ℕ} → Reads k false (condition sub)
  unfolding condition
  reads_condition = reads_then (reads_expect is_open_paren refl) (reads_bind (rs.inits.exprs.expr 1) (λ e. reads_then (reads_expect is_close_paren refl) (reads_pure _)))

  reads_optional : {k : ℕ} (ends : Bool) → Reads k false (optional sub ends)
  reads_optional ends = reads_if ends (reads_pure None) (reads_bind (rs.inits.exprs.expr 1) (λ e. reads_pure _))

  reads_optional_before : {k : ℕ} (ends : Sign → Bool) → ends sign.Eof ≡ false → Reads k false (optional_before sub ends)
  unfolding optional_before
  reads_optional_before ends end = reads_bind (reads_look (λ q. optional sub (ends q)) (λ q. reads_optional (ends q))) (λ e. reads_then (reads_expect ends end) (reads_pure e))

  reads_else_by : (at : ℕ) (e : Ex) (a : Built) (q : Sign) → Reads (known q) false (else_by sub at e a q)
  reads_else_by at e a sign.Else = reads_if a.waits (reads_pure (built at (form.If e a.tree None) true))
      (reads_bind (reads_then reads_skip reads_inner) (λ b. reads_pure _))
  reads_else_by at e a _ = reads_pure (built at (form.If e a.tree None) true)

  reads_if_statement : {moves : Bool} (at : ℕ) → Reads 1 moves (if_statement sub at)
  unfolding if_statement
  reads_if_statement at = reads_then reads_skip (reads_bind reads_condition (λ e. reads_bind reads_inner (λ a. reads_look (else_by sub at e a) (reads_else_by at e a))))

  reads_switch : {moves : Bool} (at : ℕ) → Reads 1 moves (switch_statement sub at)
  unfolding switch_statement
  reads_switch at = reads_then reads_skip (reads_bind reads_condition (λ e. reads_bind reads_inner (λ a. reads_pure _)))

  reads_while : {moves : Bool} (at : ℕ) → Reads 1 moves (while_statement sub at)
  unfolding while_statement
  reads_while at = reads_then reads_skip (reads_bind reads_condition (λ e. reads_bind reads_inner (λ a. reads_pure _)))

  reads_do : {moves : Bool} (at : ℕ) → Reads 1 moves (do_statement sub at)
  unfolding do_statement
  reads_do at = reads_then reads_skip (reads_bind reads_inner (λ a. reads_then (reads_expect is_while refl) (reads_bind reads_condition (λ e.
      reads_then (reads_expect is_semicolon refl) (reads_pure _)))))

  reads_value_start : {k : ℕ} → Reads k false (value_start sub)
  unfolding value_start
  reads_value_start = reads_bind (rs.inits.exprs.expr 1) (λ e. reads_then (reads_expect is_semicolon refl) (reads_pure _))

  reads_start_by : (q : Sign) → Reads (known q) false (start_by sub q)
  reads_start_by q = reads_if_word is_semicolon refl q (reads_then reads_skip (reads_pure start.Nothing))
      (reads_if (specifies false q) (reads_bind (reads_declaration sub.inits rs.inits) (λ d. reads_pure (start.Declaration d))) reads_value_start)

  reads_for_head : {k : ℕ} → Reads k false (for_head sub)
  unfolding for_head
  reads_for_head = reads_then (reads_expect is_open_paren refl) (reads_bind (reads_look (start_by sub) reads_start_by) (λ first.
      reads_bind (reads_optional_before is_semicolon refl) (λ test. reads_bind (reads_optional_before is_close_paren refl) (λ last. reads_pure _))))

  reads_for : {moves : Bool} (at : ℕ) → Reads 1 moves (for_statement sub at)
  unfolding for_statement
  reads_for at = reads_then reads_skip (reads_bind reads_for_head (λ h. reads_bind reads_inner (λ a. reads_pure _)))

  reads_goto : {moves : Bool} (at : ℕ) → Reads 1 moves (goto_statement sub at)
  unfolding goto_statement
  reads_goto at = reads_then reads_skip (reads_bind reads_any_name (λ n. reads_then (reads_expect is_semicolon refl) (reads_pure _)))

  reads_return : {moves : Bool} (at : ℕ) → Reads 1 moves (return_statement sub at)
  unfolding return_statement
  reads_return at = reads_then reads_skip (reads_bind (reads_optional_before is_semicolon refl) (λ e. reads_pure _))

  reads_plain_jump : {moves : Bool} (at : ℕ) (f : StmtForm) → Reads 1 moves (plain_jump sub at f)
  unfolding plain_jump
  reads_plain_jump at f = reads_then (reads_then reads_skip (reads_expect is_semicolon refl)) (reads_pure _)

  reads_case_by : (at : ℕ) (e : Grown) (q : Sign) → Reads (known q) false (case_by sub at e q)
  reads_case_by at e sign.Ellipsis = reads_left_out
  reads_case_by at e sign.Colon = reads_bind (reads_then reads_skip rs.statement) (λ a. reads_pure _)
  reads_case_by at e _ = reads_refuse

  reads_case : {moves : Bool} (at : ℕ) → Reads 1 moves (case_statement sub at)
  unfolding case_statement
  reads_case at = reads_then reads_skip (reads_bind (rs.inits.exprs.expr 3) (λ e. reads_look (case_by sub at e) (reads_case_by at e)))

  reads_default : {moves : Bool} (at : ℕ) → Reads 1 moves (default_statement sub at)
  unfolding default_statement
  reads_default at = reads_then reads_skip (reads_then (reads_expect is_colon refl) (reads_bind rs.statement (λ a. reads_pure _)))

  pub reads_label_rest : {k : ℕ} {moves : Bool} (at : ℕ) → Reads k moves (label_rest sub at)
  unfolding label_rest
  reads_label_rest at = reads_then (reads_expect is_colon refl) (reads_bind rs.statement (λ a. reads_pure _))

  reads_ended : {k : ℕ} (at : ℕ) (e : Grown) → Reads k false (ended sub at e)
  reads_ended at e = reads_then (reads_expect is_semicolon refl) (reads_pure _)

  reads_expression_statement : {k : ℕ} {moves : Bool} (at : ℕ) → Reads k moves (expression_statement sub at)
  unfolding expression_statement
  reads_expression_statement at = reads_bind (rs.inits.exprs.expr 1) (reads_ended at)

  reads_empty : {moves : Bool} (at : ℕ) → Reads 1 moves (empty_statement sub at)
  unfolding empty_statement
  reads_empty at = reads_then reads_skip (reads_pure _)

  reads_name_by : (at : ℕ) (q : Sign) → Reads (known q) false (name_by sub at q)
  reads_name_by at sign.Colon = reads_label_rest at
  reads_name_by at _ = reads_bind (rs.inits.exprs.named at) (reads_ended at)

  reads_name_statement : {moves : Bool} (at : ℕ) → Reads 1 moves (name_statement sub at)
  unfolding name_statement
  reads_name_statement at = reads_then reads_skip (reads_look (name_by sub at) (reads_name_by at))

  reads_type_name_statement : {moves : Bool} (at : ℕ) → Reads 1 moves (type_name_statement sub at)
  unfolding type_name_statement
  reads_type_name_statement at = reads_then reads_skip (reads_label_rest at)

  reads_type_name_by : (at : ℕ) (q : Sign) → Reads (known q) false (type_name_by sub at q)
  reads_type_name_by at sign.Colon = reads_bind (rs.labelled at) (λ a. reads_pure _)
  reads_type_name_by at _ = reads_bind (reads_declaration_after_name sub.inits rs.inits at) (λ d. reads_pure _)

  reads_type_name_item : {moves : Bool} → Reads 1 moves (type_name_item sub)
  unfolding type_name_item
  reads_type_name_item = reads_from_here (λ at. reads_then reads_skip (reads_look (type_name_by sub at) (reads_type_name_by at)))

  reads_item_by : {moves : Bool} (q : Sign) → Reads (known q) moves (item_by sub q)
  reads_item_by q = reads_if_word is_type_name refl q reads_type_name_item
      (reads_if (specifies false q) (reads_bind (reads_declaration sub.inits rs.inits) (λ d. reads_pure (item.Declaration d))) (reads_bind rs.statement (λ a. reads_pure (item.Stmt a.tree))))

  pub reads_block_item : {k : ℕ} {moves : Bool} → Reads k moves (block_item sub)
  unfolding block_item
  reads_block_item = reads_look (item_by sub) reads_item_by

  reads_block_items : {k : ℕ} → Reads k false (block_items sub)
  unfolding block_items
  reads_block_items = reads_many is_no_close_brace reads_block_item

  reads_block : {moves : Bool} (at : ℕ) → Reads 1 moves (block sub at)
  unfolding block
  reads_block at = reads_then reads_skip (reads_bind reads_block_items (λ items. reads_then (reads_expect is_close_brace refl) (reads_pure _)))

  pub reads_compound_by : {moves : Bool} (at : ℕ) (q : Sign) → Reads 1 moves (compound_by sub at q)
  reads_compound_by at sign.OpenBrace = reads_block at
  reads_compound_by at sign.If = reads_if_statement at
  reads_compound_by at sign.Switch = reads_switch at
  reads_compound_by at sign.While = reads_while at
  reads_compound_by at sign.Do = reads_do at
  reads_compound_by at _ = reads_for at

  reads_jump_by : {moves : Bool} (at : ℕ) (q : Sign) → Reads 1 moves (jump_by sub at q)
  reads_jump_by at sign.Goto = reads_goto at
  reads_jump_by at sign.Continue = reads_plain_jump at form.Continue
  reads_jump_by at sign.Break = reads_plain_jump at form.Break
  reads_jump_by at _ = reads_return at

  reads_simple_by : {moves : Bool} (at : ℕ) (q : Sign) → Reads (known q) moves (simple_by sub at q)
  reads_simple_by at sign.Name = reads_name_statement at
  reads_simple_by at sign.TypeName = reads_type_name_statement at
  reads_simple_by at sign.Semicolon = reads_empty at
  reads_simple_by at sign.Case = reads_case at
  reads_simple_by at sign.Default = reads_default at
  reads_simple_by at _ = reads_expression_statement at

  reads_statement_by : {moves : Bool} (at : ℕ) (q : Sign) → Reads (known q) moves (statement_by sub at q)
  reads_statement_by at q = reads_if_word has_scope refl q (reads_scoped (reads_compound_by at q)) (reads_if_word is_jump refl q (reads_jump_by at q) (reads_simple_by at q))

  pub reads_statement : {k : ℕ} {moves : Bool} → Reads k moves (statement sub)
  unfolding statement
  reads_statement = reads_from_here (λ at. reads_look (statement_by sub at) (reads_statement_by at))

pub record ReadsNested (sub : Nested) : Type 0 where
  pub statement : {k : ℕ} {moves : Bool} → Reads k moves sub.statement
  pub labelled : {k : ℕ} {moves : Bool} (at : ℕ) → Reads k moves (sub.labelled at)

reads_parts_of : (room : ℕ) (below : Nested) → ReadsNested below → ReadsParts (parts_of room below)
reads_parts_of room below rb = record { inits = reads_inits_within room; statement = rb.statement; labelled = rb.labelled }

reads_nested : (room : ℕ) → ReadsNested (nested room)
unfolding nested
reads_nested zero = record { statement = reads_look _ (λ q. reads_no_room (begins_statement q)); labelled = λ at. reads_too_deep }
reads_nested (suc room) =
    let parts = reads_parts_of room (nested room) (reads_nested room) in
    record { statement = reads_statement (parts_of room (nested room)) parts; labelled = reads_label_rest (parts_of room (nested room)) parts }

pub reads_parts_within : (room : ℕ) → ReadsParts (parts_within room)
reads_parts_within room = reads_parts_of room (nested room) (reads_nested room)

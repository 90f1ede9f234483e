-- Each tree of a statement is read, or a stop for depth behind the horizon comes first.
use Rattle.std.proofs.Common.{◌≡◌, ℕ, zero, suc, ◌+◌, ◌-◌, ◌<◌, ◌≤◌, ◌⊎◌, inl, inr, Bool, true, false, List, [], ◌∷◌, length, Option, Some, None, Ok, Err, refl, sym, ap, ◌∙◌, subst, arith}
use Rattle.c_tree.specs.declared.tree.Ex.{Ex}
use Rattle.c_tree.specs.declared.tree.Declaration.{Declaration}
use Rattle.c_tree.specs.declared.tree.Stmt.{Stmt}
use Rattle.c_tree.specs.declared.tree.StmtForm.{StmtForm}
use Rattle.c_tree.specs.declared.tree.StmtForm.TheVariants as form
use Rattle.c_tree.specs.declared.tree.BlockItem.{BlockItem}
use Rattle.c_tree.specs.declared.tree.BlockItem.TheVariants as item
use Rattle.c_tree.specs.declared.tree.ForStart.{ForStart}
use Rattle.c_tree.specs.declared.tree.ForStart.TheVariants as start
use Rattle.c_syntax.specs.declared.built.Built.{Built}
use Rattle.c_input.specs.declared.word.Sign.{Sign}
use Rattle.c_input.specs.declared.word.Sign.TheVariants as sign
use Rattle.c_input.specs.declared.word.Place.{Place as State}
use Rattle.c_input.specs.Input.{Names, Words, step, look_at, is_name, specifies, binds, begins_expression, oldest}
use Rattle.c_input.specs.Parser.{too_deep, stop_by, too_deep_here, Outcome, Parser, and_then, ◌>>=◌, ◌>>◌, pure, look, skip, if_so, expect, scoped, many_from, many, most_words}
use Rattle.c_input.specs.Signs.{is_semicolon, is_close_brace, is_no_close_brace, is_open_paren, is_close_paren, is_colon, is_while}
use Rattle.c_expressions.specs.Levels.{nest}
use Rattle.c_syntax.specs.Initialisers.{inits_within}
use Rattle.c_syntax.specs.Declarations.{declaration, declaration_after_name}
use Rattle.c_syntax.specs.Statements.{Parts, is_type_name, statement_node, built, condition, optional, optional_before, else_by, if_statement, switch_statement, while_statement, do_statement, value_start, start_by, for_head, for_statement, goto_statement, return_statement, plain_jump, case_by, case_statement, default_statement, label_rest, ended, expression_statement, empty_statement, name_by, name_statement, type_name_statement, type_name_by, type_name_item, block_item, block_items, block, compound_by, statement_by, statement, begins_statement, nested, parts_within}
use Rattle.c_grammar.specs.Below.{Room}
use Rattle.c_grammar.specs.LevelTrees.{Derived}
use Rattle.c_grammar.specs.StatementTrees.{leaving, Optional, Condition, StartIs, StatementIs, BlockItems}
use Rattle.c_grammar.specs.StatementTrees as stm
use Rattle.c_grammar.proofs.Combinators.{Reads, Keeps, oldest_are}
use Rattle.c_grammar.proofs.StatementRules.{reads_parts_within, reads_compound_by}
use Rattle.c_grammar.proofs.SpecifierTreesRead.{Ends, not_past}
use Rattle.c_grammar.proofs.Leads.{Leads, leads_on, expect_found, name_found}
use Rattle.c_grammar.proofs.LeadsLists.{other_names, no_room_is, many_stops, many_goes}
use Rattle.c_grammar.proofs.ExpressionsFound.{FoundEx, part, Behind, behind}
use Rattle.c_grammar.proofs.OperandsFound.{named_part}
use Rattle.c_grammar.proofs.LevelsFound.{all_found}
use Rattle.c_grammar.proofs.DeclarationsFound.{FoundDeclaration, declaration_found}

pub scoped_leads : {A : Type 0} {k : ℕ} {moves : Bool} (horizon : ℕ) (W : Words) (p : Parser A) (s t : State) (a : A) → Reads k moves p → Leads horizon (p W s) (Ok (a, t)) →
    Leads horizon (scoped p W s) (Ok (a, leaving s t))
unfolding scoped
scoped_leads horizon W p s t a rp (inl e) = inl (ap (λ o. and_then W o (λ a W' t. Ok (a, record { at = t.at; names = oldest (length s.names) t.names }))) e
    ∙ ap (λ z. Ok (a, record { at = t.at; names = z })) (oldest_are s.names t.names (subst (λ o. Keeps s.names o) e (rp.keeps W s))))
scoped_leads horizon W p s t a rp (inr e) = inr (e.0, ap (λ o. and_then W o (λ a W' t. Ok (a, record { at = t.at; names = oldest (length s.names) t.names }))) e.1, e.2)

-- ---- signs

abbrev pub is_else : Sign → Bool
is_else sign.Else = true
is_else _ = false

-- `else` is one whatever names are in scope
pub else_either : (W : Words) (at : ℕ) (a b : Names) → is_else (look_at W (record { at = at; names = a })) ≡ false → is_else (look_at W (record { at = at; names = b })) ≡ false
else_either W at a b none = by (look_at W (record { at = at; names = b })) refl
  where
    by : (q : Sign) → look_at W (record { at = at; names = b }) ≡ q → is_else q ≡ false
    by sign.Else e = let same : look_at W (record { at = at; names = a }) ≡ sign.Else = other_names W at b a sign.Else refl e in
        let no : is_else (look_at W (record { at = at; names = a })) ≡ true = ap is_else same in absurd (cc)
    by _ e = refl

no_else : (q : Sign) → is_else q ≡ false → (sub : Parts) (at : ℕ) (e : Ex) (a : Built) → else_by sub at e a q ≡ pure (built at (form.If e a.tree None) true)
no_else sign.Else e sub at x a = absurd (cc)
no_else _ e sub at x a = refl

expression_by : (q : Sign) → begins_expression q ≡ true → (q ≡ sign.Name) ⊎ ((sub : Parts) (at : ℕ) → statement_by sub at q ≡ expression_statement sub at)
expression_by sign.Name e = inl refl
expression_by sign.Int e = inr (λ sub at. refl)
expression_by sign.Float e = inr (λ sub at. refl)
expression_by sign.Char e = inr (λ sub at. refl)
expression_by sign.Str e = inr (λ sub at. refl)
expression_by sign.OpenParen e = inr (λ sub at. refl)
expression_by sign.Increment e = inr (λ sub at. refl)
expression_by sign.Decrement e = inr (λ sub at. refl)
expression_by sign.Amp e = inr (λ sub at. refl)
expression_by sign.Star e = inr (λ sub at. refl)
expression_by sign.Additive e = inr (λ sub at. refl)
expression_by sign.Complement e = inr (λ sub at. refl)
expression_by sign.Sizeof e = inr (λ sub at. refl)
expression_by _ e = absurd (cc)

value_statement : (q : Sign) → begins_expression q ≡ true → begins_statement q ≡ true
value_statement sign.Name e = refl
value_statement sign.Int e = refl
value_statement sign.Float e = refl
value_statement sign.Char e = refl
value_statement sign.Str e = refl
value_statement sign.OpenParen e = refl
value_statement sign.Increment e = refl
value_statement sign.Decrement e = refl
value_statement sign.Amp e = refl
value_statement sign.Star e = refl
value_statement sign.Additive e = refl
value_statement sign.Complement e = refl
value_statement sign.Sizeof e = refl
value_statement _ e = absurd (cc)

value_no_semicolon : (q : Sign) → begins_expression q ≡ true → is_semicolon q ≡ false
value_no_semicolon sign.Semicolon e = absurd (cc)
value_no_semicolon _ e = refl

value_no_paren : (q : Sign) → begins_expression q ≡ true → is_close_paren q ≡ false
value_no_paren sign.CloseParen e = absurd (cc)
value_no_paren _ e = refl

value_no_specifier : (q : Sign) → begins_expression q ≡ true → specifies false q ≡ false
value_no_specifier sign.Storage e = absurd (cc)
value_no_specifier sign.Static e = absurd (cc)
value_no_specifier sign.Typedef e = absurd (cc)
value_no_specifier sign.Qualifier e = absurd (cc)
value_no_specifier sign.TypeWord e = absurd (cc)
value_no_specifier sign.Struct e = absurd (cc)
value_no_specifier sign.Union e = absurd (cc)
value_no_specifier sign.Enum e = absurd (cc)
value_no_specifier sign.TypeName e = absurd (cc)
value_no_specifier _ e = refl

specifier_no_semicolon : (q : Sign) → specifies false q ≡ true → is_semicolon q ≡ false
specifier_no_semicolon sign.Semicolon e = absurd (cc)
specifier_no_semicolon _ e = refl

no_label : (q : Sign) → is_colon q ≡ false → (sub : Parts) (at : ℕ) → name_by sub at q ≡ (sub.inits.exprs.named at >>= ended sub at)
no_label sign.Colon e sub at = absurd (cc)
no_label _ e sub at = refl

binds_no_colon : (q : Sign) → 1 ≤ binds q → is_colon q ≡ false
binds_no_colon sign.Colon le = absurd (omega arith)
binds_no_colon _ le = refl

module _ (horizon : ℕ) (W : Words) (ends : Ends W) where
  found : (r l : ℕ) (e : Ex) (s t : State) → (Derived horizon W).expr r l e s t → FoundEx horizon W r l e s t
  found = (all_found horizon W ends).expr

  then_expect : {A : Type 0} (is : Sign → Bool) (f : Unit {0} → Parser A) (s : State) (o : Outcome A) → is (look_at W s) ≡ true → Leads horizon (f tt W (step s)) o →
      Leads horizon (and_then W (expect is W s) f) o
  then_expect is f s o e on = subst (λ x. Leads horizon (and_then W x f) o) (sym (expect_found is W s e)) on

  -- ---- expressions in statements
  condition_leads : (r : ℕ) (e : Ex) (s t : State) → Condition horizon W r e s t → (n : ℕ) → (0 < horizon → r ≤ n) → Leads horizon (condition (parts_within n) W s) (Ok (e, t))
  unfolding condition
  condition_leads r e s t (stm.condition _ _ u opens h close) n more =
      let f = found r 1 e (step s) u h in
      subst (λ o. Leads horizon (and_then W o (λ _. (nest n).expr 1 >>= (λ e. expect is_close_paren >> pure e.tree))) (Ok (e, step u))) (sym (expect_found is_open_paren W s (ap is_open_paren opens)))
      (leads_on horizon W ((nest n).expr 1 W (step s)) (Ok (f.grown, u)) _ _
      (part horizon W r 1 e (step s) u f n 1 more (omega arith) (omega arith) (behind W u sign.CloseParen 1 close (omega arith) refl))
      (inl (ap (λ o. and_then W o (λ _. pure f.grown.tree)) (expect_found is_close_paren W u (ap is_close_paren close)) ∙ ap (λ z. Ok (z, step u)) f.tree)))

  condition_up : (r : ℕ) (e : Ex) (s t : State) → Condition horizon W r e s t → s.at + 1 ≤ t.at
  condition_up r e s t (stm.condition _ _ u opens h close) = let up = (found r 1 e (step s) u h).forward in omega arith

  optional_up : (r : ℕ) (e : Option Ex) (s t : State) → Optional horizon W r e s t → s.at ≤ t.at
  optional_up r e s t (stm.left_out _) = omega arith
  optional_up r e s t (stm.given x _ _ h) = let up = (found r 1 x s t h).forward in omega arith

  optional_leads : (end : Sign → Bool) → ((q : Sign) → begins_expression q ≡ true → end q ≡ false) → (r : ℕ) (e : Option Ex) (s t : State) → Optional horizon W r e s t →
      end (look_at W t) ≡ true → Behind W t 1 → (n : ℕ) → (0 < horizon → r ≤ n) → Leads horizon (optional_before (parts_within n) end W s) (Ok (e, step t))
  unfolding optional_before
  optional_leads end apart r e s t (stm.left_out _) last follow n more =
      inl (ap (λ b. and_then W (optional (parts_within n) b W s) (λ e. expect end >> pure e)) last ∙ ap (λ o. and_then W o (λ _. pure None)) (expect_found end W s last))
  optional_leads end apart r e s t (stm.given x _ _ h) last follow n more =
      let f = found r 1 x s t h in
      subst (λ b. Leads horizon (and_then W (optional (parts_within n) b W s) (λ e. expect end >> pure e)) (Ok (Some x, step t))) (sym (apart (look_at W s) f.begun))
      (leads_on horizon W (((nest n).expr 1 >>= (λ e. pure (Some e.tree))) W s) (Ok (Some f.grown.tree, t)) _ _
      (leads_on horizon W ((nest n).expr 1 W s) (Ok (f.grown, t)) _ _ (part horizon W r 1 x s t f n 1 more (omega arith) (omega arith) follow) (inl refl))
      (inl (ap (λ o. and_then W o (λ _. pure (Some f.grown.tree))) (expect_found end W t last) ∙ ap (λ z. Ok (Some z, step t)) f.tree)))

  start_up : (r : ℕ) (x : ForStart) (s t : State) → StartIs horizon W r x s t → s.at ≤ t.at
  start_up r x s t (stm.nothing _ e) = omega arith
  start_up r x s t (stm.value v _ u h e) = let up = (found r 1 v s u h).forward in omega arith
  start_up r x s t (stm.declaration d _ _ h) = let up = (declaration_found horizon W ends r d s t h).forward in omega arith

  start_leads : (r : ℕ) (x : ForStart) (s t : State) → StartIs horizon W r x s t → (n : ℕ) → (0 < horizon → r ≤ n) → Leads horizon (look (start_by (parts_within n)) W s) (Ok (x, t))
  unfolding value_start
  start_leads r x s t (stm.nothing _ e) n more = inl (ap (λ q. start_by (parts_within n) q W s) e)
  start_leads r x s t (stm.value v _ u h e) n more =
      let f = found r 1 v s u h in
      subst (λ b. Leads horizon (if_so b (skip >> pure start.Nothing) (if_so (specifies false (look_at W s)) (declaration (inits_within n) >>= (λ d. pure (start.Declaration d))) (value_start (parts_within n))) W s) (Ok (start.Value v, step u)))
      (sym (value_no_semicolon (look_at W s) f.begun))
      (subst (λ b. Leads horizon (if_so b (declaration (inits_within n) >>= (λ d. pure (start.Declaration d))) (value_start (parts_within n)) W s) (Ok (start.Value v, step u)))
      (sym (value_no_specifier (look_at W s) f.begun))
      (leads_on horizon W ((nest n).expr 1 W s) (Ok (f.grown, u)) _ _ (part horizon W r 1 v s u f n 1 more (omega arith) (omega arith) (behind W u sign.Semicolon 1 e (omega arith) refl))
      (inl (ap (λ o. and_then W o (λ _. pure (start.Value f.grown.tree))) (expect_found is_semicolon W u (ap is_semicolon e)) ∙ ap (λ z. Ok (start.Value z, step u)) f.tree))))
  start_leads r x s t (stm.declaration d _ _ h) n more =
      let f = declaration_found horizon W ends r d s t h in
      subst (λ b. Leads horizon (if_so b (skip >> pure start.Nothing) (if_so (specifies false (look_at W s)) (declaration (inits_within n) >>= (λ d. pure (start.Declaration d))) (value_start (parts_within n))) W s) (Ok (start.Declaration d, t)))
      (sym (specifier_no_semicolon (look_at W s) f.begun))
      (subst (λ b. Leads horizon (if_so b (declaration (inits_within n) >>= (λ d. pure (start.Declaration d))) (value_start (parts_within n)) W s) (Ok (start.Declaration d, t)))
      (sym f.begun) (leads_on horizon W (declaration (inits_within n) W s) (Ok (d, t)) _ _ (f.leads n more) (inl refl)))

  -- ---- statements
  abbrev tree_of : Stmt → Bool → Built
  tree_of a waits = record { tree = a; waits = waits }

  pub record FoundStatement (r : ℕ) (waits : Bool) (a : Stmt) (s t : State) : Type 0 where
    pub forward : s.at + 1 ≤ t.at
    pub begun : begins_statement (look_at W s) ≡ true
    pub leads : (n : ℕ) → (0 < horizon → r ≤ n) → (waits ≡ true → is_else (look_at W t) ≡ false) → Leads horizon ((nested n).statement W s) (Ok (tree_of a waits, t))
    pub labelled : look_at W s ≡ sign.TypeName → (look_at W (step s) ≡ sign.Colon) × ((n : ℕ) → (0 < horizon → r ≤ n) → (waits ≡ true → is_else (look_at W t) ≡ false) →
        Leads horizon ((nested n).labelled s.at W (step s)) (Ok (tree_of a waits, t)))

  by_sign : (s : State) (n : ℕ) (q : Sign) (o : Outcome Built) → look_at W s ≡ q → Leads horizon (statement_by (parts_within n) s.at q W s) o → Leads horizon (statement (parts_within n) W s) o
  unfolding statement
  by_sign s n q o e on = subst (λ q. Leads horizon (statement_by (parts_within n) s.at q W s) o) (sym e) on

  with_room : (r : ℕ) (s : State) (o : Outcome Built) → Room horizon r s → begins_statement (look_at W s) ≡ true →
      ((n : ℕ) → (0 < horizon → r ≤ suc n) → Leads horizon (statement (parts_within n) W s) o) → (n : ℕ) → (0 < horizon → r ≤ n) → Leads horizon ((nested n).statement W s) o
  unfolding nested
  with_room r s o room begun read zero more = inr (s.at, no_room_is begins_statement refl W s begun, late)
    where
      late : horizon ≤ s.at
      late = grind arith
  with_room r s o room begun read (suc n) more = read n more

  -- one that begins with no typedef name
  plain : (r : ℕ) (waits : Bool) (a : Stmt) (s t : State) → Room horizon r s → begins_statement (look_at W s) ≡ true → is_type_name (look_at W s) ≡ false → s.at + 1 ≤ t.at →
      ((n : ℕ) → (0 < horizon → r ≤ suc n) → (waits ≡ true → is_else (look_at W t) ≡ false) → Leads horizon (statement (parts_within n) W s) (Ok (tree_of a waits, t))) →
      FoundStatement r waits a s t
  plain r waits a s t room begun no_type up read = record {
    forward = up;
    begun = begun;
    leads = λ n more follow. with_room r s _ room begun (λ n more. read n more follow) n more;
    labelled = λ name. let type : is_type_name (look_at W s) ≡ true = ap is_type_name name in absurd (cc);
  }

  -- by the word that it begins with
  worded : (q : Sign) (r : ℕ) (waits : Bool) (a : Stmt) (s t : State) → look_at W s ≡ q → begins_statement q ≡ true → is_type_name q ≡ false → Room horizon r s → s.at + 1 ≤ t.at →
      ((n : ℕ) → (0 < horizon → r ≤ suc n) → (waits ≡ true → is_else (look_at W t) ≡ false) → Leads horizon (statement_by (parts_within n) s.at q W s) (Ok (tree_of a waits, t))) →
      FoundStatement r waits a s t
  worded q r waits a s t e begun no_type room up read = plain r waits a s t room (ap begins_statement e ∙ begun) (ap is_type_name e ∙ no_type) up (λ n more follow. by_sign s n q _ e (read n more follow))

  inner_leads : (r : ℕ) (waits : Bool) (a : Stmt) (s t : State) → FoundStatement r waits a s t → (n : ℕ) → (0 < horizon → r ≤ n) → (waits ≡ true → is_else (look_at W t) ≡ false) →
      Leads horizon (scoped (nested n).statement W s) (Ok (tree_of a waits, leaving s t))
  inner_leads r waits a s t f n more follow = scoped_leads horizon W (nested n).statement s t (tree_of a waits) ((reads_parts_within n).statement {k = 0} {moves = true}) (f.leads n more follow)

  compound : (q : Sign) (s t : State) (n : ℕ) (b : Built) → Leads horizon (compound_by (parts_within n) s.at q W s) (Ok (b, t)) → Leads horizon (scoped (compound_by (parts_within n) s.at q) W s) (Ok (b, leaving s t))
  compound q s t n b on = scoped_leads horizon W (compound_by (parts_within n) s.at q) s t b (reads_compound_by (parts_within n) (reads_parts_within n) {moves = true} s.at q) on

  -- the words that end a jump or an expression
  ended_by : (s : State) (b : Built) → look_at W s ≡ sign.Semicolon → (expect is_semicolon >> pure b) W s ≡ Ok (b, step s)
  ended_by s b e = ap (λ o. and_then W o (λ _. pure b)) (expect_found is_semicolon W s (ap is_semicolon e))

  -- ---- labelled statements (6.8.1)
  label_leads : (waits : Bool) (a : Stmt) (s t : State) (n : ℕ) → look_at W (step s) ≡ sign.Colon → Leads horizon ((nested n).statement W (step (step s))) (Ok (tree_of a waits, t)) →
      Leads horizon (label_rest (parts_within n) s.at W (step s)) (Ok (tree_of (statement_node s.at (form.Label a)) waits, t))
  unfolding label_rest
  label_leads waits a s t n colon on = subst (λ o. Leads horizon (and_then W o (λ _. (nested n).statement >>= (λ a. pure (built s.at (form.Label a.tree) a.waits)))) (Ok (tree_of (statement_node s.at (form.Label a)) waits, t)))
      (sym (expect_found is_colon W (step s) (ap is_colon colon))) (leads_on horizon W ((nested n).statement W (step (step s))) (Ok (tree_of a waits, t)) _ _ on (inl refl))

  label_first : (waits : Bool) (a : Stmt) (s t : State) (n : ℕ) → is_name (look_at W s) ≡ true → look_at W (step s) ≡ sign.Colon →
      Leads horizon (label_rest (parts_within n) s.at W (step s)) (Ok (tree_of a waits, t)) → Leads horizon (statement (parts_within n) W s) (Ok (tree_of a waits, t))
  unfolding name_statement type_name_statement
  label_first waits a s t n named colon on = by_sign s n (look_at W s) _ refl (by (look_at W s) named)
    where
      by : (q : Sign) → is_name q ≡ true → Leads horizon (statement_by (parts_within n) s.at q W s) (Ok (tree_of a waits, t))
      by sign.Name e = subst (λ q. Leads horizon (name_by (parts_within n) s.at q W (step s)) (Ok (tree_of a waits, t))) (sym colon) on
      by sign.TypeName e = on
      by _ e = absurd (cc)

  name_begins : (q : Sign) → is_name q ≡ true → begins_statement q ≡ true
  name_begins sign.Name e = refl
  name_begins sign.TypeName e = refl
  name_begins _ e = absurd (cc)

  label : (r : ℕ) (waits : Bool) (a : Stmt) (s t : State) → Room horizon r s → is_name (look_at W s) ≡ true → look_at W (step s) ≡ sign.Colon →
      FoundStatement (r - 1) waits a (step (step s)) t → FoundStatement r waits (statement_node s.at (form.Label a)) s t
  unfolding nested too_deep_here
  label r waits a s t room named colon f =
      let up = f.forward in
      record {
        forward = omega arith;
        begun = name_begins (look_at W s) named;
        leads = λ n more follow. with_room r s _ room (name_begins (look_at W s) named) (λ n more. label_first waits _ s t n named colon
            (label_leads waits a s t n colon (f.leads n (λ p. let x = more p in omega arith) follow))) n more;
        labelled = λ name. (colon, by);
      }
    where
      by : (n : ℕ) → (0 < horizon → r ≤ n) → (waits ≡ true → is_else (look_at W t) ≡ false) → Leads horizon ((nested n).labelled s.at W (step s)) (Ok (tree_of (statement_node s.at (form.Label a)) waits, t))
      by zero more follow = inr (suc s.at, ap Err (ap (λ q. stop_by q (suc s.at) (too_deep (suc s.at))) colon), late)
        where
          late : horizon ≤ suc s.at
          late = grind arith
      by (suc n) more follow = label_leads waits a s t n colon (f.leads n (λ p. let x = more p in omega arith) follow)

  case_ : (r : ℕ) (waits : Bool) (e : Ex) (a : Stmt) (s t u : State) → Room horizon r s → look_at W s ≡ sign.Case → (Derived horizon W).expr (r - 1) 3 e (step s) t → look_at W t ≡ sign.Colon →
      FoundStatement (r - 1) waits a (step t) u → FoundStatement r waits (statement_node s.at (form.Case e a)) s u
  unfolding case_statement
  case_ r waits e a s t u room word h colon f =
      let g = found (r - 1) 3 e (step s) t h in
      let up = f.forward in
      let up2 = g.forward in
      worded sign.Case r waits _ s u word refl refl room (omega arith) (λ n more follow.
      leads_on horizon W ((nest n).expr 3 W (step s)) (Ok (g.grown, t)) _ _
      (part horizon W (r - 1) 3 e (step s) t g n 3 (λ p. let x = more p in omega arith) (omega arith) (omega arith) (behind W t sign.Colon 3 colon (omega arith) refl))
      (subst (λ q. Leads horizon (case_by (parts_within n) s.at g.grown q W t) (Ok (tree_of (statement_node s.at (form.Case e a)) waits, u))) (sym colon)
      (leads_on horizon W ((nested n).statement W (step t)) (Ok (tree_of a waits, u)) _ _ (f.leads n (λ p. let x = more p in omega arith) follow)
      (inl (ap (λ z. Ok (tree_of (statement_node s.at (form.Case z a)) waits, u)) g.tree)))))

  default_ : (r : ℕ) (waits : Bool) (a : Stmt) (s t : State) → Room horizon r s → look_at W s ≡ sign.Default → look_at W (step s) ≡ sign.Colon →
      FoundStatement (r - 1) waits a (step (step s)) t → FoundStatement r waits (statement_node s.at (form.Default a)) s t
  unfolding default_statement
  default_ r waits a s t room word colon f =
      let up = f.forward in
      worded sign.Default r waits _ s t word refl refl room (omega arith) (λ n more follow.
      subst (λ o. Leads horizon (and_then W o (λ _. (nested n).statement >>= (λ a. pure (built s.at (form.Default a.tree) a.waits)))) (Ok (tree_of (statement_node s.at (form.Default a)) waits, t)))
      (sym (expect_found is_colon W (step s) (ap is_colon colon)))
      (leads_on horizon W ((nested n).statement W (step (step s))) (Ok (tree_of a waits, t)) _ _ (f.leads n (λ p. let x = more p in omega arith) follow) (inl refl)))

  -- ---- expression statements (6.8.3)
  expression : (r : ℕ) (e : Ex) (s t : State) → Room horizon r s → (Derived horizon W).expr (r - 1) 1 e s t → look_at W t ≡ sign.Semicolon →
      FoundStatement r false (statement_node s.at (form.Expr (Some e))) s (step t)
  unfolding name_statement expression_statement
  expression r e s t room h end =
      let f = found (r - 1) 1 e s t h in
      let up = f.forward in
      plain r false _ s (step t) room (value_statement (look_at W s) f.begun) (no_type_name (look_at W s) f.begun) (omega arith)
      (λ n more follow. by_sign s n (look_at W s) _ refl (by f n (λ p. let x = more p in omega arith) (expression_by (look_at W s) f.begun)))
    where
      no_type_name : (q : Sign) → begins_expression q ≡ true → is_type_name q ≡ false
      no_type_name sign.TypeName e = absurd (cc)
      no_type_name _ e = refl

      no_colon : (f : FoundEx horizon W (r - 1) 1 e s t) → (step s ≡ t) ⊎ (1 ≤ binds (look_at W (step s))) → is_colon (look_at W (step s)) ≡ false
      no_colon f (inl same) = ap (λ u. is_colon (look_at W u)) same ∙ ap is_colon end
      no_colon f (inr one) = binds_no_colon (look_at W (step s)) one

      whole : (f : FoundEx horizon W (r - 1) 1 e s t) (n : ℕ) → (expect is_semicolon >> pure (built s.at (form.Expr (Some f.grown.tree)) false)) W t ≡ Ok (tree_of (statement_node s.at (form.Expr (Some e))) false, step t)
      whole f n = ended_by t _ end ∙ ap (λ z. Ok (tree_of (statement_node s.at (form.Expr (Some z))) false, step t)) f.tree

      by : (f : FoundEx horizon W (r - 1) 1 e s t) (n : ℕ) → (0 < horizon → r - 1 ≤ n) →
          (look_at W s ≡ sign.Name) ⊎ ((sub : Parts) (at : ℕ) → statement_by sub at (look_at W s) ≡ expression_statement sub at) →
          Leads horizon (statement_by (parts_within n) s.at (look_at W s) W s) (Ok (tree_of (statement_node s.at (form.Expr (Some e))) false, step t))
      by f n more (inl name) = subst (λ q. Leads horizon (statement_by (parts_within n) s.at q W s) (Ok (tree_of (statement_node s.at (form.Expr (Some e))) false, step t))) (sym name)
          (subst (λ (p : Parser Built). Leads horizon (p W (step s)) (Ok (tree_of (statement_node s.at (form.Expr (Some e))) false, step t)))
          (sym (no_label (look_at W (step s)) (no_colon f (f.front.named name)) (parts_within n) s.at))
          (leads_on horizon W ((nest n).named s.at W (step s)) (Ok (f.grown, t)) _ _ (named_part horizon W (r - 1) e s t f n more end name) (inl (whole f n))))
      by f n more (inr other) = subst (λ (p : Parser Built). Leads horizon (p W s) (Ok (tree_of (statement_node s.at (form.Expr (Some e))) false, step t))) (sym (other (parts_within n) s.at))
          (leads_on horizon W ((nest n).expr 1 W s) (Ok (f.grown, t)) _ _
          (part horizon W (r - 1) 1 e s t f n 1 more (omega arith) (omega arith) (behind W t sign.Semicolon 1 end (omega arith) refl)) (inl (whole f n)))

  empty : (r : ℕ) (s : State) → Room horizon r s → look_at W s ≡ sign.Semicolon → FoundStatement r false (statement_node s.at (form.Expr None)) s (step s)
  unfolding empty_statement
  empty r s room word = worded sign.Semicolon r false _ s (step s) word refl refl room (omega arith) (λ n more follow. inl refl)

  -- ---- selection and iteration statements (6.8.4, 6.8.5)
  still : (waits : Bool) (s u : State) → (waits ≡ true → is_else (look_at W (leaving s u)) ≡ false) → waits ≡ true → is_else (look_at W u) ≡ false
  still waits s u follow e = else_either W u.at s.names u.names (follow e)

  if_then : (r : ℕ) (waits : Bool) (e : Ex) (a : Stmt) (s t u : State) → Room horizon r s → look_at W s ≡ sign.If → Condition horizon W (r - 1) e (step s) t →
      FoundStatement (r - 1) waits a t u → FoundStatement r true (statement_node s.at (form.If e a None)) s (leaving s u)
  unfolding if_statement
  if_then r waits e a s t u room word h f =
      let up = condition_up (r - 1) e (step s) t h in
      let up2 = f.forward in
      worded sign.If r true _ s (leaving s u) word refl refl room (omega arith) (λ n more follow.
      compound sign.If s (leaving t u) n _
      (leads_on horizon W (condition (parts_within n) W (step s)) (Ok (e, t)) _ _ (condition_leads (r - 1) e (step s) t h n (λ p. let x = more p in omega arith))
      (leads_on horizon W (scoped (nested n).statement W t) (Ok (tree_of a waits, leaving t u)) _ _
      (inner_leads (r - 1) waits a t u f n (λ p. let x = more p in omega arith) (λ _. else_either W u.at s.names u.names (follow refl)))
      (inl (ap (λ (p : Parser Built). p W (leaving t u)) (no_else (look_at W (leaving t u)) (else_either W u.at s.names t.names (follow refl)) (parts_within n) s.at e (tree_of a waits)))))))

  if_else : (r : ℕ) (waits : Bool) (e : Ex) (a b : Stmt) (s t u v : State) → Room horizon r s → look_at W s ≡ sign.If → Condition horizon W (r - 1) e (step s) t →
      FoundStatement (r - 1) false a t u → look_at W (leaving t u) ≡ sign.Else → FoundStatement (r - 1) waits b (step (leaving t u)) v →
      FoundStatement r waits (statement_node s.at (form.If e a (Some b))) s (leaving s v)
  unfolding if_statement
  if_else r waits e a b s t u v room word h f other g =
      let up = condition_up (r - 1) e (step s) t h in
      let up2 = f.forward in
      let up3 = g.forward in
      worded sign.If r waits _ s (leaving s v) word refl refl room (omega arith) (λ n more follow.
      compound sign.If s (leaving (step (leaving t u)) v) n _
      (leads_on horizon W (condition (parts_within n) W (step s)) (Ok (e, t)) _ _ (condition_leads (r - 1) e (step s) t h n (λ p. let x = more p in omega arith))
      (leads_on horizon W (scoped (nested n).statement W t) (Ok (tree_of a false, leaving t u)) _ _
      (inner_leads (r - 1) false a t u f n (λ p. let x = more p in omega arith) (λ no. absurd (cc)))
      (subst (λ q. Leads horizon (else_by (parts_within n) s.at e (tree_of a false) q W (leaving t u)) (Ok (tree_of (statement_node s.at (form.If e a (Some b))) waits, leaving (step (leaving t u)) v))) (sym other)
      (leads_on horizon W (scoped (nested n).statement W (step (leaving t u))) (Ok (tree_of b waits, leaving (step (leaving t u)) v)) _ _
      (inner_leads (r - 1) waits b (step (leaving t u)) v g n (λ p. let x = more p in omega arith) (still waits s v follow)) (inl refl))))))

  switch : (r : ℕ) (waits : Bool) (e : Ex) (a : Stmt) (s t u : State) → Room horizon r s → look_at W s ≡ sign.Switch → Condition horizon W (r - 1) e (step s) t →
      FoundStatement (r - 1) waits a t u → FoundStatement r waits (statement_node s.at (form.Switch e a)) s (leaving s u)
  unfolding switch_statement
  switch r waits e a s t u room word h f =
      let up = condition_up (r - 1) e (step s) t h in
      let up2 = f.forward in
      worded sign.Switch r waits _ s (leaving s u) word refl refl room (omega arith) (λ n more follow.
      compound sign.Switch s (leaving t u) n _
      (leads_on horizon W (condition (parts_within n) W (step s)) (Ok (e, t)) _ _ (condition_leads (r - 1) e (step s) t h n (λ p. let x = more p in omega arith))
      (leads_on horizon W (scoped (nested n).statement W t) (Ok (tree_of a waits, leaving t u)) _ _
      (inner_leads (r - 1) waits a t u f n (λ p. let x = more p in omega arith) (still waits s u follow)) (inl refl))))

  while_ : (r : ℕ) (waits : Bool) (e : Ex) (a : Stmt) (s t u : State) → Room horizon r s → look_at W s ≡ sign.While → Condition horizon W (r - 1) e (step s) t →
      FoundStatement (r - 1) waits a t u → FoundStatement r waits (statement_node s.at (form.While e a)) s (leaving s u)
  unfolding while_statement
  while_ r waits e a s t u room word h f =
      let up = condition_up (r - 1) e (step s) t h in
      let up2 = f.forward in
      worded sign.While r waits _ s (leaving s u) word refl refl room (omega arith) (λ n more follow.
      compound sign.While s (leaving t u) n _
      (leads_on horizon W (condition (parts_within n) W (step s)) (Ok (e, t)) _ _ (condition_leads (r - 1) e (step s) t h n (λ p. let x = more p in omega arith))
      (leads_on horizon W (scoped (nested n).statement W t) (Ok (tree_of a waits, leaving t u)) _ _
      (inner_leads (r - 1) waits a t u f n (λ p. let x = more p in omega arith) (still waits s u follow)) (inl refl))))

  do_ : (r : ℕ) (waits : Bool) (e : Ex) (a : Stmt) (s t u : State) → Room horizon r s → look_at W s ≡ sign.Do → FoundStatement (r - 1) waits a (step s) t → look_at W (leaving s t) ≡ sign.While →
      Condition horizon W (r - 1) e (step (leaving s t)) u → look_at W u ≡ sign.Semicolon → FoundStatement r false (statement_node s.at (form.Do a e)) s (leaving s (step u))
  unfolding do_statement
  do_ r waits e a s t u room word f loop h end =
      let up = condition_up (r - 1) e (step (leaving s t)) u h in
      let up2 = f.forward in
      worded sign.Do r false _ s (leaving s (step u)) word refl refl room (omega arith) (λ n more follow.
      compound sign.Do s (step u) n _
      (leads_on horizon W (scoped (nested n).statement W (step s)) (Ok (tree_of a waits, leaving s t)) _ _
      (inner_leads (r - 1) waits a (step s) t f n (λ p. let x = more p in omega arith) (λ _. else_either W t.at s.names t.names (ap is_else loop)))
      (subst (λ o. Leads horizon (and_then W o (λ _. condition (parts_within n) >>= (λ e. expect is_semicolon >> pure (built s.at (form.Do a e) false)))) (Ok (tree_of (statement_node s.at (form.Do a e)) false, step u)))
      (sym (expect_found is_while W (leaving s t) (ap is_while loop)))
      (leads_on horizon W (condition (parts_within n) W (step (leaving s t))) (Ok (e, u)) _ _ (condition_leads (r - 1) e (step (leaving s t)) u h n (λ p. let x = more p in omega arith))
      (inl (ended_by u _ end))))))

  for_ : (r : ℕ) (waits : Bool) (x : ForStart) (test last : Option Ex) (a : Stmt) (s t u v w : State) → Room horizon r s → look_at W s ≡ sign.For → look_at W (step s) ≡ sign.OpenParen →
      StartIs horizon W (r - 1) x (step (step s)) t → Optional horizon W (r - 1) test t u → look_at W u ≡ sign.Semicolon → Optional horizon W (r - 1) last (step u) v →
      look_at W v ≡ sign.CloseParen → FoundStatement (r - 1) waits a (step v) w → FoundStatement r waits (statement_node s.at (form.For x test last a)) s (leaving s w)
  unfolding for_statement for_head
  for_ r waits x test last a s t u v w room word opens h1 h2 middle h3 close f =
      let up = start_up (r - 1) x (step (step s)) t h1 in
      let up2 = optional_up (r - 1) test t u h2 in
      let up3 = optional_up (r - 1) last (step u) v h3 in
      let up4 = f.forward in
      worded sign.For r waits _ s (leaving s w) word refl refl room (omega arith) (λ n more follow.
      compound sign.For s (leaving (step v) w) n _
      (leads_on horizon W (for_head (parts_within n) W (step s)) (Ok (record { start = x; test = test; last = last }, step v)) _ _
      (then_expect is_open_paren _ (step s) _ (ap is_open_paren opens)
      (leads_on horizon W (look (start_by (parts_within n)) W (step (step s))) (Ok (x, t)) _ _ (start_leads (r - 1) x (step (step s)) t h1 n (λ p. let x = more p in omega arith))
      (leads_on horizon W (optional_before (parts_within n) is_semicolon W t) (Ok (test, step u)) _ _
      (optional_leads is_semicolon value_no_semicolon (r - 1) test t u h2 (ap is_semicolon middle) (behind W u sign.Semicolon 1 middle (omega arith) refl) n (λ p. let x = more p in omega arith))
      (leads_on horizon W (optional_before (parts_within n) is_close_paren W (step u)) (Ok (last, step v)) _ _
      (optional_leads is_close_paren value_no_paren (r - 1) last (step u) v h3 (ap is_close_paren close) (behind W v sign.CloseParen 1 close (omega arith) refl) n (λ p. let x = more p in omega arith)) (inl refl)))))
      (leads_on horizon W (scoped (nested n).statement W (step v)) (Ok (tree_of a waits, leaving (step v) w)) _ _
      (inner_leads (r - 1) waits a (step v) w f n (λ p. let x = more p in omega arith) (still waits s w follow)) (inl refl))))

  -- ---- jumps (6.8.6)
  goto_ : (r : ℕ) (s : State) → Room horizon r s → look_at W s ≡ sign.Goto → is_name (look_at W (step s)) ≡ true → look_at W (step (step s)) ≡ sign.Semicolon →
      FoundStatement r false (statement_node s.at (form.Goto (step s).at)) s (step (step (step s)))
  unfolding goto_statement
  goto_ r s room word named end = worded sign.Goto r false _ s (step (step (step s))) word refl refl room (omega arith) (λ n more follow.
      inl (ap (λ o. and_then W o (λ n. expect is_semicolon >> pure (built s.at (form.Goto n.1) false))) (name_found W (step s) named) ∙ ended_by (step (step s)) _ end))

  jump : (q : Sign) (f : StmtForm) (r : ℕ) (s : State) → look_at W s ≡ q → begins_statement q ≡ true → is_type_name q ≡ false → ((sub : Parts) (at : ℕ) → statement_by sub at q ≡ plain_jump sub at f) → Room horizon r s →
      look_at W (step s) ≡ sign.Semicolon → FoundStatement r false (statement_node s.at f) s (step (step s))
  unfolding plain_jump
  jump q f r s word begun no_type is room end = worded q r false _ s (step (step s)) word begun no_type room (omega arith) (λ n more follow.
      inl (ap (λ (p : Parser Built). p W s) (is (parts_within n) s.at) ∙ ended_by (step s) _ end))

  return_ : (r : ℕ) (e : Option Ex) (s t : State) → Room horizon r s → look_at W s ≡ sign.Return → Optional horizon W (r - 1) e (step s) t → look_at W t ≡ sign.Semicolon →
      FoundStatement r false (statement_node s.at (form.Return e)) s (step t)
  unfolding return_statement
  return_ r e s t room word h end =
      let up = optional_up (r - 1) e (step s) t h in
      worded sign.Return r false _ s (step t) word refl refl room (omega arith) (λ n more follow.
      leads_on horizon W (optional_before (parts_within n) is_semicolon W (step s)) (Ok (e, step t)) _ _
      (optional_leads is_semicolon value_no_semicolon (r - 1) e (step s) t h (ap is_semicolon end) (behind W t sign.Semicolon 1 end (omega arith) refl) n (λ p. let x = more p in omega arith)) (inl refl))

  -- ---- blocks (6.8.2)
  record FoundItems (r : ℕ) (all : List BlockItem) (s t : State) : Type 0 where
    forward : s.at ≤ t.at
    begun : look_at W t ≡ sign.CloseBrace → is_else (look_at W s) ≡ false
    leads : (n k : ℕ) → (0 < horizon → r ≤ n) → most_words ≤ k + s.at → look_at W t ≡ sign.CloseBrace → Leads horizon (many_from is_no_close_brace (block_item (parts_within n)) k W s) (Ok (all, t))

  type_name_sign : (q : Sign) → is_type_name q ≡ true → q ≡ sign.TypeName
  type_name_sign sign.TypeName e = refl
  type_name_sign _ e = absurd (cc)

  no_colon_by : (q : Sign) → is_colon q ≡ false → (sub : Parts) (at : ℕ) → type_name_by sub at q ≡ (declaration_after_name sub.inits at >>= (λ d. pure (item.Declaration d)))
  no_colon_by sign.Colon e sub at = absurd (cc)
  no_colon_by _ e sub at = refl

  specifier_no_else : (q : Sign) → specifies false q ≡ true → is_else q ≡ false
  specifier_no_else sign.Else e = absurd (cc)
  specifier_no_else _ e = refl

  statement_no_else : (q : Sign) → begins_statement q ≡ true → is_else q ≡ false
  statement_no_else sign.Else e = absurd (cc)
  statement_no_else _ e = refl

  specifier_open : (q : Sign) → specifies false q ≡ true → is_no_close_brace q ≡ true
  specifier_open sign.CloseBrace e = absurd (cc)
  specifier_open _ e = refl

  statement_open : (q : Sign) → begins_statement q ≡ true → is_no_close_brace q ≡ true
  statement_open sign.CloseBrace e = absurd (cc)
  statement_open _ e = refl

  statement_no_specifier : (q : Sign) → begins_statement q ≡ true → is_type_name q ≡ false → specifies false q ≡ false
  statement_no_specifier sign.TypeName e f = absurd (cc)
  statement_no_specifier sign.Storage e f = absurd (cc)
  statement_no_specifier sign.Static e f = absurd (cc)
  statement_no_specifier sign.Typedef e f = absurd (cc)
  statement_no_specifier sign.Qualifier e f = absurd (cc)
  statement_no_specifier sign.TypeWord e f = absurd (cc)
  statement_no_specifier sign.Struct e f = absurd (cc)
  statement_no_specifier sign.Union e f = absurd (cc)
  statement_no_specifier sign.Enum e f = absurd (cc)
  statement_no_specifier _ e f = refl

  declaration_item : (r : ℕ) (d : Declaration) (s t : State) → FoundDeclaration horizon W ends r d s t → (n : ℕ) → (0 < horizon → r ≤ n) →
      Leads horizon (block_item (parts_within n) W s) (Ok (item.Declaration d, t))
  unfolding block_item type_name_item
  declaration_item r d s t f n more = by (is_type_name (look_at W s)) refl
    where
      by : (b : Bool) → is_type_name (look_at W s) ≡ b → Leads horizon (if_so b (type_name_item (parts_within n))
          (if_so (specifies false (look_at W s)) (declaration (inits_within n) >>= (λ d. pure (item.Declaration d))) ((nested n).statement >>= (λ a. pure (item.Stmt a.tree)))) W s) (Ok (item.Declaration d, t))
      by true e = let name = type_name_sign (look_at W s) e in
          subst (λ (p : Parser BlockItem). Leads horizon (p W (step s)) (Ok (item.Declaration d, t))) (sym (no_colon_by (look_at W (step s)) (f.second name) (parts_within n) s.at))
          (leads_on horizon W (declaration_after_name (inits_within n) s.at W (step s)) (Ok (d, t)) _ _ (f.after name n more) (inl refl))
      by false e = subst (λ b. Leads horizon (if_so b (declaration (inits_within n) >>= (λ d. pure (item.Declaration d))) ((nested n).statement >>= (λ a. pure (item.Stmt a.tree))) W s) (Ok (item.Declaration d, t))) (sym f.begun)
          (leads_on horizon W (declaration (inits_within n) W s) (Ok (d, t)) _ _ (f.leads n more) (inl refl))

  statement_item : (r : ℕ) (waits : Bool) (a : Stmt) (s t : State) → FoundStatement r waits a s t → (n : ℕ) → (0 < horizon → r ≤ n) → (waits ≡ true → is_else (look_at W t) ≡ false) →
      Leads horizon (block_item (parts_within n) W s) (Ok (item.Stmt a, t))
  unfolding block_item type_name_item
  statement_item r waits a s t f n more follow = by (is_type_name (look_at W s)) refl
    where
      by : (b : Bool) → is_type_name (look_at W s) ≡ b → Leads horizon (if_so b (type_name_item (parts_within n))
          (if_so (specifies false (look_at W s)) (declaration (inits_within n) >>= (λ d. pure (item.Declaration d))) ((nested n).statement >>= (λ a. pure (item.Stmt a.tree)))) W s) (Ok (item.Stmt a, t))
      by true e = let x = f.labelled (type_name_sign (look_at W s) e) in
          subst (λ q. Leads horizon (type_name_by (parts_within n) s.at q W (step s)) (Ok (item.Stmt a, t))) (sym x.0)
          (leads_on horizon W ((nested n).labelled s.at W (step s)) (Ok (tree_of a waits, t)) _ _ (x.1 n more follow) (inl refl))
      by false e = subst (λ b. Leads horizon (if_so b (declaration (inits_within n) >>= (λ d. pure (item.Declaration d))) ((nested n).statement >>= (λ a. pure (item.Stmt a.tree))) W s) (Ok (item.Stmt a, t)))
          (sym (statement_no_specifier (look_at W s) f.begun e))
          (leads_on horizon W ((nested n).statement W s) (Ok (tree_of a waits, t)) _ _ (f.leads n more follow) (inl refl))

  no_items : (r : ℕ) (s : State) → FoundItems r [] s s
  no_items r s = record {
    forward = omega arith;
    begun = λ e. ap is_else e;
    leads = λ n k more turns e. inl (many_stops horizon W is_no_close_brace (block_item (parts_within n)) k s (ap is_no_close_brace e));
  }

  declaration_first : (r : ℕ) (d : Declaration) (rest : List BlockItem) (s t u : State) → FoundDeclaration horizon W ends r d s t → FoundItems r rest t u → FoundItems r (item.Declaration d ∷ rest) s u
  declaration_first r d rest s t u f g = record {
    forward = let up = f.forward in let up2 = g.forward in omega arith;
    begun = λ _. specifier_no_else (look_at W s) f.begun;
    leads = by;
  }
    where
      by : (n k : ℕ) → (0 < horizon → r ≤ n) → most_words ≤ k + s.at → look_at W u ≡ sign.CloseBrace →
          Leads horizon (many_from is_no_close_brace (block_item (parts_within n)) k W s) (Ok (item.Declaration d ∷ rest, u))
      by n zero more turns e = absurd (not_past W ends (specifies false) refl s f.begun (omega arith))
      by n (suc k) more turns e = many_goes horizon W is_no_close_brace (block_item (parts_within n)) k s t u (item.Declaration d) rest (specifier_open (look_at W s) f.begun)
          (declaration_item r d s t f n more) (g.leads n k more (let up = f.forward in omega arith) e)

  statement_first : (r : ℕ) (waits : Bool) (a : Stmt) (rest : List BlockItem) (s t u : State) → FoundStatement r waits a s t → FoundItems r rest t u → FoundItems r (item.Stmt a ∷ rest) s u
  statement_first r waits a rest s t u f g = record {
    forward = let up = f.forward in let up2 = g.forward in omega arith;
    begun = λ _. statement_no_else (look_at W s) f.begun;
    leads = by;
  }
    where
      by : (n k : ℕ) → (0 < horizon → r ≤ n) → most_words ≤ k + s.at → look_at W u ≡ sign.CloseBrace →
          Leads horizon (many_from is_no_close_brace (block_item (parts_within n)) k W s) (Ok (item.Stmt a ∷ rest, u))
      by n zero more turns e = absurd (not_past W ends begins_statement refl s f.begun (omega arith))
      by n (suc k) more turns e = many_goes horizon W is_no_close_brace (block_item (parts_within n)) k s t u (item.Stmt a) rest (statement_open (look_at W s) f.begun)
          (statement_item r waits a s t f n more (λ _. g.begun e)) (g.leads n k more (let up = f.forward in omega arith) e)

  block_of : (r : ℕ) (all : List BlockItem) (s t : State) → Room horizon r s → look_at W s ≡ sign.OpenBrace → FoundItems (r - 1) all (step s) t → look_at W t ≡ sign.CloseBrace →
      FoundStatement r false (statement_node s.at (form.Block all)) s (leaving s (step t))
  unfolding block block_items many
  block_of r all s t room word f close =
      let up = f.forward in
      worded sign.OpenBrace r false _ s (leaving s (step t)) word refl refl room (omega arith) (λ n more follow.
      compound sign.OpenBrace s (step t) n _
      (leads_on horizon W (many_from is_no_close_brace (block_item (parts_within n)) (most_words - suc s.at) W (step s)) (Ok (all, t)) _ _
      (f.leads n (most_words - suc s.at) (λ p. let x = more p in omega arith) (omega arith) close)
      (inl (ap (λ o. and_then W o (λ _. pure (built s.at (form.Block all) false))) (expect_found is_close_brace W t (ap is_close_brace close))))))

  mutual
    pub statement_found : (r : ℕ) (waits : Bool) (x : Stmt) (s t : State) → StatementIs horizon W r waits x s t → FoundStatement r waits x s t
    statement_found r waits x s t (stm.label _ _ a _ _ room named colon d) = label r waits a s t room named colon (statement_found (r - 1) waits a (step (step s)) t d)
    statement_found r waits x s t (stm.case_ _ _ e a _ u _ room word h colon d) = case_ r waits e a s u t room word h colon (statement_found (r - 1) waits a (step u) t d)
    statement_found r waits x s t (stm.default_ _ _ a _ _ room word colon d) = default_ r waits a s t room word colon (statement_found (r - 1) waits a (step (step s)) t d)
    statement_found r waits x s t (stm.block _ all _ u room word d close) = block_of r all s u room word (items_found (r - 1) all (step s) u d) close
    statement_found r waits x s t (stm.expression _ e _ u room h end) = expression r e s u room h end
    statement_found r waits x s t (stm.empty _ _ room word) = empty r s room word
    statement_found r waits x s t (stm.if_then _ w e a _ u v room word h d) = if_then r w e a s u v room word h (statement_found (r - 1) w a u v d)
    statement_found r waits x s t (stm.if_else _ _ e a b _ u v w room word h d other d2) =
        if_else r waits e a b s u v w room word h (statement_found (r - 1) false a u v d) other (statement_found (r - 1) waits b (step (leaving u v)) w d2)
    statement_found r waits x s t (stm.switch _ _ e a _ u v room word h d) = switch r waits e a s u v room word h (statement_found (r - 1) waits a u v d)
    statement_found r waits x s t (stm.while_ _ _ e a _ u v room word h d) = while_ r waits e a s u v room word h (statement_found (r - 1) waits a u v d)
    statement_found r waits x s t (stm.do_ _ w e a _ u v room word d loop h end) = do_ r w e a s u v room word (statement_found (r - 1) w a (step s) u d) loop h end
    statement_found r waits x s t (stm.for_ _ _ y test last a _ u v w z room word opens h1 h2 middle h3 close d) =
        for_ r waits y test last a s u v w z room word opens h1 h2 middle h3 close (statement_found (r - 1) waits a (step w) z d)
    statement_found r waits x s t (stm.goto_ _ _ room word named end) = goto_ r s room word named end
    statement_found r waits x s t (stm.continue_ _ _ room word end) = jump sign.Continue form.Continue r s word refl refl (λ sub at. refl) room end
    statement_found r waits x s t (stm.break_ _ _ room word end) = jump sign.Break form.Break r s word refl refl (λ sub at. refl) room end
    statement_found r waits x s t (stm.return_ _ e _ u room word h end) = return_ r e s u room word h end

    items_found : (r : ℕ) (all : List BlockItem) (s t : State) → BlockItems horizon W r all s t → FoundItems r all s t
    items_found r all s t (stm.no_item _ _) = no_items r s
    items_found r all s t (stm.declaration _ d rest _ u _ h next) = declaration_first r d rest s u t (declaration_found horizon W ends r d s u h) (items_found r rest u t next)
    items_found r all s t (stm.statement _ w a rest _ u _ h next) = statement_first r w a rest s u t (statement_found r w a s u h) (items_found r rest u t next)

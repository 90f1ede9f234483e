-- What the rules of statements and blocks read is a tree of its words.
use Rattle.std.proofs.Common.{◌≡◌, ℕ, zero, suc, ◌-◌, ◌≤◌, ◌⊎◌, inl, inr, Bool, true, false, List, ◌∷◌, length, Option, None, Ok, Err, refl, sym, ap, subst, arith}
use Rattle.c_tree.specs.declared.tree.Ex.{Ex}
use Rattle.c_tree.specs.declared.tree.Declaration.{Declaration}
use Rattle.c_tree.specs.declared.tree.StmtForm.TheVariants as form
use Rattle.c_tree.specs.declared.tree.BlockItem.{BlockItem}
use Rattle.c_tree.specs.declared.tree.BlockItem.TheVariants as item
use Rattle.c_tree.specs.declared.tree.ForStart.{ForStart}
use Rattle.c_expressions.specs.declared.grown.Grown.{Grown}
use Rattle.c_syntax.specs.declared.built.Built.{Built}
use Rattle.c_input.specs.declared.word.Sign.{Sign}
use Rattle.c_input.specs.declared.word.Sign.TheVariants as sign
use Rattle.c_input.specs.declared.word.Place.{Place as State}
use Rattle.c_input.specs.Input.{Words, step, look_at, is_name, specifies, oldest}
use Rattle.c_input.specs.Parser.{Outcome, Parser, and_then, ◌>>=◌, ◌>>◌, pure, look, refuse, left_out_here, too_deep_here, no_room, expect, scoped, many_from, many, most_words}
use Rattle.c_input.specs.Signs.{is_semicolon, is_close_brace, is_no_close_brace, is_open_paren, is_close_paren, is_colon, is_while}
use Rattle.c_syntax.specs.Statements.{has_scope, is_jump, is_type_name, statement_node, built, Parts, inner, condition, optional, optional_before, else_by, if_statement, switch_statement, while_statement, do_statement, value_start, start_by, for_head, for_statement, goto_statement, return_statement, plain_jump, case_by, case_statement, default_statement, label_rest, ended, expression_statement, empty_statement, name_by, name_statement, type_name_statement, type_name_by, type_name_item, block_item, block_items, block, compound_by, jump_by, simple_by, statement, Nested, nested, parts_within}
use Rattle.c_syntax.specs.Declarations.{declaration, declaration_after_name}
use Rattle.c_grammar.specs.DeclarationTrees.{DeclarationIs}
use Rattle.c_grammar.specs.StatementTrees.{leaving, Optional, left_out, given, Condition, condition as one_condition, StartIs, nothing, value, declaration as start_declaration, StatementIs, label, case_, default_, block as one_block, expression, empty, if_then, if_else, switch, while_, do_, for_, goto_, continue_, break_, return_, BlockItems, no_item, declaration as declaration_item, statement as statement_item}
use Rattle.c_grammar.proofs.Combinators.{Keeps, oldest_are}
use Rattle.c_grammar.proofs.StatementRules.{ReadsParts, reads_compound_by, reads_parts_within}
use Rattle.c_grammar.proofs.ExpressionTreesRead.{All, bind_all, if_all, expect_all, name_all, close_paren, colon}
use Rattle.c_grammar.proofs.SpecifierTreesRead.{Ends, close_brace, semicolon}
use Rattle.c_grammar.proofs.RoomTreesRead.{IsExIn}
use Rattle.c_grammar.proofs.DeclarationTreesRead.{SoundInits, IsDeclaration, declaration_all, declaration_after_name_all, inits_within_sound}

pub open_paren : (q : Sign) → is_open_paren q ≡ true → q ≡ sign.OpenParen
open_paren sign.OpenParen e = refl
open_paren _ e = absurd (cc)

while_sign : (q : Sign) → is_while q ≡ true → q ≡ sign.While
while_sign sign.While e = refl
while_sign _ e = absurd (cc)

type_name_sign : (q : Sign) → is_type_name q ≡ true → q ≡ sign.TypeName
type_name_sign sign.TypeName e = refl
type_name_sign _ e = absurd (cc)

-- a parser in two halves
then_all : {A C D : Type 0} (L : D → State → Type 0) (W : Words) (o : Outcome A) (f : A → Parser C) (g : C → Parser D) → All L (and_then W o (λ x. f x >>= g)) →
    All L (and_then W (and_then W o f) g)
then_all L W (Ok x) f g h = h
then_all L W (Err e) f g h = tt

-- a scope ends
pub scoped_all : {A : Type 0} (L : A → State → Type 0) (p : Parser A) (W : Words) (s : State) → Keeps s.names (p W s) → All (λ a t. L a (leaving s t)) (p W s) → All L (scoped p W s)
unfolding scoped
scoped_all {A} L p W s keeps h = by (p W s) keeps h
  where
    by : (o : Outcome A) → Keeps s.names o → All (λ a t. L a (leaving s t)) o →
        All L (and_then W o (λ a W' t. Ok (a, record { at = t.at; names = oldest (length s.names) t.names })))
    by (Ok x) keeps h = subst (λ names. L x.0 (record { at = x.1.at; names = names })) (sym (oldest_are s.names x.1.names keeps)) h
    by (Err e) keeps h = tt

abbrev pub IsStatement : ℕ → Words → ℕ → State → Built → State → Type 0
IsStatement horizon W room s b t = (r : ℕ) → room ≤ r → StatementIs horizon W r b.waits b.tree s t

-- what parsers of so much room read is a tree of that room
pub record SoundParts (horizon : ℕ) (W : Words) (room : ℕ) (sub : Parts) : Type 0 where
  pub inits : SoundInits horizon W room sub.inits
  pub statement : (s : State) → All (IsStatement horizon W room s) (sub.statement W s)
  pub labelled : (s : State) → is_name (look_at W s) ≡ true → All (IsStatement horizon W room s) (sub.labelled s.at W (step s))

module _ (horizon : ℕ) (W : Words) (ends : Ends W) (room : ℕ) (sub : Parts) (rs : ReadsParts sub) (sound : SoundParts horizon W room sub) where
  -- a statement around what these parsers read
  abbrev IsWhole : State → Built → State → Type 0
  IsWhole = IsStatement horizon W (suc room)

  expr_all : (l : ℕ) (s : State) → l ≤ 15 → All (IsExIn horizon W room l s) (sub.inits.exprs.expr l W s)
  expr_all l s le = sound.inits.exprs.expr l s le

  -- a statement that has a scope, before the scope ends
  abbrev Leaves : State → Built → State → Type 0
  Leaves s b t = IsWhole s b (leaving s t)

  inner_all : (L : Built → State → Type 0) (s : State) (f : Built → Parser Built) → ((b : Built) (t : State) → IsStatement horizon W room s b t → All L (f b W (leaving s t))) →
      All L (and_then W (inner sub W s) f)
  unfolding scoped
  inner_all L s f g = by (sub.statement W s) (sound.statement s) ((rs.statement {k = 0} {moves = true}).keeps W s)
    where
      by : (o : Outcome Built) → All (IsStatement horizon W room s) o → Keeps s.names o →
          All L (and_then W (and_then W o (λ a W' t. Ok (a, record { at = t.at; names = oldest (length s.names) t.names }))) f)
      by (Ok x) h keeps = subst (λ names. All L (f x.0 W (record { at = x.1.at; names = names }))) (sym (oldest_are s.names x.1.names keeps)) (g x.0 x.1 h)
      by (Err e) h keeps = tt

  abbrev IsCondition : State → Ex → State → Type 0
  IsCondition s e t = (r : ℕ) → room ≤ r → Condition horizon W r e s t

  condition_all : (s : State) → All (IsCondition s) (condition sub W s)
  unfolding condition
  condition_all s = expect_all (IsCondition s) is_open_paren _ W s (λ opens. bind_all (IsExIn horizon W room 1 (step s)) (IsCondition s) W (sub.inits.exprs.expr 1 W (step s)) _
      (expr_all 1 (step s) (omega arith)) (λ x t g. expect_all (IsCondition s) is_close_paren _ W t (λ close r tall.
      one_condition x.tree s t (open_paren _ opens) (g.1 r 1 g.0 tall) (close_paren _ close))))

  -- what may be left out, and the word behind it
  record Before (is_end : Sign → Bool) (s : State) (x : Option Ex) (t : State) : Type 0 where
    between : State
    found : (r : ℕ) → room ≤ r → Optional horizon W r x s between
    end : is_end (look_at W between) ≡ true
    is : step between ≡ t

  before_all : (is_end : Sign → Bool) (s : State) → All (Before is_end s) (optional_before sub is_end W s)
  unfolding optional_before
  before_all is_end s = bind_all (λ x t. (r : ℕ) → room ≤ r → Optional horizon W r x s t) (Before is_end s) W (optional sub (is_end (look_at W s)) W s) _
      (if_all (λ x t. (r : ℕ) → room ≤ r → Optional horizon W r x s t) (is_end (look_at W s)) (pure None) _ W s (λ _ r tall. left_out s)
      (λ _. bind_all (IsExIn horizon W room 1 s) (λ x t. (r : ℕ) → room ≤ r → Optional horizon W r x s t) W (sub.inits.exprs.expr 1 W s) _ (expr_all 1 s (omega arith)) (λ x t g r tall. given x.tree s t (g.1 r 1 g.0 tall))))
      (λ x t h. expect_all (Before is_end s) is_end (pure x) W t (λ e. record { between = t; found = h; end = e; is = refl }))

  module _ (s : State) where
    else_all : (ifs : look_at W s ≡ sign.If) (e : Ex) (t : State) → IsCondition (step s) e t → (a : Built) (u : State) → IsStatement horizon W room t a u → (q : Sign) → look_at W (leaving t u) ≡ q →
        All (Leaves s) (else_by sub s.at e a q W (leaving t u))
    else_all ifs e t c a u h sign.Else f = if_all (Leaves s) a.waits (pure (built s.at (form.If e a.tree None) true)) _ W (leaving t u)
        (λ _ r tall. if_then r a.waits e a.tree s t u (λ _. omega arith) ifs (c (r - 1) (omega arith)) (h (r - 1) (omega arith)))
        (λ full. inner_all (Leaves s) (step (leaving t u)) _ (λ b v g r tall. if_else r b.waits e a.tree b.tree s t u v (λ _. omega arith) ifs (c (r - 1) (omega arith))
        (subst (λ w. StatementIs horizon W (r - 1) w a.tree t u) full (h (r - 1) (omega arith))) f (g (r - 1) (omega arith))))
    else_all ifs e t c a u h _ f = λ r tall. if_then r a.waits e a.tree s t u (λ _. omega arith) ifs (c (r - 1) (omega arith)) (h (r - 1) (omega arith))

    ifs_all : look_at W s ≡ sign.If → All (Leaves s) (if_statement sub s.at W s)
    unfolding if_statement
    ifs_all ifs = bind_all (IsCondition (step s)) (Leaves s) W (condition sub W (step s)) _ (condition_all (step s)) (λ e t c.
        inner_all (Leaves s) t (λ a. look (else_by sub s.at e a)) (λ a u h. else_all ifs e t c a u h (look_at W (leaving t u)) refl))

    switch_all : look_at W s ≡ sign.Switch → All (Leaves s) (switch_statement sub s.at W s)
    unfolding switch_statement
    switch_all f = bind_all (IsCondition (step s)) (Leaves s) W (condition sub W (step s)) _ (condition_all (step s)) (λ e t c.
        inner_all (Leaves s) t _ (λ a u h r tall. switch r a.waits e a.tree s t u (λ _. omega arith) f (c (r - 1) (omega arith)) (h (r - 1) (omega arith))))

    while_all : look_at W s ≡ sign.While → All (Leaves s) (while_statement sub s.at W s)
    unfolding while_statement
    while_all f = bind_all (IsCondition (step s)) (Leaves s) W (condition sub W (step s)) _ (condition_all (step s)) (λ e t c.
        inner_all (Leaves s) t _ (λ a u h r tall. while_ r a.waits e a.tree s t u (λ _. omega arith) f (c (r - 1) (omega arith)) (h (r - 1) (omega arith))))

    do_all : look_at W s ≡ sign.Do → All (Leaves s) (do_statement sub s.at W s)
    unfolding do_statement
    do_all f = inner_all (Leaves s) (step s) _ (λ a t h. expect_all (Leaves s) is_while _ W (leaving s t) (λ again.
        bind_all (IsCondition (step (leaving s t))) (Leaves s) W (condition sub W (step (leaving s t))) _ (condition_all (step (leaving s t))) (λ e u c.
        expect_all (Leaves s) is_semicolon _ W u (λ ended r tall.
        do_ r a.waits e a.tree s t u (λ _. omega arith) f (h (r - 1) (omega arith)) (while_sign _ again) (c (r - 1) (omega arith)) (semicolon _ ended)))))

    start_all : (t : State) → All (λ x u. (r : ℕ) → room ≤ r → StartIs horizon W r x t u) (start_by sub (look_at W t) W t)
    unfolding value_start
    start_all t = if_all (λ x u. (r : ℕ) → room ≤ r → StartIs horizon W r x t u) (is_semicolon (look_at W t)) _ _ W t (λ e r tall. nothing t (semicolon _ e))
        (λ _. if_all (λ x u. (r : ℕ) → room ≤ r → StartIs horizon W r x t u) (specifies false (look_at W t)) _ _ W t
        (λ _. bind_all (IsDeclaration horizon W ends room sub.inits rs.inits sound.inits t) (λ x u. (r : ℕ) → room ≤ r → StartIs horizon W r x t u) W (declaration sub.inits W t) _
        (declaration_all horizon W ends room sub.inits rs.inits sound.inits t) (λ d u h r tall. start_declaration d t u (h r tall)))
        (λ _. bind_all (IsExIn horizon W room 1 t) (λ x u. (r : ℕ) → room ≤ r → StartIs horizon W r x t u) W (sub.inits.exprs.expr 1 W t) _ (expr_all 1 t (omega arith)) (λ e u g.
        expect_all (λ x u. (r : ℕ) → room ≤ r → StartIs horizon W r x t u) is_semicolon _ W u (λ ended r tall. value e.tree t u (g.1 r 1 g.0 tall) (semicolon _ ended)))))

    abbrev Head : {H : Type 0} → (ForStart → Option Ex → Option Ex → H) → Parser H
    Head make = expect is_open_paren >> (look (start_by sub) >>= (λ first. optional_before sub is_semicolon >>= (λ test. optional_before sub is_close_paren >>= (λ last.
        pure (make first test last)))))

    head_all : {H : Type 0} (p : Parser H) (make : ForStart → Option Ex → Option Ex → H) (g : H → Parser Built) → p ≡ Head make →
        (is_open_paren (look_at W (step s)) ≡ true → (first : ForStart) (t : State) → ((r : ℕ) → room ≤ r → StartIs horizon W r first (step (step s)) t) → (test : Option Ex) (u : State) → Before is_semicolon t test u →
        (last : Option Ex) (v : State) → Before is_close_paren u last v → All (Leaves s) (g (make first test last) W v)) →
        All (Leaves s) (and_then W (p W (step s)) g)
    head_all {H} p make g same h = subst (λ (p : Parser H). All (Leaves s) (and_then W (p W (step s)) g)) (sym same)
        (then_all (Leaves s) W (expect is_open_paren W (step s)) (λ _. look (start_by sub) >>= after_start) g (expect_all (Leaves s) is_open_paren (look (start_by sub) >>= after_start >>= g) W (step s) (λ opens.
        then_all (Leaves s) W (start_by sub (look_at W (step (step s))) W (step (step s))) after_start g
        (bind_all (λ x u. (r : ℕ) → room ≤ r → StartIs horizon W r x (step (step s)) u) (Leaves s) W (start_by sub (look_at W (step (step s))) W (step (step s))) _ (start_all (step (step s))) (λ first t st.
        then_all (Leaves s) W (optional_before sub is_semicolon W t) (after_test first) g
        (bind_all (Before is_semicolon t) (Leaves s) W (optional_before sub is_semicolon W t) _ (before_all is_semicolon t) (λ test u b.
        then_all (Leaves s) W (optional_before sub is_close_paren W u) (λ last. pure (make first test last)) g
        (bind_all (Before is_close_paren u) (Leaves s) W (optional_before sub is_close_paren W u) _ (before_all is_close_paren u) (λ last v c.
        h opens first t st test u b last v c)))))))))
      where
        after_test : ForStart → Option Ex → Parser H
        after_test first test = optional_before sub is_close_paren >>= (λ last. pure (make first test last))

        after_start : ForStart → Parser H
        after_start first = optional_before sub is_semicolon >>= after_test first

    for_all : look_at W s ≡ sign.For → All (Leaves s) (for_statement sub s.at W s)
    unfolding for_statement for_head
    for_all f = head_all (for_head sub) (λ first test last. record { start = first; test = test; last = last })
        (λ h. inner sub >>= (λ a. pure (built s.at (form.For h.start h.test h.last a.tree) a.waits))) refl
        (λ opens first t h test u b last v c. inner_all (Leaves s) v (λ a. pure (built s.at (form.For first test last a.tree) a.waits)) (λ a w g. by opens first t h test u b last v c a w g))
      where
        by : is_open_paren (look_at W (step s)) ≡ true → (first : ForStart) (t : State) → ((r : ℕ) → room ≤ r → StartIs horizon W r first (step (step s)) t) → (test : Option Ex) (u : State) → Before is_semicolon t test u →
            (last : Option Ex) (v : State) → Before is_close_paren u last v → (a : Built) (w : State) → IsStatement horizon W room v a w →
            (r : ℕ) → suc room ≤ r → StatementIs horizon W r a.waits (statement_node s.at (form.For first test last a.tree)) s (leaving s w)
        by opens first t h test u b last v c a w g r tall = for_ r a.waits first test last a.tree s t b.between c.between w (λ _. omega arith) f (open_paren _ opens) (h (r - 1) (omega arith)) (b.found (r - 1) (omega arith)) (semicolon _ b.end)
            (subst (λ z. Optional horizon W (r - 1) last z c.between) (sym b.is) (c.found (r - 1) (omega arith))) (close_paren _ c.end)
            (subst (λ z. StatementIs horizon W (r - 1) a.waits a.tree z w) (sym c.is) (g (r - 1) (omega arith)))

    goto_all : look_at W s ≡ sign.Goto → All (IsWhole s) (goto_statement sub s.at W s)
    unfolding goto_statement
    goto_all f = name_all (IsWhole s) _ W (step s) (λ named. expect_all (IsWhole s) is_semicolon _ W (step (step s)) (λ ended r tall.
        goto_ r s (λ _. omega arith) f named (semicolon _ ended)))

    return_all : look_at W s ≡ sign.Return → All (IsWhole s) (return_statement sub s.at W s)
    unfolding return_statement
    return_all f = bind_all (Before is_semicolon (step s)) (IsWhole s) W (optional_before sub is_semicolon W (step s)) _ (before_all is_semicolon (step s)) (λ x t b r tall.
        subst (λ z. StatementIs horizon W r false (statement_node s.at (form.Return x)) s z) b.is (return_ r x s b.between (λ _. omega arith) f (b.found (r - 1) (omega arith)) (semicolon _ b.end)))

    continue_all : look_at W s ≡ sign.Continue → All (IsWhole s) (plain_jump sub s.at form.Continue W s)
    unfolding plain_jump
    continue_all f = expect_all (IsWhole s) is_semicolon _ W (step s) (λ ended r tall. continue_ r s (λ _. omega arith) f (semicolon _ ended))

    break_all : look_at W s ≡ sign.Break → All (IsWhole s) (plain_jump sub s.at form.Break W s)
    unfolding plain_jump
    break_all f = expect_all (IsWhole s) is_semicolon _ W (step s) (λ ended r tall. break_ r s (λ _. omega arith) f (semicolon _ ended))

    case_all : look_at W s ≡ sign.Case → All (IsWhole s) (case_statement sub s.at W s)
    unfolding case_statement left_out_here refuse
    case_all f = bind_all (IsExIn horizon W room 3 (step s)) (IsWhole s) W (sub.inits.exprs.expr 3 W (step s)) _ (expr_all 3 (step s) (omega arith)) (λ e t g. by e t g (look_at W t) refl)
      where
        by : (e : Grown) (t : State) → IsExIn horizon W room 3 (step s) e t → (q : Sign) → look_at W t ≡ q → All (IsWhole s) (case_by sub s.at e q W t)
        by e t g sign.Ellipsis c = tt
        by e t g sign.Colon c = bind_all (IsStatement horizon W room (step t)) (IsWhole s) W (sub.statement W (step t)) _ (sound.statement (step t)) (λ a u h r tall.
            case_ r a.waits e.tree a.tree s t u (λ _. omega arith) f (g.1 (r - 1) 3 g.0 (omega arith)) c (h (r - 1) (omega arith)))
        by e t g _ c = tt

    default_all : look_at W s ≡ sign.Default → All (IsWhole s) (default_statement sub s.at W s)
    unfolding default_statement
    default_all f = expect_all (IsWhole s) is_colon _ W (step s) (λ c. bind_all (IsStatement horizon W room (step (step s))) (IsWhole s) W (sub.statement W (step (step s))) _
        (sound.statement (step (step s))) (λ a u h r tall. default_ r a.waits a.tree s u (λ _. omega arith) f (colon _ c) (h (r - 1) (omega arith))))

    pub label_all : is_name (look_at W s) ≡ true → All (IsWhole s) (label_rest sub s.at W (step s))
    unfolding label_rest
    label_all f = expect_all (IsWhole s) is_colon _ W (step s) (λ c. bind_all (IsStatement horizon W room (step (step s))) (IsWhole s) W (sub.statement W (step (step s))) _
        (sound.statement (step (step s))) (λ a u h r tall. label r a.waits a.tree s u (λ _. omega arith) f (colon _ c) (h (r - 1) (omega arith))))

    ended_all : (e : Grown) (t : State) → IsExIn horizon W room 1 s e t → All (IsWhole s) (ended sub s.at e W t)
    ended_all e t g = expect_all (IsWhole s) is_semicolon _ W t (λ end r tall. expression r e.tree s t (λ _. omega arith) (g.1 (r - 1) 1 g.0 (omega arith)) (semicolon _ end))

    value_all : All (IsWhole s) (expression_statement sub s.at W s)
    unfolding expression_statement
    value_all = bind_all (IsExIn horizon W room 1 s) (IsWhole s) W (sub.inits.exprs.expr 1 W s) (ended sub s.at) (expr_all 1 s (omega arith)) ended_all

    name_statement_all : look_at W s ≡ sign.Name → All (IsWhole s) (name_statement sub s.at W s)
    unfolding name_statement
    name_statement_all f = by (look_at W (step s))
      where
        by : (q : Sign) → All (IsWhole s) (name_by sub s.at q W (step s))
        by sign.Colon = label_all (ap is_name f)
        by _ = bind_all (IsExIn horizon W room 1 s) (IsWhole s) W (sub.inits.exprs.named s.at W (step s)) (ended sub s.at) (sound.inits.exprs.named s f) ended_all

    type_name_all : look_at W s ≡ sign.TypeName → All (IsWhole s) (type_name_statement sub s.at W s)
    unfolding type_name_statement
    type_name_all f = label_all (ap is_name f)

    empty_all : look_at W s ≡ sign.Semicolon → All (IsWhole s) (empty_statement sub s.at W s)
    unfolding empty_statement
    empty_all f = λ r tall. empty r s (λ _. omega arith) f

  abbrev IsItem : State → BlockItem → State → Type 0
  IsItem s x t = ((d : Declaration) × (x ≡ item.Declaration d) × ((r : ℕ) → room ≤ r → DeclarationIs horizon W r d s t)) ⊎ ((b : Built) × (x ≡ item.Stmt b.tree) × IsStatement horizon W room s b t)

  type_name_item_all : (s : State) → look_at W s ≡ sign.TypeName → All (IsItem s) (type_name_item sub W s)
  unfolding type_name_item
  type_name_item_all s f = by (look_at W (step s))
    where
      by : (q : Sign) → All (IsItem s) (type_name_by sub s.at q W (step s))
      by sign.Colon = bind_all (IsStatement horizon W room s) (IsItem s) W (sub.labelled s.at W (step s)) _ (sound.labelled s (ap is_name f)) (λ b t h. inr (b, refl, h))
      by _ = bind_all (IsDeclaration horizon W ends room sub.inits rs.inits sound.inits s) (IsItem s) W (declaration_after_name sub.inits s.at W (step s)) (λ d. pure (item.Declaration d))
          (declaration_after_name_all horizon W ends room sub.inits rs.inits sound.inits s f) (λ d t h. inl (d, refl, h))

  item_all : (s : State) → All (IsItem s) (block_item sub W s)
  unfolding block_item
  item_all s = if_all (IsItem s) (is_type_name (look_at W s)) (type_name_item sub) _ W s (λ e. type_name_item_all s (type_name_sign _ e))
      (λ _. if_all (IsItem s) (specifies false (look_at W s)) _ _ W s
      (λ _. bind_all (IsDeclaration horizon W ends room sub.inits rs.inits sound.inits s) (IsItem s) W (declaration sub.inits W s) _
      (declaration_all horizon W ends room sub.inits rs.inits sound.inits s) (λ d t h. inl (d, refl, h)))
      (λ _. bind_all (IsStatement horizon W room s) (IsItem s) W (sub.statement W s) _ (sound.statement s) (λ b t h. inr (b, refl, h))))

  one_more_item : (s : State) (x : BlockItem) (t : State) → IsItem s x t → (rest : List BlockItem) (u : State) → ((r : ℕ) → room ≤ r → BlockItems horizon W r rest t u) → (r : ℕ) → room ≤ r → BlockItems horizon W r (x ∷ rest) s u
  one_more_item s x t (inl h) rest u g r tall = subst (λ y. BlockItems horizon W r (y ∷ rest) s u) (sym h.1) (declaration_item r h.0 rest s t u (h.2 r tall) (g r tall))
  one_more_item s x t (inr h) rest u g r tall = subst (λ y. BlockItems horizon W r (y ∷ rest) s u) (sym h.1) (statement_item r h.0.waits h.0.tree rest s t u (h.2 r tall) (g r tall))

  items_from : (n : ℕ) (s : State) → All (λ xs t. (r : ℕ) → room ≤ r → BlockItems horizon W r xs s t) (many_from is_no_close_brace (block_item sub) n W s)
  unfolding many_from
  items_from zero s = λ r tall. no_item r s
  items_from (suc n) s = if_all _ (is_no_close_brace (look_at W s)) _ _ W s
      (λ _. bind_all (IsItem s) _ W (block_item sub W s) _ (item_all s) (λ x t h. bind_all _ _ W (many_from is_no_close_brace (block_item sub) n W t) _ (items_from n t)
      (λ xs u g. one_more_item s x t h xs u g)))
      (λ _ r tall. no_item r s)

  block_all : (s : State) → look_at W s ≡ sign.OpenBrace → All (Leaves s) (block sub s.at W s)
  unfolding block block_items many
  block_all s f = bind_all (λ xs t. (r : ℕ) → room ≤ r → BlockItems horizon W r xs (step s) t) (Leaves s) W (block_items sub W (step s)) _ (items_from (most_words - suc s.at) (step s)) (λ xs t h.
      expect_all (Leaves s) is_close_brace _ W t (λ close r tall. one_block r xs s t (λ _. omega arith) f (h (r - 1) (omega arith)) (close_brace _ close)))

  compound_all : (s : State) (q : Sign) → look_at W s ≡ q → has_scope q ≡ true → All (Leaves s) (compound_by sub s.at q W s)
  compound_all s sign.OpenBrace e f = block_all s e
  compound_all s sign.If e f = ifs_all s e
  compound_all s sign.Switch e f = switch_all s e
  compound_all s sign.While e f = while_all s e
  compound_all s sign.Do e f = do_all s e
  compound_all s sign.For e f = for_all s e
  compound_all s _ e f = absurd (cc)

  jump_all : (s : State) (q : Sign) → look_at W s ≡ q → is_jump q ≡ true → All (IsWhole s) (jump_by sub s.at q W s)
  jump_all s sign.Goto e f = goto_all s e
  jump_all s sign.Continue e f = continue_all s e
  jump_all s sign.Break e f = break_all s e
  jump_all s sign.Return e f = return_all s e
  jump_all s _ e f = absurd (cc)

  simple_all : (s : State) (q : Sign) → look_at W s ≡ q → All (IsWhole s) (simple_by sub s.at q W s)
  simple_all s sign.Name e = name_statement_all s e
  simple_all s sign.TypeName e = type_name_all s e
  simple_all s sign.Semicolon e = empty_all s e
  simple_all s sign.Case e = case_all s e
  simple_all s sign.Default e = default_all s e
  simple_all s _ e = value_all s

  pub statement_all : (s : State) → All (IsWhole s) (statement sub W s)
  unfolding statement
  statement_all s = if_all (IsWhole s) (has_scope (look_at W s)) (scoped (compound_by sub s.at (look_at W s))) _ W s
      (λ e. scoped_all (IsWhole s) (compound_by sub s.at (look_at W s)) W s ((reads_compound_by sub rs {moves = true} s.at (look_at W s)).keeps W s)
      (compound_all s (look_at W s) refl e))
      (λ _. if_all (IsWhole s) (is_jump (look_at W s)) (jump_by sub s.at (look_at W s)) (simple_by sub s.at (look_at W s)) W s
      (λ e. jump_all s (look_at W s) refl e) (λ _. simple_all s (look_at W s) refl))

record SoundNested (horizon : ℕ) (W : Words) (room : ℕ) (sub : Nested) : Type 0 where
  statement : (s : State) → All (IsStatement horizon W room s) (sub.statement W s)
  labelled : (s : State) → is_name (look_at W s) ≡ true → All (IsStatement horizon W room s) (sub.labelled s.at W (step s))

module _ (horizon : ℕ) (W : Words) (ends : Ends W) where
  parts_sound : (room : ℕ) → SoundNested horizon W room (nested room) → SoundParts horizon W room (parts_within room)
  parts_sound room below = record { inits = inits_within_sound horizon W ends room; statement = below.statement; labelled = below.labelled }

  nested_sound : (room : ℕ) → SoundNested horizon W room (nested room)
  unfolding nested too_deep_here no_room
  nested_sound zero = record { statement = λ s. tt; labelled = λ s e. tt }
  nested_sound (suc room) = let parts = parts_sound room (nested_sound room) in
      record {
        statement = statement_all horizon W ends room (parts_within room) (reads_parts_within room) parts;
        labelled = label_all horizon W ends room (parts_within room) (reads_parts_within room) parts;
      }

  pub parts_within_sound : (room : ℕ) → SoundParts horizon W room (parts_within room)
  parts_within_sound room = parts_sound room (nested_sound room)

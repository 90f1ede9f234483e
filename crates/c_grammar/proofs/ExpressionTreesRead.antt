-- What the rules of expressions read is a tree of its words.
use Rattle.std.proofs.Common.{◌≡◌, ℕ, zero, suc, ◌-◌, ◌≤◌, max, nat_lt, nat_le, Bool, true, false, List, [], ◌∷◌, length, Ok, Err, refl, sym, ap, subst, arith, le_trans, le_refl, if◌then◌else◌}
use Rattle.std.proofs.lemmas.Bool.{leb-true}
use Rattle.c_tree.specs.declared.tree.Ex.{Ex}
use Rattle.c_tree.specs.declared.tree.ExForm.{ExForm}
use Rattle.c_tree.specs.declared.tree.ExForm.TheVariants as form
use Rattle.c_tree.specs.declared.tree.Param.{Param}
use Rattle.c_expressions.specs.declared.grown.Grown.{Grown}
use Rattle.c_input.specs.declared.word.Sign.{Sign}
use Rattle.c_input.specs.declared.word.Sign.TheVariants as sign
use Rattle.c_input.specs.declared.word.Place.{Place as State}
use Rattle.c_input.specs.declared.measured.Measured.{Measured}
use Rattle.c_input.specs.Input.{Words, step, look_at, is_name, name_in, qualifies, binds, wants}
use Rattle.c_input.specs.Parser.{Outcome, Parser, and_then, ◌>>=◌, ◌>>◌, pure, look, skip, refuse, too_deep_here, left_out_here, if_so, expect, any_name, take_name, many_from, many, separated, trees, deepest, most_words}
use Rattle.c_input.specs.Signs.{is_comma, is_close_paren, is_close_bracket, is_colon}
use Rattle.c_expressions.specs.Nest.{Nest}
use Rattle.c_expressions.specs.Declarators.{type_name}
use Rattle.c_expressions.specs.Expressions.{is_str, is_star, node, leaf, over, goes_on_at, strings, string, closed_by, closed_type, cast_rest, paren_by, paren_rest, open_rest, size_of_expr, size_open, sizeof_by, size_of, unary, first_by, first, indexed, argument, arguments_by, arguments, called, member_of, joined, assigned, otherwise, conditional, followed, longer, goes_on, climb, expression, after_open, after_name, star_by, from_star}
use Rattle.c_grammar.specs.Below.{Below}
use Rattle.c_grammar.specs.DeclaratorTrees.{TypeName}
use Rattle.c_grammar.specs.ExpressionTrees.{is_step, is_unary_operator, Strings, no_string, string as one_string, Arguments, last_argument, argument_and_more, ExpressionIs, identifier, integer, floating, character, string_literal, bracketed, subscript, call_of_none, call, member, arrow, increment, decrement, step_before, unary as unary_, size_of_expression, size_of_type, cast, binary, conditional as conditional_, assignment, comma}

abbrev pub All : {A : Type 0} → (A → State → Type 0) → Outcome A → Type 0
All L (Ok x) = L x.0 x.1
All L (Err e) = Unit {0}

pub bind_all : {A B : Type 0} (P : A → State → Type 0) (L : B → State → Type 0) (W : Words) (o : Outcome A) (f : A → Parser B) → All P o →
    ((a : A) (t : State) → P a t → All L (f a W t)) → All L (and_then W o f)
bind_all P L W (Ok x) f h g = g x.0 x.1 h
bind_all P L W (Err e) f h g = tt

pub if_all : {A : Type 0} (L : A → State → Type 0) (b : Bool) (p q : Parser A) (W : Words) (s : State) → (b ≡ true → All L (p W s)) → (b ≡ false → All L (q W s)) → All L (if_so b p q W s)
if_all L true p q W s hp hq = hp refl
if_all L false p q W s hp hq = hq refl

pub expect_all : {B : Type 0} (L : B → State → Type 0) (is : Sign → Bool) (p : Parser B) (W : Words) (s : State) → (is (look_at W s) ≡ true → All L (p W (step s))) →
    All L ((expect is >> p) W s)
unfolding expect refuse
expect_all L is p W s h = by (is (look_at W s)) refl
  where
    by : (b : Bool) → is (look_at W s) ≡ b → All L (and_then W (if_so b skip refuse W s) (λ _. p))
    by true e = h e
    by false e = tt

pub name_all : {B : Type 0} (L : B → State → Type 0) (f : ℕ × ℕ → Parser B) (W : Words) (s : State) → (is_name (look_at W s) ≡ true → All L (f (name_in (W s.at), s.at) W (step s))) →
    All L ((any_name >>= f) W s)
unfolding any_name refuse
name_all L f W s h = by (is_name (look_at W s)) refl
  where
    by : (b : Bool) → is_name (look_at W s) ≡ b → All L (and_then W (if_so b take_name refuse W s) f)
    by true e = h e
    by false e = tt

pub close_paren : (q : Sign) → is_close_paren q ≡ true → q ≡ sign.CloseParen
close_paren sign.CloseParen e = refl
close_paren _ e = absurd (cc)

pub close_bracket : (q : Sign) → is_close_bracket q ≡ true → q ≡ sign.CloseBracket
close_bracket sign.CloseBracket e = refl
close_bracket _ e = absurd (cc)

pub colon : (q : Sign) → is_colon q ≡ true → q ≡ sign.Colon
colon sign.Colon e = refl
colon _ e = absurd (cc)

pub comma_sign : (q : Sign) → is_comma q ≡ true → q ≡ sign.Comma
comma_sign sign.Comma e = refl
comma_sign _ e = absurd (cc)

-- an expression of at least this level, and of each level up to its own
abbrev pub IsEx : Below → ℕ → State → Grown → State → Type 0
IsEx B l s g t = (l ≤ g.level) × ((r l' : ℕ) → l' ≤ g.level → g.height ≤ r → B.expr r l' g.tree s t)

module _ (horizon : ℕ) (W : Words) (B : Below) (sub : Nest) (up : (r l : ℕ) (e : Ex) (s t : State) → ExpressionIs horizon W B r l e s t → B.expr r l e s t)
    (expr : (l : ℕ) (s : State) → l ≤ 15 → All (IsEx B l s) (sub.expr l W s))
    (opened : (s : State) → look_at W s ≡ sign.OpenParen → All (IsEx B 15 s) (sub.opened s.at W (step s)))
    (types : (s : State) → All (λ x t. (r : ℕ) → x.height ≤ r → TypeName horizon W B r x.tree s t) (type_name sub W s)) where
  a_leaf : (least : ℕ) (f : ExForm) (s t : State) → least ≤ 15 → ((r l : ℕ) → l ≤ 16 → 1 ≤ r → ExpressionIs horizon W B r l (node s.at f) s t) → IsEx B least s (leaf s.at f) t
  a_leaf least f s t le make = (omega arith, λ r l low tall. up r l (node s.at f) s t (make r l low tall))

  an_over : (least : ℕ) (f : ExForm) (below level : ℕ) (s t : State) → least ≤ level → ((r l : ℕ) → l ≤ level → suc below ≤ r → ExpressionIs horizon W B r l (node s.at f) s t) →
      IsEx B least s (over s.at f below level) t
  an_over least f below level s t le make = (le, λ r l low tall. up r l (node s.at f) s t (make r l low tall))

  TypeBehind : State → Measured Param → State → Type 0
  TypeBehind s x t = (u : State) × (look_at W u ≡ sign.CloseParen) × (step u ≡ t) × ((r : ℕ) → x.height ≤ r → TypeName horizon W B r x.tree s u)

  closed_all : (s : State) → All (TypeBehind s) (closed_type sub W s)
  unfolding TypeBehind closed_type left_out_here
  closed_all s = bind_all _ _ W (type_name sub W s) _ (types s) (λ x u h. expect_all _ is_close_paren _ W u (λ e. by x u (close_paren _ e) h (look_at W (step u))))
    where
      by : (x : Measured Param) (u : State) → look_at W u ≡ sign.CloseParen → ((r : ℕ) → x.height ≤ r → TypeName horizon W B r x.tree s u) → (q : Sign) →
          All (TypeBehind s) (closed_by sub x q W (step u))
      by x u close h sign.OpenBrace = tt
      by x u close h _ = (u, close, refl, h)

  cast_all : (least : ℕ) (s : State) → least ≤ 14 → look_at W s ≡ sign.OpenParen → All (IsEx B least s) (cast_rest sub s.at W (step s))
  unfolding cast_rest TypeBehind
  cast_all least s le opens = bind_all (TypeBehind (step s)) _ W (closed_type sub W (step s)) _ (closed_all (step s)) (λ x t h.
      bind_all (IsEx B 14 t) _ W (sub.expr 14 W t) _ (expr 14 t (omega arith)) (λ e u g.
      an_over least _ (max x.height e.height) 14 s u le (λ r l low tall. cast l x.tree e.tree s h.0 u (λ _. omega arith) low opens (h.3 (r - 1) (omega arith)) h.1
      (subst (λ v. B.expr (r - 1) 14 e.tree v u) (sym h.2) (g.1 (r - 1) 14 g.0 (omega arith))))))

  paren_all : (s : State) → look_at W s ≡ sign.OpenParen → All (IsEx B 16 s) (paren_rest sub s.at W (step s))
  unfolding paren_rest left_out_here
  paren_all s opens = by (look_at W (step s))
    where
      by : (q : Sign) → All (IsEx B 16 s) (paren_by sub s.at q W (step s))
      by sign.OpenBrace = tt
      by _ = bind_all (IsEx B 1 (step s)) (IsEx B 16 s) W (sub.expr 1 W (step s))
          (λ e. expect is_close_paren >> pure (over s.at (form.Paren e.tree) e.height 16)) (expr 1 (step s) (omega arith)) (λ e t g.
          expect_all (IsEx B 16 s) is_close_paren (pure (over s.at (form.Paren e.tree) e.height 16)) W t (λ close. an_over 16 (form.Paren e.tree) e.height 16 s (step t) (le_refl 16)
          (λ r l low tall. bracketed l e.tree s t (λ _. omega arith) low opens (g.1 (r - 1) 1 g.0 (omega arith)) (close_paren _ close))))

  lower : (l least : ℕ) (s : State) (o : Outcome Grown) → least ≤ l → All (IsEx B l s) o → All (IsEx B least s) o
  lower l least s (Ok x) le h = (le_trans le h.0, h.1)
  lower l least s (Err e) le h = tt

  open_all : (least : ℕ) (s : State) → least ≤ 15 → look_at W s ≡ sign.OpenParen → All (IsEx B least s) (open_rest sub least s.at W (step s))
  unfolding open_rest refuse
  open_all least s le opens = if_all _ (qualifies false (look_at W (step s))) _ _ W (step s)
      (λ _. if_all _ (nat_le least 14) _ _ W (step s) (λ low. cast_all least s (leb-true least 14 low) opens) (λ _. tt))
      (λ _. lower 16 least s (paren_rest sub s.at W (step s)) (omega arith) (paren_all s opens))

  unary_all : (least below : ℕ) (s : State) → least ≤ 15 → below ≤ 15 →
      ((r l : ℕ) (e : Ex) (t : State) → l ≤ 15 → 1 ≤ r → B.expr (r - 1) below e (step s) t → ExpressionIs horizon W B r l (node s.at (form.Unary e)) s t) →
      All (IsEx B least s) (unary sub s.at below W s)
  unfolding unary
  unary_all least below s le small make = bind_all (IsEx B below (step s)) _ W (sub.expr below W (step s)) _ (expr below (step s) small) (λ e t g.
      an_over least _ e.height 15 s t le (λ r l low tall. make r l e.tree t low (omega arith) (g.1 (r - 1) below g.0 (omega arith))))

  size_all : (least : ℕ) (s : State) → least ≤ 15 → look_at W s ≡ sign.Sizeof → All (IsEx B least s) (size_of sub s.at W (step s))
  unfolding size_of size_open TypeBehind
  size_all least s le size = by (look_at W (step s)) refl
    where
      of_expr : (o : Outcome Grown) → All (IsEx B 15 (step s)) o → All (IsEx B least s) (and_then W o (size_of_expr sub s.at))
      of_expr (Ok x) h = an_over least (form.SizeofEx x.0.tree) x.0.height 15 s x.1 le (λ r l low tall. size_of_expression l x.0.tree s x.1 (λ _. omega arith) low size (h.1 (r - 1) 15 h.0 (omega arith)))
      of_expr (Err e) h = tt

      by : (q : Sign) → look_at W (step s) ≡ q → All (IsEx B least s) (sizeof_by sub s.at q W (step s))
      by sign.OpenParen opens = if_all (IsEx B least s) (qualifies false (look_at W (step (step s))))
          (closed_type sub >>= (λ t. pure (over s.at (form.SizeofType t.tree) t.height 15))) (sub.opened (suc s.at) >>= size_of_expr sub s.at) W (step (step s))
          (λ _. bind_all (TypeBehind (step (step s))) (IsEx B least s) W (closed_type sub W (step (step s)))
          (λ t. pure (over s.at (form.SizeofType t.tree) t.height 15)) (closed_all (step (step s))) (λ x t h.
          an_over least (form.SizeofType x.tree) x.height 15 s t le (λ r l low tall. subst (λ v. ExpressionIs horizon W B r l (node s.at (form.SizeofType x.tree)) s v) h.2
          (size_of_type l x.tree s h.0 (λ _. omega arith) low size opens (h.3 (r - 1) (omega arith)) h.1))))
          (λ _. of_expr (sub.opened (suc s.at) W (step (step s))) (opened (step s) opens))
      by _ other = of_expr (sub.expr 15 W (step s)) (expr 15 (step s) (le_refl 15))

  strings_all : (n : ℕ) (s : State) → All (λ xs t. Strings horizon W B (length xs) s t) (many_from is_str skip n W s)
  unfolding many_from
  strings_all zero s = no_string s
  strings_all (suc n) s = by (look_at W s) refl (strings_all n (step s))
    where
      by : (q : Sign) → look_at W s ≡ q → All (λ xs t. Strings horizon W B (length xs) (step s) t) (many_from is_str skip n W (step s)) →
          All (λ xs t. Strings horizon W B (length xs) s t) (if_so (is_str q) (skip >>= (λ x. many_from is_str skip n >>= (λ rest. pure (x ∷ rest)))) (pure []) W s)
      by sign.Str e h = bind_all _ _ W (many_from is_str skip n W (step s)) (λ rest. pure (tt ∷ rest)) h (λ rest t g. one_string (length rest) s t e g)
      by _ e h = no_string s

  string_all : (least : ℕ) (s : State) → least ≤ 15 → look_at W s ≡ sign.Str → All (IsEx B least s) (string s.at W s)
  unfolding string strings many
  string_all least s le e = bind_all (λ n t. Strings horizon W B n (step s) t) _ W (strings W (step s)) _
      (bind_all _ _ W (many_from is_str skip (most_words - suc s.at) W (step s)) _ (strings_all (most_words - suc s.at) (step s)) (λ xs t h. h))
      (λ n t h. a_leaf least _ s t le (λ r l low tall. string_literal l n s t (λ _. omega arith) low (one_string n s t e h)))

  first_all : (least : ℕ) (s : State) → least ≤ 15 → All (IsEx B least s) (first sub least W s)
  unfolding first refuse
  first_all least s le = by (look_at W s) refl
    where
      by : (q : Sign) → look_at W s ≡ q → All (IsEx B least s) (first_by sub least s.at q W s)
      by sign.Name e = a_leaf least form.Name s (step s) le (λ r l low tall. identifier l s (λ _. omega arith) low e)
      by sign.Int e = a_leaf least form.Int s (step s) le (λ r l low tall. integer l s (λ _. omega arith) low e)
      by sign.Float e = a_leaf least form.Float s (step s) le (λ r l low tall. floating l s (λ _. omega arith) low e)
      by sign.Char e = a_leaf least form.Char s (step s) le (λ r l low tall. character l s (λ _. omega arith) low e)
      by sign.Str e = string_all least s le e
      by sign.OpenParen e = open_all least s le e
      by sign.Increment e = unary_all least 15 s le (le_refl 15) (λ r l x t low tall d. step_before l x s t (λ _. omega arith) low (ap is_step e) d)
      by sign.Decrement e = unary_all least 15 s le (le_refl 15) (λ r l x t low tall d. step_before l x s t (λ _. omega arith) low (ap is_step e) d)
      by sign.Amp e = unary_all least 14 s le (omega arith) (λ r l x t low tall d. unary_ l x s t (λ _. omega arith) low (ap is_unary_operator e) d)
      by sign.Star e = unary_all least 14 s le (omega arith) (λ r l x t low tall d. unary_ l x s t (λ _. omega arith) low (ap is_unary_operator e) d)
      by sign.Additive e = unary_all least 14 s le (omega arith) (λ r l x t low tall d. unary_ l x s t (λ _. omega arith) low (ap is_unary_operator e) d)
      by sign.Complement e = unary_all least 14 s le (omega arith) (λ r l x t low tall d. unary_ l x s t (λ _. omega arith) low (ap is_unary_operator e) d)
      by sign.Sizeof e = size_all least s le e
      by _ e = tt

  -- ---- what goes on

  arguments_from : (n : ℕ) (s : State) → All (λ xs t. (r : ℕ) (x : Ex) (from : State) → deepest xs ≤ r → B.expr r 2 x from s → Arguments horizon W B r (x ∷ trees xs) from t)
      (many_from is_comma (skip >> argument sub) n W s)
  unfolding many_from argument
  arguments_from zero s = λ r x from tall d. last_argument x from s d
  arguments_from (suc n) s = by (is_comma (look_at W s)) refl (λ t. arguments_from n t)
    where
      by : (b : Bool) → is_comma (look_at W s) ≡ b →
          ((t : State) → All (λ xs u. (r : ℕ) (x : Ex) (from : State) → deepest xs ≤ r → B.expr r 2 x from t → Arguments horizon W B r (x ∷ trees xs) from u) (many_from is_comma (skip >> argument sub) n W t)) →
          All (λ xs t. (r : ℕ) (x : Ex) (from : State) → deepest xs ≤ r → B.expr r 2 x from s → Arguments horizon W B r (x ∷ trees xs) from t)
          (if_so b (skip >> argument sub >>= (λ x. many_from is_comma (skip >> argument sub) n >>= (λ rest. pure (x ∷ rest)))) (pure []) W s)
      by false e more = λ r x from tall d. last_argument x from s d
      by true e more = after (sub.expr 2 W (step s)) (expr 2 (step s) (omega arith))
        where
          after : (o : Outcome Grown) → All (IsEx B 2 (step s)) o →
              All (λ xs t. (r : ℕ) (x : Ex) (from : State) → deepest xs ≤ r → B.expr r 2 x from s → Arguments horizon W B r (x ∷ trees xs) from t)
              (and_then W (and_then W o (λ e. pure (record { tree = e.tree; height = e.height }))) (λ x. many_from is_comma (skip >> argument sub) n >>= (λ rest. pure (x ∷ rest))))
          after (Ok y) h = bind_all _ _ W (many_from is_comma (skip >> argument sub) n W y.1) (λ rest. pure (record { tree = y.0.tree; height = y.0.height } ∷ rest)) (more y.1)
              (λ rest t g r x from tall d. argument_and_more x (y.0.tree ∷ trees rest) from s t d (comma_sign _ e) (g r y.0.tree (step s) (omega arith) (h.1 r 2 h.0 (omega arith))))
          after (Err stop) h = tt

  abbrev as_argument : Grown → Measured Ex
  as_argument e = record { tree = e.tree; height = e.height }

  abbrev as_arguments : List (Measured Ex) → Measured (List Ex)
  as_arguments xs = record { tree = trees xs; height = deepest xs }

  module _ (least : ℕ) (s : State) (a : Grown) (t : State) (ha : IsEx B least s a t) where
    called_all : least ≤ 16 → 16 ≤ a.level → look_at W t ≡ sign.OpenParen → All (IsEx B least s) (called sub s.at a W t)
    unfolding called arguments separated many argument
    called_all le high opens = by (look_at W (step t)) refl
      where
        end_of : (xs : List (Measured Ex)) (u : State) → ((r : ℕ) → deepest xs ≤ r → Arguments horizon W B r (trees xs) (step t) u) → All (IsEx B least s) ((expect is_close_paren >> pure (over s.at (form.Call a.tree (trees xs)) (max a.height (deepest xs)) 16)) W u)
        end_of xs u h = expect_all (IsEx B least s) is_close_paren (pure (over s.at (form.Call a.tree (trees xs)) (max a.height (deepest xs)) 16)) W u (λ close.
            an_over least (form.Call a.tree (trees xs)) (max a.height (deepest xs)) 16 s (step u) le
            (λ r l low tall. call l a.tree (trees xs) s t u (λ _. omega arith) low (ha.1 (r - 1) 16 high (omega arith)) opens (h (r - 1) (omega arith)) (close_paren _ close)))

        some : (o : Outcome Grown) → All (IsEx B 2 (step t)) o → All (IsEx B least s)
            (and_then W (and_then W (and_then W (and_then W o (λ e. pure (as_argument e))) (λ x. many is_comma (skip >> argument sub) >>= (λ rest. pure (x ∷ rest))))
            (λ xs. pure (as_arguments xs))) (λ (args : Measured (List Ex)). expect is_close_paren >> pure (over s.at (form.Call a.tree args.tree) (max a.height args.height) 16)))
        some (Ok y) h = more (many_from is_comma (skip >> argument sub) (most_words - y.1.at) W y.1) (arguments_from (most_words - y.1.at) y.1)
          where
            more : (o : Outcome (List (Measured Ex))) → All (λ xs u. (r : ℕ) (x : Ex) (from : State) → deepest xs ≤ r → B.expr r 2 x from y.1 → Arguments horizon W B r (x ∷ trees xs) from u) o →
                All (IsEx B least s) (and_then W (and_then W (and_then W o (λ rest. pure (as_argument y.0 ∷ rest)))
                (λ xs. pure (as_arguments xs))) (λ (args : Measured (List Ex)). expect is_close_paren >> pure (over s.at (form.Call a.tree args.tree) (max a.height args.height) 16)))
            more (Ok z) g = end_of (as_argument y.0 ∷ z.0) z.1 (λ r tall. g r y.0.tree (step t) (omega arith) (h.1 r 2 h.0 (omega arith)))
            more (Err stop) g = tt
        some (Err stop) h = tt

        by : (q : Sign) → look_at W (step t) ≡ q → All (IsEx B least s)
            (and_then W (and_then W (arguments_by sub q W (step t)) (λ xs. pure (as_arguments xs)))
            (λ (args : Measured (List Ex)). expect is_close_paren >> pure (over s.at (form.Call a.tree args.tree) (max a.height args.height) 16)))
        by sign.CloseParen e = expect_all (IsEx B least s) is_close_paren (pure (over s.at (form.Call a.tree []) (max a.height 0) 16)) W (step t) (λ close.
            an_over least (form.Call a.tree []) (max a.height 0) 16 s (step (step t)) le (λ r l low tall. call_of_none l a.tree s t (λ _. omega arith) low (ha.1 (r - 1) 16 high (omega arith)) opens e))
        by _ e = some (sub.expr 2 W (step t)) (expr 2 (step t) (omega arith))

    indexed_all : least ≤ 16 → 16 ≤ a.level → look_at W t ≡ sign.OpenBracket → All (IsEx B least s) (indexed sub s.at a W t)
    unfolding indexed
    indexed_all le high opens = bind_all (IsEx B 1 (step t)) _ W (sub.expr 1 W (step t)) _ (expr 1 (step t) (omega arith)) (λ e u g.
        expect_all _ is_close_bracket _ W u (λ close. an_over least (form.Index a.tree e.tree) (max a.height e.height) 16 s (step u) le
        (λ r l low tall. subscript l a.tree e.tree s t u (λ _. omega arith) low (ha.1 (r - 1) 16 high (omega arith)) opens (g.1 (r - 1) 1 g.0 (omega arith)) (close_bracket _ close))))

    dot_all : least ≤ 16 → 16 ≤ a.level → look_at W t ≡ sign.Dot → All (IsEx B least s) (member_of sub s.at a sign.Dot W t)
    unfolding member_of
    dot_all le high e = name_all (IsEx B least s) (λ n. pure (over s.at (form.Member a.tree n.1) a.height 16)) W (step t) (λ named.
        an_over least (form.Member a.tree (suc t.at)) a.height 16 s (step (step t)) le (λ r l low tall. member l a.tree s t (λ _. omega arith) low (ha.1 (r - 1) 16 high (omega arith)) e named))

    arrow_all : least ≤ 16 → 16 ≤ a.level → look_at W t ≡ sign.Arrow → All (IsEx B least s) (member_of sub s.at a sign.Arrow W t)
    unfolding member_of
    arrow_all le high e = name_all (IsEx B least s) (λ n. pure (over s.at (form.Arrow a.tree n.1) a.height 16)) W (step t) (λ named.
        an_over least (form.Arrow a.tree (suc t.at)) a.height 16 s (step (step t)) le (λ r l low tall. arrow l a.tree s t (λ _. omega arith) low (ha.1 (r - 1) 16 high (omega arith)) e named))

    joined_all : 4 ≤ binds (look_at W t) → binds (look_at W t) ≤ 13 → least ≤ binds (look_at W t) → binds (look_at W t) ≤ a.level →
        All (IsEx B least s) (joined sub s.at a (binds (look_at W t)) W t)
    unfolding joined
    joined_all low high le wanted = bind_all (IsEx B (suc (binds (look_at W t))) (step t)) _ W (sub.expr (suc (binds (look_at W t))) W (step t)) _
        (expr (suc (binds (look_at W t))) (step t) (omega arith)) (λ b u g. an_over least (form.Binary t.at a.tree b.tree) (max a.height b.height) (binds (look_at W t)) s u le
        (λ r l lower tall. binary l a.tree b.tree s t u (λ _. omega arith) low high lower (ha.1 (r - 1) _ wanted (omega arith)) (g.1 (r - 1) _ g.0 (omega arith))))

    assigned_all : least ≤ 2 → 15 ≤ a.level → binds (look_at W t) ≡ 2 → All (IsEx B least s) (assigned sub s.at a W t)
    unfolding assigned
    assigned_all le wanted e = bind_all (IsEx B 2 (step t)) _ W (sub.expr 2 W (step t)) _ (expr 2 (step t) (omega arith)) (λ b u g.
        an_over least (form.Assign t.at a.tree b.tree) (max a.height b.height) 2 s u le
        (λ r l low tall. assignment l a.tree b.tree s t u (λ _. omega arith) low (ha.1 (r - 1) 15 wanted (omega arith)) e (g.1 (r - 1) 2 g.0 (omega arith))))

    conditional_all : least ≤ 3 → 4 ≤ a.level → look_at W t ≡ sign.Question → All (IsEx B least s) (conditional sub s.at a W t)
    unfolding conditional otherwise
    conditional_all le wanted e = bind_all (IsEx B 1 (step t)) _ W (sub.expr 1 W (step t)) _ (expr 1 (step t) (omega arith)) (λ b u g.
        expect_all _ is_colon _ W u (λ behind. bind_all (IsEx B 3 (step u)) _ W (sub.expr 3 W (step u)) _ (expr 3 (step u) (omega arith)) (λ c v h.
        an_over least (form.Cond a.tree b.tree c.tree) (max a.height (max b.height c.height)) 3 s v le (λ r l low tall. conditional_ l a.tree b.tree c.tree s t u v (λ _. omega arith) low (ha.1 (r - 1) 4 wanted (omega arith)) e
        (g.1 (r - 1) 1 g.0 (omega arith)) (colon _ behind) (h.1 (r - 1) 3 h.0 (omega arith))))))

    followed_all : least ≤ 1 → 1 ≤ a.level → look_at W t ≡ sign.Comma → All (IsEx B least s) (followed sub s.at a W t)
    unfolding followed
    followed_all le wanted e = bind_all (IsEx B 2 (step t)) _ W (sub.expr 2 W (step t)) _ (expr 2 (step t) (omega arith)) (λ b u g.
        an_over least (form.Comma a.tree b.tree) (max a.height b.height) 1 s u le (λ r l low tall. comma l a.tree b.tree s t u (λ _. omega arith) low (ha.1 (r - 1) 1 wanted (omega arith)) e (g.1 (r - 1) 2 g.0 (omega arith))))

    joined_by : (q : Sign) → look_at W t ≡ q → 4 ≤ binds q → binds q ≤ 13 → least ≤ binds q → binds q ≤ a.level → All (IsEx B least s) (joined sub s.at a (binds q) W t)
    joined_by q e low high le wanted = subst (λ p. All (IsEx B least s) (joined sub s.at a (binds p) W t)) e
        (joined_all (subst (λ p. 4 ≤ binds p) (sym e) low) (subst (λ p. binds p ≤ 13) (sym e) high) (subst (λ p. least ≤ binds p) (sym e) le)
        (subst (λ p. binds p ≤ a.level) (sym e) wanted))

    longer_all : (q : Sign) → look_at W t ≡ q → 1 ≤ binds q → least ≤ binds q → wants q ≤ a.level → All (IsEx B least s) (longer sub s.at a q W t)
    unfolding longer
    longer_all sign.OpenBracket e one le wanted = indexed_all le wanted e
    longer_all sign.OpenParen e one le wanted = called_all le wanted e
    longer_all sign.Dot e one le wanted = dot_all le wanted e
    longer_all sign.Arrow e one le wanted = arrow_all le wanted e
    longer_all sign.Increment e one le wanted = an_over least (form.PostInc a.tree) a.height 16 s (step t) le (λ r l low tall. increment l a.tree s t (λ _. omega arith) low (ha.1 (r - 1) 16 wanted (omega arith)) e)
    longer_all sign.Decrement e one le wanted = an_over least (form.PostDec a.tree) a.height 16 s (step t) le (λ r l low tall. decrement l a.tree s t (λ _. omega arith) low (ha.1 (r - 1) 16 wanted (omega arith)) e)
    longer_all sign.Equal e one le wanted = assigned_all le wanted (ap binds e)
    longer_all sign.AssignOp e one le wanted = assigned_all le wanted (ap binds e)
    longer_all sign.Question e one le wanted = conditional_all le wanted e
    longer_all sign.Comma e one le wanted = followed_all le wanted e
    longer_all q e one le wanted = joined_by q e (omega arith) (omega arith) le wanted

  goes_facts : (least level : ℕ) (q : Sign) → goes_on_at least level q ≡ true → (1 ≤ binds q) × (least ≤ binds q) × (wants q ≤ level)
  goes_facts least level q e = by (nat_le 1 (binds q)) (nat_le least (binds q)) (nat_le (wants q) level) refl refl refl e
    where
      by : (a b c : Bool) → nat_le 1 (binds q) ≡ a → nat_le least (binds q) ≡ b → nat_le (wants q) level ≡ c →
          (if a then (if b then c else false) else false) ≡ true → (1 ≤ binds q) × (least ≤ binds q) × (wants q ≤ level)
      by true true true x y z e = (leb-true 1 (binds q) x, leb-true least (binds q) y, leb-true (wants q) level z)
      by true true false x y z e = absurd (cc)
      by true false c x y z e = absurd (cc)
      by false b c x y z e = absurd (cc)

  climb_all : (room least n : ℕ) (s : State) (a : Grown) (t : State) → IsEx B least s a t → All (IsEx B least s) (climb sub room least n s.at a W t)
  unfolding climb too_deep_here
  climb_all room least zero s a t h = if_all (IsEx B least s) (goes_on sub least a (look_at W t)) too_deep_here (pure a) W t (λ _. tt) (λ _. h)
  climb_all room least (suc n) s a t h = if_all (IsEx B least s) (goes_on sub least a (look_at W t)) _ (pure a) W t
      (λ e. if_all (IsEx B least s) (nat_lt a.height room) (longer sub s.at a (look_at W t) >>= climb sub room least n s.at) too_deep_here W t
      (λ _. let f = goes_facts least a.level (look_at W t) e in
      bind_all (IsEx B least s) (IsEx B least s) W (longer sub s.at a (look_at W t) W t) (climb sub room least n s.at)
      (longer_all least s a t h (look_at W t) refl f.0 f.1 f.2) (λ b u g. climb_all room least n s b u g))
      (λ _. tt))
      (λ _. h)

  pub expression_all : (room least : ℕ) (s : State) → least ≤ 15 → All (IsEx B least s) (expression sub room least W s)
  unfolding expression
  expression_all room least s le = bind_all (IsEx B least s) (IsEx B least s) W (first sub least W s) (climb sub room least room s.at) (first_all least s le)
      (λ a t h. climb_all room least room s a t h)

  pub after_open_all : (room : ℕ) (s : State) → look_at W s ≡ sign.OpenParen → All (IsEx B 15 s) (after_open sub room s.at W (step s))
  unfolding after_open
  after_open_all room s opens = bind_all (IsEx B 15 s) (IsEx B 15 s) W (paren_rest sub s.at W (step s)) (climb sub room 15 room s.at)
      (lower 16 15 s (paren_rest sub s.at W (step s)) (omega arith) (paren_all s opens)) (λ a t h. climb_all room 15 room s a t h)

  pub after_name_all : (room : ℕ) (s : State) → look_at W s ≡ sign.Name → All (IsEx B 1 s) (after_name sub room s.at W (step s))
  unfolding after_name
  after_name_all room s e = climb_all room 1 room s (leaf s.at form.Name) (step s) (a_leaf 1 form.Name s (step s) (omega arith) (λ r l low tall. identifier l s (λ _. omega arith) low e))

  star_sign : (q : Sign) → is_star q ≡ true → is_unary_operator q ≡ true
  star_sign sign.Star e = refl
  star_sign _ e = absurd (cc)

  pub from_star_all : (room : ℕ) (alone : Bool) (s : State) → All (IsEx B 2 s) (from_star sub room alone W s)
  unfolding from_star left_out_here
  from_star_all room alone s = expect_all (IsEx B 2 s) is_star (look (star_by sub room s.at alone)) W s (λ e. by e alone (look_at W (step s)))
    where
      rest : is_star (look_at W s) ≡ true → All (IsEx B 2 s) (and_then W (sub.expr 14 W (step s)) (λ e. climb sub room 2 room s.at (over s.at (form.Unary e.tree) e.height 15)))
      rest e = bind_all (IsEx B 14 (step s)) (IsEx B 2 s) W (sub.expr 14 W (step s)) (λ x. climb sub room 2 room s.at (over s.at (form.Unary x.tree) x.height 15)) (expr 14 (step s) (omega arith))
          (λ x t h. climb_all room 2 room s (over s.at (form.Unary x.tree) x.height 15) t (an_over 2 (form.Unary x.tree) x.height 15 s t (omega arith)
          (λ r l low tall. unary_ l x.tree s t (λ _. omega arith) low (star_sign _ e) (h.1 (r - 1) 14 h.0 (omega arith)))))

      by : is_star (look_at W s) ≡ true → (b : Bool) (q : Sign) → All (IsEx B 2 s) (star_by sub room s.at b q W (step s))
      by e true sign.CloseBracket = tt
      by e b _ = rest e

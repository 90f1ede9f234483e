-- Each tree of an expression is read, or a stop for depth behind the horizon comes first.
use Rattle.std.proofs.Common.{◌≡◌, ℕ, zero, suc, ◌+◌, ◌-◌, ◌<◌, ◌≤◌, ◌⊎◌, inl, inr, max, nat_le, Bool, true, false, List, [], ◌∷◌, length, Ok, Err, refl, sym, ap, ◌∙◌, subst, arith}
use Rattle.std.proofs.lemmas.Bool.Decides.{nat_tests}
use Rattle.c_tree.specs.declared.tree.Ex.{Ex}
use Rattle.c_tree.specs.declared.tree.ExForm.{ExForm}
use Rattle.c_tree.specs.declared.tree.ExForm.TheVariants as form
use Rattle.c_tree.specs.declared.tree.Param.{Param}
use Rattle.c_expressions.specs.declared.grown.Grown.{Grown}
use Rattle.c_input.specs.declared.word.Sign.{Sign}
use Rattle.c_input.specs.declared.word.Sign.TheVariants as sign
use Rattle.c_input.specs.declared.word.Place.{Place as State}
use Rattle.c_input.specs.declared.measured.Measured.{Measured}
use Rattle.c_input.specs.Input.{Words, step, look_at, is_name, qualifies, binds, wants, begins_expression}
use Rattle.c_input.specs.Signs.{is_comma, is_close_paren, is_close_bracket, is_colon}
use Rattle.c_input.specs.Parser.{too_deep, Outcome, Parser, and_then, ◌>>=◌, ◌>>◌, pure, look, skip, refuse, no_room_stop, no_room, if_so, expect, many_from, many, separated, trees, deepest, most_words}
use Rattle.c_expressions.specs.Nest.{Nest}
use Rattle.c_expressions.specs.Declarators.{type_name}
use Rattle.c_expressions.specs.Levels.{opened_by, nest}
use Rattle.c_expressions.specs.Expressions.{is_str, node, leaf, over, member_form, strings, string, closed_by, closed_type, size_of_expr, size_open, sizeof_by, size_of, cast_rest, paren_by, paren_rest, open_rest, unary, first_by, first, indexed, called, member_of, joined, assigned, otherwise, conditional, followed, longer_by, longer, climb, expression, after_open, argument, arguments_by, arguments}
use Rattle.c_grammar.specs.Below.{Below, Room}
use Rattle.c_grammar.specs.DeclaratorTrees.{TypeName}
use Rattle.c_grammar.specs.ExpressionTrees.{is_step, is_unary_operator, Strings, Arguments, ExpressionIs}
use Rattle.c_grammar.specs.ExpressionTrees as exp
use Rattle.c_grammar.proofs.SpecifierTreesRead.{Ends, not_past}
use Rattle.c_grammar.proofs.Leads.{Leads, leads_trans, leads_bind, leads_on, expect_found, name_found, begun_deep, climb_stops, climb_goes}

-- how an expression begins: with a bracket it is a cast, or what stands in brackets begins an expression; behind a name it ends, or an operator
-- goes on; behind a star stands an operand
pub record Front (W : Words) (s t : State) (level : ℕ) : Type 0 where
  pub typed : look_at W s ≡ sign.OpenParen → qualifies false (look_at W (step s)) ≡ true → level ≤ 14
  pub opens : look_at W s ≡ sign.OpenParen → qualifies false (look_at W (step s)) ≡ false → begins_expression (look_at W (step s)) ≡ true
  pub named : look_at W s ≡ sign.Name → (step s ≡ t) ⊎ (1 ≤ binds (look_at W (step s)))
  pub starred : look_at W s ≡ sign.Star → begins_expression (look_at W (step s)) ≡ true

is_plain : Sign → Bool
is_plain sign.OpenParen = false
is_plain sign.Name = false
is_plain sign.Star = false
is_plain _ = true

not_plain : (q p : Sign) → is_plain q ≡ true → is_plain p ≡ false → q ≡ p → ⊥
not_plain q p e f same = let x : is_plain p ≡ true = subst (λ z. is_plain z ≡ true) same e in cc

plain_front : (W : Words) (s t : State) (level : ℕ) (q : Sign) → look_at W s ≡ q → is_plain q ≡ true → Front W s t level
unfolding is_plain
plain_front W s t level q e k = record {
  typed = λ o _. absurd (not_plain q sign.OpenParen k refl (sym e ∙ o));
  opens = λ o _. absurd (not_plain q sign.OpenParen k refl (sym e ∙ o));
  named = λ o. absurd (not_plain q sign.Name k refl (sym e ∙ o));
  starred = λ o. absurd (not_plain q sign.Star k refl (sym e ∙ o));
}

-- an expression begins with no word of a type
begins_no_type : (q : Sign) → begins_expression q ≡ true → qualifies false q ≡ false
begins_no_type sign.Qualifier e = absurd (cc)
begins_no_type sign.TypeWord e = absurd (cc)
begins_no_type sign.Struct e = absurd (cc)
begins_no_type sign.Union e = absurd (cc)
begins_no_type sign.Enum e = absurd (cc)
begins_no_type sign.TypeName e = absurd (cc)
begins_no_type _ e = refl

-- no string literal and no brace
abbrev pub is_apart : Sign → Bool
is_apart sign.Str = false
is_apart sign.OpenBrace = false
is_apart _ = true

is_brace : Sign → Bool
is_brace sign.OpenBrace = true
is_brace _ = false

apart_no_brace : (q : Sign) → is_apart q ≡ true → is_brace q ≡ false
unfolding is_brace
apart_no_brace sign.OpenBrace e = absurd (cc)
apart_no_brace _ e = refl

begins_no_brace : (q : Sign) → begins_expression q ≡ true → is_brace q ≡ false
unfolding is_brace
begins_no_brace sign.OpenBrace e = absurd (cc)
begins_no_brace _ e = refl

no_literal : (q : Sign) → is_apart q ≡ true → is_str q ≡ false
no_literal sign.Str e = absurd (cc)
no_literal _ e = refl

-- what follows an expression: no operator that binds so tight
abbrev pub Behind : Words → State → ℕ → Type 0
Behind W t k = (binds (look_at W t) < k) × (is_apart (look_at W t) ≡ true)

pub behind : (W : Words) (t : State) (q : Sign) (k : ℕ) → look_at W t ≡ q → binds q < k → is_apart q ≡ true → Behind W t k
behind W t q k e low apart = (subst (λ z. binds z < k) (sym e) low, ap is_apart e ∙ apart)

operator_behind : (q : Sign) → 1 ≤ binds q → is_apart q ≡ true
operator_behind sign.Str one = absurd (omega arith)
operator_behind sign.OpenBrace one = absurd (omega arith)
operator_behind _ one = refl

-- what is known of an expression's tree
pub record FoundEx (horizon : ℕ) (W : Words) (r l : ℕ) (e : Ex) (s t : State) : Type 0 where
  pub grown : Grown
  pub tree : grown.tree ≡ e
  pub least : l ≤ grown.level
  pub top : grown.level ≤ 16
  -- its words
  pub front : Front W s t grown.level
  pub forward : s.at + 1 ≤ t.at
  pub begun : begins_expression (look_at W s) ≡ true
  -- its nodes
  pub roomy : s.at < horizon → 1 ≤ r
  pub small : t.at < horizon → grown.height ≤ r
  -- below this a sign behind it belongs to none of its operands
  pub bound : ℕ
  pub edge : (least : ℕ) → least ≤ grown.level → least ≤ 15 → (q : Sign) → binds q < least → binds q < bound
  pub onward : (q : Sign) → wants q ≤ grown.level → binds q < bound
  pub leads : (n l' : ℕ) → (0 < horizon → r ≤ suc n) → l' ≤ grown.level → l' ≤ 15 → Behind W t bound →
      Leads horizon (expression (nest n) (suc n) l' W s) (climb (nest n) (suc n) l' (suc n) s.at grown W t)

no_room_begun : (W : Words) (s : State) → begins_expression (look_at W s) ≡ true → ◌≡◌ {A = Outcome Grown} (no_room (begins_expression (look_at W s)) W s) (Err (too_deep s.at))
unfolding no_room
no_room_begun W s e = ap (λ b. Err (no_room_stop b (look_at W s) s.at)) e ∙ ap Err (begun_deep begins_expression refl (look_at W s) s.at e)

-- read as a part, where what follows belongs to none of it
pub part : (horizon : ℕ) (W : Words) (r l : ℕ) (e : Ex) (s t : State) (f : FoundEx horizon W r l e s t) (n l' : ℕ) → (0 < horizon → r ≤ n) → l' ≤ l → l' ≤ 15 →
    Behind W t l' → Leads horizon ((nest n).expr l' W s) (Ok (f.grown, t))
unfolding nest no_room
part horizon W r l e s t f zero l' more le top under =
    inr (s.at, no_room_begun W s f.begun, late)
  where
    late : horizon ≤ s.at
    late = let x = f.roomy in grind arith
part horizon W r l e s t f (suc n) l' more le top under =
    leads_trans horizon _ _ _ (f.leads n l' more (let x = f.least in omega arith) top (f.edge l' (let x = f.least in omega arith) top (look_at W t) under.0, under.1))
    (inl (climb_stops (nest n) (suc n) l' (suc n) s.at f.grown W t under.0))

-- what `first` reads
by_first : (horizon : ℕ) (W : Words) (s t : State) (n l' : ℕ) (g : Grown) → Leads horizon (first (nest n) l' W s) (Ok (g, t)) →
    Leads horizon (expression (nest n) (suc n) l' W s) (climb (nest n) (suc n) l' (suc n) s.at g W t)
unfolding expression
by_first horizon W s t n l' g f = leads_bind horizon W (first (nest n) l' W s) (Ok (g, t)) (climb (nest n) (suc n) l' (suc n) s.at) f

-- no word binds at 14 or 15
gap : (q : Sign) → binds q < 15 → binds q < 14
gap sign.OpenParen lt = absurd (omega arith)
gap sign.OpenBracket lt = absurd (omega arith)
gap sign.Dot lt = absurd (omega arith)
gap sign.Arrow lt = absurd (omega arith)
gap sign.Increment lt = absurd (omega arith)
gap sign.Decrement lt = absurd (omega arith)
gap _ lt = omega arith

highest : (q : Sign) → binds q < 17
highest sign.OpenParen = omega arith
highest _ = omega arith

module _ (horizon : ℕ) (W : Words) where
  -- a primary expression
  primary : (r l : ℕ) (f : ExForm) (s t : State) → Front W s t 16 → Room horizon r s → l ≤ 16 → s.at + 1 ≤ t.at → begins_expression (look_at W s) ≡ true →
      ((n l' : ℕ) → is_apart (look_at W t) ≡ true → Leads horizon (first (nest n) l' W s) (Ok (leaf s.at f, t))) → FoundEx horizon W r l (node s.at f) s t
  primary r l f s t front room low up begun read = record {
    front = front;
    grown = leaf s.at f;
    tree = refl;
    least = low;
    top = omega arith;
    forward = up;
    begun = begun;
    roomy = room;
    small = λ lt. room (omega arith);
    bound = 17;
    edge = λ least le top q under. highest q;
    onward = λ q le. highest q;
    leads = λ n l' more le top follow. by_first horizon W s t n l' (leaf s.at f) (read n l' follow.1);
  }

  one_word : (r l : ℕ) (f : ExForm) (s : State) → Front W s (step s) 16 → Room horizon r s → l ≤ 16 → begins_expression (look_at W s) ≡ true →
      ((sub : Nest) (l' : ℕ) → first sub l' W s ≡ Ok (leaf s.at f, step s)) → FoundEx horizon W r l (node s.at f) s (step s)
  one_word r l f s front room low begun read = primary r l f s (step s) front room low (omega arith) begun (λ n l' _. inl (read (nest n) l'))

  first_is : (s : State) (q : Sign) → look_at W s ≡ q → (sub : Nest) (l' : ℕ) → first sub l' W s ≡ first_by sub l' s.at q W s
  unfolding first
  first_is s q e sub l' = ap (λ q. first_by sub l' s.at q W s) e

-- what is known of the tree of a type name
pub record FoundType (horizon : ℕ) (W : Words) (r : ℕ) (x : Param) (s t : State) : Type 0 where
  pub measured : Measured Param
  pub tree : measured.tree ≡ x
  pub forward : s.at + 1 ≤ t.at
  pub begun : qualifies false (look_at W s) ≡ true
  pub small : t.at < horizon → measured.height ≤ r
  pub leads : (n : ℕ) → (0 < horizon → r ≤ n) → look_at W t ≡ sign.CloseParen → Leads horizon (type_name (nest n) W s) (Ok (measured, t))

module _ (horizon : ℕ) (W : Words) (B : Below) (below : (r l : ℕ) (e : Ex) (s t : State) → B.expr r l e s t → FoundEx horizon W r l e s t)
    (types : (r : ℕ) (x : Param) (s t : State) → TypeName horizon W B r x s t → FoundType horizon W r x s t) (ends : Ends W) where
  name_front : (s : State) → look_at W s ≡ sign.Name → Front W s (step s) 16
  name_front s e = record {
    typed = λ o _. let x : sign.Name ≡ sign.OpenParen = sym e ∙ o in absurd (cc);
    opens = λ o _. let x : sign.Name ≡ sign.OpenParen = sym e ∙ o in absurd (cc);
    named = λ o. inl refl;
    starred = λ o. let x : sign.Name ≡ sign.Star = sym e ∙ o in absurd (cc);
  }

  identifier : (r l : ℕ) (s : State) → Room horizon r s → l ≤ 16 → look_at W s ≡ sign.Name → FoundEx horizon W r l (node s.at form.Name) s (step s)
  identifier r l s room low e = one_word horizon W r l form.Name s (name_front s e) room low (ap begins_expression e) (first_is horizon W s sign.Name e)

  integer : (r l : ℕ) (s : State) → Room horizon r s → l ≤ 16 → look_at W s ≡ sign.Int → FoundEx horizon W r l (node s.at form.Int) s (step s)
  unfolding is_plain
  integer r l s room low e = one_word horizon W r l form.Int s (plain_front W s (step s) 16 sign.Int e refl) room low (ap begins_expression e) (first_is horizon W s sign.Int e)

  floating : (r l : ℕ) (s : State) → Room horizon r s → l ≤ 16 → look_at W s ≡ sign.Float → FoundEx horizon W r l (node s.at form.Float) s (step s)
  unfolding is_plain
  floating r l s room low e = one_word horizon W r l form.Float s (plain_front W s (step s) 16 sign.Float e refl) room low (ap begins_expression e) (first_is horizon W s sign.Float e)

  character : (r l : ℕ) (s : State) → Room horizon r s → l ≤ 16 → look_at W s ≡ sign.Char → FoundEx horizon W r l (node s.at form.Char) s (step s)
  unfolding is_plain
  character r l s room low e = one_word horizon W r l form.Char s (plain_front W s (step s) 16 sign.Char e refl) room low (ap begins_expression e) (first_is horizon W s sign.Char e)

  -- ---- prefixes
  unary_leads : (s t : State) (n least : ℕ) (g : Grown) → Leads horizon ((nest n).expr least W (step s)) (Ok (g, t)) →
      Leads horizon (unary (nest n) s.at least W s) (Ok (over s.at (form.Unary g.tree) g.height 15, t))
  unfolding unary
  unary_leads s t n least g on = leads_on horizon W _ (Ok (g, t)) _ _ on (inl refl)

  prefix : (r l least : ℕ) (e : Ex) (s t : State) → Room horizon r s → l ≤ 15 → 14 ≤ least → least ≤ 15 → begins_expression (look_at W s) ≡ true → (begins_expression (look_at W (step s)) ≡ true → Front W s t 15) →
      ((sub : Nest) (l' : ℕ) → first sub l' W s ≡ unary sub s.at least W s) → B.expr (r - 1) least e (step s) t → FoundEx horizon W r l (node s.at (form.Unary e)) s t
  prefix r l least e s t room low from to begun front read d =
      let f = below (r - 1) least e (step s) t d in
      let up = f.forward in
      record {
        grown = over s.at (form.Unary f.grown.tree) f.grown.height 15;
        front = front f.begun;
        tree = ap (λ x. node s.at (form.Unary x)) f.tree;
        least = low;
        top = omega arith;
        forward = omega arith;
        begun = begun;
        roomy = room;
        small = λ lt. let a = f.small lt in let b = room (omega arith) in omega arith;
        bound = 14;
        edge = λ least le top q under. gap q (omega arith);
        onward = λ q le. onward_prefix q le;
        leads = λ n l' more le top follow. by_first horizon W s t n l' (over s.at (form.Unary f.grown.tree) f.grown.height 15)
            (subst (λ o. Leads horizon o (Ok (over s.at (form.Unary f.grown.tree) f.grown.height 15, t))) (sym (read (nest n) l'))
            (unary_leads s t n least f.grown (part horizon W (r - 1) least e (step s) t f n least (λ p. let m = more p in omega arith) (omega arith) to (let b = follow.0 in omega arith, follow.1))));
      }
    where
      onward_prefix : (q : Sign) → wants q ≤ 15 → binds q < 14
      onward_prefix sign.OpenParen le = absurd (omega arith)
      onward_prefix sign.OpenBracket le = absurd (omega arith)
      onward_prefix sign.Dot le = absurd (omega arith)
      onward_prefix sign.Arrow le = absurd (omega arith)
      onward_prefix sign.Increment le = absurd (omega arith)
      onward_prefix sign.Decrement le = absurd (omega arith)
      onward_prefix _ le = omega arith

  step_before : (r l : ℕ) (e : Ex) (s t : State) → Room horizon r s → l ≤ 15 → is_step (look_at W s) ≡ true → B.expr (r - 1) 15 e (step s) t →
      FoundEx horizon W r l (node s.at (form.Unary e)) s t
  unfolding is_plain
  step_before r l e s t room low k d = by (look_at W s) refl k
    where
      by : (q : Sign) → look_at W s ≡ q → is_step q ≡ true → FoundEx horizon W r l (node s.at (form.Unary e)) s t
      by sign.Increment f k = prefix r l 15 e s t room low (omega arith) (omega arith) (ap begins_expression f) (λ _. plain_front W s t 15 sign.Increment f refl) (first_is horizon W s sign.Increment f) d
      by sign.Decrement f k = prefix r l 15 e s t room low (omega arith) (omega arith) (ap begins_expression f) (λ _. plain_front W s t 15 sign.Decrement f refl) (first_is horizon W s sign.Decrement f) d
      by _ f k = absurd (cc)

  star_front : (s t : State) → look_at W s ≡ sign.Star → begins_expression (look_at W (step s)) ≡ true → Front W s t 15
  star_front s t e begun = record {
    typed = λ o _. let x : sign.Star ≡ sign.OpenParen = sym e ∙ o in absurd (cc);
    opens = λ o _. let x : sign.Star ≡ sign.OpenParen = sym e ∙ o in absurd (cc);
    named = λ o. let x : sign.Star ≡ sign.Name = sym e ∙ o in absurd (cc);
    starred = λ o. begun;
  }

  unary_before : (r l : ℕ) (e : Ex) (s t : State) → Room horizon r s → l ≤ 15 → is_unary_operator (look_at W s) ≡ true → B.expr (r - 1) 14 e (step s) t →
      FoundEx horizon W r l (node s.at (form.Unary e)) s t
  unfolding is_plain
  unary_before r l e s t room low k d = by (look_at W s) refl k
    where
      by : (q : Sign) → look_at W s ≡ q → is_unary_operator q ≡ true → FoundEx horizon W r l (node s.at (form.Unary e)) s t
      by sign.Amp f k = prefix r l 14 e s t room low (omega arith) (omega arith) (ap begins_expression f) (λ _. plain_front W s t 15 sign.Amp f refl) (first_is horizon W s sign.Amp f) d
      by sign.Star f k = prefix r l 14 e s t room low (omega arith) (omega arith) (ap begins_expression f) (star_front s t f) (first_is horizon W s sign.Star f) d
      by sign.Additive f k = prefix r l 14 e s t room low (omega arith) (omega arith) (ap begins_expression f) (λ _. plain_front W s t 15 sign.Additive f refl) (first_is horizon W s sign.Additive f) d
      by sign.Complement f k = prefix r l 14 e s t room low (omega arith) (omega arith) (ap begins_expression f) (λ _. plain_front W s t 15 sign.Complement f refl) (first_is horizon W s sign.Complement f) d
      by _ f k = absurd (cc)

  -- ---- what goes on behind a first operand
  longer_front : (s t u : State) (k level : ℕ) → Front W s t k → level ≤ k → 1 ≤ binds (look_at W t) → Front W s u level
  longer_front s t u k level front le one = record {
    typed = λ o q. let x = front.typed o q in omega arith;
    opens = front.opens;
    named = λ o. inr (by (front.named o));
    starred = front.starred;
  }
    where
      by : (step s ≡ t) ⊎ (1 ≤ binds (look_at W (step s))) → 1 ≤ binds (look_at W (step s))
      by (inl e) = subst (λ v. 1 ≤ binds (look_at W v)) (sym e) one
      by (inr h) = h

  grow : (r l la level : ℕ) (a e : Ex) (s t u : State) (f : FoundEx horizon W (r - 1) la a s t) (x : ExForm) (high bound : ℕ) → Room horizon r s → l ≤ level → level ≤ la → level ≤ 16 →
      binds (look_at W t) ≡ level → 1 ≤ level → wants (look_at W t) ≤ la → t.at + 1 ≤ u.at → node s.at x ≡ e → f.grown.height ≤ high → (u.at < horizon → high ≤ r - 1) →
      ((least : ℕ) → least ≤ level → least ≤ 15 → (q : Sign) → binds q < least → binds q < bound) → ((q : Sign) → wants q ≤ level → binds q < bound) →
      ((n : ℕ) → (0 < horizon → r ≤ suc n) → Behind W u bound → Leads horizon (longer (nest n) s.at f.grown (look_at W t) W t) (Ok (over s.at x high level, u))) →
      FoundEx horizon W r l e s u
  grow r l la level a e s t u f x high bound room low le top is one want up same higher small edge onward reads =
      let first_up = f.forward in
      let first_level = f.least in
      record {
        grown = over s.at x high level;
        front = longer_front s t u f.grown.level level f.front (omega arith) (omega arith);
        tree = same;
        least = low;
        top = top;
        forward = omega arith;
        begun = f.begun;
        roomy = room;
        small = λ lt. let a = small lt in let b = room (omega arith) in omega arith;
        bound = bound;
        edge = edge;
        onward = onward;
        leads = λ n l' more under limit follow. leads_trans horizon _ _ _
            (f.leads n l' (λ p. let m = more p in omega arith) (omega arith) limit (f.onward (look_at W t) (omega arith), operator_behind (look_at W t) (omega arith)))
            (climb_goes (nest n) horizon (suc n) l' n s.at f.grown (over s.at x high level) W t u (omega arith) (omega arith) (omega arith)
            (λ lt. let a = f.small lt in let b = room (omega arith) in let m = more (omega arith) in omega arith) (omega arith) (omega arith) (reads n more follow));
      }

  longer_is : (t : State) (q : Sign) → look_at W t ≡ q → (sub : Nest) (at : ℕ) (a : Grown) → longer sub at a (look_at W t) W t ≡ longer_by sub at a q W t
  unfolding longer
  longer_is t q e sub at a = ap (λ q. longer_by sub at a q W t) e

  wide : (least : ℕ) → least ≤ 16 → least ≤ 15 → (q : Sign) → binds q < least → binds q < 17
  wide least le top q under = highest q

  wide_on : (q : Sign) → wants q ≤ 16 → binds q < 17
  wide_on q le = highest q

  indexed_leads : (s t u : State) (n : ℕ) (a g : Grown) → Leads horizon ((nest n).expr 1 W (step t)) (Ok (g, u)) → is_close_bracket (look_at W u) ≡ true →
      Leads horizon (indexed (nest n) s.at a W t) (Ok (over s.at (form.Index a.tree g.tree) (max a.height g.height) 16, step u))
  unfolding indexed
  indexed_leads s t u n a g on close = leads_on horizon W _ (Ok (g, u)) _ _ on
      (inl (ap (λ o. and_then W o (λ _. pure (over s.at (form.Index a.tree g.tree) (max a.height g.height) 16))) (expect_found is_close_bracket W u close)))

  subscript : (r l : ℕ) (a e : Ex) (s t u : State) → Room horizon r s → l ≤ 16 → B.expr (r - 1) 16 a s t → look_at W t ≡ sign.OpenBracket → B.expr (r - 1) 1 e (step t) u →
      look_at W u ≡ sign.CloseBracket → FoundEx horizon W r l (node s.at (form.Index a e)) s (step u)
  subscript r l a e s t u room low d opens d2 close =
      let f = below (r - 1) 16 a s t d in
      let g = below (r - 1) 1 e (step t) u d2 in
      let up = g.forward in
      let ends : binds (look_at W u) ≡ 0 = ap binds close in
      let level : binds (look_at W t) ≡ 16 = ap binds opens in
      let want : wants (look_at W t) ≡ 16 = ap wants opens in
      grow r l 16 16 a _ s t (step u) f (form.Index f.grown.tree g.grown.tree) (max f.grown.height g.grown.height) 17 room low (omega arith) (omega arith) level (omega arith) (omega arith) (omega arith)
      (ap (λ x. node s.at (form.Index x g.grown.tree)) f.tree ∙ ap (λ x. node s.at (form.Index a x)) g.tree) (omega arith)
      (λ lt. let x = f.small (omega arith) in let y = g.small (omega arith) in omega arith) wide wide_on
      (λ n more follow. subst (λ o. Leads horizon o (Ok (over s.at (form.Index f.grown.tree g.grown.tree) (max f.grown.height g.grown.height) 16, step u)))
      (sym (longer_is t sign.OpenBracket opens (nest n) s.at f.grown))
      (indexed_leads s t u n f.grown g.grown (part horizon W (r - 1) 1 e (step t) u g n 1 (λ p. let m = more p in omega arith) (omega arith) (omega arith) (behind W u sign.CloseBracket 1 close (omega arith) refl)) (ap is_close_bracket close)))

  -- binary operators
  joined_by : (q : Sign) → 4 ≤ binds q → binds q ≤ 13 → (sub : Nest) (at : ℕ) (a : Grown) → longer_by sub at a q ≡ joined sub at a (binds q)
  joined_by sign.OpenParen low high sub at a = absurd (omega arith)
  joined_by sign.OpenBracket low high sub at a = absurd (omega arith)
  joined_by sign.Dot low high sub at a = absurd (omega arith)
  joined_by sign.Arrow low high sub at a = absurd (omega arith)
  joined_by sign.Increment low high sub at a = absurd (omega arith)
  joined_by sign.Decrement low high sub at a = absurd (omega arith)
  joined_by sign.Equal low high sub at a = absurd (omega arith)
  joined_by sign.AssignOp low high sub at a = absurd (omega arith)
  joined_by sign.Question low high sub at a = absurd (omega arith)
  joined_by sign.Comma low high sub at a = absurd (omega arith)
  joined_by _ low high sub at a = refl

  wants_binds : (q : Sign) → 4 ≤ binds q → wants q ≡ binds q
  wants_binds sign.Equal low = absurd (omega arith)
  wants_binds sign.AssignOp low = absurd (omega arith)
  wants_binds sign.Question low = absurd (omega arith)
  wants_binds _ low = refl

  -- a word binds no tighter than it wants
  binds_wants : (q : Sign) → binds q ≤ wants q
  binds_wants sign.Equal = omega arith
  binds_wants sign.AssignOp = omega arith
  binds_wants sign.Question = omega arith
  binds_wants _ = omega arith

  joined_leads : (s t u : State) (n k : ℕ) (a g : Grown) → Leads horizon ((nest n).expr (suc k) W (step t)) (Ok (g, u)) →
      Leads horizon (joined (nest n) s.at a k W t) (Ok (over s.at (form.Binary t.at a.tree g.tree) (max a.height g.height) k, u))
  unfolding joined
  joined_leads s t u n k a g on = leads_on horizon W _ (Ok (g, u)) _ _ on (inl refl)

  longer_joined : (q : Sign) → 4 ≤ binds q → binds q ≤ 13 → (sub : Nest) (at : ℕ) (a : Grown) → longer sub at a q ≡ joined sub at a (binds q)
  unfolding longer
  longer_joined q low high sub at a = joined_by q low high sub at a

  binary : (r l : ℕ) (a b : Ex) (s t u : State) → Room horizon r s → 4 ≤ binds (look_at W t) → binds (look_at W t) ≤ 13 → l ≤ binds (look_at W t) →
      B.expr (r - 1) (binds (look_at W t)) a s t → B.expr (r - 1) (suc (binds (look_at W t))) b (step t) u → FoundEx horizon W r l (node s.at (form.Binary t.at a b)) s u
  binary r l a b s t u room from to low d d2 =
      let k : ℕ = binds (look_at W t) in
      let f = below (r - 1) k a s t d in
      let g = below (r - 1) (suc k) b (step t) u d2 in
      let up = g.forward in
      let want = wants_binds (look_at W t) from in
      grow r l k k a _ s t u f (form.Binary t.at f.grown.tree g.grown.tree) (max f.grown.height g.grown.height) (suc k) room low (omega arith) (omega arith) refl (omega arith) (omega arith) (omega arith)
      (ap (λ x. node s.at (form.Binary t.at x g.grown.tree)) f.tree ∙ ap (λ x. node s.at (form.Binary t.at a x)) g.tree) (omega arith)
      (λ lt. let x = f.small (omega arith) in let y = g.small (omega arith) in omega arith)
      (λ least le top q under. omega arith) (λ q le. let m = binds_wants q in omega arith)
      (λ n more follow. subst (λ (p : Parser Grown). Leads horizon (p W t) (Ok (over s.at (form.Binary t.at f.grown.tree g.grown.tree) (max f.grown.height g.grown.height) k, u)))
      (sym (longer_joined (look_at W t) from to (nest n) s.at f.grown))
      (joined_leads s t u n k f.grown g.grown (part horizon W (r - 1) (suc k) b (step t) u g n (suc k) (λ p. let m = more p in omega arith) (omega arith) (omega arith) follow)))

  -- ---- brackets
  inner_sign : (s : State) → look_at W s ≡ sign.OpenParen → begins_expression (look_at W (step s)) ≡ true → (sub : Nest) (l' : ℕ) → first sub l' W s ≡ paren_rest sub s.at W (step s)
  unfolding open_rest
  inner_sign s opens begun sub l' = first_is horizon W s sign.OpenParen opens sub l'
      ∙ ap (λ b. if_so b (if_so (nat_le l' 14) (cast_rest sub s.at) refuse) (paren_rest sub s.at) W (step s)) (begins_no_type (look_at W (step s)) begun)

  paren_is : (q : Sign) → begins_expression q ≡ true → (sub : Nest) (at : ℕ) → paren_by sub at q ≡ (sub.expr 1 >>= (λ e. expect is_close_paren >> pure (over at (form.Paren e.tree) e.height 16)))
  paren_is sign.OpenBrace e sub at = absurd (cc)
  paren_is _ e sub at = refl

  paren_leads : (s t : State) (n : ℕ) (g : Grown) → begins_expression (look_at W (step s)) ≡ true → Leads horizon ((nest n).expr 1 W (step s)) (Ok (g, t)) → is_close_paren (look_at W t) ≡ true →
      Leads horizon (paren_rest (nest n) s.at W (step s)) (Ok (over s.at (form.Paren g.tree) g.height 16, step t))
  unfolding paren_rest
  paren_leads s t n g begun on close = subst (λ (p : Parser Grown). Leads horizon (p W (step s)) (Ok (over s.at (form.Paren g.tree) g.height 16, step t))) (sym (paren_is (look_at W (step s)) begun (nest n) s.at))
      (leads_on horizon W _ (Ok (g, t)) _ _ on (inl (ap (λ o. and_then W o (λ _. pure (over s.at (form.Paren g.tree) g.height 16))) (expect_found is_close_paren W t close))))

  bracket_front : (s t : State) → look_at W s ≡ sign.OpenParen → begins_expression (look_at W (step s)) ≡ true → Front W s t 16
  bracket_front s t e begun = record {
    typed = λ o type. let no : qualifies false (look_at W (step s)) ≡ false = begins_no_type (look_at W (step s)) begun in absurd (cc);
    opens = λ o _. begun;
    named = λ o. let x : sign.OpenParen ≡ sign.Name = sym e ∙ o in absurd (cc);
    starred = λ o. let x : sign.OpenParen ≡ sign.Star = sym e ∙ o in absurd (cc);
  }

  bracketed : (r l : ℕ) (e : Ex) (s t : State) → Room horizon r s → l ≤ 16 → look_at W s ≡ sign.OpenParen → B.expr (r - 1) 1 e (step s) t → look_at W t ≡ sign.CloseParen →
      FoundEx horizon W r l (node s.at (form.Paren e)) s (step t)
  bracketed r l e s t room low opens d close =
      let f = below (r - 1) 1 e (step s) t d in
      let up = f.forward in
      let ends : binds (look_at W t) ≡ 0 = ap binds close in
      record {
        grown = over s.at (form.Paren f.grown.tree) f.grown.height 16;
        front = bracket_front s (step t) opens f.begun;
        tree = ap (λ x. node s.at (form.Paren x)) f.tree;
        least = low;
        top = omega arith;
        forward = omega arith;
        begun = ap begins_expression opens;
        roomy = room;
        small = λ lt. let a = f.small (omega arith) in let b = room (omega arith) in omega arith;
        bound = 17;
        edge = wide;
        onward = wide_on;
        leads = λ n l' more le top follow. by_first horizon W s (step t) n l' (over s.at (form.Paren f.grown.tree) f.grown.height 16)
            (subst (λ o. Leads horizon o (Ok (over s.at (form.Paren f.grown.tree) f.grown.height 16, step t))) (sym (inner_sign s opens f.begun (nest n) l'))
            (paren_leads s t n f.grown f.begun (part horizon W (r - 1) 1 e (step s) t f n 1 (λ p. let m = more p in omega arith) (omega arith) (omega arith) (behind W t sign.CloseParen 1 close (omega arith) refl)) (ap is_close_paren close)));
      }

  -- ---- the other postfix expressions
  postfix : (r l : ℕ) (a e : Ex) (s t u : State) (x : Grown → ExForm) → Room horizon r s → l ≤ 16 → (d : B.expr (r - 1) 16 a s t) → binds (look_at W t) ≡ 16 → wants (look_at W t) ≤ 16 →
      t.at + 1 ≤ u.at → node s.at (x (below (r - 1) 16 a s t d).grown) ≡ e →
      ((n : ℕ) (g : Grown) → longer (nest n) s.at g (look_at W t) W t ≡ Ok (over s.at (x g) g.height 16, u)) → FoundEx horizon W r l e s u
  postfix r l a e s t u x room low d is want up same read =
      let f = below (r - 1) 16 a s t d in
      grow r l 16 16 a e s t u f (x f.grown) f.grown.height 17 room low (omega arith) (omega arith) is (omega arith) want up same (omega arith)
      (λ lt. let y = f.small (omega arith) in omega arith) wide wide_on (λ n more follow. inl (read n f.grown))

  member_is : (t : State) (n : ℕ) (g : Grown) (at : ℕ) (q : Sign) → is_name (look_at W (step t)) ≡ true →
      member_of (nest n) at g q W t ≡ Ok (over at (member_form q g.tree (step t).at) g.height 16, step (step t))
  unfolding member_of
  member_is t n g at q named = ap (λ o. and_then W o (λ m. pure (over at (member_form q g.tree m.1) g.height 16))) (name_found W (step t) named)

  member : (r l : ℕ) (a : Ex) (s t : State) → Room horizon r s → l ≤ 16 → B.expr (r - 1) 16 a s t → look_at W t ≡ sign.Dot → is_name (look_at W (step t)) ≡ true →
      FoundEx horizon W r l (node s.at (form.Member a (step t).at)) s (step (step t))
  member r l a s t room low d dot named =
      let level : binds (look_at W t) ≡ 16 = ap binds dot in
      let want : wants (look_at W t) ≡ 16 = ap wants dot in
      postfix r l a _ s t (step (step t)) (λ g. form.Member g.tree (step t).at) room low d level (omega arith) (omega arith)
      (ap (λ x. node s.at (form.Member x (step t).at)) (below (r - 1) 16 a s t d).tree)
      (λ n g. longer_is t sign.Dot dot (nest n) s.at g ∙ member_is t n g s.at sign.Dot named)

  arrow : (r l : ℕ) (a : Ex) (s t : State) → Room horizon r s → l ≤ 16 → B.expr (r - 1) 16 a s t → look_at W t ≡ sign.Arrow → is_name (look_at W (step t)) ≡ true →
      FoundEx horizon W r l (node s.at (form.Arrow a (step t).at)) s (step (step t))
  arrow r l a s t room low d points named =
      let level : binds (look_at W t) ≡ 16 = ap binds points in
      let want : wants (look_at W t) ≡ 16 = ap wants points in
      postfix r l a _ s t (step (step t)) (λ g. form.Arrow g.tree (step t).at) room low d level (omega arith) (omega arith)
      (ap (λ x. node s.at (form.Arrow x (step t).at)) (below (r - 1) 16 a s t d).tree)
      (λ n g. longer_is t sign.Arrow points (nest n) s.at g ∙ member_is t n g s.at sign.Arrow named)

  increment : (r l : ℕ) (a : Ex) (s t : State) → Room horizon r s → l ≤ 16 → B.expr (r - 1) 16 a s t → look_at W t ≡ sign.Increment →
      FoundEx horizon W r l (node s.at (form.PostInc a)) s (step t)
  increment r l a s t room low d up =
      let level : binds (look_at W t) ≡ 16 = ap binds up in
      let want : wants (look_at W t) ≡ 16 = ap wants up in
      postfix r l a _ s t (step t) (λ g. form.PostInc g.tree) room low d level (omega arith) (omega arith)
      (ap (λ x. node s.at (form.PostInc x)) (below (r - 1) 16 a s t d).tree)
      (λ n g. longer_is t sign.Increment up (nest n) s.at g)

  decrement : (r l : ℕ) (a : Ex) (s t : State) → Room horizon r s → l ≤ 16 → B.expr (r - 1) 16 a s t → look_at W t ≡ sign.Decrement →
      FoundEx horizon W r l (node s.at (form.PostDec a)) s (step t)
  decrement r l a s t room low d down =
      let level : binds (look_at W t) ≡ 16 = ap binds down in
      let want : wants (look_at W t) ≡ 16 = ap wants down in
      postfix r l a _ s t (step t) (λ g. form.PostDec g.tree) room low d level (omega arith) (omega arith)
      (ap (λ x. node s.at (form.PostDec x)) (below (r - 1) 16 a s t d).tree)
      (λ n g. longer_is t sign.Decrement down (nest n) s.at g)

  -- ---- assignments, conditional expressions and commas
  assigned_leads : (s t u : State) (n : ℕ) (a g : Grown) → Leads horizon ((nest n).expr 2 W (step t)) (Ok (g, u)) →
      Leads horizon (assigned (nest n) s.at a W t) (Ok (over s.at (form.Assign t.at a.tree g.tree) (max a.height g.height) 2, u))
  unfolding assigned
  assigned_leads s t u n a g on = leads_on horizon W _ (Ok (g, u)) _ _ on (inl refl)

  assigned_by : (q : Sign) → binds q ≡ 2 → (sub : Nest) (at : ℕ) (a : Grown) → longer sub at a q ≡ assigned sub at a
  unfolding longer
  assigned_by sign.Equal e sub at a = refl
  assigned_by sign.AssignOp e sub at a = refl
  assigned_by _ e sub at a = absurd (cc)

  assign_wants : (q : Sign) → binds q ≡ 2 → wants q ≡ 15
  assign_wants sign.Equal e = refl
  assign_wants sign.AssignOp e = refl
  assign_wants _ e = absurd (cc)

  -- what wants so little is a comma, or no operator
  only_comma : (q : Sign) → wants q ≤ 3 → binds q < 2
  only_comma sign.Comma le = omega arith
  only_comma _ le = omega arith

  assignment : (r l : ℕ) (a b : Ex) (s t u : State) → Room horizon r s → l ≤ 2 → B.expr (r - 1) 15 a s t → binds (look_at W t) ≡ 2 → B.expr (r - 1) 2 b (step t) u →
      FoundEx horizon W r l (node s.at (form.Assign t.at a b)) s u
  assignment r l a b s t u room low d is d2 =
      let f = below (r - 1) 15 a s t d in
      let g = below (r - 1) 2 b (step t) u d2 in
      let up = g.forward in
      let want = assign_wants (look_at W t) is in
      grow r l 15 2 a _ s t u f (form.Assign t.at f.grown.tree g.grown.tree) (max f.grown.height g.grown.height) 2 room low (omega arith) (omega arith) is (omega arith) (omega arith) (omega arith)
      (ap (λ x. node s.at (form.Assign t.at x g.grown.tree)) f.tree ∙ ap (λ x. node s.at (form.Assign t.at a x)) g.tree) (omega arith)
      (λ lt. let x = f.small (omega arith) in let y = g.small (omega arith) in omega arith)
      (λ least le top q under. omega arith) (λ q le. only_comma q (omega arith))
      (λ n more follow. subst (λ (p : Parser Grown). Leads horizon (p W t) (Ok (over s.at (form.Assign t.at f.grown.tree g.grown.tree) (max f.grown.height g.grown.height) 2, u)))
      (sym (assigned_by (look_at W t) is (nest n) s.at f.grown))
      (assigned_leads s t u n f.grown g.grown (part horizon W (r - 1) 2 b (step t) u g n 2 (λ p. let m = more p in omega arith) (omega arith) (omega arith) follow)))

  followed_leads : (s t u : State) (n : ℕ) (a g : Grown) → Leads horizon ((nest n).expr 2 W (step t)) (Ok (g, u)) →
      Leads horizon (followed (nest n) s.at a W t) (Ok (over s.at (form.Comma a.tree g.tree) (max a.height g.height) 1, u))
  unfolding followed
  followed_leads s t u n a g on = leads_on horizon W _ (Ok (g, u)) _ _ on (inl refl)

  comma : (r l : ℕ) (a b : Ex) (s t u : State) → Room horizon r s → l ≤ 1 → B.expr (r - 1) 1 a s t → look_at W t ≡ sign.Comma → B.expr (r - 1) 2 b (step t) u →
      FoundEx horizon W r l (node s.at (form.Comma a b)) s u
  comma r l a b s t u room low d is d2 =
      let f = below (r - 1) 1 a s t d in
      let g = below (r - 1) 2 b (step t) u d2 in
      let up = g.forward in
      let level : binds (look_at W t) ≡ 1 = ap binds is in
      let want : wants (look_at W t) ≡ 1 = ap wants is in
      grow r l 1 1 a _ s t u f (form.Comma f.grown.tree g.grown.tree) (max f.grown.height g.grown.height) 2 room low (omega arith) (omega arith) level (omega arith) (omega arith) (omega arith)
      (ap (λ x. node s.at (form.Comma x g.grown.tree)) f.tree ∙ ap (λ x. node s.at (form.Comma a x)) g.tree) (omega arith)
      (λ lt. let x = f.small (omega arith) in let y = g.small (omega arith) in omega arith)
      (λ least le top q under. omega arith) (λ q le. only_comma q (omega arith))
      (λ n more follow. subst (λ o. Leads horizon o (Ok (over s.at (form.Comma f.grown.tree g.grown.tree) (max f.grown.height g.grown.height) 1, u)))
      (sym (longer_is t sign.Comma is (nest n) s.at f.grown))
      (followed_leads s t u n f.grown g.grown (part horizon W (r - 1) 2 b (step t) u g n 2 (λ p. let m = more p in omega arith) (omega arith) (omega arith) follow)))

  otherwise_leads : (s u v : State) (n : ℕ) (a b c : Grown) → is_colon (look_at W u) ≡ true → Leads horizon ((nest n).expr 3 W (step u)) (Ok (c, v)) →
      Leads horizon (otherwise (nest n) s.at a b W u) (Ok (over s.at (form.Cond a.tree b.tree c.tree) (max a.height (max b.height c.height)) 3, v))
  unfolding otherwise
  otherwise_leads s u v n a b c colon on =
      subst (λ o. Leads horizon (and_then W o (λ _. (nest n).expr 3 >>= (λ c. pure (over s.at (form.Cond a.tree b.tree c.tree) (max a.height (max b.height c.height)) 3))))
      (Ok (over s.at (form.Cond a.tree b.tree c.tree) (max a.height (max b.height c.height)) 3, v))) (sym (expect_found is_colon W u colon))
      (leads_on horizon W _ (Ok (c, v)) _ _ on (inl refl))

  conditional_leads : (s t u v : State) (n : ℕ) (a b c : Grown) → Leads horizon ((nest n).expr 1 W (step t)) (Ok (b, u)) → is_colon (look_at W u) ≡ true →
      Leads horizon ((nest n).expr 3 W (step u)) (Ok (c, v)) →
      Leads horizon (conditional (nest n) s.at a W t) (Ok (over s.at (form.Cond a.tree b.tree c.tree) (max a.height (max b.height c.height)) 3, v))
  unfolding conditional
  conditional_leads s t u v n a b c on colon next = leads_on horizon W _ (Ok (b, u)) _ _ on (otherwise_leads s u v n a b c colon next)

  conditional_found : (r l : ℕ) (a b c : Ex) (s t u v : State) → Room horizon r s → l ≤ 3 → B.expr (r - 1) 4 a s t → look_at W t ≡ sign.Question → B.expr (r - 1) 1 b (step t) u →
      look_at W u ≡ sign.Colon → B.expr (r - 1) 3 c (step u) v → FoundEx horizon W r l (node s.at (form.Cond a b c)) s v
  conditional_found r l a b c s t u v room low d asks d2 colon d3 =
      let f = below (r - 1) 4 a s t d in
      let g = below (r - 1) 1 b (step t) u d2 in
      let k = below (r - 1) 3 c (step u) v d3 in
      let up = g.forward in
      let up2 = k.forward in
      let level : binds (look_at W t) ≡ 3 = ap binds asks in
      let want : wants (look_at W t) ≡ 4 = ap wants asks in
      let ends : binds (look_at W u) ≡ 0 = ap binds colon in
      grow r l 4 3 a _ s t v f (form.Cond f.grown.tree g.grown.tree k.grown.tree) (max f.grown.height (max g.grown.height k.grown.height)) 3 room low (omega arith) (omega arith) level (omega arith) (omega arith) (omega arith)
      (ap (λ x. node s.at (form.Cond x g.grown.tree k.grown.tree)) f.tree ∙ ap (λ x. node s.at (form.Cond a x k.grown.tree)) g.tree ∙ ap (λ x. node s.at (form.Cond a b x)) k.tree) (omega arith)
      (λ lt. let x = f.small (omega arith) in let y = g.small (omega arith) in let z = k.small lt in omega arith)
      (λ least le top q under. omega arith) (λ q le. let m = only_comma q le in omega arith)
      (λ n more follow. subst (λ o. Leads horizon o (Ok (over s.at (form.Cond f.grown.tree g.grown.tree k.grown.tree) (max f.grown.height (max g.grown.height k.grown.height)) 3, v)))
      (sym (longer_is t sign.Question asks (nest n) s.at f.grown))
      (conditional_leads s t u v n f.grown g.grown k.grown (part horizon W (r - 1) 1 b (step t) u g n 1 (λ p. let m = more p in omega arith) (omega arith) (omega arith) (behind W u sign.Colon 1 colon (omega arith) refl)) (ap is_colon colon)
      (part horizon W (r - 1) 3 c (step u) v k n 3 (λ p. let m = more p in omega arith) (omega arith) (omega arith) follow)))

  -- ---- string literals
  strings_found : (n : ℕ) (s t : State) → Strings horizon W B n s t → is_str (look_at W t) ≡ false → (k : ℕ) → most_words ≤ k + s.at →
      (xs : List (Unit {0})) × (length xs ≡ n) × (s.at ≤ t.at) × (many_from is_str skip k W s ≡ Ok (xs, t))
  unfolding many_from
  strings_found n s t (exp.no_string _) last zero turns = ([], refl, omega arith, refl)
  strings_found n s t (exp.no_string _) last (suc k) turns =
      ([], refl, omega arith, ap (λ b. if_so b (skip >>= (λ x. many_from is_str skip k >>= (λ rest. pure (x ∷ rest)))) (pure []) W s) last)
  strings_found n s t (exp.string m _ _ one more) last zero turns = absurd (not_past W ends is_str refl s (ap is_str one) (omega arith))
  strings_found n s t (exp.string m _ _ one more) last (suc k) turns =
      let rest = strings_found m (step s) t more last k (omega arith) in
      let up = rest.2 in (
        tt ∷ rest.0,
        ap suc rest.1,
        omega arith,
        ap (λ b. if_so b (skip >>= (λ x. many_from is_str skip k >>= (λ rest. pure (x ∷ rest)))) (pure []) W s) (ap is_str one)
            ∙ ap (λ o. and_then W o (λ rest. pure (tt ∷ rest))) rest.3,
      )

  string_found : (n : ℕ) (s t : State) → Strings horizon W B n (step s) t → is_str (look_at W t) ≡ false → string s.at W s ≡ Ok (leaf s.at (form.Str (suc n)), t)
  unfolding string strings many
  string_found n s t all last =
      let rest = strings_found n (step s) t all last (most_words - suc s.at) (omega arith) in
      ap (λ o. and_then W (and_then W o (λ more. pure (length more))) (λ more. pure (leaf s.at (form.Str (suc more))))) rest.3
      ∙ ap (λ (k : ℕ). Ok (leaf s.at (form.Str (suc k)), t)) rest.1

  -- ---- casts
  closed_is : (x : Measured Param) (q : Sign) → is_brace q ≡ false → (sub : Nest) → closed_by sub x q ≡ pure x
  unfolding is_brace
  closed_is x sign.OpenBrace e sub = absurd (cc)
  closed_is x _ e sub = refl

  closed_leads : (s t : State) (n : ℕ) (g : Measured Param) → Leads horizon (type_name (nest n) W s) (Ok (g, t)) → is_close_paren (look_at W t) ≡ true → is_brace (look_at W (step t)) ≡ false →
      Leads horizon (closed_type (nest n) W s) (Ok (g, step t))
  unfolding closed_type
  closed_leads s t n g on close none = leads_on horizon W _ (Ok (g, t)) _ _ on
      (inl (ap (λ o. and_then W o (λ _. look (closed_by (nest n) g))) (expect_found is_close_paren W t close) ∙ ap (λ (p : Parser (Measured Param)). p W (step t)) (closed_is g (look_at W (step t)) none (nest n))))

  cast_leads : (s t u : State) (n : ℕ) (x : Measured Param) (g : Grown) → Leads horizon (closed_type (nest n) W (step s)) (Ok (x, t)) → Leads horizon ((nest n).expr 14 W t) (Ok (g, u)) →
      Leads horizon (cast_rest (nest n) s.at W (step s)) (Ok (over s.at (form.Cast x.tree g.tree) (max x.height g.height) 14, u))
  unfolding cast_rest
  cast_leads s t u n x g on next = leads_on horizon W _ (Ok (x, t)) _ _ on (leads_on horizon W _ (Ok (g, u)) _ _ next (inl refl))

  cast_sign : (s : State) → look_at W s ≡ sign.OpenParen → qualifies false (look_at W (step s)) ≡ true → (sub : Nest) (l' : ℕ) → l' ≤ 14 → first sub l' W s ≡ cast_rest sub s.at W (step s)
  unfolding open_rest
  cast_sign s opens type sub l' le = first_is horizon W s sign.OpenParen opens sub l'
      ∙ ap (λ b. if_so b (if_so (nat_le l' 14) (cast_rest sub s.at) refuse) (paren_rest sub s.at) W (step s)) type
      ∙ ap (λ b. if_so b (cast_rest sub s.at) refuse W (step s)) (let e : nat_le l' 14 ≡ true = grind (arith, nat_tests) in e)

  type_begins : (q : Sign) → qualifies false q ≡ true → begins_expression q ≡ false
  type_begins sign.Qualifier e = refl
  type_begins sign.TypeWord e = refl
  type_begins sign.Struct e = refl
  type_begins sign.Union e = refl
  type_begins sign.Enum e = refl
  type_begins sign.TypeName e = refl
  type_begins _ e = absurd (cc)

  cast_front : (s t : State) → look_at W s ≡ sign.OpenParen → qualifies false (look_at W (step s)) ≡ true → Front W s t 14
  cast_front s t e type = record {
    typed = λ o _. omega arith;
    opens = λ o no. absurd (cc);
    named = λ o. let x : sign.OpenParen ≡ sign.Name = sym e ∙ o in absurd (cc);
    starred = λ o. let x : sign.OpenParen ≡ sign.Star = sym e ∙ o in absurd (cc);
  }

  cast_onward : (q : Sign) → wants q ≤ 14 → binds q < 14
  cast_onward sign.OpenParen le = absurd (omega arith)
  cast_onward sign.OpenBracket le = absurd (omega arith)
  cast_onward sign.Dot le = absurd (omega arith)
  cast_onward sign.Arrow le = absurd (omega arith)
  cast_onward sign.Increment le = absurd (omega arith)
  cast_onward sign.Decrement le = absurd (omega arith)
  cast_onward _ le = omega arith

  cast : (r l : ℕ) (x : Param) (e : Ex) (s t u : State) → Room horizon r s → l ≤ 14 → look_at W s ≡ sign.OpenParen → TypeName horizon W B (r - 1) x (step s) t → look_at W t ≡ sign.CloseParen →
      B.expr (r - 1) 14 e (step t) u → FoundEx horizon W r l (node s.at (form.Cast x e)) s u
  cast r l x e s t u room low opens type close d =
      let y = types (r - 1) x (step s) t type in
      let g = below (r - 1) 14 e (step t) u d in
      let up = y.forward in
      let up2 = g.forward in
      record {
        grown = over s.at (form.Cast y.measured.tree g.grown.tree) (max y.measured.height g.grown.height) 14;
        front = cast_front s u opens y.begun;
        tree = ap (λ z. node s.at (form.Cast z g.grown.tree)) y.tree ∙ ap (λ z. node s.at (form.Cast x z)) g.tree;
        least = low;
        top = omega arith;
        forward = omega arith;
        begun = ap begins_expression opens;
        roomy = room;
        small = λ lt. let a = y.small (omega arith) in let b = g.small lt in let c = room (omega arith) in omega arith;
        bound = 14;
        edge = λ least le top q under. omega arith;
        onward = cast_onward;
        leads = λ n l' more le top follow. by_first horizon W s u n l' (over s.at (form.Cast y.measured.tree g.grown.tree) (max y.measured.height g.grown.height) 14)
            (subst (λ o. Leads horizon o (Ok (over s.at (form.Cast y.measured.tree g.grown.tree) (max y.measured.height g.grown.height) 14, u))) (sym (cast_sign s opens y.begun (nest n) l' le))
            (cast_leads s (step t) u n y.measured g.grown
            (closed_leads (step s) t n y.measured (y.leads n (λ p. let m = more p in omega arith) close) (ap is_close_paren close) (begins_no_brace (look_at W (step t)) g.begun))
            (part horizon W (r - 1) 14 e (step t) u g n 14 (λ p. let m = more p in omega arith) (omega arith) (omega arith) follow)));
      }

  -- ---- sizes
  after_open_is : (s : State) (n : ℕ) → look_at W s ≡ sign.OpenParen → begins_expression (look_at W (step s)) ≡ true → after_open (nest n) (suc n) s.at W (step s) ≡ expression (nest n) (suc n) 15 W s
  unfolding after_open expression
  after_open_is s n opens begun = ap (λ o. and_then W o (climb (nest n) (suc n) 15 (suc n) s.at)) (sym (inner_sign s opens begun (nest n) 15))

  opened_deep : (s : State) → begins_expression (look_at W s) ≡ true → opened_by (look_at W s) W s ≡ Err (too_deep s.at)
  unfolding no_room
  opened_deep s e = opened_is (look_at W s) e ∙ no_room_begun W s e
    where
      opened_is : (q : Sign) → begins_expression q ≡ true → opened_by q W s ≡ no_room (begins_expression q) W s
      opened_is sign.OpenBrace e = absurd (cc)
      opened_is _ e = refl

  -- an operand of `sizeof` in brackets, behind the first of them
  opened_part : (r l : ℕ) (e : Ex) (s t : State) (f : FoundEx horizon W r l e s t) (n : ℕ) → (0 < horizon → r ≤ n) → 15 ≤ l → Behind W t 15 → look_at W s ≡ sign.OpenParen →
      qualifies false (look_at W (step s)) ≡ false → Leads horizon ((nest n).opened s.at W (step s)) (Ok (f.grown, t))
  unfolding nest
  opened_part r l e s t f zero more le follow opens type = inr (suc s.at, opened_deep (step s) (f.front.opens opens type), late)
    where
      late : horizon ≤ suc s.at
      late = let x = f.roomy in grind arith
  opened_part r l e s t f (suc n) more le follow opens type =
      subst (λ o. Leads horizon o (Ok (f.grown, t))) (sym (after_open_is s n opens (f.front.opens opens type)))
      (leads_trans horizon _ _ _ (f.leads n 15 more (let x = f.least in omega arith) (omega arith) (f.edge 15 (let x = f.least in omega arith) (omega arith) (look_at W t) follow.0, follow.1))
      (inl (climb_stops (nest n) (suc n) 15 (suc n) s.at f.grown W t follow.0)))

  size_expr_leads : (s t : State) (o : Outcome Grown) (n : ℕ) (g : Grown) → Leads horizon o (Ok (g, t)) →
      Leads horizon (and_then W o (size_of_expr (nest n) s.at)) (Ok (over s.at (form.SizeofEx g.tree) g.height 15, t))
  size_expr_leads s t o n g on = leads_on horizon W o (Ok (g, t)) _ _ on (inl refl)

  size_is : (s : State) (q : Sign) → look_at W (step s) ≡ q → look_at W s ≡ sign.Sizeof → (sub : Nest) (l' : ℕ) → first sub l' W s ≡ sizeof_by sub s.at q W (step s)
  unfolding size_of
  size_is s q e size sub l' = first_is horizon W s sign.Sizeof size sub l' ∙ ap (λ q. sizeof_by sub s.at q W (step s)) e

  size_open_is : (s : State) (b : Bool) → qualifies false (look_at W (step (step s))) ≡ b → (sub : Nest) → size_open sub s.at (suc s.at) W (step (step s))
      ≡ if_so b (closed_type sub >>= (λ t. pure (over s.at (form.SizeofType t.tree) t.height 15))) (sub.opened (suc s.at) >>= size_of_expr sub s.at) W (step (step s))
  unfolding size_open
  size_open_is s b e sub = ap (λ b. if_so b (closed_type sub >>= (λ t. pure (over s.at (form.SizeofType t.tree) t.height 15))) (sub.opened (suc s.at) >>= size_of_expr sub s.at) W (step (step s))) e

  size_front : (s t : State) → look_at W s ≡ sign.Sizeof → Front W s t 15
  unfolding is_plain
  size_front s t e = plain_front W s t 15 sign.Sizeof e refl

  prefix_onward : (q : Sign) → wants q ≤ 15 → binds q < 14
  prefix_onward sign.OpenParen le = absurd (omega arith)
  prefix_onward sign.OpenBracket le = absurd (omega arith)
  prefix_onward sign.Dot le = absurd (omega arith)
  prefix_onward sign.Arrow le = absurd (omega arith)
  prefix_onward sign.Increment le = absurd (omega arith)
  prefix_onward sign.Decrement le = absurd (omega arith)
  prefix_onward _ le = omega arith

  size_of_expression : (r l : ℕ) (e : Ex) (s t : State) → Room horizon r s → l ≤ 15 → look_at W s ≡ sign.Sizeof → B.expr (r - 1) 15 e (step s) t → FoundEx horizon W r l (node s.at (form.SizeofEx e)) s t
  size_of_expression r l e s t room low size d =
      let f = below (r - 1) 15 e (step s) t d in
      let up = f.forward in
      record {
        grown = over s.at (form.SizeofEx f.grown.tree) f.grown.height 15;
        front = size_front s t size;
        tree = ap (λ x. node s.at (form.SizeofEx x)) f.tree;
        least = low;
        top = omega arith;
        forward = omega arith;
        begun = ap begins_expression size;
        roomy = room;
        small = λ lt. let a = f.small lt in let b = room (omega arith) in omega arith;
        bound = 14;
        edge = λ least le top q under. gap q (omega arith);
        onward = prefix_onward;
        leads = λ n l' more le top follow. by_first horizon W s t n l' (over s.at (form.SizeofEx f.grown.tree) f.grown.height 15)
            (by f n l' (λ p. let m = more p in omega arith) (let b = follow.0 in omega arith, follow.1) (look_at W (step s)) refl (qualifies false (look_at W (step (step s)))) refl);
      }
    where
      by : (f : FoundEx horizon W (r - 1) 15 e (step s) t) (n l' : ℕ) → (0 < horizon → r - 1 ≤ n) → Behind W t 15 → (q : Sign) → look_at W (step s) ≡ q → (b : Bool) → qualifies false (look_at W (step (step s))) ≡ b →
          Leads horizon (first (nest n) l' W s) (Ok (over s.at (form.SizeofEx f.grown.tree) f.grown.height 15, t))
      by f n l' more follow sign.OpenParen o true type = absurd (let a = f.front.typed o type in let b = f.least in omega arith)
      by f n l' more follow sign.OpenParen o false type = subst (λ o. Leads horizon o (Ok (over s.at (form.SizeofEx f.grown.tree) f.grown.height 15, t)))
          (sym (size_is s sign.OpenParen o size (nest n) l' ∙ size_open_is s false type (nest n)))
          (size_expr_leads s t ((nest n).opened (suc s.at) W (step (step s))) n f.grown (opened_part (r - 1) 15 e (step s) t f n more (omega arith) follow o type))
      by f n l' more follow _ o b type = subst (λ o. Leads horizon o (Ok (over s.at (form.SizeofEx f.grown.tree) f.grown.height 15, t))) (sym (size_is s _ o size (nest n) l'))
          (size_expr_leads s t ((nest n).expr 15 W (step s)) n f.grown (part horizon W (r - 1) 15 e (step s) t f n 15 more (omega arith) (omega arith) follow))

  size_type_leads : (s t : State) (n : ℕ) (g : Measured Param) → Leads horizon (closed_type (nest n) W (step (step s))) (Ok (g, t)) →
      Leads horizon (and_then W (closed_type (nest n) W (step (step s))) (λ t. pure (over s.at (form.SizeofType t.tree) t.height 15))) (Ok (over s.at (form.SizeofType g.tree) g.height 15, t))
  size_type_leads s t n g on = leads_on horizon W _ (Ok (g, t)) _ _ on (inl refl)

  size_of_type : (r l : ℕ) (x : Param) (s t : State) → Room horizon r s → l ≤ 15 → look_at W s ≡ sign.Sizeof → look_at W (step s) ≡ sign.OpenParen →
      TypeName horizon W B (r - 1) x (step (step s)) t → look_at W t ≡ sign.CloseParen → FoundEx horizon W r l (node s.at (form.SizeofType x)) s (step t)
  size_of_type r l x s t room low size opens type close =
      let y = types (r - 1) x (step (step s)) t type in
      let up = y.forward in
      record {
        grown = over s.at (form.SizeofType y.measured.tree) y.measured.height 15;
        front = size_front s (step t) size;
        tree = ap (λ z. node s.at (form.SizeofType z)) y.tree;
        least = low;
        top = omega arith;
        forward = omega arith;
        begun = ap begins_expression size;
        roomy = room;
        small = λ lt. let a = y.small (omega arith) in let b = room (omega arith) in omega arith;
        bound = 14;
        edge = λ least le top q under. gap q (omega arith);
        onward = prefix_onward;
        leads = λ n l' more le top follow. by_first horizon W s (step t) n l' (over s.at (form.SizeofType y.measured.tree) y.measured.height 15)
            (subst (λ o. Leads horizon o (Ok (over s.at (form.SizeofType y.measured.tree) y.measured.height 15, step t)))
            (sym (size_is s sign.OpenParen opens size (nest n) l' ∙ size_open_is s true y.begun (nest n)))
            (size_type_leads s (step t) n y.measured
            (closed_leads (step (step s)) t n y.measured (y.leads n (λ p. let m = more p in omega arith) close) (ap is_close_paren close) (apart_no_brace (look_at W (step t)) follow.1))));
      }

  string_literal : (r l n : ℕ) (s t : State) → Room horizon r s → l ≤ 16 → Strings horizon W B (suc n) s t → FoundEx horizon W r l (node s.at (form.Str (suc n))) s t
  unfolding is_plain
  string_literal r l n s t room low (exp.string _ _ _ one more) =
      primary horizon W r l (form.Str (suc n)) s t (plain_front W s t 16 sign.Str one refl) room low (let up = strings_up n (step s) t more in omega arith) (ap begins_expression one)
      (λ k l' apart. inl (first_is horizon W s sign.Str one (nest k) l' ∙ string_found n s t more (no_literal (look_at W t) apart)))
    where
      strings_up : (n : ℕ) (s t : State) → Strings horizon W B n s t → s.at ≤ t.at
      strings_up n s t (exp.no_string _) = omega arith
      strings_up n s t (exp.string m _ _ one more) = let up = strings_up m (step s) t more in omega arith

  -- ---- calls
  -- a list of arguments: its first, and what stands behind it
  record FoundArguments (r : ℕ) (all : List Ex) (s t : State) : Type 0 where
    first : Measured Ex
    rest : List (Measured Ex)
    between : State
    tree : first.tree ∷ trees rest ≡ all
    forward : s.at + 1 ≤ between.at
    onward : between.at ≤ t.at
    begun : begins_expression (look_at W s) ≡ true
    small : t.at < horizon → max first.height (deepest rest) ≤ r
    one : (n : ℕ) → (0 < horizon → r ≤ n) → look_at W t ≡ sign.CloseParen → Leads horizon (argument (nest n) W s) (Ok (first, between))
    others : (n k : ℕ) → (0 < horizon → r ≤ n) → most_words ≤ k + between.at → look_at W t ≡ sign.CloseParen →
        Leads horizon (many_from is_comma (skip >> argument (nest n)) k W between) (Ok (rest, t))

  argument_leads : (s t : State) (n : ℕ) (g : Grown) → Leads horizon ((nest n).expr 2 W s) (Ok (g, t)) → Leads horizon (argument (nest n) W s) (Ok (record { tree = g.tree; height = g.height }, t))
  unfolding argument
  argument_leads s t n g on = leads_on horizon W _ (Ok (g, t)) _ _ on (inl refl)

  arguments_found : (r : ℕ) (all : List Ex) (s t : State) → Arguments horizon W B r all s t → FoundArguments r all s t
  unfolding many_from
  arguments_found r all s t (exp.last_argument x _ _ d) =
      let f = below r 2 x s t d in
      record {
        first = record { tree = f.grown.tree; height = f.grown.height };
        rest = [];
        between = t;
        tree = ap (λ z. z ∷ []) f.tree;
        forward = f.forward;
        onward = omega arith;
        begun = f.begun;
        small = λ lt. let a = f.small lt in omega arith;
        one = λ n more close. argument_leads s t n f.grown (part horizon W r 2 x s t f n 2 more (omega arith) (omega arith) (behind W t sign.CloseParen 2 close (omega arith) refl));
        others = λ n k more turns close. inl (none_more n k close);
      }
    where
      none_more : (n k : ℕ) → look_at W t ≡ sign.CloseParen → many_from is_comma (skip >> argument (nest n)) k W t ≡ Ok ([], t)
      none_more n zero close = refl
      none_more n (suc k) close = ap (λ q. if_so (is_comma q) ((skip >> argument (nest n)) >>= (λ x. many_from is_comma (skip >> argument (nest n)) k >>= (λ rest. pure (x ∷ rest)))) (pure []) W t) close
  arguments_found r all s t (exp.argument_and_more x more _ u _ d comma next) =
      let f = below r 2 x s u d in
      let g = arguments_found r more (step u) t next in
      let up = f.forward in
      let up2 = g.forward in
      let up3 = g.onward in
      record {
        first = record { tree = f.grown.tree; height = f.grown.height };
        rest = g.first ∷ g.rest;
        between = u;
        tree = ap (λ z. z ∷ g.first.tree ∷ trees g.rest) f.tree ∙ ap (λ zs. x ∷ zs) g.tree;
        forward = up;
        onward = omega arith;
        begun = f.begun;
        small = λ lt. let a = f.small (omega arith) in let b = g.small lt in omega arith;
        one = λ n room close. argument_leads s u n f.grown (part horizon W r 2 x s u f n 2 room (omega arith) (omega arith) (behind W u sign.Comma 2 comma (omega arith) refl));
        others = λ n k room turns close. one_more g n k room turns close;
      }
    where
      one_more : (g : FoundArguments r more (step u) t) (n k : ℕ) → (0 < horizon → r ≤ n) → most_words ≤ k + u.at → look_at W t ≡ sign.CloseParen →
          Leads horizon (many_from is_comma (skip >> argument (nest n)) k W u) (Ok (g.first ∷ g.rest, t))
      one_more g n zero room turns close = absurd (not_past W ends is_comma refl u (ap is_comma comma) (omega arith))
      one_more g n (suc k) room turns close =
          subst (λ b. Leads horizon (if_so b ((skip >> argument (nest n)) >>= (λ x. many_from is_comma (skip >> argument (nest n)) k >>= (λ rest. pure (x ∷ rest)))) (pure []) W u) (Ok (g.first ∷ g.rest, t)))
          (sym (ap is_comma comma))
          (leads_on horizon W (argument (nest n) W (step u)) (Ok (g.first, g.between)) _ _ (g.one n room close)
          (leads_on horizon W (many_from is_comma (skip >> argument (nest n)) k W g.between) (Ok (g.rest, t)) _ _ (g.others n k room (let up = g.forward in omega arith) close) (inl refl)))

  called_leads : (s t u : State) (n : ℕ) (a : Grown) (first : Measured Ex) (rest : List (Measured Ex)) →
      Leads horizon (arguments (nest n) W (step t)) (Ok (record { tree = first.tree ∷ trees rest; height = max first.height (deepest rest) }, u)) → is_close_paren (look_at W u) ≡ true →
      Leads horizon (called (nest n) s.at a W t) (Ok (over s.at (form.Call a.tree (first.tree ∷ trees rest)) (max a.height (max first.height (deepest rest))) 16, step u))
  unfolding called
  called_leads s t u n a first rest on close = leads_on horizon W _ (Ok (record { tree = first.tree ∷ trees rest; height = max first.height (deepest rest) }, u)) _ _ on
      (inl (ap (λ o. and_then W o (λ _. pure (over s.at (form.Call a.tree (first.tree ∷ trees rest)) (max a.height (max first.height (deepest rest))) 16))) (expect_found is_close_paren W u close)))

  listed_is : (q : Sign) → begins_expression q ≡ true → (sub : Nest) → arguments_by sub q ≡ separated is_comma (argument sub)
  listed_is sign.CloseParen e sub = absurd (cc)
  listed_is _ e sub = refl

  arguments_leads : (t u : State) (n : ℕ) (first : Measured Ex) (rest : List (Measured Ex)) → begins_expression (look_at W t) ≡ true →
      Leads horizon (separated is_comma (argument (nest n)) W t) (Ok (first ∷ rest, u)) →
      Leads horizon (arguments (nest n) W t) (Ok (record { tree = first.tree ∷ trees rest; height = max first.height (deepest rest) }, u))
  unfolding arguments
  arguments_leads t u n first rest begun on = leads_on horizon W (look (arguments_by (nest n)) W t) (Ok (first ∷ rest, u)) _ _
      (subst (λ (p : Parser (List (Measured Ex))). Leads horizon (p W t) (Ok (first ∷ rest, u))) (sym (listed_is (look_at W t) begun (nest n))) on) (inl refl)

  separated_leads : (r : ℕ) (all : List Ex) (s t : State) (f : FoundArguments r all s t) (n : ℕ) → (0 < horizon → r ≤ n) → look_at W t ≡ sign.CloseParen →
      Leads horizon (separated is_comma (argument (nest n)) W s) (Ok (f.first ∷ f.rest, t))
  unfolding separated many
  separated_leads r all s t f n more close = leads_on horizon W (argument (nest n) W s) (Ok (f.first, f.between)) _ _ (f.one n more close)
      (leads_on horizon W (many_from is_comma (skip >> argument (nest n)) (most_words - f.between.at) W f.between) (Ok (f.rest, t)) _ _
      (f.others n (most_words - f.between.at) more (omega arith) close) (inl refl))

  call : (r l : ℕ) (a : Ex) (all : List Ex) (s t u : State) → Room horizon r s → l ≤ 16 → B.expr (r - 1) 16 a s t → look_at W t ≡ sign.OpenParen → Arguments horizon W B (r - 1) all (step t) u →
      look_at W u ≡ sign.CloseParen → FoundEx horizon W r l (node s.at (form.Call a all)) s (step u)
  call r l a all s t u room low d opens args close =
      let f = below (r - 1) 16 a s t d in
      let g = arguments_found (r - 1) all (step t) u args in
      let up = g.forward in
      let up2 = g.onward in
      let level : binds (look_at W t) ≡ 16 = ap binds opens in
      let want : wants (look_at W t) ≡ 16 = ap wants opens in
      grow r l 16 16 a _ s t (step u) f (form.Call f.grown.tree (g.first.tree ∷ trees g.rest)) (max f.grown.height (max g.first.height (deepest g.rest))) 17 room low (omega arith) (omega arith) level (omega arith) (omega arith) (omega arith)
      (ap (λ x. node s.at (form.Call x (g.first.tree ∷ trees g.rest))) f.tree ∙ ap (λ xs. node s.at (form.Call a xs)) g.tree) (omega arith)
      (λ lt. let x = f.small (omega arith) in let y = g.small (omega arith) in omega arith) wide wide_on
      (λ n more follow. subst (λ o. Leads horizon o (Ok (over s.at (form.Call f.grown.tree (g.first.tree ∷ trees g.rest)) (max f.grown.height (max g.first.height (deepest g.rest))) 16, step u)))
      (sym (longer_is t sign.OpenParen opens (nest n) s.at f.grown))
      (called_leads s t u n f.grown g.first g.rest
      (arguments_leads (step t) u n g.first g.rest g.begun (separated_leads (r - 1) all (step t) u g n (λ p. let m = more p in omega arith) close)) (ap is_close_paren close)))

  called_none : (s t : State) (n : ℕ) (g : Grown) → look_at W (step t) ≡ sign.CloseParen → called (nest n) s.at g W t ≡ Ok (over s.at (form.Call g.tree []) (max g.height 0) 16, step (step t))
  unfolding called arguments
  called_none s t n g close = ap (λ q. and_then W (and_then W (arguments_by (nest n) q W (step t)) (λ xs. pure (record { tree = trees xs; height = deepest xs })))
      (λ (args : Measured (List Ex)). expect is_close_paren >> pure (over s.at (form.Call g.tree args.tree) (max g.height args.height) 16))) close
      ∙ ap (λ o. and_then W o (λ _. pure (over s.at (form.Call g.tree []) (max g.height 0) 16))) (expect_found is_close_paren W (step t) (ap is_close_paren close))

  call_of_none : (r l : ℕ) (a : Ex) (s t : State) → Room horizon r s → l ≤ 16 → B.expr (r - 1) 16 a s t → look_at W t ≡ sign.OpenParen → look_at W (step t) ≡ sign.CloseParen →
      FoundEx horizon W r l (node s.at (form.Call a [])) s (step (step t))
  call_of_none r l a s t room low d opens close =
      let level : binds (look_at W t) ≡ 16 = ap binds opens in
      let want : wants (look_at W t) ≡ 16 = ap wants opens in
      let f = below (r - 1) 16 a s t d in
      grow r l 16 16 a _ s t (step (step t)) f (form.Call f.grown.tree []) (max f.grown.height 0) 17 room low (omega arith) (omega arith) level (omega arith) (omega arith) (omega arith)
      (ap (λ x. node s.at (form.Call x [])) f.tree) (omega arith) (λ lt. let y = f.small (omega arith) in omega arith) wide wide_on
      (λ n more follow. inl (longer_is t sign.OpenParen opens (nest n) s.at f.grown ∙ none_called n f.grown))
    where
      none_called : (n : ℕ) (g : Grown) → called (nest n) s.at g W t ≡ Ok (over s.at (form.Call g.tree []) (max g.height 0) 16, step (step t))
      none_called n g = called_none s t n g close

  pub expression_found : (r l : ℕ) (e : Ex) (s t : State) → ExpressionIs horizon W B r l e s t → FoundEx horizon W r l e s t
  expression_found r l e s t (exp.identifier _ _ room low k) = identifier r l s room low k
  expression_found r l e s t (exp.integer _ _ room low k) = integer r l s room low k
  expression_found r l e s t (exp.floating _ _ room low k) = floating r l s room low k
  expression_found r l e s t (exp.character _ _ room low k) = character r l s room low k
  expression_found r l e s t (exp.string_literal _ n _ _ room low all) = string_literal r l n s t room low all
  expression_found r l e s t (exp.bracketed _ a _ u room low k d c) = bracketed r l a s u room low k d c
  expression_found r l e s t (exp.subscript _ a b _ u v room low d k d2 c) = subscript r l a b s u v room low d k d2 c
  expression_found r l e s t (exp.call_of_none _ a _ u room low d k c) = call_of_none r l a s u room low d k c
  expression_found r l e s t (exp.call _ a all _ u v room low d k d2 c) = call r l a all s u v room low d k d2 c
  expression_found r l e s t (exp.member _ a _ u room low d k c) = member r l a s u room low d k c
  expression_found r l e s t (exp.arrow _ a _ u room low d k c) = arrow r l a s u room low d k c
  expression_found r l e s t (exp.increment _ a _ u room low d k) = increment r l a s u room low d k
  expression_found r l e s t (exp.decrement _ a _ u room low d k) = decrement r l a s u room low d k
  expression_found r l e s t (exp.step_before _ a _ _ room low k d) = step_before r l a s t room low k d
  expression_found r l e s t (exp.unary _ a _ _ room low k d) = unary_before r l a s t room low k d
  expression_found r l e s t (exp.size_of_expression _ a _ _ room low k d) = size_of_expression r l a s t room low k d
  expression_found r l e s t (exp.size_of_type _ x _ u room low k o d c) = size_of_type r l x s u room low k o d c
  expression_found r l e s t (exp.cast _ x a _ u _ room low k d c d2) = cast r l x a s u t room low k d c d2
  expression_found r l e s t (exp.binary _ a b _ u _ room from to low d d2) = binary r l a b s u t room from to low d d2
  expression_found r l e s t (exp.conditional _ a b c _ u v _ room low d k d2 o d3) = conditional_found r l a b c s u v t room low d k d2 o d3
  expression_found r l e s t (exp.assignment _ a b _ u _ room low d k d2) = assignment r l a b s u t room low d k d2
  expression_found r l e s t (exp.comma _ a b _ u _ room low d k d2) = comma r l a b s u t room low d k d2

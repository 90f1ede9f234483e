-- What the parsers of so much room read is nested no deeper.
use Rattle.std.proofs.Common.{◌≡◌, ℕ, zero, suc, ◌≤◌, ◌-◌, ◌||◌, max, nat_lt, nat_le, is_some, Bool, true, false, List, [], ◌∷◌, Option, Some, None, Ok, Err, refl, arith}
use Rattle.std.proofs.lemmas.Bool.{ltb-true}
use Rattle.c_tree.specs.declared.tree.Param.{Param}
use Rattle.c_tree.specs.declared.tree.ExForm.{ExForm}
use Rattle.c_tree.specs.declared.tree.ExForm.TheVariants as form
use Rattle.c_tree.specs.declared.tree.DeclForm.TheVariants as decl
use Rattle.c_expressions.specs.declared.grown.Grown.{Grown}
use Rattle.c_expressions.specs.declared.grown.Specs.{Specs}
use Rattle.c_expressions.specs.declared.grown.Declares.{Declares}
use Rattle.c_expressions.specs.declared.grown.Mode.{Mode}
use Rattle.c_expressions.specs.declared.grown.Mode.TheVariants as mode
use Rattle.c_input.specs.declared.word.Sign.{Sign}
use Rattle.c_input.specs.declared.word.Sign.TheVariants as sign
use Rattle.c_input.specs.declared.word.Place.{Place as State}
use Rattle.c_input.specs.declared.measured.Measured.{Measured}
use Rattle.c_input.specs.Input.{Words, look_at, is_name, specifies, qualifies, binds}
use Rattle.c_input.specs.Parser.{Outcome, Parser, and_then, ◌>>=◌, ◌>>◌, pure, look, here, skip, refuse, declare, too_deep_here, left_out_here, no_room, if_so, expect, take_name, any_name, many_from, many, one_or_more, separated, trailed_from, trailed, trees, deepest, gathered, most_words}
use Rattle.c_input.specs.Signs.{is_comma, is_close_brace, is_no_close_brace, is_close_paren, is_close_bracket, is_colon}
use Rattle.c_expressions.specs.Nest.{Nest}
use Rattle.c_expressions.specs.Specifiers.{no_specs, with_spec, is_type_specifier, tag, member_lines, struct_by, struct_specifier, enumerator_by, enumerator, enumerators, enum_by, enum_specifier, spec_by, specs_from, specs, some_specs, nameless, bit_field, width_by, member_by, member, members_by, members, member_line}
use Rattle.c_expressions.specs.Expressions.{leaf, over, strings, string, closed_by, closed_type, cast_rest, paren_by, paren_rest, open_rest, size_of_expr, size_open, sizeof_by, size_of, unary, first_by, first, indexed, argument, arguments_by, arguments, called, member_of, joined, assigned, otherwise, conditional, followed, longer, goes_on, climb, expression, after_open, after_name, star_by, from_star}
use Rattle.c_expressions.specs.Levels.{opened_by, nothing, one_level, nest}
use Rattle.c_expressions.specs.Declarators.{leaf as plain, length_height, array_of, Params, no_params, in_front, last_one, is_ellipsis, is_empty, enclosed, goes_on as is_suffix, qualifiers, pointer, declare_param, parameter, type_name, parameters_from, parameters, some_listed, listed_by, listed, function_rest, length_by, words_by, array_words, array_rest, paren_rest as bracketed, open_by, named_by, unnamed_by, direct_by, longer as suffix, suffixes, direct, declarator_by, declarator}
use Rattle.c_grammar.proofs.HeightRules.{AllGive, Gives, gives_pure, gives_bind, gives_then}

-- no higher
abbrev pub Low : ℕ → Parser Grown → Type 0
Low n p = Gives (λ e. e.height ≤ n) p

abbrev pub LowOne : {A : Type 0} → ℕ → Parser (Measured A) → Type 0
LowOne {A = A} n p = Gives (λ (x : Measured A). x.height ≤ n) p

abbrev pub LowAll : {A : Type 0} → ℕ → Parser (List (Measured A)) → Type 0
LowAll {A = A} n p = Gives (λ (xs : List (Measured A)). deepest xs ≤ n) p

pub gives_from : {A B : Type 0} {P : A → Type 0} {Q : B → Type 0} {p : Parser A} {f : A → Parser B} → Gives P p → ((a : A) → P a → Gives Q (f a)) → Gives Q (p >>= f)
gives_from {A} {B} {P} {Q} {p} {f} gp gf = record { gives = λ W s. by W (p W s) (gp.gives W s) }
  where
    by : (W : Words) (o : Outcome A) → AllGive P o → AllGive Q (and_then W o f)
    by W (Ok x) h = (gf x.0 h).gives W x.1
    by W (Err e) h = tt

gives_look : {A : Type 0} {P : A → Type 0} {f : Sign → Parser A} → ((q : Sign) → Gives P (f q)) → Gives P (look f)
gives_look gf = record { gives = λ W s. (gf (look_at W s)).gives W s }

gives_by_state : {A : Type 0} {P : A → Type 0} {f : State → Parser A} → ((s : State) → Gives P (f s)) → Gives P (λ W s. f s W s)
gives_by_state gf = record { gives = λ W s. (gf s).gives W s }

gives_if : {A : Type 0} {P : A → Type 0} {p q : Parser A} (b : Bool) → (b ≡ true → Gives P p) → Gives P q → Gives P (if_so b p q)
gives_if true gp gq = gp refl
gives_if false gp gq = gq

gives_stop : {A : Type 0} {P : A → Type 0} → Gives P (refuse {A = A})
unfolding refuse
gives_stop = record { gives = λ W s. tt }

gives_deep : {A : Type 0} {P : A → Type 0} → Gives P (too_deep_here {A = A})
unfolding too_deep_here
gives_deep = record { gives = λ W s. tt }

gives_left_out : {A : Type 0} {P : A → Type 0} → Gives P (left_out_here {A = A})
unfolding left_out_here
gives_left_out = record { gives = λ W s. tt }

-- ---- lists

module _ {A : Type 0} (n : ℕ) (item : Parser (Measured A)) (low : LowOne n item) where
  low_many_from : (more : Sign → Bool) (turns : ℕ) → LowAll n (many_from more item turns)
  unfolding many_from
  low_many_from more zero = gives_pure [] (omega arith)
  low_many_from more (suc turns) = gives_look (λ q. gives_if (more q)
      (λ _. gives_from low (λ x le. gives_from (low_many_from more turns) (λ rest les. gives_pure (x ∷ rest) (omega arith))))
      (gives_pure [] (omega arith)))

  low_many : (more : Sign → Bool) → LowAll n (many more item)
  unfolding many
  low_many more = gives_by_state (λ s. low_many_from more (most_words - s.at))

  low_one_or_more : (more : Sign → Bool) → LowAll n (one_or_more more item)
  unfolding one_or_more
  low_one_or_more more = gives_from low (λ x le. gives_from (low_many more) (λ rest les. gives_pure (x ∷ rest) (omega arith)))

  low_trailed_from : (between ends : Sign → Bool) (turns : ℕ) → LowAll n (trailed_from between ends item turns)
  unfolding trailed_from
  low_trailed_from between ends zero = gives_pure [] (omega arith)
  low_trailed_from between ends (suc turns) = gives_from low (λ x le. gives_look (λ q. gives_if (between q)
      (λ _. gives_then skip _ (gives_look (λ p. gives_if (ends p) (λ _. gives_pure (x ∷ []) (omega arith))
      (gives_from (low_trailed_from between ends turns) (λ rest les. gives_pure (x ∷ rest) (omega arith))))))
      (gives_pure (x ∷ []) (omega arith))))

  low_trailed : (between ends : Sign → Bool) → LowAll n (trailed between ends item)
  unfolding trailed
  low_trailed between ends = gives_by_state (λ s. low_trailed_from between ends (most_words - s.at))

low_separated : {A : Type 0} (n : ℕ) (item : Parser (Measured A)) → LowOne n item → (between : Sign → Bool) → LowAll n (separated between item)
unfolding separated
low_separated n item low between = gives_from low (λ x le. gives_from (low_many n (skip >> item) (gives_then skip item low) between) (λ rest les. gives_pure (x ∷ rest) (omega arith)))

low_gathered : {A : Type 0} (n : ℕ) (p : Parser (List (Measured A))) → LowAll n p → LowOne n (gathered p)
low_gathered n p low = gives_from low (λ xs le. gives_pure (record { tree = trees xs; height = deepest xs }) le)

-- the parsers one level of room below
pub record LowNest (n : ℕ) (sub : Nest) : Type 0 where
  pub expr : (l : ℕ) → Low n (sub.expr l)
  pub opened : (at : ℕ) → Low n (sub.opened at)
  pub named : (at : ℕ) → Low n (sub.named at)
  pub starred : (alone : Bool) → Low n (sub.starred alone)
  pub declarator : (m : Mode) → Gives (λ d. d.height ≤ n) (sub.declarator m)
  pub line : LowOne n sub.line

-- ---- expressions, where type names are no higher
module _ (sub : Nest) (n : ℕ) (below : LowNest n sub) (types : LowOne n (type_name sub)) where
  low_over : (at : ℕ) (f : ExForm) (height level : ℕ) → height ≤ n → Low (suc n) (pure (over at f height level))
  low_over at f height level le = gives_pure (over at f height level) (omega arith)

  low_leaf : (at : ℕ) (f : ExForm) → Low (suc n) (pure (leaf at f))
  low_leaf at f = gives_pure (leaf at f) (omega arith)

  low_closed_type : LowOne n (closed_type sub)
  unfolding closed_type
  low_closed_type = gives_from types (λ t le. gives_then (expect is_close_paren) _ (gives_look (by t le)))
    where
      by : (t : Measured Param) → t.height ≤ n → (q : Sign) → LowOne n (closed_by sub t q)
      by t le sign.OpenBrace = gives_left_out
      by t le _ = gives_pure t le

  low_cast : (at : ℕ) → Low (suc n) (cast_rest sub at)
  unfolding cast_rest
  low_cast at = gives_from low_closed_type (λ t le. gives_from (below.expr 14) (λ e les. low_over at _ (max t.height e.height) 14 (omega arith)))

  low_paren : (at : ℕ) → Low (suc n) (paren_rest sub at)
  unfolding paren_rest
  low_paren at = gives_look by
    where
      by : (q : Sign) → Low (suc n) (paren_by sub at q)
      by sign.OpenBrace = gives_left_out
      by _ = gives_from (below.expr 1) (λ e le. gives_then (expect is_close_paren) _ (low_over at _ e.height 16 le))

  low_open : (least at : ℕ) → Low (suc n) (open_rest sub least at)
  unfolding open_rest
  low_open least at = gives_look (λ q. gives_if (qualifies false q) (λ _. gives_if (nat_le least 14) (λ _. low_cast at) gives_stop) (low_paren at))

  low_size_of_expr : (at : ℕ) (e : Grown) → e.height ≤ n → Low (suc n) (size_of_expr sub at e)
  low_size_of_expr at e le = low_over at _ e.height 15 le

  low_size_open : (at open_at : ℕ) → Low (suc n) (size_open sub at open_at)
  unfolding size_open
  low_size_open at open_at = gives_look (λ q. gives_if (qualifies false q)
      (λ _. gives_from low_closed_type (λ t le. low_over at (form.SizeofType t.tree) t.height 15 le))
      (gives_from (below.opened open_at) (low_size_of_expr at)))

  low_sizeof_by : (at : ℕ) (q : Sign) → Low (suc n) (sizeof_by sub at q)
  low_sizeof_by at sign.OpenParen = gives_bind here _ (λ open_at. gives_then skip _ (low_size_open at open_at))
  low_sizeof_by at _ = gives_from (below.expr 15) (low_size_of_expr at)

  low_size_of : (at : ℕ) → Low (suc n) (size_of sub at)
  unfolding size_of
  low_size_of at = gives_look (low_sizeof_by at)

  low_unary : (at least : ℕ) → Low (suc n) (unary sub at least)
  unfolding unary
  low_unary at least = gives_then skip _ (gives_from (below.expr least) (λ e le. low_over at _ e.height 15 le))

  low_string : (at : ℕ) → Low (suc n) (string at)
  unfolding string
  low_string at = gives_then skip _ (gives_bind strings _ (λ more. low_leaf at _))

  low_constant : (at : ℕ) (f : ExForm) → Low (suc n) (skip >> pure (leaf at f))
  low_constant at f = gives_then skip _ (low_leaf at f)

  low_first_by : (least at : ℕ) (q : Sign) → Low (suc n) (first_by sub least at q)
  low_first_by least at sign.Name = low_constant at form.Name
  low_first_by least at sign.Int = low_constant at form.Int
  low_first_by least at sign.Float = low_constant at form.Float
  low_first_by least at sign.Char = low_constant at form.Char
  low_first_by least at sign.Str = low_string at
  low_first_by least at sign.OpenParen = gives_then skip _ (low_open least at)
  low_first_by least at sign.Increment = low_unary at 15
  low_first_by least at sign.Decrement = low_unary at 15
  low_first_by least at sign.Amp = low_unary at 14
  low_first_by least at sign.Star = low_unary at 14
  low_first_by least at sign.Additive = low_unary at 14
  low_first_by least at sign.Complement = low_unary at 14
  low_first_by least at sign.Sizeof = gives_then skip _ (low_size_of at)
  low_first_by least at _ = gives_stop

  low_first : (least : ℕ) → Low (suc n) (first sub least)
  unfolding first
  low_first least = record { gives = λ W s. (low_first_by least s.at (look_at W s)).gives W s }

  low_arguments : LowOne n (arguments sub)
  unfolding arguments argument
  low_arguments = low_gathered n (look (arguments_by sub)) (gives_look by)
    where
      one : LowOne n (argument sub)
      one = gives_from (below.expr 2) (λ e le. gives_pure (record { tree = e.tree; height = e.height }) le)

      by : (q : Sign) → LowAll n (arguments_by sub q)
      by sign.CloseParen = gives_pure [] (omega arith)
      by _ = low_separated n (argument sub) one is_comma

  module _ (at : ℕ) (a : Grown) (less_high : a.height ≤ n) where
    low_indexed : Low (suc n) (indexed sub at a)
    unfolding indexed
    low_indexed = gives_then skip _ (gives_from (below.expr 1) (λ e le. gives_then (expect is_close_bracket) _ (low_over at _ (max a.height e.height) 16 (omega arith))))

    low_called : Low (suc n) (called sub at a)
    unfolding called
    low_called = gives_then skip _ (gives_from low_arguments (λ args le. gives_then (expect is_close_paren) _ (low_over at _ (max a.height args.height) 16 (omega arith))))

    low_member : (q : Sign) → Low (suc n) (member_of sub at a q)
    unfolding member_of
    low_member q = gives_then skip _ (gives_bind any_name _ (λ m. low_over at _ a.height 16 less_high))

    low_joined : (l : ℕ) → Low (suc n) (joined sub at a l)
    unfolding joined
    low_joined l = gives_by_state (λ s. gives_then skip _ (gives_from (below.expr (suc l)) (λ b le. low_over at _ (max a.height b.height) l (omega arith))))

    low_assigned : Low (suc n) (assigned sub at a)
    unfolding assigned
    low_assigned = gives_by_state (λ s. gives_then skip _ (gives_from (below.expr 2) (λ b le. low_over at _ (max a.height b.height) 2 (omega arith))))

    low_conditional : Low (suc n) (conditional sub at a)
    unfolding conditional otherwise
    low_conditional = gives_then skip _ (gives_from (below.expr 1) (λ b le. gives_then (expect is_colon) _ (gives_from (below.expr 3) (λ c les.
        low_over at _ (max a.height (max b.height c.height)) 3 (omega arith)))))

    low_followed : Low (suc n) (followed sub at a)
    unfolding followed
    low_followed = gives_then skip _ (gives_from (below.expr 2) (λ b le. low_over at _ (max a.height b.height) 1 (omega arith)))

    low_longer : (q : Sign) → Low (suc n) (longer sub at a q)
    unfolding longer
    low_longer sign.OpenBracket = low_indexed
    low_longer sign.OpenParen = low_called
    low_longer sign.Dot = low_member sign.Dot
    low_longer sign.Arrow = low_member sign.Arrow
    low_longer sign.Increment = gives_then skip _ (low_over at _ a.height 16 less_high)
    low_longer sign.Decrement = gives_then skip _ (low_over at _ a.height 16 less_high)
    low_longer sign.Equal = low_assigned
    low_longer sign.AssignOp = low_assigned
    low_longer sign.Question = low_conditional
    low_longer sign.Comma = low_followed
    low_longer q = low_joined (binds q)

  low_climb : (least turns at : ℕ) (a : Grown) → a.height ≤ suc n → Low (suc n) (climb sub (suc n) least turns at a)
  unfolding climb
  low_climb least zero at a le = gives_look (λ q. gives_if (goes_on sub least a q) (λ _. gives_deep) (gives_pure a le))
  low_climb least (suc turns) at a le = gives_look (λ q. gives_if (goes_on sub least a q)
      (λ _. gives_if (nat_lt a.height (suc n)) (λ e. let less_high = ltb-true a.height (suc n) e in
      gives_from (low_longer at a (omega arith) q) (λ b les. low_climb least turns at b les)) gives_deep)
      (gives_pure a le))

  pub low_expression : (least : ℕ) → Low (suc n) (expression sub (suc n) least)
  unfolding expression
  low_expression least = gives_by_state (λ s. gives_from (low_first least) (λ a le. low_climb least (suc n) s.at a le))

  pub low_after_open : (at : ℕ) → Low (suc n) (after_open sub (suc n) at)
  unfolding after_open
  low_after_open at = gives_from (low_paren at) (λ a le. low_climb 15 (suc n) at a le)

  pub low_after_name : (at : ℕ) → Low (suc n) (after_name sub (suc n) at)
  unfolding after_name
  low_after_name at = low_climb 1 (suc n) at (leaf at form.Name) (omega arith)

  pub low_from_star : (alone : Bool) → Low (suc n) (from_star sub (suc n) alone)
  unfolding from_star
  low_from_star alone = gives_by_state (λ s. gives_then (expect _) _ (gives_look (by s.at alone)))
    where
      rest : (at : ℕ) → Low (suc n) (sub.expr 14 >>= (λ e. climb sub (suc n) 2 (suc n) at (over at (form.Unary e.tree) e.height 15)))
      rest at = gives_from (below.expr 14) (λ e le. low_climb 2 (suc n) at (over at (form.Unary e.tree) e.height 15) (omega arith))

      by : (at : ℕ) (b : Bool) (q : Sign) → Low (suc n) (star_by sub (suc n) at b q)
      by at true sign.CloseBracket = gives_left_out
      by at b _ = rest at

-- ---- specifiers, structs and enumerations
module _ (sub : Nest) (n : ℕ) (below : LowNest n sub) where
  abbrev LowSpecs : Parser Specs → Type 0
  LowSpecs p = Gives (λ x. x.height ≤ n) p

  low_lines : LowOne n (member_lines sub)
  unfolding member_lines
  low_lines = gives_then skip _ (gives_from (low_gathered n _ (low_one_or_more n sub.line below.line is_no_close_brace)) (λ x le. gives_then (expect is_close_brace) _ (gives_pure x le)))

  low_struct_by : (at : ℕ) (name : Option ℕ) (q : Sign) → LowOne n (struct_by sub at name q)
  low_struct_by at name sign.OpenBrace = gives_from low_lines (λ x le. gives_pure _ le)
  low_struct_by at name _ = gives_pure _ (omega arith)

  low_struct : LowOne n (struct_specifier sub)
  unfolding struct_specifier
  low_struct = gives_bind here _ (λ at. gives_then skip _ (gives_bind tag _ (λ name. gives_look (low_struct_by at name))))

  low_enumerator_by : (m at : ℕ) (q : Sign) → LowOne n (enumerator_by sub m at q)
  low_enumerator_by m at sign.Equal = gives_then skip _ (gives_from (below.expr 3) (λ e le. gives_then (declare m false) _ (gives_pure _ le)))
  low_enumerator_by m at _ = gives_then (declare m false) _ (gives_pure _ (omega arith))

  low_enumerator : LowOne n (enumerator sub)
  unfolding enumerator
  low_enumerator = gives_bind any_name _ (λ m. gives_look (low_enumerator_by m.0 m.1))

  low_enumerators : LowOne n (enumerators sub)
  unfolding enumerators
  low_enumerators = gives_then skip _ (gives_from (low_gathered n _ (low_trailed n (enumerator sub) low_enumerator is_comma is_close_brace)) (λ x le.
      gives_then (expect is_close_brace) _ (gives_pure x le)))

  low_enum_by : (at : ℕ) (name : Option ℕ) (q : Sign) → LowOne n (enum_by sub at name q)
  low_enum_by at name sign.OpenBrace = gives_from low_enumerators (λ x le. gives_pure _ le)
  low_enum_by at name _ = gives_pure _ (omega arith)

  low_enum : LowOne n (enum_specifier sub)
  unfolding enum_specifier
  low_enum = gives_bind here _ (λ at. gives_then skip _ (gives_bind tag _ (λ name. gives_look (low_enum_by at name))))

  low_spec_by : (q : Sign) → LowOne n (spec_by sub q)
  low_spec_by sign.Struct = low_struct
  low_spec_by sign.Enum = low_enum
  low_spec_by sign.Union = low_struct
  low_spec_by sign.TypeName = gives_bind here _ (λ at. gives_then skip _ (gives_pure _ (omega arith)))
  low_spec_by _ = gives_bind here _ (λ at. gives_then skip _ (gives_pure _ (omega arith)))

  low_specs_from : (more : Bool → Sign → Bool) (turns : ℕ) (typed : Bool) → LowSpecs (specs_from sub more turns typed)
  unfolding specs_from
  low_specs_from more zero typed = gives_pure no_specs (omega arith)
  low_specs_from more (suc turns) typed = gives_look (λ q. gives_if (more typed q)
      (λ _. gives_from (low_spec_by q) (λ x le. gives_from (low_specs_from more turns (typed || is_type_specifier q)) (λ rest les. gives_pure (with_spec q x rest) (omega arith))))
      (gives_pure no_specs (omega arith)))

  pub low_specs : (more : Bool → Sign → Bool) (typed : Bool) → LowSpecs (specs sub more typed)
  unfolding specs
  low_specs more typed = gives_by_state (λ s. low_specs_from more (most_words - s.at) typed)

  pub low_some_specs : (more : Bool → Sign → Bool) → LowSpecs (some_specs sub more)
  unfolding some_specs
  low_some_specs more = gives_look (λ q. gives_if (more false q) (λ _. low_specs more false) gives_stop)

  low_bit_field : (d : Declares) → d.height ≤ n → LowOne n (bit_field sub d)
  unfolding bit_field
  low_bit_field d le = gives_then skip _ (gives_from (below.expr 3) (λ e les. gives_pure _ (omega arith)))

  low_width_by : (d : Declares) → d.height ≤ n → (q : Sign) → LowOne n (width_by sub d q)
  low_width_by d le sign.Colon = low_bit_field d le
  low_width_by d le _ = gives_pure _ le

  low_member_by : (at : ℕ) (q : Sign) → LowOne n (member_by sub (suc n) at q)
  low_member_by at sign.Colon = gives_if (nat_lt 1 (suc n)) (λ e. let room = ltb-true 1 (suc n) e in low_bit_field (nameless at) (omega arith)) gives_deep
  low_member_by at _ = gives_from (below.declarator mode.Named) (λ d le. gives_look (low_width_by d le))

  low_part : LowOne n (member sub (suc n))
  unfolding member
  low_part = gives_bind here _ (λ at. gives_look (low_member_by at))

  low_members_by : (q : Sign) → LowAll n (members_by sub (suc n) q)
  low_members_by sign.Semicolon = gives_pure [] (omega arith)
  low_members_by _ = low_separated n (member sub (suc n)) low_part is_comma

  pub low_line : LowOne (suc n) (member_line sub (suc n))
  unfolding member_line members
  low_line = gives_bind here _ (λ at. gives_from (low_some_specs qualifies) (λ a le. gives_from (low_gathered n (look (members_by sub (suc n))) (gives_look low_members_by)) (λ parts les.
      gives_then (expect _) _ (gives_pure _ (omega arith)))))

  -- ---- declarators, parameters and type names
  abbrev LowDeclarator : ℕ → Parser Declares → Type 0
  LowDeclarator m p = Gives (λ d. d.height ≤ m) p

  pub low_type_name : LowOne n (type_name sub)
  unfolding type_name
  low_type_name = gives_bind here _ (λ at. gives_from (low_some_specs qualifies) (λ a le. gives_from (below.declarator mode.Abstract) (λ d les. gives_pure _ (omega arith))))

  low_parameter : LowOne n (parameter sub)
  unfolding parameter
  low_parameter = gives_bind here _ (λ at. gives_from (low_some_specs specifies) (λ a le. gives_from (below.declarator mode.Parameter) (λ d les.
      gives_then (declare_param sub d a.is_typedef) _ (gives_pure _ (omega arith)))))

  abbrev LowParams : Parser Params → Type 0
  LowParams p = Gives (λ (x : Params). x.0.height ≤ n) p

  low_parameters_from : (turns : ℕ) → LowParams (parameters_from sub turns)
  unfolding parameters_from
  low_parameters_from zero = gives_pure no_params (omega arith)
  low_parameters_from (suc turns) = gives_from low_parameter (λ x le. gives_look (λ q. gives_if (is_comma q)
      (λ _. gives_then skip _ (gives_look (λ p. gives_if (is_ellipsis p) (λ _. gives_then skip _ (gives_pure (last_one x true) le))
      (gives_from (low_parameters_from turns) (λ rest les. gives_pure (in_front x rest) (omega arith))))))
      (gives_pure (last_one x false) le)))

  low_parameters : LowParams (parameters sub)
  unfolding parameters
  low_parameters = gives_by_state (λ s. low_parameters_from (most_words - s.at))

  low_function : (at : ℕ) (d : Declares) → d.height ≤ n → LowDeclarator (suc n) (function_rest sub at d)
  unfolding function_rest listed some_listed
  low_function at d le = gives_from (gives_look (by (is_some d.name))) (λ l les. gives_then (expect is_close_paren) _ (gives_pure _ (omega arith)))
    where
      some : Gives (λ l. l.height ≤ n) (some_listed sub)
      some = gives_by_state (λ s. gives_from low_parameters (λ x les. record { gives = λ W t. les }))

      by : (named : Bool) (q : Sign) → Gives (λ l. l.height ≤ n) (listed_by sub named q)
      by named sign.CloseParen = gives_pure _ (omega arith)
      by true sign.Name = gives_left_out
      by named _ = some

  abbrev LowLength : Parser (List ℕ × Option Grown) → Type 0
  LowLength p = Gives (λ (a : List ℕ × Option Grown). length_height a.1 ≤ n) p

  low_length_by : (named : Bool) (words : List ℕ) (q : Sign) → LowLength (length_by sub named words q)
  low_length_by named words sign.CloseBracket = gives_pure (words, None) (omega arith)
  low_length_by named words sign.Static = gives_bind here _ (λ word. gives_then skip _ (gives_from (below.expr 2) (λ e le. gives_pure _ le)))
  low_length_by named words sign.Star = gives_from (below.starred (is_empty words || named)) (λ e le. gives_pure (words, Some e) le)
  low_length_by named words _ = gives_from (below.expr 2) (λ e le. gives_pure (words, Some e) le)

  low_words_by : (named : Bool) (q : Sign) → LowLength (words_by sub named q)
  low_words_by named sign.Static = gives_bind here _ (λ word. gives_then skip _ (gives_bind qualifiers _ (λ words. gives_from (below.expr 2) (λ e le. gives_pure _ le))))
  low_words_by named _ = gives_bind qualifiers _ (λ words. gives_look (low_length_by named words))

  low_array : (at : ℕ) (d : Declares) → d.height ≤ n → LowDeclarator (suc n) (array_rest sub at d)
  unfolding array_rest array_words
  low_array at d le = gives_then skip _ (gives_from (gives_look (low_words_by (is_some d.name))) (λ a les. gives_then (expect is_close_bracket) _ (gives_pure (array_of at d a.0 a.1) (omega arith))))

  low_pointer : (m : Mode) (at : ℕ) → LowDeclarator (suc n) (pointer sub m at)
  unfolding pointer
  low_pointer m at = gives_then skip _ (gives_bind qualifiers _ (λ words. gives_from (below.declarator m) (λ d le. gives_pure _ (omega arith))))

  low_bracketed : (m : Mode) (at : ℕ) → LowDeclarator (suc n) (bracketed sub m at)
  unfolding bracketed
  low_bracketed m at = gives_from (below.declarator (enclosed m)) (λ d le. gives_then (expect is_close_paren) _ (gives_pure _ (omega arith)))

  low_named : (at : ℕ) → LowDeclarator (suc n) (take_name >>= (λ x. pure (plain at decl.Name (Some x.0))))
  low_named at = gives_bind take_name _ (λ x. gives_pure (plain at decl.Name (Some x.0)) (omega arith))

  low_unnamed : (at : ℕ) → LowDeclarator (suc n) (pure (plain at decl.Abstract None))
  low_unnamed at = gives_pure (plain at decl.Abstract None) (omega arith)

  low_open_by : (m : Mode) (at : ℕ) (q : Sign) → LowDeclarator (suc n) (open_by sub (suc n) m at q)
  low_open_by m at q = gives_if (is_close_paren q || specifies false q)
      (λ _. gives_if (nat_lt 1 (suc n)) (λ e. let room = ltb-true 1 (suc n) e in low_function at (plain at decl.Abstract None) (omega arith)) gives_deep)
      (low_bracketed m at)

  low_named_by : (at : ℕ) (q : Sign) → LowDeclarator (suc n) (named_by sub at q)
  low_named_by at sign.OpenParen = gives_then skip _ (low_bracketed mode.Named at)
  low_named_by at q = gives_if (is_name q) (λ _. low_named at) gives_stop

  low_unnamed_by : (m : Mode) (at : ℕ) (q : Sign) → LowDeclarator (suc n) (unnamed_by sub (suc n) m at q)
  low_unnamed_by m at sign.OpenParen = gives_then skip _ (gives_look (low_open_by m at))
  low_unnamed_by mode.Abstract at _ = low_unnamed at
  low_unnamed_by m at q = gives_if (is_name q) (λ _. low_named at) (low_unnamed at)

  low_direct_by : (m : Mode) (at : ℕ) (q : Sign) → LowDeclarator (suc n) (direct_by sub (suc n) m at q)
  low_direct_by mode.Named at q = low_named_by at q
  low_direct_by m at q = low_unnamed_by m at q

  low_suffix : (at : ℕ) (d : Declares) → d.height ≤ n → (q : Sign) → LowDeclarator (suc n) (suffix sub at d q)
  unfolding suffix
  low_suffix at d le sign.OpenBracket = low_array at d le
  low_suffix at d le _ = gives_then skip _ (low_function at d le)

  low_suffixes : (turns at : ℕ) (d : Declares) → d.height ≤ suc n → LowDeclarator (suc n) (suffixes sub (suc n) turns at d)
  unfolding suffixes
  low_suffixes zero at d le = gives_look (λ q. gives_if (is_suffix q) (λ _. gives_deep) (gives_pure d le))
  low_suffixes (suc turns) at d le = gives_look (λ q. gives_if (is_suffix q)
      (λ _. gives_if (nat_lt d.height (suc n)) (λ e. let less_high = ltb-true d.height (suc n) e in
      gives_from (low_suffix at d (omega arith) q) (λ c les. low_suffixes turns at c les)) gives_deep)
      (gives_pure d le))

  low_direct : (m : Mode) → LowDeclarator (suc n) (direct sub (suc n) m)
  unfolding direct
  low_direct m = gives_bind here _ (λ at. gives_from (gives_look (low_direct_by m at)) (λ d le. low_suffixes (suc n) at d le))

  low_declarator_by : (m : Mode) (q : Sign) → LowDeclarator (suc n) (declarator_by sub (suc n) m q)
  low_declarator_by m sign.Star = gives_bind here _ (low_pointer m)
  low_declarator_by m _ = low_direct m

  pub low_declarator : (m : Mode) → LowDeclarator (suc n) (declarator sub (suc n) m)
  unfolding declarator
  low_declarator m = gives_look (low_declarator_by m)

-- ---- levels
low_nothing : LowNest zero nothing
unfolding no_room too_deep_here left_out_here
low_nothing = record {
  expr = λ l. record { gives = λ W s. tt };
  opened = λ at. gives_look by;
  named = λ at. record { gives = λ W s. tt };
  starred = λ alone. record { gives = λ W s. tt };
  declarator = λ m. record { gives = λ W s. tt };
  line = record { gives = λ W s. tt };
}
  where
    by : (q : Sign) → Low zero (opened_by q)
    by sign.OpenBrace = record { gives = λ W s. tt }
    by _ = record { gives = λ W s. tt }

low_level : (sub : Nest) (n : ℕ) → LowNest n sub → LowNest (suc n) (one_level sub (suc n))
low_level sub n below =
    let types = low_type_name sub n below in
    record {
      expr = low_expression sub n below types;
      opened = low_after_open sub n below types;
      named = low_after_name sub n below types;
      starred = low_from_star sub n below types;
      declarator = low_declarator sub n below;
      line = low_line sub n below;
    }

pub low_nest : (room : ℕ) → LowNest room (nest room)
unfolding nest
low_nest zero = low_nothing
low_nest (suc room) = low_level (nest room) room (low_nest room)

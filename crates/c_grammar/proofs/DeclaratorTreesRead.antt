-- What the rules of declarators, parameters and type names read is a tree of its words.
use Rattle.std.proofs.Common.{◌≡◌, ℕ, zero, suc, ◌+◌, ◌-◌, ◌≤◌, ◌⊎◌, inl, inr, ◌||◌, max, nat_lt, is_some, Bool, true, false, List, [], ◌∷◌, ◌++◌, length, take, Option, Some, None, Ok, Err, refl, sym, ap, ◌∙◌, subst, arith}
use Rattle.c_tree.specs.declared.tree.Param.{Param}
use Rattle.c_tree.specs.declared.tree.DeclForm.TheVariants as form
use Rattle.c_expressions.specs.declared.grown.Grown.{Grown}
use Rattle.c_expressions.specs.declared.grown.Declares.{Declares}
use Rattle.c_expressions.specs.declared.grown.Mode.{Mode}
use Rattle.c_expressions.specs.declared.grown.Mode.TheVariants as mode
use Rattle.c_input.specs.declared.word.Sign.{Sign}
use Rattle.c_input.specs.declared.word.Sign.TheVariants as sign
use Rattle.c_input.specs.declared.word.Word.{Word}
use Rattle.c_input.specs.declared.word.Place.{Place as State}
use Rattle.c_input.specs.declared.measured.Measured.{Measured}
use Rattle.c_input.specs.Input.{Names, Words, step, look_at, sign_at, sign_of, sign_of_name, is_name, is_type, oldest, specifies, qualifies}
use Rattle.c_input.specs.Parser.{Outcome, Parser, and_then, ◌>>=◌, ◌>>◌, pure, look, refuse, too_deep_here, left_out_here, if_so, expect, take_name, declare, many_from, many, most_words}
use Rattle.c_input.specs.Signs.{is_comma, is_close_paren, is_close_bracket}
use Rattle.c_expressions.specs.Nest.{Nest}
use Rattle.c_expressions.specs.Specifiers.{declaration_specs, qualifier_specs}
use Rattle.c_expressions.specs.Declarators.{is_ellipsis, is_qualifier, is_empty, goes_on, node, leaf, or_first, Params, enclosed, taken, qualifiers, length_tree, length_height, pointer, declare_param, parameter, type_name, parameters_from, parameters, end_list, some_listed, listed_by, listed, function_rest, length_by, words_by, array_words, array_rest, paren_rest, open_by, named_by, unnamed_by, direct_by, longer, suffixes, direct, declarator_by, declarator}
use Rattle.c_grammar.specs.Below.{Below, Declared}
use Rattle.c_grammar.specs.DeclaratorTrees.{is_pointer, may_be_named, may_be_unnamed, lists_parameters, declaring_any, around, Qualifiers, no_qualifier, qualifier, TypeName, type_name as one_type_name, ParameterIs, parameter as one_parameter, Parameters, last_parameter, and_dots, parameter_and_more, Listed, no_parameters, parameters as some_parameters, Length, no_length, length_, static_first, static_behind, DeclaratorIs, identifier, omitted, bracketed, pointer as one_pointer, array, function}
use Rattle.c_grammar.proofs.Combinators.{Keeps, Extends, oldest_are, newest_are}
use Rattle.c_grammar.proofs.SpecifierRules.{ReadsNest}
use Rattle.c_grammar.proofs.DeclaratorRules.{reads_parameter, reads_parameters}
use Rattle.c_grammar.proofs.ExpressionTreesRead.{All, IsEx, bind_all, if_all, expect_all, comma_sign, close_paren, close_bracket}
use Rattle.c_grammar.proofs.SpecifierTreesRead.{Ends, Sound, IsDeclarator, declared_of, AreSome, declaration_specs_all, qualifier_specs_all, with_place, not_past}

qualifier_sign : (q : Sign) → is_qualifier q ≡ true → q ≡ sign.Qualifier
qualifier_sign sign.Qualifier e = refl
qualifier_sign _ e = absurd (cc)

ellipsis_sign : (q : Sign) → is_ellipsis q ≡ true → q ≡ sign.Ellipsis
ellipsis_sign sign.Ellipsis e = refl
ellipsis_sign _ e = absurd (cc)

-- a bracket is one whatever names are in scope
closes : (a b : Names) (w : Option Word) → is_close_paren (sign_at a w) ≡ true → is_close_paren (sign_at b w) ≡ true
closes a b None e = absurd (cc)
closes a b (Some w) e = by w.sign e
  where
    named : (t : Bool) → is_close_paren (sign_of_name t) ≡ true → is_close_paren (sign_of b w.name sign.Name) ≡ true
    named true e = absurd (cc)
    named false e = absurd (cc)

    by : (q : Sign) → is_close_paren (sign_of a w.name q) ≡ true → is_close_paren (sign_of b w.name q) ≡ true
    by sign.Name e = named (is_type a w.name) e
    by _ e = e

closes_at : (W : Words) (at : ℕ) (a b : Names) → is_close_paren (look_at W (record { at = at; names = a })) ≡ true → look_at W (record { at = at; names = b }) ≡ sign.CloseParen
unfolding look_at
closes_at W at a b e = close_paren (sign_at b (W at)) (closes a b (W at) e)

module _ (horizon : ℕ) (W : Words) (ends : Ends W) (B : Below) (sub : Nest) (rs : ReadsNest sub) (sound : Sound W B sub)
    (up : (r : ℕ) (m : Mode) (d : Declared) (s t : State) → DeclaratorIs horizon W B r m d s t → B.declarator r m d s t) where
  qualifiers_from : (n : ℕ) (s : State) → All (λ xs t. Qualifiers horizon W B xs s t) (many_from is_qualifier taken n W s)
  unfolding many_from
  qualifiers_from zero s = no_qualifier s
  qualifiers_from (suc n) s = if_all _ (is_qualifier (look_at W s)) _ _ W s
      (λ one. bind_all _ _ W (many_from is_qualifier taken n W (step s)) _ (qualifiers_from n (step s)) (λ ys t g. qualifier ys s t (qualifier_sign _ one) g))
      (λ _. no_qualifier s)

  qualifiers_all : (s : State) → All (λ xs t. Qualifiers horizon W B xs s t) (qualifiers W s)
  unfolding qualifiers many
  qualifiers_all s = qualifiers_from (most_words - s.at) s

  pub type_name_all : (s : State) → All (λ x t. (r : ℕ) → x.height ≤ r → TypeName horizon W B r x.tree s t) (type_name sub W s)
  unfolding type_name
  type_name_all s = bind_all (AreSome horizon W ends B sub rs sound qualifies s) _ W (qualifier_specs sub W s) _ (qualifier_specs_all horizon W ends B sub rs sound s) (λ a t h.
      bind_all (IsDeclarator B mode.Abstract t) _ W (sub.declarator mode.Abstract W t) _ (sound.declarator mode.Abstract t) (λ d u g r tall.
      one_type_name a.list a.is_typed a.is_typedef (declared_of d) s t u (h r (omega arith)) (g r (omega arith))))

  declare_all : {C : Type 0} (L : C → State → Type 0) (d : Declares) (b : Bool) (p : Parser C) (u : State) → All L (p W (declaring_any d.name b u)) →
      All L (and_then W (declare_param sub d b W u) (λ _. p))
  unfolding declare
  declare_all {C} L d b p u h = by d.name h
    where
      by : (name : Option ℕ) → All L (p W (declaring_any name b u)) → All L (and_then W (declare_param sub (record d { name = name }) b W u) (λ _. p))
      by (Some n) h = h
      by None h = h

  abbrev IsParameter : State → Measured Param → State → Type 0
  IsParameter s x t = (r : ℕ) → x.height ≤ r → ParameterIs horizon W B r x.tree s t

  parameter_all : (s : State) → All (IsParameter s) (parameter sub W s)
  unfolding parameter
  parameter_all s = bind_all (AreSome horizon W ends B sub rs sound specifies s) (IsParameter s) W (declaration_specs sub W s) _ (declaration_specs_all horizon W ends B sub rs sound s) (λ a t h.
      bind_all (IsDeclarator B mode.Parameter t) (IsParameter s) W (sub.declarator mode.Parameter W t) _ (sound.declarator mode.Parameter t) (λ d u g.
      declare_all (IsParameter s) d a.is_typedef _ u (λ r tall. one_parameter a.list a.is_typed a.is_typedef (declared_of d) s t u (h r (omega arith)) (g r (omega arith)))))

  abbrev AreParameters : State → Params → State → Type 0
  AreParameters s x t = (most_words ≤ t.at) ⊎ ((r : ℕ) → x.0.height ≤ r → Parameters horizon W B r x.0.tree x.1 s t)

  parameters_from_all : (n : ℕ) (s : State) → most_words ≤ n + s.at → All (AreParameters s) (parameters_from sub n W s)
  unfolding parameters_from
  parameters_from_all zero s turns = inl (omega arith)
  parameters_from_all (suc n) s turns = bind_all (λ x t. IsParameter s x t × (s.at ≤ t.at)) (AreParameters s) W (parameter sub W s) _
      (with_place (IsParameter s) s.at (parameter sub W s) (parameter_all s) ((reads_parameter sub rs {k = 0} {moves = true}).forward W s))
      (λ x t h. if_all (AreParameters s) (is_comma (look_at W t)) _ _ W t
      (λ comma. if_all (AreParameters s) (is_ellipsis (look_at W (step t))) _ _ W (step t)
      (λ dots. inr (λ r tall. and_dots x.tree s t (h.0 r tall) (comma_sign _ comma) (ellipsis_sign _ dots)))
      (λ _. bind_all (AreParameters (step t)) (AreParameters s) W (parameters_from sub n W (step t)) _
      (parameters_from_all n (step t) (let le = h.1 in omega arith)) (λ rest u g. more x t h.0 (comma_sign _ comma) rest u g)))
      (λ _. inr (λ r tall. last_parameter x.tree s t (h.0 r tall))))
    where
      more : (x : Measured Param) (t : State) → IsParameter s x t → look_at W t ≡ sign.Comma → (rest : Params) (u : State) →
          AreParameters (step t) rest u → (most_words ≤ u.at) ⊎ ((r : ℕ) → max x.height rest.0.height ≤ r → Parameters horizon W B r (x.tree ∷ rest.0.tree) rest.1 s u)
      more x t h comma rest u (inl le) = inl le
      more x t h comma rest u (inr g) = inr (λ r tall. parameter_and_more x.tree rest.0.tree rest.1 s t u (h r (omega arith)) comma (g r (omega arith)))

  parameters_all : (s : State) → All (AreParameters s) (parameters sub W s)
  unfolding parameters
  parameters_all s = parameters_from_all (most_words - s.at) s (omega arith)

  abbrev after_list : ℕ → Declares → ℕ → List Param → Bool → Names → Declares
  after_list at d k params variadic names = record { tree = node at (form.Function d.tree params variadic); height = suc (max d.height k); name = d.name; params = or_first d.params names }

  module _ (m : Mode) (s : State) (plain : is_pointer (look_at W s) ≡ false) where
    listed_is : (d : Declares) (t u : State) (k : ℕ) (params : List Param) (variadic : Bool) (names : Names) → IsDeclarator B m s d t → look_at W t ≡ sign.OpenParen →
        ((r : ℕ) → k ≤ r → Listed horizon W B r params variadic (step t) u) → u.names ≡ names ++ t.names → look_at W u ≡ sign.CloseParen →
        IsDeclarator B m s (after_list s.at d k params variadic names) (record { at = suc u.at; names = t.names })
    listed_is d t u k params variadic names h opens all e ends r tall = up r m (declared_of (after_list s.at d k params variadic names)) s (record { at = suc u.at; names = t.names })
        (function m params variadic names (declared_of d) s t u (λ _. omega arith) plain (h (r - 1) (omega arith)) opens (all (r - 1) (omega arith)) e ends)

    function_all : (d : Declares) (t : State) → IsDeclarator B m s d t → look_at W t ≡ sign.OpenParen → All (IsDeclarator B m s) (function_rest sub s.at d W (step t))
    unfolding function_rest listed some_listed left_out_here
    function_all d t h opens = by (is_some d.name) (look_at W (step t)) refl
      where
        whole : (x : Params) (u : State) → AreParameters (step t) x u → Extends t.names u.names → is_close_paren (look_at W (record { at = u.at; names = oldest (length t.names) u.names })) ≡ true →
            IsDeclarator B m s (after_list s.at d x.0.height x.0.tree x.1 (take (length u.names - length t.names) u.names)) (record { at = suc u.at; names = oldest (length t.names) u.names })
        whole x u (inl le) more close = absurd (not_past W ends is_close_paren refl (record { at = u.at; names = oldest (length t.names) u.names }) close le)
        whole x u (inr g) more close = subst (λ names. IsDeclarator B m s (after_list s.at d x.0.height x.0.tree x.1 (take (length u.names - length t.names) u.names)) (record { at = suc u.at; names = names }))
            (sym (oldest_are t.names u.names more))
            (listed_is d t u x.0.height x.0.tree x.1 (take (length u.names - length t.names) u.names) h opens (λ r tall. some_parameters x.0.tree x.1 (step t) u (g r tall))
            (newest_are t.names u.names more) (closes_at W u.at (oldest (length t.names) u.names) u.names close))

        some : (o : Outcome Params) → All (AreParameters (step t)) o → Keeps t.names o → All (IsDeclarator B m s)
            (and_then W (and_then W o (end_list sub t.names)) (λ l. expect is_close_paren >> pure (record { tree = node s.at (form.Function d.tree l.params l.variadic); height = suc (max d.height l.height); name = d.name; params = or_first d.params l.names })))
        some (Ok x) g more = expect_all (IsDeclarator B m s) is_close_paren _ W (record { at = x.1.at; names = oldest (length t.names) x.1.names }) (λ close. whole x.0 x.1 g more close)
        some (Err e) g more = tt

        any_list : All (IsDeclarator B m s)
            (and_then W (and_then W (parameters sub W (step t)) (end_list sub t.names)) (λ l. expect is_close_paren >> pure (record { tree = node s.at (form.Function d.tree l.params l.variadic); height = suc (max d.height l.height); name = d.name; params = or_first d.params l.names })))
        any_list = some (parameters sub W (step t)) (parameters_all (step t)) ((reads_parameters sub rs {k = 0}).keeps W (step t))

        by : (named : Bool) (q : Sign) → look_at W (step t) ≡ q → All (IsDeclarator B m s)
            (and_then W (listed_by sub named q W (step t)) (λ l. expect is_close_paren >> pure (record { tree = node s.at (form.Function d.tree l.params l.variadic); height = suc (max d.height l.height); name = d.name; params = or_first d.params l.names })))
        by named sign.CloseParen e = expect_all (IsDeclarator B m s) is_close_paren _ W (step t) (λ close. listed_is d t (step t) 0 [] false [] h opens (λ r tall. no_parameters (step t) e) refl e)
        by true sign.Name e = tt
        by named _ e = any_list

  abbrev IsLength : State → List ℕ × Option Grown → State → Type 0
  IsLength s a t = (r : ℕ) → length_height a.1 ≤ r → Length horizon W B r a.0 (length_tree a.1) s t

  length_all : (s : State) (named : Bool) (words : List ℕ) (t : State) → Qualifiers horizon W B words s t → (q : Sign) → look_at W t ≡ q → All (IsLength s) (length_by sub named words q W t)
  length_all s named words t h sign.CloseBracket e = λ r tall. no_length words s t h
  length_all s named words t h sign.Static e = bind_all (IsEx B 2 (step t)) (IsLength s) W (sub.expr 2 W (step t)) _ (sound.expr 2 (step t) (omega arith))
      (λ x u g r tall. static_behind words x.tree s t u h e (g.1 r 2 g.0 tall))
  length_all s named words t h sign.Star e = bind_all (IsEx B 2 t) (IsLength s) W (sub.starred (is_empty words || named) W t) _ (sound.starred (is_empty words || named) t)
      (λ x u g r tall. length_ words x.tree s t u h (g.1 r 2 g.0 tall))
  length_all s named words t h _ e = bind_all (IsEx B 2 t) (IsLength s) W (sub.expr 2 W t) (λ x. pure (words, Some x)) (sound.expr 2 t (omega arith))
      (λ x u g r tall. length_ words x.tree s t u h (g.1 r 2 g.0 tall))

  array_words_all : (named : Bool) (s : State) → All (IsLength s) (array_words sub named W s)
  unfolding array_words
  array_words_all named s = by (look_at W s) refl
    where
      first : All (IsLength s) ((qualifiers >>= (λ words. look (length_by sub named words))) W s)
      first = bind_all (λ xs t. Qualifiers horizon W B xs s t) (IsLength s) W (qualifiers W s) (λ words. look (length_by sub named words)) (qualifiers_all s)
          (λ words t h. length_all s named words t h (look_at W t) refl)

      by : (q : Sign) → look_at W s ≡ q → All (IsLength s) (words_by sub named q W s)
      by sign.Static e = bind_all (λ xs t. Qualifiers horizon W B xs (step s) t) (IsLength s) W (qualifiers W (step s)) _ (qualifiers_all (step s)) (λ words t h.
          bind_all (IsEx B 2 t) (IsLength s) W (sub.expr 2 W t) _ (sound.expr 2 t (omega arith)) (λ x u g r tall. static_first words x.tree s t u e h (g.1 r 2 g.0 tall)))
      by _ e = first

  pointer_all : (m : Mode) (s : State) → look_at W s ≡ sign.Star → All (IsDeclarator B m s) (pointer sub m s.at W s)
  unfolding pointer
  pointer_all m s e = bind_all (λ xs t. Qualifiers horizon W B xs (step s) t) (IsDeclarator B m s) W (qualifiers W (step s)) _ (qualifiers_all (step s)) (λ words t h.
      bind_all (IsDeclarator B m t) (IsDeclarator B m s) W (sub.declarator m W t) _ (sound.declarator m t) (λ d u g r tall.
      up r m (around s (form.Pointer words d.tree) (declared_of d)) s u (one_pointer m words (declared_of d) s t u (λ _. omega arith) e h (g (r - 1) (omega arith)))))

  bracketed_all : (m : Mode) (s : State) → look_at W s ≡ sign.OpenParen → (m ≡ mode.Named) ⊎ (lists_parameters (look_at W (step s)) ≡ false) →
      All (IsDeclarator B m s) (paren_rest sub m s.at W (step s))
  unfolding paren_rest
  bracketed_all m s e which = bind_all (IsDeclarator B (enclosed m) (step s)) (IsDeclarator B m s) W (sub.declarator (enclosed m) W (step s)) _ (sound.declarator (enclosed m) (step s)) (λ d t g.
      expect_all (IsDeclarator B m s) is_close_paren _ W t (λ close r tall.
      up r m (around s (form.Paren d.tree) (declared_of d)) s (step t) (bracketed m (declared_of d) s t (λ _. omega arith) e which (g (r - 1) (omega arith)) (close_paren _ close))))

  name_is : (m : Mode) (s : State) → may_be_named m ≡ true → is_name (look_at W s) ≡ true → All (IsDeclarator B m s) ((take_name >>= (λ n. pure (leaf s.at form.Name (Some n.0)))) W s)
  name_is m s may named = λ r tall. up r m _ s (step s) (identifier m s (λ _. omega arith) may named)

  omitted_is : (m : Mode) (s : State) → may_be_unnamed m ≡ true → IsDeclarator B m s (leaf s.at form.Abstract None) s
  omitted_is m s may = λ r tall. up r m _ s s (omitted m s (λ _. omega arith) may)

  open_all : (room : ℕ) (m : Mode) (s : State) → may_be_unnamed m ≡ true → look_at W s ≡ sign.OpenParen → All (IsDeclarator B m s) (open_by sub room m s.at (look_at W (step s)) W (step s))
  unfolding too_deep_here
  open_all room m s may e = if_all (IsDeclarator B m s) (is_close_paren (look_at W (step s)) || specifies false (look_at W (step s))) _ (paren_rest sub m s.at) W (step s)
      (λ _. if_all (IsDeclarator B m s) (nat_lt 1 room) (function_rest sub s.at (leaf s.at form.Abstract None)) too_deep_here W (step s)
      (λ _. function_all m s (ap is_pointer e) (leaf s.at form.Abstract None) s (omitted_is m s may) e) (λ _. tt))
      (λ none. bracketed_all m s e (inr none))

  named_or_omitted : (m : Mode) (s : State) → may_be_named m ≡ true → may_be_unnamed m ≡ true → (q : Sign) → look_at W s ≡ q →
      All (IsDeclarator B m s) (if_so (is_name q) (take_name >>= (λ n. pure (leaf s.at form.Name (Some n.0)))) (pure (leaf s.at form.Abstract None)) W s)
  named_or_omitted m s may unnamed q e = if_all (IsDeclarator B m s) (is_name q) _ (pure (leaf s.at form.Abstract None)) W s
      (λ named. name_is m s may (ap is_name e ∙ named)) (λ _. omitted_is m s unnamed)

  direct_by_all : (room : ℕ) (m : Mode) (s : State) → All (IsDeclarator B m s) (direct_by sub room m s.at (look_at W s) W s)
  unfolding refuse
  direct_by_all room m s = by m (look_at W s) refl
    where
      named : (q : Sign) → look_at W s ≡ q → All (IsDeclarator B mode.Named s) (if_so (is_name q) (take_name >>= (λ n. pure (leaf s.at form.Name (Some n.0)))) refuse W s)
      named q e = if_all (IsDeclarator B mode.Named s) (is_name q) _ refuse W s (λ named. name_is mode.Named s refl (ap is_name e ∙ named)) (λ _. tt)

      with_name : (q : Sign) → look_at W s ≡ q → All (IsDeclarator B mode.Named s) (named_by sub s.at q W s)
      with_name sign.OpenParen e = bracketed_all mode.Named s e (inl refl)
      with_name q e = named q e

      without : (q : Sign) → look_at W s ≡ q → All (IsDeclarator B mode.Abstract s) (unnamed_by sub room mode.Abstract s.at q W s)
      without sign.OpenParen e = open_all room mode.Abstract s refl e
      without _ e = omitted_is mode.Abstract s refl

      parameter_by : (q : Sign) → look_at W s ≡ q → All (IsDeclarator B mode.Parameter s) (unnamed_by sub room mode.Parameter s.at q W s)
      parameter_by sign.OpenParen e = open_all room mode.Parameter s refl e
      parameter_by q e = named_or_omitted mode.Parameter s refl refl q e

      enclosed_by : (q : Sign) → look_at W s ≡ q → All (IsDeclarator B mode.Enclosed s) (unnamed_by sub room mode.Enclosed s.at q W s)
      enclosed_by sign.OpenParen e = open_all room mode.Enclosed s refl e
      enclosed_by q e = named_or_omitted mode.Enclosed s refl refl q e

      by : (m : Mode) (q : Sign) → look_at W s ≡ q → All (IsDeclarator B m s) (direct_by sub room m s.at q W s)
      by mode.Named q e = with_name q e
      by mode.Abstract q e = without q e
      by mode.Parameter q e = parameter_by q e
      by mode.Enclosed q e = enclosed_by q e

  array_all : (m : Mode) (s : State) → is_pointer (look_at W s) ≡ false → (d : Declares) (t : State) → IsDeclarator B m s d t → look_at W t ≡ sign.OpenBracket →
      All (IsDeclarator B m s) (array_rest sub s.at d W t)
  unfolding array_rest
  array_all m s plain d t h opens = bind_all (IsLength (step t)) (IsDeclarator B m s) W (array_words sub (is_some d.name) W (step t)) _ (array_words_all (is_some d.name) (step t)) (λ a u g.
      expect_all (IsDeclarator B m s) is_close_bracket _ W u (λ close r tall.
      up r m (around s (form.Array d.tree a.0 (length_tree a.1)) (declared_of d)) s (step u)
      (array m a.0 (length_tree a.1) (declared_of d) s t u (λ _. omega arith) plain (h (r - 1) (omega arith)) opens (g (r - 1) (omega arith)) (close_bracket _ close))))

  longer_all : (m : Mode) (s : State) → is_pointer (look_at W s) ≡ false → (d : Declares) (t : State) → IsDeclarator B m s d t → (q : Sign) → look_at W t ≡ q → goes_on q ≡ true →
      All (IsDeclarator B m s) (longer sub s.at d q W t)
  unfolding longer
  longer_all m s plain d t h sign.OpenBracket e f = array_all m s plain d t h e
  longer_all m s plain d t h sign.OpenParen e f = function_all m s plain d t h e
  longer_all m s plain d t h _ e f = absurd (cc)

  suffixes_all : (room n : ℕ) (m : Mode) (s : State) → is_pointer (look_at W s) ≡ false → (d : Declares) (t : State) → IsDeclarator B m s d t →
      All (IsDeclarator B m s) (suffixes sub room n s.at d W t)
  unfolding suffixes too_deep_here
  suffixes_all room zero m s plain d t h = if_all (IsDeclarator B m s) (goes_on (look_at W t)) too_deep_here (pure d) W t (λ _. tt) (λ _. h)
  suffixes_all room (suc n) m s plain d t h = if_all (IsDeclarator B m s) (goes_on (look_at W t)) _ (pure d) W t
      (λ on. if_all (IsDeclarator B m s) (nat_lt d.height room) (longer sub s.at d (look_at W t) >>= suffixes sub room n s.at) too_deep_here W t
      (λ _. bind_all (IsDeclarator B m s) (IsDeclarator B m s) W (longer sub s.at d (look_at W t) W t) (suffixes sub room n s.at) (longer_all m s plain d t h (look_at W t) refl on)
      (λ e u g. suffixes_all room n m s plain e u g))
      (λ _. tt))
      (λ _. h)

  pub declarator_all : (room : ℕ) (m : Mode) (s : State) → All (IsDeclarator B m s) (declarator sub room m W s)
  unfolding declarator direct
  declarator_all room m s = by (look_at W s) refl
    where
      plainly : is_pointer (look_at W s) ≡ false → All (IsDeclarator B m s) (direct sub room m W s)
      plainly plain = bind_all (IsDeclarator B m s) (IsDeclarator B m s) W (direct_by sub room m s.at (look_at W s) W s) (suffixes sub room room s.at) (direct_by_all room m s)
          (λ d t h. suffixes_all room room m s plain d t h)

      by : (q : Sign) → look_at W s ≡ q → All (IsDeclarator B m s) (declarator_by sub room m q W s)
      by sign.Star e = pointer_all m s e
      by _ e = plainly (ap is_pointer e)

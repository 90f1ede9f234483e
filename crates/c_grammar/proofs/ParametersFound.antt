-- Each tree of a type name, of parameters and of a length is read, or a stop for depth behind the horizon comes first.
use Rattle.std.proofs.Common.{◌≡◌, ℕ, zero, suc, max, ◌+◌, ◌-◌, ◌<◌, ◌≤◌, ◌⊎◌, inl, inr, ◌||◌, Bool, true, false, List, [], ◌∷◌, ◌++◌, Option, Some, None, Ok, refl, sym, ap, ◌∙◌, subst, arith}
use Rattle.c_tree.specs.declared.tree.Ex.{Ex}
use Rattle.c_tree.specs.declared.tree.Param.{Param, roll-Param}
use Rattle.c_expressions.specs.declared.grown.Grown.{Grown}
use Rattle.c_expressions.specs.declared.grown.Specs.{Specs}
use Rattle.c_expressions.specs.declared.grown.Declares.{Declares}
use Rattle.c_expressions.specs.declared.grown.Mode.{Mode}
use Rattle.c_expressions.specs.declared.grown.Mode.TheVariants as mode
use Rattle.c_input.specs.declared.word.Sign.{Sign}
use Rattle.c_input.specs.declared.word.Sign.TheVariants as sign
use Rattle.c_input.specs.declared.word.Place.{Place as State}
use Rattle.c_input.specs.declared.measured.Measured.{Measured}
use Rattle.c_input.specs.Input.{Words, step, look_at, is_name, specifies, begins_expression}
use Rattle.c_input.specs.Parser.{Outcome, Parser, and_then, ◌>>=◌, ◌>>◌, pure, look, skip, if_so, declare, many_from, many, most_words}
use Rattle.c_input.specs.Signs.{is_comma}
use Rattle.c_expressions.specs.Nest.{Nest}
use Rattle.c_expressions.specs.Levels.{nest}
use Rattle.c_expressions.specs.Specifiers.{qualifier_specs, declaration_specs}
use Rattle.c_expressions.specs.Declarators.{is_ellipsis, is_qualifier, is_empty, Params, in_front, last_one, taken, qualifiers, length_tree, length_height, declare_param, parameter, type_name, parameters_from, length_by, words_by, array_words, begins_declarator}
use Rattle.c_grammar.specs.Below.{Below, Declared}
use Rattle.c_grammar.specs.DeclaratorTrees.{declaring_any, Qualifiers, TypeName, ParameterIs, Parameters, Length}
use Rattle.c_grammar.specs.DeclaratorTrees as dcl
use Rattle.c_grammar.proofs.SpecifierTreesRead.{Ends, not_past}
use Rattle.c_grammar.proofs.Leads.{Leads, leads_on}
use Rattle.c_grammar.proofs.LeadsLists.{other_names, many_stops, many_goes}
use Rattle.c_grammar.proofs.ExpressionsFound.{FoundEx, FoundType, part, behind}
use Rattle.c_grammar.proofs.NodesFound.{is_brace, ends_declarator, follows_declarator, declarator_part, FoundBelow}
use Rattle.c_grammar.proofs.MembersFound.{qualifiers_found, declared_found}
use Rattle.c_grammar.proofs.OperandsFound.{starred_part}

begins_no_brace : (m : Mode) (q : Sign) → begins_declarator m q ≡ true → is_brace q ≡ false
begins_no_brace mode.Named sign.OpenBrace e = absurd (cc)
begins_no_brace mode.Abstract sign.OpenBrace e = absurd (cc)
begins_no_brace mode.Parameter sign.OpenBrace e = absurd (cc)
begins_no_brace mode.Enclosed sign.OpenBrace e = absurd (cc)
begins_no_brace _ _ e = refl

ends_follows : (m : Mode) (q : Sign) → ends_declarator m q ≡ true → follows_declarator m q ≡ true
ends_follows m sign.OpenParen e = refl
ends_follows m sign.OpenBracket e = refl
ends_follows m _ e = e

-- the state behind a name in scope
pub declared_at : (name : Option ℕ) (b : Bool) (s : State) → (declaring_any name b s).at ≡ s.at
declared_at (Some n) b s = refl
declared_at None b s = refl

pub declared_sign : (W : Words) (name : Option ℕ) (b : Bool) (s : State) (p : Sign) → is_name p ≡ false → look_at W (declaring_any name b s) ≡ p → look_at W s ≡ p
declared_sign W (Some n) b s p other e = other_names W s.at ((n, b) ∷ s.names) s.names p other e
declared_sign W None b s p other e = e

parameter_end : (q : Sign) → ends_declarator mode.Parameter q ≡ true → is_name q ≡ false
parameter_end sign.Comma e = refl
parameter_end sign.CloseParen e = refl
parameter_end _ e = absurd (cc)

is_static : Sign → Bool
is_static sign.Static = true
is_static _ = false

plain_words : (q : Sign) → is_static q ≡ false → (sub : Nest) (named : Bool) → words_by sub named q ≡ (qualifiers >>= (λ words. look (length_by sub named words)))
unfolding is_static
plain_words sign.Static e sub named = absurd (cc)
plain_words _ e sub named = refl

qualifier_plain : (q : Sign) → is_qualifier q ≡ true → is_static q ≡ false
unfolding is_static
qualifier_plain sign.Static e = absurd (cc)
qualifier_plain _ e = refl

begins_no_static : (q : Sign) → begins_expression q ≡ true → is_static q ≡ false
unfolding is_static
begins_no_static sign.Static e = absurd (cc)
begins_no_static _ e = refl

begins_no_qualifier : (q : Sign) → begins_expression q ≡ true → is_qualifier q ≡ false
begins_no_qualifier sign.Qualifier e = absurd (cc)
begins_no_qualifier _ e = refl

module _ (horizon : ℕ) (W : Words) (B : Below) (below : FoundBelow horizon W B) (ends : Ends W) where
  pub qualifiers_up : (words : List ℕ) (s t : State) → Qualifiers horizon W B words s t → s.at ≤ t.at
  qualifiers_up words s t (dcl.no_qualifier _) = omega arith
  qualifiers_up words s t (dcl.qualifier rest _ _ one next) = let up = qualifiers_up rest (step s) t next in omega arith

  words_found : (words : List ℕ) (s t : State) → Qualifiers horizon W B words s t → is_qualifier (look_at W t) ≡ false → (k : ℕ) → most_words ≤ k + s.at →
      Leads horizon (many_from is_qualifier taken k W s) (Ok (words, t))
  words_found words s t (dcl.no_qualifier _) last k turns = inl (many_stops horizon W is_qualifier taken k s last)
  words_found words s t (dcl.qualifier rest _ _ one next) last zero turns = absurd (not_past W ends is_qualifier refl s (ap is_qualifier one) (omega arith))
  words_found words s t (dcl.qualifier rest _ _ one next) last (suc k) turns =
      many_goes horizon W is_qualifier taken k s (step s) t s.at rest (ap is_qualifier one) (inl refl) (words_found rest (step s) t next last k (omega arith))

  pub qualifiers_found_all : (words : List ℕ) (s t : State) → Qualifiers horizon W B words s t → is_qualifier (look_at W t) ≡ false → Leads horizon (qualifiers W s) (Ok (words, t))
  unfolding qualifiers many
  qualifiers_found_all words s t d last = words_found words s t d last (most_words - s.at) (omega arith)

  -- ---- type names
  type_leads : (s t u : State) (n : ℕ) (a : Specs) (d : Declares) → Leads horizon (qualifier_specs (nest n) W s) (Ok (a, t)) → Leads horizon ((nest n).declarator mode.Abstract W t) (Ok (d, u)) →
      Leads horizon (type_name (nest n) W s) (Ok (record { tree = roll-Param (record { at = s.at; specs = a.list; declarator = d.tree }); height = max a.height d.height }, u))
  unfolding type_name
  type_leads s t u n a d on next = leads_on horizon W (qualifier_specs (nest n) W s) (Ok (a, t)) _ _ on (leads_on horizon W ((nest n).declarator mode.Abstract W t) (Ok (d, u)) _ _ next (inl refl))

  pub type_name_found : (r : ℕ) (x : Param) (s t : State) → TypeName horizon W B r x s t → FoundType horizon W r x s t
  type_name_found r x s t (dcl.type_name all a b d _ u _ h g) =
      let f = qualifiers_found horizon W B below ends r all a b s u h in
      let k = below.declarator r mode.Abstract d u t g in
      let up = f.forward in
      let up2 = k.forward in
      record {
        measured = record { tree = roll-Param (record { at = s.at; specs = f.list.list; declarator = k.grown.tree }); height = max f.list.height k.grown.height };
        tree = ap (λ z. roll-Param (record { at = s.at; specs = z; declarator = k.grown.tree })) f.tree
            ∙ ap (λ (z : Declared). roll-Param (record { at = s.at; specs = all; declarator = z.tree })) k.tree;
        forward = omega arith;
        begun = f.begun;
        small = λ lt. let x = f.small (omega arith) in let y = k.small lt in omega arith;
        leads = λ n more close. type_leads s u t n f.list k.grown
            (f.leads n more (begins_no_brace mode.Abstract (look_at W u) (k.begun (ap (follows_declarator mode.Abstract) close))))
            (declarator_part horizon W r mode.Abstract d u t k n more (ap (ends_declarator mode.Abstract) close));
      }

  -- ---- parameters
  record FoundParameter (r : ℕ) (x : Param) (s t : State) : Type 0 where
    measured : Measured Param
    tree : measured.tree ≡ x
    forward : s.at + 1 ≤ t.at
    begun : specifies false (look_at W s) ≡ true
    small : t.at < horizon → measured.height ≤ r
    leads : (n : ℕ) → (0 < horizon → r ≤ n) → (q : Sign) → look_at W t ≡ q → ends_declarator mode.Parameter q ≡ true → Leads horizon (parameter (nest n) W s) (Ok (measured, t))

  declare_is : (n : ℕ) (d : Declares) (b : Bool) (u : State) → declare_param (nest n) d b W u ≡ Ok (tt, declaring_any d.name b u)
  unfolding declare
  declare_is n d b u = by d.name
    where
      by : (name : Option ℕ) → declare_param (nest n) (record d { name = name }) b W u ≡ Ok (tt, declaring_any name b u)
      by (Some k) = refl
      by None = refl

  parameter_leads : (s t u : State) (n : ℕ) (a : Specs) (d : Declares) → Leads horizon (declaration_specs (nest n) W s) (Ok (a, t)) → Leads horizon ((nest n).declarator mode.Parameter W t) (Ok (d, u)) →
      Leads horizon (parameter (nest n) W s)
      (Ok (record { tree = roll-Param (record { at = s.at; specs = a.list; declarator = d.tree }); height = max a.height d.height }, declaring_any d.name a.is_typedef u))
  unfolding parameter
  parameter_leads s t u n a d on next = leads_on horizon W (declaration_specs (nest n) W s) (Ok (a, t)) _ _ on (leads_on horizon W ((nest n).declarator mode.Parameter W t) (Ok (d, u)) _ _ next
      (inl (ap (λ o. and_then W o (λ _. pure (record { tree = roll-Param (record { at = s.at; specs = a.list; declarator = d.tree }); height = max a.height d.height }))) (declare_is n d a.is_typedef u))))

  parameter_found : (r : ℕ) (x : Param) (s t : State) → ParameterIs horizon W B r x s t → FoundParameter r x s t
  parameter_found r x s t (dcl.parameter all a b d _ u v h g) =
      let f = declared_found horizon W B below ends r all a b s u h in
      let k = below.declarator r mode.Parameter d u v g in
      let up = f.forward in
      let up2 = k.forward in
      let end = declared_at d.name b v in
      record {
        measured = record { tree = roll-Param (record { at = s.at; specs = f.list.list; declarator = k.grown.tree }); height = max f.list.height k.grown.height };
        tree = ap (λ z. roll-Param (record { at = s.at; specs = z; declarator = k.grown.tree })) f.tree
            ∙ ap (λ (z : Declared). roll-Param (record { at = s.at; specs = all; declarator = z.tree })) k.tree;
        forward = omega arith;
        begun = f.begun;
        small = λ lt. let x = f.small (omega arith) in let y = k.small (omega arith) in omega arith;
        leads = λ n more q e last.
            let seen : look_at W v ≡ q = declared_sign W d.name b v q (parameter_end q last) e in
            let ending : ends_declarator mode.Parameter (look_at W v) ≡ true = ap (ends_declarator mode.Parameter) seen ∙ last in
            subst (λ z. Leads horizon (parameter (nest n) W s)
            (Ok (record { tree = roll-Param (record { at = s.at; specs = f.list.list; declarator = k.grown.tree }); height = max f.list.height k.grown.height }, z)))
            (ap (λ (z : Declared). declaring_any z.name f.list.is_typedef v) k.tree ∙ ap (λ z. declaring_any d.name z v) f.is_typedef)
            (parameter_leads s u v n f.list k.grown
            (f.leads n more (begins_no_brace mode.Parameter (look_at W u) (k.begun (ends_follows mode.Parameter (look_at W v) ending))))
            (declarator_part horizon W r mode.Parameter d u v k n more ending));
      }

  pub record FoundParameters (r : ℕ) (all : List Param) (dots : Bool) (s t : State) : Type 0 where
    pub params : Params
    pub tree : params.0.tree ≡ all
    pub is_variadic : params.1 ≡ dots
    pub forward : s.at + 1 ≤ t.at
    pub begun : specifies false (look_at W s) ≡ true
    pub small : t.at < horizon → params.0.height ≤ r
    pub leads : (n k : ℕ) → (0 < horizon → r ≤ n) → most_words ≤ k + s.at → look_at W t ≡ sign.CloseParen → Leads horizon (parameters_from (nest n) k W s) (Ok (params, t))

  behind_parameter : ℕ → ℕ → Measured Param → Sign → Parser Params
  behind_parameter n k x q = if_so (is_comma q)
      (skip >> look (λ p. if_so (is_ellipsis p) (skip >> pure (last_one x true)) (parameters_from (nest n) k >>= (λ rest. pure (in_front x rest)))))
      (pure (last_one x false))

  turn : (n k : ℕ) (s t : State) (x : Measured Param) (o : Outcome Params) → Leads horizon (parameter (nest n) W s) (Ok (x, t)) → Leads horizon (behind_parameter n k x (look_at W t) W t) o →
      Leads horizon (parameters_from (nest n) (suc k) W s) o
  unfolding parameters_from behind_parameter
  turn n k s t x o one next = leads_on horizon W (parameter (nest n) W s) (Ok (x, t)) _ o one next

  no_ellipsis : (q : Sign) → specifies false q ≡ true → is_ellipsis q ≡ false
  no_ellipsis sign.Ellipsis e = absurd (cc)
  no_ellipsis _ e = refl

  specifies_end : specifies false sign.Eof ≡ false
  specifies_end = refl

  pub parameters_found : (r : ℕ) (all : List Param) (dots : Bool) (s t : State) → Parameters horizon W B r all dots s t → FoundParameters r all dots s t
  unfolding behind_parameter
  parameters_found r all dots s t (dcl.last_parameter x _ _ d) =
      let f = parameter_found r x s t d in
      record {
        params = last_one f.measured false;
        tree = ap (λ z. z ∷ []) f.tree;
        is_variadic = refl;
        forward = f.forward;
        begun = f.begun;
        small = f.small;
        leads = λ n k more turns close. last f n k more turns close;
      }
    where
      last : (f : FoundParameter r x s t) (n k : ℕ) → (0 < horizon → r ≤ n) → most_words ≤ k + s.at → look_at W t ≡ sign.CloseParen → Leads horizon (parameters_from (nest n) k W s) (Ok (last_one f.measured false, t))
      last f n zero more turns close = absurd (not_past W ends (specifies false) refl s f.begun (omega arith))
      last f n (suc k) more turns close = turn n k s t f.measured _ (f.leads n more sign.CloseParen close refl) (inl (ap (λ q. behind_parameter n k f.measured q W t) close))
  parameters_found r all dots s t (dcl.and_dots x _ u d comma ellipsis) =
      let f = parameter_found r x s u d in
      let up = f.forward in
      record {
        params = last_one f.measured true;
        tree = ap (λ z. z ∷ []) f.tree;
        is_variadic = refl;
        forward = omega arith;
        begun = f.begun;
        small = λ lt. f.small (omega arith);
        leads = λ n k more turns close. last f n k more turns close;
      }
    where
      last : (f : FoundParameter r x s u) (n k : ℕ) → (0 < horizon → r ≤ n) → most_words ≤ k + s.at → look_at W (step (step u)) ≡ sign.CloseParen →
          Leads horizon (parameters_from (nest n) k W s) (Ok (last_one f.measured true, step (step u)))
      last f n zero more turns close = absurd (not_past W ends (specifies false) refl s f.begun (omega arith))
      last f n (suc k) more turns close = turn n k s u f.measured _ (f.leads n more sign.Comma comma refl) (inl (ap (λ q. behind_parameter n k f.measured q W u) comma
          ∙ ap (λ p. if_so (is_ellipsis p) (skip >> pure (last_one f.measured true)) (parameters_from (nest n) k >>= (λ rest. pure (in_front f.measured rest))) W (step u)) ellipsis))
  parameters_found r all dots s t (dcl.parameter_and_more x more _ _ u _ d comma next) =
      let f = parameter_found r x s u d in
      let g = parameters_found r more dots (step u) t next in
      let up = f.forward in
      let up2 = g.forward in
      record {
        params = in_front f.measured g.params;
        tree = ap (λ z. z ∷ g.params.0.tree) f.tree ∙ ap (λ zs. x ∷ zs) g.tree;
        is_variadic = g.is_variadic;
        forward = omega arith;
        begun = f.begun;
        small = λ lt. let a = f.small (omega arith) in let b = g.small lt in omega arith;
        leads = λ n k room turns close. all_of f g n k room turns close;
      }
    where
      all_of : (f : FoundParameter r x s u) (g : FoundParameters r more dots (step u) t) (n k : ℕ) → (0 < horizon → r ≤ n) → most_words ≤ k + s.at → look_at W t ≡ sign.CloseParen →
          Leads horizon (parameters_from (nest n) k W s) (Ok (in_front f.measured g.params, t))
      all_of f g n zero room turns close = absurd (not_past W ends (specifies false) refl s f.begun (omega arith))
      all_of f g n (suc k) room turns close = turn n k s u f.measured _ (f.leads n room sign.Comma comma refl)
          (subst (λ o. Leads horizon o (Ok (in_front f.measured g.params, t)))
          (sym (ap (λ q. behind_parameter n k f.measured q W u) comma
          ∙ ap (λ b. if_so b (skip >> pure (last_one f.measured true)) (parameters_from (nest n) k >>= (λ rest. pure (in_front f.measured rest))) W (step u)) (no_ellipsis (look_at W (step u)) g.begun)))
          (leads_on horizon W (parameters_from (nest n) k W (step u)) (Ok (g.params, t)) _ _ (g.leads n k room (let up = f.forward in omega arith) close) (inl refl)))

  -- ---- lengths
  pub record FoundLength (r : ℕ) (words : List ℕ) (length : Option Ex) (s t : State) : Type 0 where
    pub value : Option Grown
    pub tree : length_tree value ≡ length
    pub forward : s.at ≤ t.at
    pub small : t.at < horizon → length_height value ≤ r
    pub leads : (n : ℕ) (named : Bool) → (0 < horizon → r ≤ n) → look_at W t ≡ sign.CloseBracket → Leads horizon (array_words (nest n) named W s) (Ok ((words, value), t))

  -- behind qualifiers
  plain_leads : (words : List ℕ) (s t : State) (n : ℕ) (named : Bool) (o : Outcome (List ℕ × Option Grown)) → Qualifiers horizon W B words s t → is_qualifier (look_at W t) ≡ false →
      is_static (look_at W s) ≡ false → Leads horizon (length_by (nest n) named words (look_at W t) W t) o → Leads horizon (array_words (nest n) named W s) o
  unfolding array_words
  plain_leads words s t n named o d last none on = subst (λ (p : Parser (List ℕ × Option Grown)). Leads horizon (p W s) o) (sym (plain_words (look_at W s) none (nest n) named))
      (leads_on horizon W (qualifiers W s) (Ok (words, t)) _ o (qualifiers_found_all words s t d last) on)

  static_leads : (words : List ℕ) (s t u : State) (n : ℕ) (named : Bool) (e : Grown) → look_at W s ≡ sign.Static → Qualifiers horizon W B words (step s) t → is_qualifier (look_at W t) ≡ false →
      Leads horizon ((nest n).expr 2 W t) (Ok (e, u)) → Leads horizon (array_words (nest n) named W s) (Ok ((s.at ∷ words, Some e), u))
  unfolding array_words
  static_leads words s t u n named e static d last on = subst (λ q. Leads horizon (words_by (nest n) named q W s) (Ok ((s.at ∷ words, Some e), u))) (sym static)
      (leads_on horizon W (qualifiers W (step s)) (Ok (words, t)) _ _ (qualifiers_found_all words (step s) t d last)
      (leads_on horizon W ((nest n).expr 2 W t) (Ok (e, u)) _ _ on (inl refl)))

  first_plain : (words : List ℕ) (s t : State) → Qualifiers horizon W B words s t → is_static (look_at W t) ≡ false → is_static (look_at W s) ≡ false
  first_plain words s t (dcl.no_qualifier _) e = e
  first_plain words s t (dcl.qualifier rest _ _ one next) e = qualifier_plain (look_at W s) (ap is_qualifier one)

  expr_by : (q : Sign) → begins_expression q ≡ true → (q ≡ sign.Star) ⊎ ((sub : Nest) (named : Bool) (words : List ℕ) → length_by sub named words q ≡ (sub.expr 2 >>= (λ e. pure (words, Some e))))
  expr_by sign.CloseBracket e = absurd (cc)
  expr_by sign.Static e = absurd (cc)
  expr_by sign.Star e = inl refl
  expr_by _ e = inr (λ sub named words. refl)

  length_leads : (r : ℕ) (words : List ℕ) (e : Ex) (t u : State) (f : FoundEx horizon W r 2 e t u) (n : ℕ) (named : Bool) → (0 < horizon → r ≤ n) → look_at W u ≡ sign.CloseBracket →
      Leads horizon (length_by (nest n) named words (look_at W t) W t) (Ok ((words, Some f.grown), u))
  length_leads r words e t u f n named more close = by (expr_by (look_at W t) f.begun)
    where
      by : (look_at W t ≡ sign.Star) ⊎ ((sub : Nest) (named : Bool) (words : List ℕ) → length_by sub named words (look_at W t) ≡ (sub.expr 2 >>= (λ e. pure (words, Some e)))) →
          Leads horizon (length_by (nest n) named words (look_at W t) W t) (Ok ((words, Some f.grown), u))
      by (inl star) = subst (λ q. Leads horizon (length_by (nest n) named words q W t) (Ok ((words, Some f.grown), u))) (sym star)
          (leads_on horizon W ((nest n).starred (is_empty words || named) W t) (Ok (f.grown, u)) _ _
          (starred_part horizon W r e t u f n (is_empty words || named) more (behind W u sign.CloseBracket 2 close (omega arith) refl) star) (inl refl))
      by (inr plain) = subst (λ (p : Parser (List ℕ × Option Grown)). Leads horizon (p W t) (Ok ((words, Some f.grown), u))) (sym (plain (nest n) named words))
          (leads_on horizon W ((nest n).expr 2 W t) (Ok (f.grown, u)) _ _
          (part horizon W r 2 e t u f n 2 more (omega arith) (omega arith) (behind W u sign.CloseBracket 2 close (omega arith) refl)) (inl refl))

  -- `static` behind qualifiers
  behind_leads : (words : List ℕ) (s t u : State) (n : ℕ) (named : Bool) (e : Grown) → Qualifiers horizon W B words s t → look_at W t ≡ sign.Static → is_qualifier (look_at W (step t)) ≡ false →
      Leads horizon ((nest n).expr 2 W (step t)) (Ok (e, u)) → Leads horizon (array_words (nest n) named W s) (Ok ((words ++ t.at ∷ [], Some e), u))
  behind_leads words s t u n named e (dcl.no_qualifier _) static last on = static_leads [] s (step s) u n named e static (dcl.no_qualifier (step s)) last on
  behind_leads words s t u n named e (dcl.qualifier rest _ _ one next) static last on = plain_leads words s t n named _ (dcl.qualifier rest s t one next) (ap is_qualifier static)
      (qualifier_plain (look_at W s) (ap is_qualifier one))
      (subst (λ q. Leads horizon (length_by (nest n) named words q W t) (Ok ((words ++ t.at ∷ [], Some e), u))) (sym static)
      (leads_on horizon W ((nest n).expr 2 W (step t)) (Ok (e, u)) _ _ on (inl refl)))

  pub length_found : (r : ℕ) (words : List ℕ) (length : Option Ex) (s t : State) → Length horizon W B r words length s t → FoundLength r words length s t
  unfolding is_static
  length_found r words length s t (dcl.no_length _ _ _ d) = record {
    value = None;
    tree = refl;
    forward = qualifiers_up words s t d;
    small = λ lt. omega arith;
    leads = λ n named more close. plain_leads words s t n named _ d (ap is_qualifier close) (first_plain words s t d (ap is_static close))
        (inl (ap (λ q. length_by (nest n) named words q W t) close));
  }
  length_found r words length s t (dcl.length_ _ v _ u _ d e) =
      let f = below.expr r 2 v u t e in
      let up = qualifiers_up words s u d in
      let up2 = f.forward in
      record {
        value = Some f.grown;
        tree = ap Some f.tree;
        forward = omega arith;
        small = f.small;
        leads = λ n named more close. plain_leads words s u n named _ d (begins_no_qualifier (look_at W u) f.begun) (first_plain words s u d (begins_no_static (look_at W u) f.begun))
            (length_leads r words v u t f n named more close);
      }
  length_found r words length s t (dcl.static_first rest v _ u _ static d e) =
      let f = below.expr r 2 v u t e in
      let up = qualifiers_up rest (step s) u d in
      let up2 = f.forward in
      record {
        value = Some f.grown;
        tree = ap Some f.tree;
        forward = omega arith;
        small = f.small;
        leads = λ n named more close. static_leads rest s u t n named f.grown static d (begins_no_qualifier (look_at W u) f.begun)
            (part horizon W r 2 v u t f n 2 more (omega arith) (omega arith) (behind W t sign.CloseBracket 2 close (omega arith) refl));
      }
  length_found r words length s t (dcl.static_behind rest v _ u _ d static e) =
      let f = below.expr r 2 v (step u) t e in
      let up = qualifiers_up rest s u d in
      let up2 = f.forward in
      record {
        value = Some f.grown;
        tree = ap Some f.tree;
        forward = omega arith;
        small = f.small;
        leads = λ n named more close. behind_leads rest s u t n named f.grown d static (begins_no_qualifier (look_at W (step u)) f.begun)
            (part horizon W r 2 v (step u) t f n 2 more (omega arith) (omega arith) (behind W t sign.CloseBracket 2 close (omega arith) refl));
      }

-- Each tree of specifiers, structs and enumerations is read, or a stop for depth behind the horizon comes first.
use Rattle.std.proofs.Common.{◌≡◌, ℕ, zero, suc, max, ◌+◌, ◌-◌, ◌<◌, ◌≤◌, inl, ◌||◌, Bool, true, false, List, [], ◌∷◌, Option, Some, None, Ok, refl, sym, ap, ◌∙◌, subst, arith}
use Rattle.c_tree.specs.declared.tree.Spec.{Spec}
use Rattle.c_tree.specs.declared.tree.Spec.TheVariants as spec
use Rattle.c_tree.specs.declared.tree.MemberLine.{MemberLine}
use Rattle.c_tree.specs.declared.tree.Enumerator.{Enumerator, roll-Enumerator}
use Rattle.c_expressions.specs.declared.grown.Specs.{Specs}
use Rattle.c_input.specs.declared.word.Sign.{Sign}
use Rattle.c_input.specs.declared.word.Sign.TheVariants as sign
use Rattle.c_input.specs.declared.word.Place.{Place as State}
use Rattle.c_input.specs.declared.measured.Measured.{Measured}
use Rattle.c_input.specs.Input.{Words, step, look_at, is_name, specifies, qualifies, binds}
use Rattle.c_input.specs.Parser.{Outcome, Parser, and_then, ◌>>=◌, ◌>>◌, pure, look, here, skip, refuse, if_so, any_name, declare, many_from, many, one_or_more, trailed_from, trailed, trees, deepest, gathered, most_words}
use Rattle.c_input.specs.Signs.{is_comma, is_close_brace, is_no_close_brace}
use Rattle.c_expressions.specs.Nest.{Nest}
use Rattle.c_expressions.specs.Levels.{nest}
use Rattle.c_expressions.specs.Specifiers.{is_type_specifier, is_typedef, no_specs, with_spec, flat, tag_by, tag, member_lines, struct_by, struct_specifier, enumerator_by, enumerator, enumerators, enum_by, enum_specifier, spec_by, specs_from, specs, some_specs}
use Rattle.c_grammar.specs.Below.{Below, name_at}
use Rattle.c_grammar.specs.SpecifierTrees.{is_spec_word, is_struct_or_union, member_part, Tag, Lines, EnumeratorIs, Enumerators, SpecifierIs, SpecifiersAre, SomeSpecifiers, MemberIs, Members, LineIs}
use Rattle.c_grammar.specs.SpecifierTrees as spc
use Rattle.c_grammar.proofs.SpecifierTreesRead.{Ends, not_past}
use Rattle.c_grammar.proofs.Leads.{Leads, leads_on, expect_found, name_found}
use Rattle.c_grammar.proofs.LeadsLists.{other_names, many_stops, many_goes, trailed_last, trailed_comma, trailed_more}
use Rattle.c_grammar.proofs.ExpressionsFound.{part, is_apart}
use Rattle.c_grammar.proofs.NodesFound.{is_brace, line_part, FoundBelow}

-- ---- signs

tag_named : (q : Sign) → is_name q ≡ true → tag_by q ≡ (any_name >>= (λ n. pure (Some n.1)))
tag_named sign.Name e = refl
tag_named sign.TypeName e = refl
tag_named _ e = absurd (cc)

qualifies_on : (q : Sign) → qualifies false q ≡ true → is_no_close_brace q ≡ true
qualifies_on sign.CloseBrace e = absurd (cc)
qualifies_on _ e = refl

name_no_brace : (q : Sign) → is_name q ≡ true → is_close_brace q ≡ false
name_no_brace sign.Name e = refl
name_no_brace sign.TypeName e = refl
name_no_brace _ e = absurd (cc)

struct_is : (q : Sign) → is_struct_or_union q ≡ true → (sub : Nest) → spec_by sub q ≡ struct_specifier sub
struct_is sign.Struct e sub = refl
struct_is sign.Union e sub = refl
struct_is _ e sub = absurd (cc)

word_is : (q : Sign) → is_spec_word q ≡ true → (sub : Nest) → spec_by sub q ≡ (here >>= (λ at. skip >> pure (flat (spec.Word at))))
word_is sign.Storage e sub = refl
word_is sign.Static e sub = refl
word_is sign.Typedef e sub = refl
word_is sign.Qualifier e sub = refl
word_is sign.TypeWord e sub = refl
word_is _ e sub = absurd (cc)

-- what ends an enumerator
abbrev ends_enumerator : Sign → Bool
ends_enumerator sign.Comma = true
ends_enumerator sign.CloseBrace = true
ends_enumerator _ = false

behind_enumerator : (q : Sign) → ends_enumerator q ≡ true → (binds q < 3) × (is_apart q ≡ true)
behind_enumerator sign.Comma e = (omega arith, refl)
behind_enumerator sign.CloseBrace e = (omega arith, refl)
behind_enumerator _ e = absurd (cc)

no_value : (q : Sign) → ends_enumerator q ≡ true → (sub : Nest) (n at : ℕ) →
    enumerator_by sub n at q ≡ (declare n false >> pure (record { tree = roll-Enumerator (record { name = at; value = None }); height = 0 }))
no_value sign.Comma e sub n at = refl
no_value sign.CloseBrace e sub n at = refl
no_value _ e sub n at = absurd (cc)

no_body : (q : Sign) → is_brace q ≡ false → (sub : Nest) (at : ℕ) (name : Option ℕ) → struct_by sub at name q ≡ pure (flat (spec.Struct at name None))
no_body sign.OpenBrace e sub at name = absurd (cc)
no_body _ e sub at name = refl

no_list : (q : Sign) → is_brace q ≡ false → (sub : Nest) (at : ℕ) (name : Option ℕ) → enum_by sub at name q ≡ pure (flat (spec.Enum at name None))
no_list sign.OpenBrace e sub at name = absurd (cc)
no_list _ e sub at name = refl

module _ (horizon : ℕ) (W : Words) (B : Below) (below : FoundBelow horizon W B) (ends : Ends W) where
  tag_found : (name : Option ℕ) (s t : State) → Tag horizon W B name s t → tag W s ≡ Ok (name, t)
  unfolding tag
  tag_found name s t (spc.no_tag _ e) = ap (λ q. tag_by q W s) e
  tag_found name s t (spc.tag _ e) = ap (λ (p : Parser (Option ℕ)). p W s) (tag_named (look_at W s) e) ∙ ap (λ o. and_then W o (λ n. pure (Some n.1))) (name_found W s e)

  tag_forward : (name : Option ℕ) (s t : State) → Tag horizon W B name s t → s.at ≤ t.at
  tag_forward name s t (spc.no_tag _ e) = omega arith
  tag_forward name s t (spc.tag _ e) = omega arith

  -- ---- lines of members
  record FoundLines (r : ℕ) (all : List MemberLine) (s t : State) : Type 0 where
    first : Measured MemberLine
    rest : List (Measured MemberLine)
    between : State
    tree : first.tree ∷ trees rest ≡ all
    forward : s.at + 1 ≤ between.at
    onward : between.at ≤ t.at
    begun : qualifies false (look_at W s) ≡ true
    small : t.at < horizon → max first.height (deepest rest) ≤ r
    one : (n : ℕ) → (0 < horizon → r ≤ n) → Leads horizon ((nest n).line W s) (Ok (first, between))
    others : (n k : ℕ) → (0 < horizon → r ≤ n) → most_words ≤ k + between.at → look_at W t ≡ sign.CloseBrace →
        Leads horizon (many_from is_no_close_brace (nest n).line k W between) (Ok (rest, t))

  lines_found : (r : ℕ) (all : List MemberLine) (s t : State) → Lines horizon W B r all s t → FoundLines r all s t
  lines_found r all s t (spc.last_line x _ _ d) =
      let f = below.line r x s t d in
      record {
        first = f.measured;
        rest = [];
        between = t;
        tree = ap (λ z. z ∷ []) f.tree;
        forward = f.forward;
        onward = omega arith;
        begun = f.begun;
        small = λ lt. let a = f.small lt in omega arith;
        one = λ n more. line_part horizon W r x s t f n more;
        others = λ n k more turns close. inl (many_stops horizon W is_no_close_brace (nest n).line k t (ap is_no_close_brace close));
      }
  lines_found r all s t (spc.line_and_more x more _ u _ d next) =
      let f = below.line r x s u d in
      let g = lines_found r more u t next in
      let up = f.forward in
      let up2 = g.forward in
      let up3 = g.onward in
      record {
        first = f.measured;
        rest = g.first ∷ g.rest;
        between = u;
        tree = ap (λ z. z ∷ g.first.tree ∷ trees g.rest) f.tree ∙ ap (λ zs. x ∷ zs) g.tree;
        forward = up;
        onward = omega arith;
        begun = f.begun;
        small = λ lt. let a = f.small (omega arith) in let b = g.small lt in omega arith;
        one = λ n room. line_part horizon W r x s u f n room;
        others = λ n k room turns close. one_more g n k room turns close;
      }
    where
      one_more : (g : FoundLines r more u t) (n k : ℕ) → (0 < horizon → r ≤ n) → most_words ≤ k + u.at → look_at W t ≡ sign.CloseBrace →
          Leads horizon (many_from is_no_close_brace (nest n).line k W u) (Ok (g.first ∷ g.rest, t))
      one_more g n zero room turns close = absurd (not_past W ends (qualifies false) refl u g.begun (omega arith))
      one_more g n (suc k) room turns close = many_goes horizon W is_no_close_brace (nest n).line k u g.between t g.first g.rest (qualifies_on (look_at W u) g.begun) (g.one n room)
          (g.others n k room (let up = g.forward in omega arith) close)

  member_lines_leads : (s t : State) (n : ℕ) (first : Measured MemberLine) (rest : List (Measured MemberLine)) →
      Leads horizon (one_or_more is_no_close_brace (nest n).line W (step s)) (Ok (first ∷ rest, t)) → look_at W t ≡ sign.CloseBrace →
      Leads horizon (member_lines (nest n) W s) (Ok (record { tree = first.tree ∷ trees rest; height = max first.height (deepest rest) }, step t))
  unfolding member_lines
  member_lines_leads s t n first rest on close = leads_on horizon W (gathered (one_or_more is_no_close_brace (nest n).line) W (step s))
      (Ok (record { tree = first.tree ∷ trees rest; height = max first.height (deepest rest) }, t)) _ _
      (leads_on horizon W (one_or_more is_no_close_brace (nest n).line W (step s)) (Ok (first ∷ rest, t)) _ _ on (inl refl))
      (inl (ap (λ o. and_then W o (λ _. pure (record { tree = first.tree ∷ trees rest; height = max first.height (deepest rest) }))) (expect_found is_close_brace W t (ap is_close_brace close))))

  lines_leads : (r : ℕ) (all : List MemberLine) (s t : State) (f : FoundLines r all s t) (n : ℕ) → (0 < horizon → r ≤ n) → look_at W t ≡ sign.CloseBrace →
      Leads horizon (one_or_more is_no_close_brace (nest n).line W s) (Ok (f.first ∷ f.rest, t))
  unfolding one_or_more many
  lines_leads r all s t f n more close = leads_on horizon W ((nest n).line W s) (Ok (f.first, f.between)) _ _ (f.one n more)
      (leads_on horizon W (many_from is_no_close_brace (nest n).line (most_words - f.between.at) W f.between) (Ok (f.rest, t)) _ _
      (f.others n (most_words - f.between.at) more (omega arith) close) (inl refl))

  -- ---- enumerators
  record FoundEnumerator (r : ℕ) (x : Enumerator) (s t : State) : Type 0 where
    measured : Measured Enumerator
    tree : measured.tree ≡ x
    forward : s.at + 1 ≤ t.at
    begun : is_name (look_at W s) ≡ true
    small : t.at < horizon → measured.height ≤ r
    leads : (n : ℕ) → (0 < horizon → r ≤ n) → (q : Sign) → look_at W t ≡ q → ends_enumerator q ≡ true → Leads horizon (enumerator (nest n) W s) (Ok (measured, t))

  named_leads : (s : State) (n : ℕ) (q : Sign) (o : Outcome (Measured Enumerator)) → is_name (look_at W s) ≡ true → look_at W (step s) ≡ q →
      Leads horizon (enumerator_by (nest n) (name_at W s) s.at q W (step s)) o → Leads horizon (enumerator (nest n) W s) o
  unfolding enumerator
  named_leads s n q o named e on = subst (λ x. Leads horizon x o) (sym (ap (λ x. and_then W x (λ m. look (enumerator_by (nest n) m.0 m.1))) (name_found W s named)
      ∙ ap (λ q. enumerator_by (nest n) (name_at W s) s.at q W (step s)) e)) on

  enumerator_no_name : (q : Sign) → ends_enumerator q ≡ true → is_name q ≡ false
  enumerator_no_name sign.Comma e = refl
  enumerator_no_name sign.CloseBrace e = refl
  enumerator_no_name _ e = absurd (cc)

  enumerator_found : (r : ℕ) (x : Enumerator) (s t : State) → EnumeratorIs horizon W B r x s t → FoundEnumerator r x s t
  unfolding declare
  enumerator_found r x s t (spc.enumeration_constant _ named) = record {
    measured = record { tree = x; height = 0 };
    tree = refl;
    forward = omega arith;
    begun = named;
    small = λ lt. omega arith;
    leads = λ n more q e end. let seen : look_at W (step s) ≡ q = other_names W (suc s.at) t.names s.names q (enumerator_no_name q end) e in
        named_leads s n q _ named seen (inl (ap (λ (p : Parser (Measured Enumerator)). p W (step s)) (no_value q end (nest n) (name_at W s) s.at)));
  }
  enumerator_found r x s t (spc.with_value v _ u named equal d) =
      let f = below.expr r 3 v (step (step s)) u d in
      let up = f.forward in
      record {
        measured = record { tree = roll-Enumerator (record { name = s.at; value = Some f.grown.tree }); height = f.grown.height };
        tree = ap (λ z. roll-Enumerator (record { name = s.at; value = Some z })) f.tree;
        forward = omega arith;
        begun = named;
        small = λ lt. let a = f.small lt in omega arith;
        leads = λ n more q e end. let seen : look_at W u ≡ q = other_names W u.at t.names u.names q (enumerator_no_name q end) e in
            let b = behind_enumerator q end in
            named_leads s n sign.Equal _ named equal
            (leads_on horizon W ((nest n).expr 3 W (step (step s))) (Ok (f.grown, u)) _ _
            (part horizon W r 3 v (step (step s)) u f n 3 more (omega arith) (omega arith) (subst (λ z. binds z < 3) (sym seen) b.0, ap is_apart seen ∙ b.1)) (inl refl));
      }

  record FoundEnumerators (r : ℕ) (all : List Enumerator) (s t : State) : Type 0 where
    list : List (Measured Enumerator)
    tree : trees list ≡ all
    forward : s.at + 1 ≤ t.at
    begun : is_name (look_at W s) ≡ true
    small : t.at < horizon → deepest list ≤ r
    leads : (n k : ℕ) → (0 < horizon → r ≤ n) → most_words ≤ k + s.at → look_at W t ≡ sign.CloseBrace →
        Leads horizon (trailed_from is_comma is_close_brace (enumerator (nest n)) k W s) (Ok (list, t))

  enumerators_found : (r : ℕ) (all : List Enumerator) (s t : State) → Enumerators horizon W B r all s t → FoundEnumerators r all s t
  enumerators_found r all s t (spc.last_enumerator x _ _ d) =
      let f = enumerator_found r x s t d in
      record {
        list = f.measured ∷ [];
        tree = ap (λ z. z ∷ []) f.tree;
        forward = f.forward;
        begun = f.begun;
        small = λ lt. let a = f.small lt in omega arith;
        leads = λ n k more turns close. last f n k more turns close;
      }
    where
      last : (f : FoundEnumerator r x s t) (n k : ℕ) → (0 < horizon → r ≤ n) → most_words ≤ k + s.at → look_at W t ≡ sign.CloseBrace →
          Leads horizon (trailed_from is_comma is_close_brace (enumerator (nest n)) k W s) (Ok (f.measured ∷ [], t))
      last f n zero more turns close = absurd (not_past W ends is_name refl s f.begun (omega arith))
      last f n (suc k) more turns close = trailed_last horizon W is_comma is_close_brace (enumerator (nest n)) k s t f.measured (f.leads n more sign.CloseBrace close refl) (ap is_comma close)
  enumerators_found r all s t (spc.last_and_comma x _ u d comma) =
      let f = enumerator_found r x s u d in
      let up = f.forward in
      record {
        list = f.measured ∷ [];
        tree = ap (λ z. z ∷ []) f.tree;
        forward = omega arith;
        begun = f.begun;
        small = λ lt. let a = f.small (omega arith) in omega arith;
        leads = λ n k more turns close. last f n k more turns close;
      }
    where
      last : (f : FoundEnumerator r x s u) (n k : ℕ) → (0 < horizon → r ≤ n) → most_words ≤ k + s.at → look_at W (step u) ≡ sign.CloseBrace →
          Leads horizon (trailed_from is_comma is_close_brace (enumerator (nest n)) k W s) (Ok (f.measured ∷ [], step u))
      last f n zero more turns close = absurd (not_past W ends is_name refl s f.begun (omega arith))
      last f n (suc k) more turns close = trailed_comma horizon W is_comma is_close_brace (enumerator (nest n)) k s u f.measured (f.leads n more sign.Comma comma refl)
          (ap is_comma comma) (ap is_close_brace close)
  enumerators_found r all s t (spc.enumerator_and_more x more _ u _ d comma next) =
      let f = enumerator_found r x s u d in
      let g = enumerators_found r more (step u) t next in
      let up = f.forward in
      let up2 = g.forward in
      record {
        list = f.measured ∷ g.list;
        tree = ap (λ z. z ∷ trees g.list) f.tree ∙ ap (λ zs. x ∷ zs) g.tree;
        forward = omega arith;
        begun = f.begun;
        small = λ lt. let a = f.small (omega arith) in let b = g.small lt in omega arith;
        leads = λ n k room turns close. all_of f g n k room turns close;
      }
    where
      all_of : (f : FoundEnumerator r x s u) (g : FoundEnumerators r more (step u) t) (n k : ℕ) → (0 < horizon → r ≤ n) → most_words ≤ k + s.at → look_at W t ≡ sign.CloseBrace →
          Leads horizon (trailed_from is_comma is_close_brace (enumerator (nest n)) k W s) (Ok (f.measured ∷ g.list, t))
      all_of f g n zero room turns close = absurd (not_past W ends is_name refl s f.begun (omega arith))
      all_of f g n (suc k) room turns close = trailed_more horizon W is_comma is_close_brace (enumerator (nest n)) k s u t f.measured g.list (f.leads n room sign.Comma comma refl)
          (ap is_comma comma) (name_no_brace (look_at W (step u)) g.begun) (g.leads n k room (let up = f.forward in omega arith) close)

  enumerators_leads : (s t : State) (n : ℕ) (list : List (Measured Enumerator)) →
      Leads horizon (trailed_from is_comma is_close_brace (enumerator (nest n)) (most_words - suc s.at) W (step s)) (Ok (list, t)) → look_at W t ≡ sign.CloseBrace →
      Leads horizon (enumerators (nest n) W s) (Ok (record { tree = trees list; height = deepest list }, step t))
  unfolding enumerators trailed
  enumerators_leads s t n list on close = leads_on horizon W (gathered (trailed is_comma is_close_brace (enumerator (nest n))) W (step s)) (Ok (record { tree = trees list; height = deepest list }, t)) _ _
      (leads_on horizon W (trailed_from is_comma is_close_brace (enumerator (nest n)) (most_words - suc s.at) W (step s)) (Ok (list, t)) _ _ on (inl refl))
      (inl (ap (λ o. and_then W o (λ _. pure (record { tree = trees list; height = deepest list }))) (expect_found is_close_brace W t (ap is_close_brace close))))

  -- ---- one specifier
  record FoundSpecifier (r : ℕ) (x : Spec) (s t : State) : Type 0 where
    measured : Measured Spec
    tree : measured.tree ≡ x
    forward : s.at + 1 ≤ t.at
    small : t.at < horizon → measured.height ≤ r
    leads : (n : ℕ) → (0 < horizon → r ≤ n) → is_brace (look_at W t) ≡ false → Leads horizon (spec_by (nest n) (look_at W s) W s) (Ok (measured, t))

  struct_leads : (s t : State) (n : ℕ) (name : Option ℕ) (o : Outcome (Measured Spec)) → tag W (step s) ≡ Ok (name, t) → Leads horizon (struct_by (nest n) s.at name (look_at W t) W t) o →
      Leads horizon (struct_specifier (nest n) W s) o
  unfolding struct_specifier
  struct_leads s t n name o e on = subst (λ x. Leads horizon x o) (sym (ap (λ x. and_then W x (λ name. look (struct_by (nest n) s.at name))) e)) on

  enum_leads : (s t : State) (n : ℕ) (name : Option ℕ) (o : Outcome (Measured Spec)) → tag W (step s) ≡ Ok (name, t) → Leads horizon (enum_by (nest n) s.at name (look_at W t) W t) o →
      Leads horizon (enum_specifier (nest n) W s) o
  unfolding enum_specifier
  enum_leads s t n name o e on = subst (λ x. Leads horizon x o) (sym (ap (λ x. and_then W x (λ name. look (enum_by (nest n) s.at name))) e)) on

  body_leads : (s t u : State) (n : ℕ) (name : Option ℕ) (x : Measured (List MemberLine)) → look_at W t ≡ sign.OpenBrace → Leads horizon (member_lines (nest n) W t) (Ok (x, u)) →
      Leads horizon (struct_by (nest n) s.at name (look_at W t) W t) (Ok (record { tree = spec.Struct s.at name (Some x.tree); height = x.height }, u))
  body_leads s t u n name x e on = subst (λ q. Leads horizon (struct_by (nest n) s.at name q W t) (Ok (record { tree = spec.Struct s.at name (Some x.tree); height = x.height }, u))) (sym e)
      (leads_on horizon W (member_lines (nest n) W t) (Ok (x, u)) _ _ on (inl refl))

  list_leads : (s t u : State) (n : ℕ) (name : Option ℕ) (x : Measured (List Enumerator)) → look_at W t ≡ sign.OpenBrace → Leads horizon (enumerators (nest n) W t) (Ok (x, u)) →
      Leads horizon (enum_by (nest n) s.at name (look_at W t) W t) (Ok (record { tree = spec.Enum s.at name (Some x.tree); height = x.height }, u))
  list_leads s t u n name x e on = subst (λ q. Leads horizon (enum_by (nest n) s.at name q W t) (Ok (record { tree = spec.Enum s.at name (Some x.tree); height = x.height }, u))) (sym e)
      (leads_on horizon W (enumerators (nest n) W t) (Ok (x, u)) _ _ on (inl refl))

  specifier_found : (r : ℕ) (x : Spec) (s t : State) → SpecifierIs horizon W B r x s t → FoundSpecifier r x s t
  specifier_found r x s t (spc.spec_word _ e) = record {
    measured = flat x;
    tree = refl;
    forward = omega arith;
    small = λ lt. omega arith;
    leads = λ n more none. inl (ap (λ (p : Parser (Measured Spec)). p W s) (word_is (look_at W s) e (nest n)));
  }
  specifier_found r x s t (spc.typedef_name _ e) = record {
    measured = flat x;
    tree = refl;
    forward = omega arith;
    small = λ lt. omega arith;
    leads = λ n more none. inl (ap (λ q. spec_by (nest n) q W s) e);
  }
  specifier_found r x s t (spc.struct_ name lines _ u v e named opens d close) =
      let g = lines_found r lines (step u) v d in
      let back = tag_forward name (step s) u named in
      let up = g.forward in
      let up2 = g.onward in
      record {
        measured = record { tree = spec.Struct s.at name (Some (g.first.tree ∷ trees g.rest)); height = max g.first.height (deepest g.rest) };
        tree = ap (λ z. spec.Struct s.at name (Some z)) g.tree;
        forward = omega arith;
        small = λ lt. let a = g.small (omega arith) in omega arith;
        leads = λ n more none. subst (λ (p : Parser (Measured Spec)).
            Leads horizon (p W s) (Ok (record { tree = spec.Struct s.at name (Some (g.first.tree ∷ trees g.rest)); height = max g.first.height (deepest g.rest) }, step v))) (sym (struct_is (look_at W s) e (nest n)))
            (struct_leads s u n name _ (tag_found name (step s) u named)
            (body_leads s u (step v) n name (record { tree = g.first.tree ∷ trees g.rest; height = max g.first.height (deepest g.rest) }) opens
            (member_lines_leads u v n g.first g.rest (lines_leads r lines (step u) v g n more close) close)));
      }
  specifier_found r x s t (spc.struct_tag _ e named) = record {
    measured = flat x;
    tree = refl;
    forward = omega arith;
    small = λ lt. omega arith;
    leads = λ n more none. subst (λ (p : Parser (Measured Spec)). Leads horizon (p W s) (Ok (flat x, t))) (sym (struct_is (look_at W s) e (nest n)))
        (struct_leads s t n (Some (step s).at) _ (tag_found (Some (step s).at) (step s) t (spc.tag (step s) named))
        (inl (ap (λ (p : Parser (Measured Spec)). p W t) (no_body (look_at W t) none (nest n) s.at (Some (step s).at)))));
  }
  specifier_found r x s t (spc.enum_ name all _ u v e named opens d close) =
      let g = enumerators_found r all (step u) v d in
      let back = tag_forward name (step s) u named in
      let up = g.forward in
      record {
        measured = record { tree = spec.Enum s.at name (Some (trees g.list)); height = deepest g.list };
        tree = ap (λ z. spec.Enum s.at name (Some z)) g.tree;
        forward = omega arith;
        small = λ lt. let a = g.small (omega arith) in omega arith;
        leads = λ n more none. subst (λ q. Leads horizon (spec_by (nest n) q W s) (Ok (record { tree = spec.Enum s.at name (Some (trees g.list)); height = deepest g.list }, step v))) (sym e)
            (enum_leads s u n name _ (tag_found name (step s) u named)
            (list_leads s u (step v) n name (record { tree = trees g.list; height = deepest g.list }) opens
            (enumerators_leads u v n g.list (g.leads n (most_words - suc u.at) more (omega arith) close) close)));
      }
  specifier_found r x s t (spc.enum_tag _ e named) = record {
    measured = flat x;
    tree = refl;
    forward = omega arith;
    small = λ lt. omega arith;
    leads = λ n more none. subst (λ q. Leads horizon (spec_by (nest n) q W s) (Ok (flat x, t))) (sym e)
        (enum_leads s t n (Some (step s).at) _ (tag_found (Some (step s).at) (step s) t (spc.tag (step s) named))
        (inl (ap (λ (p : Parser (Measured Spec)). p W t) (no_list (look_at W t) none (nest n) s.at (Some (step s).at)))));
  }

  -- ---- lists of specifiers
  module _ (more : Bool → Sign → Bool) (eof : (typed : Bool) → more typed sign.Eof ≡ false) (brace : (typed : Bool) (q : Sign) → more typed q ≡ true → is_brace q ≡ false) where
    pub record FoundSpecifiers (r : ℕ) (typed : Bool) (all : List Spec) (a b : Bool) (s t : State) : Type 0 where
      pub list : Specs
      pub tree : list.list ≡ all
      pub is_typed : list.is_typed ≡ a
      pub is_typedef : list.is_typedef ≡ b
      pub forward : s.at ≤ t.at
      pub small : t.at < horizon → list.height ≤ r
      pub apart : is_brace (look_at W t) ≡ false → is_brace (look_at W s) ≡ false
      pub leads : (n k : ℕ) → (0 < horizon → r ≤ n) → most_words ≤ k + s.at → is_brace (look_at W t) ≡ false → Leads horizon (specs_from (nest n) more k typed W s) (Ok (list, t))

    specs_stop : (n k : ℕ) (typed : Bool) (s : State) → more typed (look_at W s) ≡ false → specs_from (nest n) more k typed W s ≡ Ok (no_specs, s)
    unfolding specs_from
    specs_stop n zero typed s e = refl
    specs_stop n (suc k) typed s e = ap (λ b. if_so b (spec_by (nest n) (look_at W s) >>= (λ x. specs_from (nest n) more k (typed || is_type_specifier (look_at W s)) >>=
        (λ rest. pure (with_spec (look_at W s) x rest)))) (pure no_specs) W s) e

    specs_go : (n k : ℕ) (typed : Bool) (s t u : State) (x : Measured Spec) (rest : Specs) → more typed (look_at W s) ≡ true → Leads horizon (spec_by (nest n) (look_at W s) W s) (Ok (x, t)) →
        Leads horizon (specs_from (nest n) more k (typed || is_type_specifier (look_at W s)) W t) (Ok (rest, u)) →
        Leads horizon (specs_from (nest n) more (suc k) typed W s) (Ok (with_spec (look_at W s) x rest, u))
    unfolding specs_from
    specs_go n k typed s t u x rest e one others = subst (λ b. Leads horizon (if_so b (spec_by (nest n) (look_at W s) >>= (λ x. specs_from (nest n) more k (typed || is_type_specifier (look_at W s)) >>=
        (λ rest. pure (with_spec (look_at W s) x rest)))) (pure no_specs) W s) (Ok (with_spec (look_at W s) x rest, u))) (sym e)
        (leads_on horizon W (spec_by (nest n) (look_at W s) W s) (Ok (x, t)) _ _ one
        (leads_on horizon W (specs_from (nest n) more k (typed || is_type_specifier (look_at W s)) W t) (Ok (rest, u)) _ _ others (inl refl)))

    pub specifiers_found : (r : ℕ) (typed : Bool) (all : List Spec) (a b : Bool) (s t : State) → SpecifiersAre horizon W B more r typed all a b s t → FoundSpecifiers r typed all a b s t
    specifiers_found r typed all a b s t (spc.no_specifier _ _ none) = record {
      list = no_specs;
      tree = refl;
      is_typed = refl;
      is_typedef = refl;
      forward = omega arith;
      small = λ lt. omega arith;
      apart = λ e. e;
      leads = λ n k room turns none_behind. inl (specs_stop n k typed s none);
    }
    specifiers_found r typed all a b s t (spc.specifier _ x rest p q _ u _ one d next) =
        let f = specifier_found r x s u d in
        let g = specifiers_found r (typed || is_type_specifier (look_at W s)) rest p q u t next in
        let up = f.forward in
        let up2 = g.forward in
        record {
          list = with_spec (look_at W s) f.measured g.list;
          tree = ap (λ z. z ∷ g.list.list) f.tree ∙ ap (λ zs. x ∷ zs) g.tree;
          is_typed = ap (λ z. is_type_specifier (look_at W s) || z) g.is_typed;
          is_typedef = ap (λ z. is_typedef (look_at W s) || z) g.is_typedef;
          forward = omega arith;
          small = λ lt. let a = f.small (omega arith) in let b = g.small lt in omega arith;
          apart = λ e. brace typed (look_at W s) one;
          leads = λ n k room turns none. both f g n k room turns none;
        }
      where
        both : (f : FoundSpecifier r x s u) (g : FoundSpecifiers r (typed || is_type_specifier (look_at W s)) rest p q u t) (n k : ℕ) → (0 < horizon → r ≤ n) → most_words ≤ k + s.at →
            is_brace (look_at W t) ≡ false → Leads horizon (specs_from (nest n) more k typed W s) (Ok (with_spec (look_at W s) f.measured g.list, t))
        both f g n zero room turns none = absurd (not_past W ends (more typed) (eof typed) s one (omega arith))
        both f g n (suc k) room turns none = specs_go n k typed s u t f.measured g.list one (f.leads n room (g.apart none)) (g.leads n k room (let up = f.forward in omega arith) none)

    strictly : (r : ℕ) (all : List Spec) (a b : Bool) (s t : State) → more false (look_at W s) ≡ true → SpecifiersAre horizon W B more r false all a b s t → s.at + 1 ≤ t.at
    strictly r all a b s t first (spc.no_specifier _ _ none) = absurd (cc)
    strictly r all a b s t first (spc.specifier _ x rest p q _ u _ one d next) =
        let up = (specifier_found r x s u d).forward in
        let up2 = (specifiers_found r (false || is_type_specifier (look_at W s)) rest p q u t next).forward in
        omega arith

    pub record FoundSome (r : ℕ) (all : List Spec) (a b : Bool) (s t : State) : Type 0 where
      pub list : Specs
      pub tree : list.list ≡ all
      pub is_typed : list.is_typed ≡ a
      pub is_typedef : list.is_typedef ≡ b
      pub forward : s.at + 1 ≤ t.at
      pub begun : more false (look_at W s) ≡ true
      pub small : t.at < horizon → list.height ≤ r
      pub leads : (n : ℕ) → (0 < horizon → r ≤ n) → is_brace (look_at W t) ≡ false → Leads horizon (some_specs (nest n) more W s) (Ok (list, t))

    some_go : (n : ℕ) (s t : State) (x : Specs) → more false (look_at W s) ≡ true → Leads horizon (specs_from (nest n) more (most_words - s.at) false W s) (Ok (x, t)) →
        Leads horizon (some_specs (nest n) more W s) (Ok (x, t))
    unfolding some_specs specs
    some_go n s t x e on = subst (λ b. Leads horizon (if_so b (specs (nest n) more false) refuse W s) (Ok (x, t))) (sym e) on

    pub some_found : (r : ℕ) (all : List Spec) (a b : Bool) (s t : State) → SomeSpecifiers horizon W B more r all a b s t → FoundSome r all a b s t
    some_found r all a b s t (spc.some_specifiers _ _ _ _ _ one d) =
        let f = specifiers_found r false all a b s t d in
        record {
          list = f.list;
          tree = f.tree;
          is_typed = f.is_typed;
          is_typedef = f.is_typedef;
          forward = strictly r all a b s t one d;
          begun = one;
          small = f.small;
          leads = λ n room none. some_go n s t f.list one (f.leads n (most_words - s.at) room (omega arith) none);
        }

pub qualifies_no_brace : (typed : Bool) (q : Sign) → qualifies typed q ≡ true → is_brace q ≡ false
qualifies_no_brace false sign.OpenBrace e = absurd (cc)
qualifies_no_brace true sign.OpenBrace e = absurd (cc)
qualifies_no_brace false _ e = refl
qualifies_no_brace true _ e = refl

pub specifies_no_brace : (typed : Bool) (q : Sign) → specifies typed q ≡ true → is_brace q ≡ false
specifies_no_brace false sign.OpenBrace e = absurd (cc)
specifies_no_brace true sign.OpenBrace e = absurd (cc)
specifies_no_brace false _ e = refl
specifies_no_brace true _ e = refl

-- Each tree of a line of members is read, or a stop for depth behind the horizon comes first.
use Rattle.std.proofs.Common.{◌≡◌, ℕ, zero, suc, max, ◌+◌, ◌-◌, ◌<◌, ◌≤◌, inl, inr, nat_lt, Bool, true, false, List, [], ◌∷◌, Some, None, Ok, Err, refl, sym, ap, ◌∙◌, subst, arith}
use Rattle.std.proofs.lemmas.Bool.Decides.{nat_tests}
use Rattle.c_tree.specs.declared.tree.Spec.{Spec}
use Rattle.c_tree.specs.declared.tree.MemberLine.{MemberLine, roll-MemberLine}
use Rattle.c_tree.specs.declared.tree.MemberPart.{MemberPart}
use Rattle.c_tree.specs.declared.tree.DeclForm.TheVariants as form
use Rattle.c_expressions.specs.declared.grown.Grown.{Grown}
use Rattle.c_expressions.specs.declared.grown.Specs.{Specs}
use Rattle.c_expressions.specs.declared.grown.Declares.{Declares}
use Rattle.c_expressions.specs.declared.grown.Mode.TheVariants as mode
use Rattle.c_input.specs.declared.word.Sign.{Sign}
use Rattle.c_input.specs.declared.word.Sign.TheVariants as sign
use Rattle.c_input.specs.declared.word.Place.{Place as State}
use Rattle.c_input.specs.declared.measured.Measured.{Measured}
use Rattle.c_input.specs.Input.{Words, step, look_at, specifies, qualifies, binds}
use Rattle.c_input.specs.Parser.{too_deep, Outcome, Parser, and_then, ◌>>=◌, ◌>>◌, pure, look, skip, too_deep_here, stop_by, if_so, many_from, many, separated, trees, deepest, most_words}
use Rattle.c_input.specs.Signs.{is_comma, is_semicolon}
use Rattle.c_expressions.specs.Nest.{Nest}
use Rattle.c_expressions.specs.Levels.{nest}
use Rattle.c_expressions.specs.Specifiers.{is_type_specifier, is_typedef, no_specs, with_spec, flat, tag_by, tag, member_lines, struct_by, struct_specifier, enumerator_by, enumerator, enumerators, enum_by, enum_specifier, spec_by, specs_from, specs, some_specs, qualifier_specs, nameless, bit_field, width_by, member_by, member, members_by, members, member_line}
use Rattle.c_expressions.specs.Specifiers as parser
use Rattle.c_expressions.specs.Declarators.{begins_declarator, node}
use Rattle.c_grammar.specs.Below.{Below, Declared}
use Rattle.c_grammar.specs.SpecifierTrees.{is_spec_word, is_struct_or_union, member_part, Tag, Lines, EnumeratorIs, Enumerators, SpecifierIs, SpecifiersAre, SomeSpecifiers, MemberIs, Members, LineIs}
use Rattle.c_grammar.specs.SpecifierTrees as spc
use Rattle.c_grammar.proofs.SpecifierRules.{no_specifier as none_specifies, no_qualifier as none_qualifies}
use Rattle.c_grammar.proofs.SpecifierTreesRead.{Ends, not_past}
use Rattle.c_grammar.proofs.Leads.{Leads, leads_on, expect_found}
use Rattle.c_grammar.proofs.LeadsLists.{many_stops, many_goes}
use Rattle.c_grammar.proofs.ExpressionsFound.{part, is_apart}
use Rattle.c_grammar.proofs.NodesFound.{is_brace, ends_declarator, follows_declarator, declarator_part, FoundLine, FoundBelow}
use Rattle.c_grammar.proofs.SpecifiersFound.{FoundSome, some_found, qualifies_no_brace, specifies_no_brace}

-- the first word of a member's declarator, or the colon of a bit-field without a name
abbrev begins_member : Sign → Bool
begins_member sign.Colon = true
begins_member q = begins_declarator mode.Named q

abbrev ends_member : Sign → Bool
ends_member sign.Comma = true
ends_member sign.Semicolon = true
ends_member _ = false

member_no_brace : (q : Sign) → begins_member q ≡ true → is_brace q ≡ false
member_no_brace sign.OpenBrace e = absurd (cc)
member_no_brace _ e = refl

listed_is : (q : Sign) → begins_member q ≡ true → (sub : Nest) (room : ℕ) → members_by sub room q ≡ separated is_comma (member sub room)
listed_is sign.Semicolon e sub room = absurd (cc)
listed_is _ e sub room = refl

member_begins : (q : Sign) → begins_declarator mode.Named q ≡ true → begins_member q ≡ true
member_begins sign.Colon e = refl
member_begins _ e = e

member_is : (q : Sign) → begins_declarator mode.Named q ≡ true → (sub : Nest) (room at : ℕ) → member_by sub room at q ≡ (sub.declarator mode.Named >>= (λ d. look (width_by sub d)))
member_is sign.Colon e sub room at = absurd (cc)
member_is _ e sub room at = refl

no_width : (q : Sign) → ends_member q ≡ true → (sub : Nest) (d : Declares) → width_by sub d q ≡ pure (parser.member_part d.tree None d.height)
no_width sign.Comma e sub d = refl
no_width sign.Semicolon e sub d = refl
no_width _ e sub d = absurd (cc)

behind_member : (q : Sign) → ends_member q ≡ true → (binds q < 3) × (is_apart q ≡ true)
behind_member sign.Comma e = (omega arith, refl)
behind_member sign.Semicolon e = (omega arith, refl)
behind_member _ e = absurd (cc)

ends_name : (q : Sign) → ends_member q ≡ true → ends_declarator mode.Named q ≡ true
ends_name sign.Comma e = refl
ends_name sign.Semicolon e = refl
ends_name _ e = absurd (cc)

follows_name : (q : Sign) → ends_declarator mode.Named q ≡ true → follows_declarator mode.Named q ≡ true
follows_name sign.OpenParen e = refl
follows_name sign.OpenBracket e = refl
follows_name _ e = refl

module _ (horizon : ℕ) (W : Words) (B : Below) (below : FoundBelow horizon W B) (ends : Ends W) where
  record FoundMember (r : ℕ) (x : MemberPart) (s t : State) : Type 0 where
    measured : Measured MemberPart
    tree : measured.tree ≡ x
    forward : s.at ≤ t.at
    begun : ends_member (look_at W t) ≡ true → begins_member (look_at W s) ≡ true
    small : t.at < horizon → measured.height ≤ r
    leads : (n : ℕ) → (0 < horizon → r ≤ n) → ends_member (look_at W t) ≡ true → Leads horizon (member (nest n) (suc n) W s) (Ok (measured, t))

  declared_leads : (s t : State) (n : ℕ) (d : Declares) (o : Outcome (Measured MemberPart)) → begins_declarator mode.Named (look_at W s) ≡ true →
      Leads horizon ((nest n).declarator mode.Named W s) (Ok (d, t)) → Leads horizon (width_by (nest n) d (look_at W t) W t) o → Leads horizon (member (nest n) (suc n) W s) o
  unfolding member
  declared_leads s t n d o e on next = subst (λ (p : Parser (Measured MemberPart)). Leads horizon (p W s) o) (sym (member_is (look_at W s) e (nest n) (suc n) s.at))
      (leads_on horizon W ((nest n).declarator mode.Named W s) (Ok (d, t)) _ _ on next)

  width_leads : (s t : State) (n : ℕ) (d : Declares) (e : Grown) → Leads horizon ((nest n).expr 3 W (step s)) (Ok (e, t)) →
      Leads horizon (bit_field (nest n) d W s) (Ok (parser.member_part d.tree (Some e.tree) (max d.height e.height), t))
  unfolding bit_field
  width_leads s t n d e on = leads_on horizon W ((nest n).expr 3 W (step s)) (Ok (e, t)) _ _ on (inl refl)

  nameless_leads : (s : State) (n : ℕ) (o : Outcome (Measured MemberPart)) → look_at W s ≡ sign.Colon → (s.at < horizon → 1 < suc n) → Leads horizon (bit_field (nest n) (nameless s.at) W s) o →
      Leads horizon (member (nest n) (suc n) W s) o
  unfolding member too_deep_here
  nameless_leads s n o e room on = subst (λ q. Leads horizon (member_by (nest n) (suc n) s.at q W s) o) (sym e) (by (nat_lt 1 (suc n)) refl)
    where
      by : (b : Bool) → nat_lt 1 (suc n) ≡ b → Leads horizon (if_so b (bit_field (nest n) (nameless s.at)) too_deep_here W s) o
      by true f = on
      by false f = inr (s.at, ap Err (ap (λ q. stop_by q s.at (too_deep s.at)) e), late)
        where
          late : horizon ≤ s.at
          late = grind (arith, nat_tests)

  member_found : (r : ℕ) (x : MemberPart) (s t : State) → MemberIs horizon W B r x s t → FoundMember r x s t
  member_found r x s t (spc.member d _ _ h) =
      let f = below.declarator r mode.Named d s t h in
      record {
        measured = parser.member_part f.grown.tree None f.grown.height;
        tree = ap (λ (z : Declared). member_part z.tree None) f.tree;
        forward = f.forward;
        begun = λ e. member_begins (look_at W s) (f.begun (follows_name (look_at W t) (ends_name (look_at W t) e)));
        small = f.small;
        leads = λ n more e. declared_leads s t n f.grown _ (f.begun (follows_name (look_at W t) (ends_name (look_at W t) e)))
            (declarator_part horizon W r mode.Named d s t f n more (ends_name (look_at W t) e))
            (inl (ap (λ (p : Parser (Measured MemberPart)). p W t) (no_width (look_at W t) e (nest n) f.grown)));
      }
  member_found r x s t (spc.bit_field d v _ u _ h colon e) =
      let f = below.declarator r mode.Named d s u h in
      let g = below.expr r 3 v (step u) t e in
      let up = f.forward in
      let up2 = g.forward in
      record {
        measured = parser.member_part f.grown.tree (Some g.grown.tree) (max f.grown.height g.grown.height);
        tree = ap (λ (z : Declared). member_part z.tree (Some g.grown.tree)) f.tree ∙ ap (λ z. member_part d.tree (Some z)) g.tree;
        forward = omega arith;
        begun = λ _. member_begins (look_at W s) (f.begun (ap (follows_declarator mode.Named) colon));
        small = λ lt. let a = f.small (omega arith) in let b = g.small lt in omega arith;
        leads = λ n more e. let b = behind_member (look_at W t) e in
            declared_leads s u n f.grown _ (f.begun (ap (follows_declarator mode.Named) colon))
            (declarator_part horizon W r mode.Named d s u f n more (ap (ends_declarator mode.Named) colon))
            (subst (λ q. Leads horizon (width_by (nest n) f.grown q W u) (Ok (parser.member_part f.grown.tree (Some g.grown.tree) (max f.grown.height g.grown.height), t))) (sym colon)
            (width_leads u t n f.grown g.grown (part horizon W r 3 v (step u) t g n 3 more (omega arith) (omega arith) b)));
      }
  member_found r x s t (spc.nameless_bit_field v _ _ room colon e) =
      let g = below.expr r 3 v (step s) t e in
      let up = g.forward in
      record {
        measured = parser.member_part (node s.at form.Abstract) (Some g.grown.tree) (max 1 g.grown.height);
        tree = ap (λ z. member_part (node s.at form.Abstract) (Some z)) g.tree;
        forward = omega arith;
        begun = λ _. ap begins_member colon;
        small = λ lt. let a = room (omega arith) in let b = g.small lt in omega arith;
        leads = λ n more e. let b = behind_member (look_at W t) e in
            nameless_leads s n _ colon (λ lt. let a = room lt in let c = more (omega arith) in omega arith)
            (width_leads s t n (nameless s.at) g.grown (part horizon W r 3 v (step s) t g n 3 more (omega arith) (omega arith) b));
      }

  record FoundMembers (r : ℕ) (all : List MemberPart) (s t : State) : Type 0 where
    first : Measured MemberPart
    rest : List (Measured MemberPart)
    between : State
    tree : first.tree ∷ trees rest ≡ all
    forward : s.at ≤ between.at
    onward : between.at ≤ t.at
    begun : look_at W t ≡ sign.Semicolon → begins_member (look_at W s) ≡ true
    small : t.at < horizon → max first.height (deepest rest) ≤ r
    one : (n : ℕ) → (0 < horizon → r ≤ n) → look_at W t ≡ sign.Semicolon → Leads horizon (member (nest n) (suc n) W s) (Ok (first, between))
    others : (n k : ℕ) → (0 < horizon → r ≤ n) → most_words ≤ k + between.at → look_at W t ≡ sign.Semicolon →
        Leads horizon (many_from is_comma (skip >> member (nest n) (suc n)) k W between) (Ok (rest, t))

  members_found : (r : ℕ) (all : List MemberPart) (s t : State) → Members horizon W B r all s t → FoundMembers r all s t
  members_found r all s t (spc.last_member x _ _ d) =
      let f = member_found r x s t d in
      record {
        first = f.measured;
        rest = [];
        between = t;
        tree = ap (λ z. z ∷ []) f.tree;
        forward = f.forward;
        onward = omega arith;
        begun = λ e. f.begun (ap ends_member e);
        small = λ lt. let a = f.small lt in omega arith;
        one = λ n more e. f.leads n more (ap ends_member e);
        others = λ n k more turns e. inl (many_stops horizon W is_comma (skip >> member (nest n) (suc n)) k t (ap is_comma e));
      }
  members_found r all s t (spc.member_and_more x more _ u _ d comma next) =
      let f = member_found r x s u d in
      let g = members_found r more (step u) t next in
      let up = f.forward in
      let up2 = g.forward in
      let up3 = g.onward in
      record {
        first = f.measured;
        rest = g.first ∷ g.rest;
        between = u;
        tree = ap (λ z. z ∷ g.first.tree ∷ trees g.rest) f.tree ∙ ap (λ zs. x ∷ zs) g.tree;
        forward = up;
        onward = omega arith;
        begun = λ _. f.begun (ap ends_member comma);
        small = λ lt. let a = f.small (omega arith) in let b = g.small lt in omega arith;
        one = λ n room e. f.leads n room (ap ends_member comma);
        others = λ n k room turns e. one_more g n k room turns e;
      }
    where
      one_more : (g : FoundMembers r more (step u) t) (n k : ℕ) → (0 < horizon → r ≤ n) → most_words ≤ k + u.at → look_at W t ≡ sign.Semicolon →
          Leads horizon (many_from is_comma (skip >> member (nest n) (suc n)) k W u) (Ok (g.first ∷ g.rest, t))
      one_more g n zero room turns e = absurd (not_past W ends is_comma refl u (ap is_comma comma) (omega arith))
      one_more g n (suc k) room turns e = many_goes horizon W is_comma (skip >> member (nest n) (suc n)) k u g.between t g.first g.rest (ap is_comma comma) (g.one n room e)
          (g.others n k room (let up = g.forward in omega arith) e)

  members_leads : (r : ℕ) (all : List MemberPart) (s t : State) (f : FoundMembers r all s t) (n : ℕ) → (0 < horizon → r ≤ n) → look_at W t ≡ sign.Semicolon →
      Leads horizon (members (nest n) (suc n) W s) (Ok (record { tree = f.first.tree ∷ trees f.rest; height = max f.first.height (deepest f.rest) }, t))
  unfolding members separated many
  members_leads r all s t f n more e = leads_on horizon W (look (members_by (nest n) (suc n)) W s) (Ok (f.first ∷ f.rest, t)) _ _
      (subst (λ (p : Parser (List (Measured MemberPart))). Leads horizon (p W s) (Ok (f.first ∷ f.rest, t))) (sym (listed_is (look_at W s) (f.begun e) (nest n) (suc n)))
      (leads_on horizon W (member (nest n) (suc n) W s) (Ok (f.first, f.between)) _ _ (f.one n more e)
      (leads_on horizon W (many_from is_comma (skip >> member (nest n) (suc n)) (most_words - f.between.at) W f.between) (Ok (f.rest, t)) _ _
      (f.others n (most_words - f.between.at) more (omega arith) e) (inl refl)))) (inl refl)

  member_line_leads : (s t u : State) (n : ℕ) (a : Specs) (x : Measured (List MemberPart)) → Leads horizon (qualifier_specs (nest n) W s) (Ok (a, t)) →
      Leads horizon (members (nest n) (suc n) W t) (Ok (x, u)) → look_at W u ≡ sign.Semicolon →
      Leads horizon (member_line (nest n) (suc n) W s) (Ok (record { tree = roll-MemberLine (record { at = s.at; specs = a.list; parts = x.tree }); height = suc (max a.height x.height) }, step u))
  unfolding member_line
  member_line_leads s t u n a x on next e = leads_on horizon W (qualifier_specs (nest n) W s) (Ok (a, t)) _ _ on
      (leads_on horizon W (members (nest n) (suc n) W t) (Ok (x, u)) _ _ next
      (inl (ap (λ o. and_then W o (λ _. pure (record { tree = roll-MemberLine (record { at = s.at; specs = a.list; parts = x.tree }); height = suc (max a.height x.height) })))
      (expect_found is_semicolon W u (ap is_semicolon e)))))

  no_members : (s : State) (n : ℕ) → look_at W s ≡ sign.Semicolon → members (nest n) (suc n) W s ≡ Ok (record { tree = []; height = 0 }, s)
  unfolding members
  no_members s n e = ap (λ q. and_then W (members_by (nest n) (suc n) q W s) (λ xs. pure (record { tree = trees xs; height = deepest xs }))) e

  pub qualifiers_found : (r : ℕ) (all : List Spec) (a b : Bool) (s t : State) → SomeSpecifiers horizon W B qualifies r all a b s t →
      FoundSome horizon W B below ends qualifies none_qualifies qualifies_no_brace r all a b s t
  qualifiers_found = some_found horizon W B below ends qualifies none_qualifies qualifies_no_brace

  pub declared_found : (r : ℕ) (all : List Spec) (a b : Bool) (s t : State) → SomeSpecifiers horizon W B specifies r all a b s t →
      FoundSome horizon W B below ends specifies none_specifies specifies_no_brace r all a b s t
  declared_found = some_found horizon W B below ends specifies none_specifies specifies_no_brace

  pub line_found : (r : ℕ) (x : MemberLine) (s t : State) → LineIs horizon W B r x s t → FoundLine horizon W r x s t
  line_found r x s t (spc.members all a b parts _ u v room h g e) =
      let f = qualifiers_found (r - 1) all a b s u h in
      let k = members_found (r - 1) parts u v g in
      let up = f.forward in
      let up2 = k.forward in
      let up3 = k.onward in
      record {
        measured = record { tree = roll-MemberLine (record { at = s.at; specs = f.list.list; parts = k.first.tree ∷ trees k.rest }); height = suc (max f.list.height (max k.first.height (deepest k.rest))) };
        tree = ap (λ z. roll-MemberLine (record { at = s.at; specs = z; parts = k.first.tree ∷ trees k.rest })) f.tree
            ∙ ap (λ z. roll-MemberLine (record { at = s.at; specs = all; parts = z })) k.tree;
        forward = omega arith;
        begun = f.begun;
        roomy = room;
        small = λ lt. let x = f.small (omega arith) in let y = k.small (omega arith) in let z = room (omega arith) in omega arith;
        leads = λ n more. member_line_leads s u v n f.list (record { tree = k.first.tree ∷ trees k.rest; height = max k.first.height (deepest k.rest) })
            (f.leads n (λ p. let m = more p in omega arith) (member_no_brace (look_at W u) (k.begun e)))
            (members_leads (r - 1) parts u v k n (λ p. let m = more p in omega arith) e) e;
      }
  line_found r x s t (spc.no_members all a b _ u room h e) =
      let f = qualifiers_found (r - 1) all a b s u h in
      let up = f.forward in
      record {
        measured = record { tree = roll-MemberLine (record { at = s.at; specs = f.list.list; parts = [] }); height = suc (max f.list.height 0) };
        tree = ap (λ z. roll-MemberLine (record { at = s.at; specs = z; parts = [] })) f.tree;
        forward = omega arith;
        begun = f.begun;
        roomy = room;
        small = λ lt. let x = f.small (omega arith) in let z = room (omega arith) in omega arith;
        leads = λ n more. member_line_leads s u u n f.list (record { tree = []; height = 0 })
            (f.leads n (λ p. let m = more p in omega arith) (ap is_brace e)) (inl (no_members u n e)) e;
      }

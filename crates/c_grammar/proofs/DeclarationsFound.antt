-- Each tree of a declaration is read, or a stop for depth behind the horizon comes first.
use Rattle.std.proofs.Common.{◌≡◌, ℕ, zero, suc, ◌+◌, ◌-◌, ◌<◌, ◌≤◌, inl, ◌||◌, Bool, true, false, List, [], ◌∷◌, Option, Some, None, Ok, refl, sym, ap, ◌∙◌, subst, arith}
use Rattle.c_tree.specs.declared.tree.Spec.{Spec}
use Rattle.c_tree.specs.declared.tree.Spec.TheVariants as spec
use Rattle.c_tree.specs.declared.tree.Init.{Init}
use Rattle.c_tree.specs.declared.tree.InitPart.{InitPart}
use Rattle.c_tree.specs.declared.tree.Declaration.{Declaration}
use Rattle.c_expressions.specs.declared.grown.Specs.{Specs}
use Rattle.c_expressions.specs.declared.grown.Declares.{Declares}
use Rattle.c_expressions.specs.declared.grown.Mode.TheVariants as mode
use Rattle.c_input.specs.declared.word.Sign.{Sign}
use Rattle.c_input.specs.declared.word.Sign.TheVariants as sign
use Rattle.c_input.specs.declared.word.Place.{Place as State}
use Rattle.c_input.specs.Input.{Words, step, look_at, is_name, specifies}
use Rattle.c_input.specs.Parser.{Parser, and_then, ◌>>=◌, pure, look, many_from, many, most_words}
use Rattle.c_input.specs.Signs.{is_comma, is_semicolon, is_colon}
use Rattle.c_expressions.specs.Levels.{nest}
use Rattle.c_expressions.specs.Specifiers.{is_type_specifier, is_typedef, flat, with_spec, specs_from, specs, specs_after_name, declaration_specs}
use Rattle.c_expressions.specs.Declarators.{begins_declarator}
use Rattle.c_syntax.specs.Initialisers.{Inits, init_within, inits_within}
use Rattle.c_syntax.specs.Declarations.{declared, init_by, part_of, part, next_part, all_parts, parts_after, parts_by, declaration, declaration_after_name}
use Rattle.c_grammar.specs.Below.{Declared}
use Rattle.c_grammar.specs.SpecifierTrees.{SpecifierIs, SpecifiersAre, SomeSpecifiers}
use Rattle.c_grammar.specs.SpecifierTrees as spc
use Rattle.c_grammar.specs.DeclaratorTrees.{declaring_any}
use Rattle.c_grammar.specs.LevelTrees.{Derived}
use Rattle.c_grammar.specs.DeclarationTrees.{InitializerIs, PartIs, PartsAre, DeclarationIs}
use Rattle.c_grammar.specs.DeclarationTrees as dec
use Rattle.c_grammar.proofs.SpecifierRules.{no_specifier as none_specifies}
use Rattle.c_grammar.proofs.SpecifierTreesRead.{Ends, not_past}
use Rattle.c_grammar.proofs.Leads.{Leads, leads_on, expect_found}
use Rattle.c_grammar.proofs.LeadsLists.{many_stops, many_goes}
use Rattle.c_grammar.proofs.NodesFound.{is_brace, ends_declarator, follows_declarator, FoundDeclarator, declarator_part}
use Rattle.c_grammar.proofs.SpecifiersFound.{specifiers_found, specifies_no_brace}
use Rattle.c_grammar.proofs.MembersFound.{declared_found}
use Rattle.c_grammar.proofs.ParametersFound.{declared_at, declared_sign}
use Rattle.c_grammar.proofs.LevelsFound.{all_found}
use Rattle.c_grammar.proofs.InitialisersFound.{ends_initialiser, initialiser_found}

-- what ends a part of a declaration
abbrev pub ends_part : Sign → Bool
ends_part sign.Comma = true
ends_part sign.Semicolon = true
ends_part _ = false

part_no_name : (q : Sign) → ends_part q ≡ true → is_name q ≡ false
part_no_name sign.Comma e = refl
part_no_name sign.Semicolon e = refl
part_no_name _ e = absurd (cc)

part_no_brace : (q : Sign) → ends_part q ≡ true → is_brace q ≡ false
part_no_brace sign.Comma e = refl
part_no_brace sign.Semicolon e = refl
part_no_brace _ e = absurd (cc)

part_ends : (q : Sign) → ends_part q ≡ true → ends_declarator mode.Named q ≡ true
part_ends sign.Comma e = refl
part_ends sign.Semicolon e = refl
part_ends _ e = absurd (cc)

part_follows : (q : Sign) → ends_part q ≡ true → follows_declarator mode.Named q ≡ true
part_follows sign.Comma e = refl
part_follows sign.Semicolon e = refl
part_follows _ e = absurd (cc)

part_initialiser : (q : Sign) → ends_part q ≡ true → ends_initialiser q ≡ true
part_initialiser sign.Comma e = refl
part_initialiser sign.Semicolon e = refl
part_initialiser _ e = absurd (cc)

no_init : (q : Sign) → ends_part q ≡ true → (sub : Inits) (d : Declares) → init_by sub d q ≡ pure (record { declarator = d.tree; init = None })
no_init sign.Comma e sub d = refl
no_init sign.Semicolon e sub d = refl
no_init _ e sub d = absurd (cc)

some_parts : (q : Sign) → begins_declarator mode.Named q ≡ true → (sub : Inits) (at : ℕ) (a : Specs) → parts_by sub at a q ≡ (part sub a.is_typedef >>= parts_after sub at a)
some_parts sign.Semicolon e sub at a = absurd (cc)
some_parts _ e sub at a = refl

name_no_brace : (q : Sign) → begins_declarator mode.Named q ≡ true → is_brace q ≡ false
name_no_brace sign.OpenBrace e = absurd (cc)
name_no_brace _ e = refl

name_no_colon : (q : Sign) → begins_declarator mode.Named q ≡ true → is_colon q ≡ false
name_no_colon sign.Colon e = absurd (cc)
name_no_colon _ e = refl

specifies_no_colon : (q : Sign) → specifies true q ≡ true → is_colon q ≡ false
specifies_no_colon sign.Colon e = absurd (cc)
specifies_no_colon _ e = refl

pub same_state : (name : Option ℕ) (b : Bool) (s : State) → declared name b s ≡ declaring_any name b s
same_state (Some n) b s = refl
same_state None b s = refl

module _ (horizon : ℕ) (W : Words) (ends : Ends W) where
  declarators : (r : ℕ) (d : Declared) (s t : State) → (Derived horizon W).declarator r mode.Named d s t → FoundDeclarator horizon W r mode.Named d s t
  declarators r d s t = (all_found horizon W ends).declarator r mode.Named d s t

  pub record FoundPart (r : ℕ) (b : Bool) (x : InitPart) (s t : State) : Type 0 where
    pub declares : Declares
    pub between : State
    pub forward : s.at ≤ t.at
    pub begun : ends_part (look_at W t) ≡ true → begins_declarator mode.Named (look_at W s) ≡ true
    pub read : (n : ℕ) → (0 < horizon → r ≤ n) → ends_part (look_at W t) ≡ true → Leads horizon ((nest n).declarator mode.Named W s) (Ok (declares, between))
    pub apart : ends_part (look_at W t) ≡ true → is_brace (look_at W (declared declares.name b between)) ≡ false
    pub finish : (n : ℕ) → (0 < horizon → r ≤ n) → ends_part (look_at W t) ≡ true →
        Leads horizon (look (init_by (inits_within n) declares) W (declared declares.name b between)) (Ok (x, t))

  init_leads : (t u : State) (n : ℕ) (d : Declares) (i : Init) → look_at W t ≡ sign.Equal → Leads horizon (init_within n W (step t)) (Ok (i, u)) →
      Leads horizon (look (init_by (inits_within n) d) W t) (Ok (record { declarator = d.tree; init = Some i }, u))
  init_leads t u n d i e on = subst (λ q. Leads horizon (init_by (inits_within n) d q W t) (Ok (record { declarator = d.tree; init = Some i }, u))) (sym e)
      (leads_on horizon W (init_within n W (step t)) (Ok (i, u)) _ _ on (inl refl))

  part_found : (r : ℕ) (b : Bool) (x : InitPart) (s t : State) → PartIs horizon W r b x s t → FoundPart r b x s t
  part_found r b x s t (dec.declarator d _ u h) =
      let f = declarators r d s u h in
      let up = f.forward in
      let at_end = declared_at d.name b u in
      let same : declared f.grown.name b u ≡ declaring_any d.name b u = same_state f.grown.name b u ∙ ap (λ (z : Declared). declaring_any z.name b u) f.tree in
      let seen : ends_part (look_at W t) ≡ true → look_at W u ≡ look_at W t = λ e. declared_sign W d.name b u (look_at W t) (part_no_name (look_at W t) e) refl in
      record {
        declares = f.grown;
        between = u;
        forward = omega arith;
        begun = λ e. f.begun (ap (follows_declarator mode.Named) (seen e) ∙ part_follows (look_at W t) e);
        read = λ n more e. declarator_part horizon W r mode.Named d s u f n more (ap (ends_declarator mode.Named) (seen e) ∙ part_ends (look_at W t) e);
        apart = λ e. ap (λ z. is_brace (look_at W z)) same ∙ part_no_brace (look_at W t) e;
        finish = λ n more e. inl (ap (λ z. look (init_by (inits_within n) f.grown) W z) same ∙ ap (λ (p : Parser InitPart). p W t) (no_init (look_at W t) e (inits_within n) f.grown)
            ∙ ap (λ (z : Declared). Ok (record { declarator = z.tree; init = None }, t)) f.tree);
      }
  part_found r b x s t (dec.initialised d i _ u _ h equal g) =
      let f = declarators r d s u h in
      let k = initialiser_found horizon W ends r i (step (declaring_any d.name b u)) t g in
      let up = f.forward in
      let up2 = k.forward in
      let at_end = declared_at d.name b u in
      let same : declared f.grown.name b u ≡ declaring_any d.name b u = same_state f.grown.name b u ∙ ap (λ (z : Declared). declaring_any z.name b u) f.tree in
      let seen : look_at W u ≡ sign.Equal = declared_sign W d.name b u sign.Equal refl equal in
      record {
        declares = f.grown;
        between = u;
        forward = omega arith;
        begun = λ e. f.begun (ap (follows_declarator mode.Named) seen);
        read = λ n more e. declarator_part horizon W r mode.Named d s u f n more (ap (ends_declarator mode.Named) seen);
        apart = λ e. ap (λ z. is_brace (look_at W z)) same ∙ ap is_brace equal;
        finish = λ n more e. subst (λ (z : Declared). Leads horizon (look (init_by (inits_within n) f.grown) W (declared f.grown.name b u)) (Ok (record { declarator = z.tree; init = Some i }, t))) f.tree
            (subst (λ z. Leads horizon (look (init_by (inits_within n) f.grown) W z) (Ok (record { declarator = f.grown.tree; init = Some i }, t))) (sym same)
            (init_leads (declaring_any d.name b u) t n f.grown i equal (k.leads n more (part_initialiser (look_at W t) e))));
      }

  part_leads : (r : ℕ) (b : Bool) (x : InitPart) (s t : State) (f : FoundPart r b x s t) (n : ℕ) → (0 < horizon → r ≤ n) → ends_part (look_at W t) ≡ true →
      Leads horizon (part (inits_within n) b W s) (Ok (x, t))
  unfolding part part_of
  part_leads r b x s t f n more e = leads_on horizon W ((nest n).declarator mode.Named W s) (Ok (f.declares, f.between)) _ _ (f.read n more e) (f.finish n more e)

  pub record FoundParts (r : ℕ) (b : Bool) (all : List InitPart) (s t : State) : Type 0 where
    pub one : InitPart
    pub rest : List InitPart
    pub between : State
    pub tree : one ∷ rest ≡ all
    pub head : FoundPart r b one s between
    pub onward : between.at ≤ t.at
    pub ending : look_at W t ≡ sign.Semicolon → ends_part (look_at W between) ≡ true
    pub others : (n k : ℕ) → (0 < horizon → r ≤ n) → most_words ≤ k + between.at → look_at W t ≡ sign.Semicolon →
        Leads horizon (many_from is_comma (next_part (inits_within n) b) k W between) (Ok (rest, t))

  pub parts_found : (r : ℕ) (b : Bool) (all : List InitPart) (s t : State) → PartsAre horizon W r b all s t → FoundParts r b all s t
  parts_found r b all s t (dec.last_part x _ _ d) = record {
    one = x;
    rest = [];
    between = t;
    tree = refl;
    head = part_found r b x s t d;
    onward = omega arith;
    ending = λ e. ap ends_part e;
    others = λ n k more turns e. inl (many_stops horizon W is_comma (next_part (inits_within n) b) k t (ap is_comma e));
  }
  parts_found r b all s t (dec.part_and_more x more _ u _ d comma next) =
      let g = parts_found r b more (step u) t next in
      let up2 = g.head.forward in
      let up3 = g.onward in
      record {
        one = x;
        rest = g.one ∷ g.rest;
        between = u;
        tree = ap (λ zs. x ∷ zs) g.tree;
        head = part_found r b x s u d;
        onward = omega arith;
        ending = λ e. ap ends_part comma;
        others = λ n k room turns e. one_more g n k room turns e;
      }
    where
      one_more : (g : FoundParts r b more (step u) t) (n k : ℕ) → (0 < horizon → r ≤ n) → most_words ≤ k + u.at → look_at W t ≡ sign.Semicolon →
          Leads horizon (many_from is_comma (next_part (inits_within n) b) k W u) (Ok (g.one ∷ g.rest, t))
      one_more g n zero room turns e = absurd (not_past W ends is_comma refl u (ap is_comma comma) (omega arith))
      one_more g n (suc k) room turns e = many_goes horizon W is_comma (next_part (inits_within n) b) k u g.between t g.one g.rest (ap is_comma comma)
          (part_leads r b g.one (step u) g.between g.head n room (g.ending e)) (g.others n k room (let up = g.head.forward in omega arith) e)

  pub after_leads : (r : ℕ) (at : ℕ) (a : Specs) (all : List InitPart) (s t : State) (f : FoundParts r a.is_typedef all s t) (n : ℕ) → (0 < horizon → r ≤ n) → look_at W t ≡ sign.Semicolon →
      Leads horizon (parts_after (inits_within n) at a f.one W f.between) (Ok (record { at = at; specs = a.list; parts = all }, step t))
  unfolding parts_after all_parts many
  after_leads r at a all s t f n more e = leads_on horizon W (all_parts (inits_within n) a.is_typedef f.one W f.between) (Ok (f.one ∷ f.rest, t)) _ _
      (leads_on horizon W (many_from is_comma (next_part (inits_within n) a.is_typedef) (most_words - f.between.at) W f.between) (Ok (f.rest, t)) _ _
      (f.others n (most_words - f.between.at) more (omega arith) e) (inl refl))
      (inl (ap (λ o. and_then W o (λ _. pure (record { at = at; specs = a.list; parts = f.one ∷ f.rest }))) (expect_found is_semicolon W t (ap is_semicolon e))
      ∙ ap (λ z. Ok (record { at = at; specs = a.list; parts = z }, step t)) f.tree))

  -- behind the specifiers
  pub record FoundRest (r : ℕ) (b : Bool) (all : List InitPart) (t u : State) : Type 0 where
    pub forward : t.at + 1 ≤ u.at
    pub apart : is_brace (look_at W t) ≡ false
    pub plain : is_colon (look_at W t) ≡ false
    pub leads : (n at : ℕ) (a : Specs) → a.is_typedef ≡ b → (0 < horizon → r ≤ n) → Leads horizon (look (parts_by (inits_within n) at a) W t) (Ok (record { at = at; specs = a.list; parts = all }, u))

  none_rest : (r : ℕ) (b : Bool) (t : State) → look_at W t ≡ sign.Semicolon → FoundRest r b [] t (step t)
  none_rest r b t e = record {
    forward = omega arith;
    apart = ap is_brace e;
    plain = ap is_colon e;
    leads = λ n at a same more. inl (ap (λ q. parts_by (inits_within n) at a q W t) e);
  }

  some_rest : (r : ℕ) (b : Bool) (all : List InitPart) (t u : State) → PartsAre horizon W r b all t u → look_at W u ≡ sign.Semicolon → FoundRest r b all t (step u)
  some_rest r b all t u d e =
      let f = parts_found r b all t u d in
      let up = f.head.forward in
      let up2 = f.onward in
      record {
        forward = omega arith;
        apart = name_no_brace (look_at W t) (f.head.begun (f.ending e));
        plain = name_no_colon (look_at W t) (f.head.begun (f.ending e));
        leads = λ n at a same more.
            let g = parts_found r a.is_typedef all t u (subst (λ z. PartsAre horizon W r z all t u) (sym same) d) in
            subst (λ (p : Parser Declaration). Leads horizon (p W t) (Ok (record { at = at; specs = a.list; parts = all }, step u))) (sym (some_parts (look_at W t) (f.head.begun (f.ending e)) (inits_within n) at a))
            (leads_on horizon W (part (inits_within n) a.is_typedef W t) (Ok (g.one, g.between)) _ _ (part_leads r a.is_typedef g.one t g.between g.head n more (g.ending e))
            (after_leads r at a all t u g n more e));
      }

  -- behind a typedef name that begins the specifiers
  record FoundAfter (r : ℕ) (all : List Spec) (b : Bool) (s t : State) : Type 0 where
    second : is_colon (look_at W t) ≡ false → is_colon (look_at W (step s)) ≡ false
    list : Specs
    tree : list.list ≡ all
    is_typedef_too : list.is_typedef ≡ b
    leads : (n : ℕ) → (0 < horizon → r ≤ n) → is_brace (look_at W t) ≡ false → Leads horizon (specs_after_name (nest n) s.at W (step s)) (Ok (list, t))

  after_specs_leads : (s t : State) (n : ℕ) (x : Specs) → Leads horizon (specs_from (nest n) specifies (most_words - suc s.at) true W (step s)) (Ok (x, t)) →
      Leads horizon (specs_after_name (nest n) s.at W (step s)) (Ok (with_spec sign.TypeName (flat (spec.Named s.at)) x, t))
  unfolding specs_after_name specs
  after_specs_leads s t n x on = leads_on horizon W (specs_from (nest n) specifies (most_words - suc s.at) true W (step s)) (Ok (x, t)) _ _ on (inl refl)

  no_colon : (r : ℕ) (rest : List Spec) (p q : Bool) (s t : State) → SpecifiersAre horizon W (Derived horizon W) specifies r true rest p q s t → is_colon (look_at W t) ≡ false → is_colon (look_at W s) ≡ false
  no_colon r rest p q s t (spc.no_specifier _ _ none) e = e
  no_colon r rest p q s t (spc.specifier _ _ _ _ _ _ _ _ one _ _) e = specifies_no_colon (look_at W s) one

  behind_name : (r : ℕ) (rest : List Spec) (p q : Bool) (s t : State) → SpecifiersAre horizon W (Derived horizon W) specifies r true rest p q (step s) t →
      FoundAfter r (spec.Named s.at ∷ rest) (is_typedef sign.TypeName || q) s t
  behind_name r rest p q s t next =
      let g = specifiers_found horizon W (Derived horizon W) (all_found horizon W ends) ends specifies none_specifies specifies_no_brace r true rest p q (step s) t next in
      record {
        second = λ e. no_colon r rest p q (step s) t next e;
        list = with_spec sign.TypeName (flat (spec.Named s.at)) g.list;
        tree = ap (λ zs. spec.Named s.at ∷ zs) g.tree;
        is_typedef_too = ap (λ z. is_typedef sign.TypeName || z) g.is_typedef;
        leads = λ n more none. after_specs_leads s t n g.list (g.leads n (most_words - suc s.at) more (omega arith) none);
      }

  named_spec : (r : ℕ) (x : Spec) (s u : State) → SpecifierIs horizon W (Derived horizon W) r x s u → look_at W s ≡ sign.TypeName → (x ≡ spec.Named s.at) × (u ≡ step s)
  named_spec r x s u (spc.typedef_name _ e) name = (refl, refl)
  named_spec r x s u (spc.spec_word _ e) name = let no_word : spc.is_spec_word (look_at W s) ≡ false = ap spc.is_spec_word name in absurd (cc)
  named_spec r x s u (spc.struct_ _ _ _ _ _ e _ _ _ _) name = let no_word : spc.is_struct_or_union (look_at W s) ≡ false = ap spc.is_struct_or_union name in absurd (cc)
  named_spec r x s u (spc.struct_tag _ e _) name = let no_word : spc.is_struct_or_union (look_at W s) ≡ false = ap spc.is_struct_or_union name in absurd (cc)
  named_spec r x s u (spc.enum_ _ _ _ _ _ e _ _ _ _) name = let no_word : sign.TypeName ≡ sign.Enum = sym name ∙ e in absurd (cc)
  named_spec r x s u (spc.enum_tag _ e _) name = let no_word : sign.TypeName ≡ sign.Enum = sym name ∙ e in absurd (cc)

  after_found_from : (r : ℕ) (all : List Spec) (a b : Bool) (s t : State) → SpecifiersAre horizon W (Derived horizon W) specifies r false all a b s t → look_at W s ≡ sign.TypeName → FoundAfter r all b s t
  after_found_from r all a b s t (spc.no_specifier _ _ none) name = let some : specifies false (look_at W s) ≡ true = ap (specifies false) name in absurd (cc)
  after_found_from r all a b s t (spc.specifier _ x rest p q _ u _ one d next) name =
      let same = named_spec r x s u d name in
      subst (λ z. FoundAfter r (z ∷ rest) (is_typedef (look_at W s) || q) s t) (sym same.0)
      (subst (λ z. FoundAfter r (spec.Named s.at ∷ rest) (is_typedef z || q) s t) (sym name)
      (behind_name r rest p q s t
      (subst (λ z. SpecifiersAre horizon W (Derived horizon W) specifies r (is_type_specifier z) rest p q (step s) t) name
      (subst (λ v. SpecifiersAre horizon W (Derived horizon W) specifies r (is_type_specifier (look_at W s)) rest p q v t) same.1 next))))

  after_found : (r : ℕ) (all : List Spec) (a b : Bool) (s t : State) → SomeSpecifiers horizon W (Derived horizon W) specifies r all a b s t → look_at W s ≡ sign.TypeName → FoundAfter r all b s t
  after_found r all a b s t (spc.some_specifiers _ _ _ _ _ one d) name = after_found_from r all a b s t d name

  pub record FoundDeclaration (r : ℕ) (x : Declaration) (s t : State) : Type 0 where
    pub forward : s.at + 1 ≤ t.at
    pub begun : specifies false (look_at W s) ≡ true
    pub leads : (n : ℕ) → (0 < horizon → r ≤ n) → Leads horizon (declaration (inits_within n) W s) (Ok (x, t))
    pub second : look_at W s ≡ sign.TypeName → is_colon (look_at W (step s)) ≡ false
    pub after : look_at W s ≡ sign.TypeName → (n : ℕ) → (0 < horizon → r ≤ n) → Leads horizon (declaration_after_name (inits_within n) s.at W (step s)) (Ok (x, t))

  declared_with : (r : ℕ) (all : List Spec) (a b : Bool) (xs : List InitPart) (s t u : State) → SomeSpecifiers horizon W (Derived horizon W) specifies r all a b s t → FoundRest r b xs t u →
      FoundDeclaration r (record { at = s.at; specs = all; parts = xs }) s u
  unfolding declaration declaration_after_name
  declared_with r all a b xs s t u h g =
      let f = declared_found horizon W (Derived horizon W) (all_found horizon W ends) ends r all a b s t h in
      let up = f.forward in
      let up2 = g.forward in
      record {
        forward = omega arith;
        begun = f.begun;
        leads = λ n more. subst (λ z. Leads horizon (declaration (inits_within n) W s) (Ok (record { at = s.at; specs = z; parts = xs }, u))) f.tree
            (leads_on horizon W (declaration_specs (nest n) W s) (Ok (f.list, t)) _ _ (f.leads n more g.apart) (g.leads n s.at f.list f.is_typedef more));
        second = λ name. (after_found r all a b s t h name).second g.plain;
        after = λ name n more.
            let k = after_found r all a b s t h name in
            subst (λ z. Leads horizon (declaration_after_name (inits_within n) s.at W (step s)) (Ok (record { at = s.at; specs = z; parts = xs }, u))) k.tree
            (leads_on horizon W (specs_after_name (nest n) s.at W (step s)) (Ok (k.list, t)) _ _ (k.leads n more g.apart) (g.leads n s.at k.list k.is_typedef_too more));
      }

  pub declaration_found : (r : ℕ) (x : Declaration) (s t : State) → DeclarationIs horizon W r x s t → FoundDeclaration r x s t
  declaration_found r x s t (dec.no_parts all a b _ u h e) = declared_with r all a b [] s u (step u) h (none_rest r b u e)
  declaration_found r x s t (dec.parts all a b xs _ u v h d e) = declared_with r all a b xs s u (step v) h (some_rest r b xs u v d e)

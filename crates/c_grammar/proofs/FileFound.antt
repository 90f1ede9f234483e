-- Each tree of a file is read, or a stop for depth behind the horizon comes first.
use Rattle.std.proofs.Common.{◌≡◌, ℕ, zero, suc, ◌+◌, ◌<◌, ◌≤◌, ◌⊎◌, inl, inr, Bool, true, false, List, [], ◌∷◌, length, Option, Ok, Err, refl, sym, ap, ◌∙◌, subst, arith, le_refl}
use Rattle.std.proofs.lemmas.Option.{slice_get_past}
use Rattle.c_tree.specs.declared.tree.Unit.{Unit as Tree}
use Rattle.c_tree.specs.declared.tree.Spec.{Spec}
use Rattle.c_tree.specs.declared.tree.Stmt.{Stmt}
use Rattle.c_tree.specs.declared.tree.InitPart.{InitPart}
use Rattle.c_tree.specs.declared.tree.Declaration.{Declaration}
use Rattle.c_tree.specs.declared.tree.Item.{Item}
use Rattle.c_tree.specs.declared.tree.Item.TheVariants as item
use Rattle.c_expressions.specs.declared.grown.Specs.{Specs}
use Rattle.c_expressions.specs.declared.grown.Declares.{Declares}
use Rattle.c_expressions.specs.declared.grown.Mode.TheVariants as mode
use Rattle.c_input.specs.declared.word.Sign.{Sign}
use Rattle.c_input.specs.declared.word.Sign.TheVariants as sign
use Rattle.c_input.specs.declared.word.Word.{Word}
use Rattle.c_input.specs.declared.word.Place.{Place as State}
use Rattle.c_input.specs.Input.{Names, Words, step, look_at, specifies}
use Rattle.c_input.specs.Words.{words_of, word_list, word_of}
use Rattle.c_input.specs.Parser.{too_deep, Outcome, Parser, ◌>>=◌, ◌>>◌, pure, look, many_from, many, most_words}
use Rattle.c_expressions.specs.Levels.{nest}
use Rattle.c_expressions.specs.Specifiers.{declaration_specs}
use Rattle.c_expressions.specs.Declarators.{begins_declarator}
use Rattle.c_syntax.specs.Initialisers.{inits_within}
use Rattle.c_syntax.specs.Declarations.{declared, init_by, parts_after}
use Rattle.c_syntax.specs.Statements.{Parts, nested, parts_within}
use Rattle.c_syntax.specs.FileScope.{limit, start, with_params, declare_params, definition_body, definition, external_by, external_rest, declared_by, external, item_by, file_item, is_no_end, file_items, translation_unit}
use Rattle.c_grammar.specs.Below.{Declared}
use Rattle.c_grammar.specs.SpecifierTrees.{SomeSpecifiers}
use Rattle.c_grammar.specs.DeclaratorTrees.{declaring_any}
use Rattle.c_grammar.specs.LevelTrees.{Derived}
use Rattle.c_grammar.specs.DeclarationTrees.{PartsAre, DeclarationIs}
use Rattle.c_grammar.specs.DeclarationTrees as dec
use Rattle.c_grammar.specs.StatementTrees.{StatementIs, leaving}
use Rattle.c_grammar.specs.FileTrees.{ItemIs, ItemsAre, Spells}
use Rattle.c_grammar.specs.FileTrees as fil
use Rattle.c_lex.specs.Bytes.{Text}
use Rattle.c_lex.specs.declared.token.Token.{Token}
use Rattle.c_grammar.specs.Laws.{outcome, TreeIsRead, TreeIsTheOnlyOne}
use Rattle.c_grammar.proofs.Combinators.{reads_then}
use Rattle.c_grammar.proofs.StatementRules.{reads_parts_within}
use Rattle.c_grammar.proofs.FileRules.{reads_declare_params}
use Rattle.c_grammar.proofs.Files.{length_of_map, stop_is_in_file}
use Rattle.c_grammar.proofs.SpecifierTreesRead.{Ends, not_past, past_end}
use Rattle.c_grammar.proofs.Leads.{Leads, leads_on}
use Rattle.c_grammar.proofs.LeadsLists.{many_stops, many_goes}
use Rattle.c_grammar.proofs.NodesFound.{is_brace, ends_declarator, follows_declarator, declarator_part}
use Rattle.c_grammar.proofs.MembersFound.{declared_found}
use Rattle.c_grammar.proofs.ParametersFound.{declared_at, declared_sign}
use Rattle.c_grammar.proofs.LevelsFound.{all_found}
use Rattle.c_grammar.proofs.DeclarationsFound.{parts_found, after_leads, same_state}
use Rattle.c_grammar.proofs.StatementsFound.{is_else, else_either, statement_found, scoped_leads}

specifies_item : (q : Sign) → specifies false q ≡ true → (sub : Parts) → item_by sub q ≡ external sub
specifies_item sign.Semicolon e sub = absurd (cc)
specifies_item _ e sub = refl

specifies_word : (q : Sign) → specifies false q ≡ true → (is_no_end q ≡ true) × (is_else q ≡ false)
specifies_word sign.Eof e = absurd (cc)
specifies_word sign.Else e = absurd (cc)
specifies_word _ e = (refl, refl)

no_body : (q : Sign) → is_brace q ≡ false → (sub : Parts) (at : ℕ) (a : Specs) (d : Declares) →
    external_by sub at a d q ≡ (look (init_by sub.inits d) >>= (λ x. parts_after sub.inits at a x >>= (λ all. pure (item.Declaration all))))
no_body sign.OpenBrace e sub at a d = absurd (cc)
no_body _ e sub at a d = refl

declares_some : (q : Sign) → begins_declarator mode.Named q ≡ true → (sub : Parts) (at : ℕ) (a : Specs) → declared_by sub at a q ≡ external_rest sub at a
declares_some sign.Semicolon e sub at a = absurd (cc)
declares_some _ e sub at a = refl

name_no_brace : (q : Sign) → begins_declarator mode.Named q ≡ true → is_brace q ≡ false
name_no_brace sign.OpenBrace e = absurd (cc)
name_no_brace _ e = refl

same_params : (params : Option Names) (s : State) → (with_params params s).at ≡ s.at
same_params params s = refl

module _ (horizon : ℕ) (W : Words) (ends : Ends W) where
  record FoundItem (x : Item) (s t : State) : Type 0 where
    forward : s.at + 1 ≤ t.at
    begun : (is_no_end (look_at W s) ≡ true) × (is_else (look_at W s) ≡ false)
    leads : is_else (look_at W t) ≡ false → Leads horizon (file_item (parts_within limit) W s) (Ok (x, t))

  external_leads : (s : State) (o : Outcome Item) → specifies false (look_at W s) ≡ true → Leads horizon (external (parts_within limit) W s) o → Leads horizon (file_item (parts_within limit) W s) o
  unfolding file_item
  external_leads s o e on = subst (λ (p : Parser Item). Leads horizon (p W s) o) (sym (specifies_item (look_at W s) e (parts_within limit))) on

  specs_leads : (s t : State) (a : Specs) (o : Outcome Item) → Leads horizon (declaration_specs (nest limit) W s) (Ok (a, t)) → Leads horizon (look (declared_by (parts_within limit) s.at a) W t) o →
      Leads horizon (external (parts_within limit) W s) o
  unfolding external
  specs_leads s t a o on next = leads_on horizon W (declaration_specs (nest limit) W s) (Ok (a, t)) _ o on next

  rest_leads : (t u : State) (at : ℕ) (a : Specs) (d : Declares) (o : Outcome Item) → begins_declarator mode.Named (look_at W t) ≡ true → Leads horizon ((nest limit).declarator mode.Named W t) (Ok (d, u)) →
      Leads horizon (look (external_by (parts_within limit) at a d) W (declared d.name a.is_typedef u)) o → Leads horizon (look (declared_by (parts_within limit) at a) W t) o
  unfolding external_rest
  rest_leads t u at a d o begun on next = subst (λ (p : Parser Item). Leads horizon (p W t) o) (sym (declares_some (look_at W t) begun (parts_within limit) at a))
      (leads_on horizon W ((nest limit).declarator mode.Named W t) (Ok (d, u)) _ o on next)

  -- ---- declarations
  none_found : (all : List Spec) (a b : Bool) (s t : State) → SomeSpecifiers horizon W (Derived horizon W) specifies limit all a b s t → look_at W t ≡ sign.Semicolon →
      FoundItem (item.Declaration (record { at = s.at; specs = all; parts = [] })) s (step t)
  none_found all a b s t h e =
      let f = declared_found horizon W (Derived horizon W) (all_found horizon W ends) ends limit all a b s t h in
      let up = f.forward in
      record {
        forward = omega arith;
        begun = specifies_word (look_at W s) f.begun;
        leads = λ _. subst (λ z. Leads horizon (file_item (parts_within limit) W s) (Ok (item.Declaration (record { at = s.at; specs = z; parts = [] }), step t))) f.tree
            (external_leads s _ f.begun (specs_leads s t f.list _ (f.leads limit (λ _. le_refl limit) (ap is_brace e))
            (inl (ap (λ q. declared_by (parts_within limit) s.at f.list q W t) e))));
      }

  some_found : (all : List Spec) (a b : Bool) (xs : List InitPart) (s t u : State) → SomeSpecifiers horizon W (Derived horizon W) specifies limit all a b s t → PartsAre horizon W limit b xs t u →
      look_at W u ≡ sign.Semicolon → FoundItem (item.Declaration (record { at = s.at; specs = all; parts = xs })) s (step u)
  some_found all a b xs s t u h d e =
      let f = declared_found horizon W (Derived horizon W) (all_found horizon W ends) ends limit all a b s t h in
      let g = parts_found horizon W ends limit f.list.is_typedef xs t u (subst (λ z. PartsAre horizon W limit z xs t u) (sym f.is_typedef) d) in
      let begun = g.head.begun (g.ending e) in
      let up = f.forward in
      let up2 = g.head.forward in
      let up3 = g.onward in
      record {
        forward = omega arith;
        begun = specifies_word (look_at W s) f.begun;
        leads = λ _. subst (λ z. Leads horizon (file_item (parts_within limit) W s) (Ok (item.Declaration (record { at = s.at; specs = z; parts = xs }), step u))) f.tree
            (external_leads s _ f.begun (specs_leads s t f.list _ (f.leads limit (λ _. le_refl limit) (name_no_brace (look_at W t) begun))
            (rest_leads t g.head.between s.at f.list g.head.declares _ begun (g.head.read limit (λ _. le_refl limit) (g.ending e))
            (subst (λ (p : Parser Item). Leads horizon (p W (declared g.head.declares.name f.list.is_typedef g.head.between)) (Ok (item.Declaration (record { at = s.at; specs = f.list.list; parts = xs }), step u)))
            (sym (no_body (look_at W (declared g.head.declares.name f.list.is_typedef g.head.between)) (g.head.apart (g.ending e)) (parts_within limit) s.at f.list g.head.declares))
            (leads_on horizon W (look (init_by (inits_within limit) g.head.declares) W (declared g.head.declares.name f.list.is_typedef g.head.between)) (Ok (g.one, g.between)) _ _
            (g.head.finish limit (λ _. le_refl limit) (g.ending e))
            (leads_on horizon W (parts_after (inits_within limit) s.at f.list g.one W g.between) (Ok (record { at = s.at; specs = f.list.list; parts = xs }, step u)) _ _
            (after_leads horizon W ends limit s.at f.list xs t u g limit (λ _. le_refl limit) e) (inl refl)))))));
      }

  -- ---- definitions (6.9.1)
  body_leads : (params : Option Names) (s v : State) (waits : Bool) (body : Stmt) → Leads horizon ((nested limit).statement W (with_params params s)) (Ok (record { tree = body; waits = waits }, v)) →
      Leads horizon (definition_body (parts_within limit) params W s) (Ok (record { tree = body; waits = waits }, leaving s v))
  unfolding definition_body
  body_leads params s v waits body on = scoped_leads horizon W (declare_params params >> (nested limit).statement) s v (record { tree = body; waits = waits })
      (reads_then (reads_declare_params {k = 0} params) ((reads_parts_within limit).statement {k = 0} {moves = false})) on

  definition_leads : (s v : State) (at : ℕ) (a : Specs) (d : Declares) (waits : Bool) (body : Stmt) → look_at W s ≡ sign.OpenBrace →
      Leads horizon (definition_body (parts_within limit) d.params W s) (Ok (record { tree = body; waits = waits }, v)) →
      Leads horizon (look (external_by (parts_within limit) at a d) W s) (Ok (item.Function at a.list d.tree body, v))
  unfolding definition
  definition_leads s v at a d waits body e on = subst (λ q. Leads horizon (external_by (parts_within limit) at a d q W s) (Ok (item.Function at a.list d.tree body, v))) (sym e)
      (leads_on horizon W (definition_body (parts_within limit) d.params W s) (Ok (record { tree = body; waits = waits }, v)) _ _ on (inl refl))

  function_found : (all : List Spec) (a b waits : Bool) (d : Declared) (body : Stmt) (s t u v : State) → SomeSpecifiers horizon W (Derived horizon W) specifies limit all a b s t →
      (Derived horizon W).declarator limit mode.Named d t u → look_at W (declaring_any d.name b u) ≡ sign.OpenBrace →
      StatementIs horizon W limit waits body (with_params d.params (declaring_any d.name b u)) v → FoundItem (item.Function s.at all d.tree body) s (leaving (declaring_any d.name b u) v)
  function_found all a b waits d body s t u v h g e k =
      let f = declared_found horizon W (Derived horizon W) (all_found horizon W ends) ends limit all a b s t h in
      let x = (all_found horizon W ends).declarator limit mode.Named d t u g in
      let y = statement_found horizon W ends limit waits body (with_params d.params (declaring_any d.name b u)) v k in
      let seen : look_at W u ≡ sign.OpenBrace = declared_sign W d.name b u sign.OpenBrace refl e in
      let begun = x.begun (ap (follows_declarator mode.Named) seen) in
      let same : declared x.grown.name f.list.is_typedef u ≡ declaring_any d.name b u =
      same_state x.grown.name f.list.is_typedef u ∙ ap (λ (z : Declared). declaring_any z.name f.list.is_typedef u) x.tree ∙ ap (λ z. declaring_any d.name z u) f.is_typedef in
      let params : x.grown.params ≡ d.params = ap (λ (z : Declared). z.params) x.tree in
      let at_end = declared_at d.name b u in
      let up = f.forward in
      let up2 = x.forward in
      let up3 = y.forward in
      record {
        forward = omega arith;
        begun = specifies_word (look_at W s) f.begun;
        leads = λ follow. subst (λ z. Leads horizon (file_item (parts_within limit) W s) (Ok (item.Function s.at z d.tree body, leaving (declaring_any d.name b u) v))) f.tree
            (subst (λ (z : Declared). Leads horizon (file_item (parts_within limit) W s) (Ok (item.Function s.at f.list.list z.tree body, leaving (declaring_any d.name b u) v))) x.tree
            (external_leads s _ f.begun (specs_leads s t f.list _ (f.leads limit (λ _. le_refl limit) (name_no_brace (look_at W t) begun))
            (rest_leads t u s.at f.list x.grown _ begun (declarator_part horizon W limit mode.Named d t u x limit (λ _. le_refl limit) (ap (ends_declarator mode.Named) seen))
            (subst (λ z. Leads horizon (look (external_by (parts_within limit) s.at f.list x.grown) W z) (Ok (item.Function s.at f.list.list x.grown.tree body, leaving (declaring_any d.name b u) v))) (sym same)
            (definition_leads (declaring_any d.name b u) (leaving (declaring_any d.name b u) v) s.at f.list x.grown waits body e
            (subst (λ z. Leads horizon (definition_body (parts_within limit) z W (declaring_any d.name b u)) (Ok (record { tree = body; waits = waits }, leaving (declaring_any d.name b u) v))) (sym params)
            (body_leads d.params (declaring_any d.name b u) v waits body (y.leads limit (λ _. le_refl limit) (λ _. else_there v follow))))))))));
      }
    where
      else_there : (v : State) → is_else (look_at W (leaving (declaring_any d.name b u) v)) ≡ false → is_else (look_at W v) ≡ false
      else_there v none = else_either W v.at (declaring_any d.name b u).names v.names none

  semicolon_found : (s : State) → look_at W s ≡ sign.Semicolon → FoundItem (item.Empty s.at) s (step s)
  unfolding file_item
  semicolon_found s e = record {
    forward = omega arith;
    begun = (ap is_no_end e, ap is_else e);
    leads = λ _. inl (ap (λ q. item_by (parts_within limit) q W s) e);
  }

  item_found : (x : Item) (s t : State) → ItemIs horizon W limit x s t → FoundItem x s t
  item_found x s t (fil.definition all a b waits d body _ u v w h g e k) = function_found all a b waits d body s u v w h g e k
  item_found x s t (fil.declaration d _ _ h) = by d s t h
    where
      by : (d : Declaration) (s t : State) → DeclarationIs horizon W limit d s t → FoundItem (item.Declaration d) s t
      by d s t (dec.no_parts all a b _ u h e) = none_found all a b s u h e
      by d s t (dec.parts all a b xs _ u v h g e) = some_found all a b xs s u v h g e
  item_found x s t (fil.lone_semicolon _ e) = semicolon_found s e

  record FoundItems (all : List Item) (s t : State) : Type 0 where
    begun : look_at W t ≡ sign.Eof → is_else (look_at W s) ≡ false
    leads : (k : ℕ) → most_words ≤ k + s.at → look_at W t ≡ sign.Eof → Leads horizon (many_from is_no_end (file_item (parts_within limit)) k W s) (Ok (all, t))

  items_found : (all : List Item) (s t : State) → ItemsAre horizon W limit all s t → FoundItems all s t
  items_found all s t (fil.no_item _) = record {
    begun = λ e. ap is_else e;
    leads = λ k turns e. inl (many_stops horizon W is_no_end (file_item (parts_within limit)) k s (ap is_no_end e));
  }
  items_found all s t (fil.item_and_more x rest _ u _ h next) =
      let f = item_found x s u h in
      let g = items_found rest u t next in
      record { begun = λ _. f.begun.1; leads = λ k turns e. by f g k turns e }
    where
      by : (f : FoundItem x s u) (g : FoundItems rest u t) (k : ℕ) → most_words ≤ k + s.at → look_at W t ≡ sign.Eof →
          Leads horizon (many_from is_no_end (file_item (parts_within limit)) k W s) (Ok (x ∷ rest, t))
      by f g zero turns e = absurd (not_past W ends is_no_end refl s f.begun.0 (omega arith))
      by f g (suc k) turns e = many_goes horizon W is_no_end (file_item (parts_within limit)) k s u t x rest f.begun.0 (f.leads (g.begun e)) (g.leads k (let up = f.forward in omega arith) e)

  pub file_found : (tree : Tree) (t : State) → ItemsAre horizon W limit tree.items start t → look_at W t ≡ sign.Eof → Leads horizon (translation_unit W start) (Ok (tree, t))
  unfolding translation_unit file_items many
  file_found tree t d e = leads_on horizon W (many_from is_no_end (file_item (parts_within limit)) most_words W start) (Ok (tree.items, t)) _ _
      ((items_found tree.items start t d).leads most_words (omega arith) e) (inl refl)

pub tree_is_read : TreeIsRead
tree_is_read = λ file tokens tree horizon few d.
    let ws : List Word = word_list file tokens in
    let long : length ws ≡ length tokens = length_of_map (word_of file tokens) tokens in
    let ends : Ends (words_of ws) = record { end = length ws; none = λ n le. slice_get_past ws n le; low = omega arith } in
    let at_end : d.0.at ≡ length ws = d.2 in
    by file tokens tree horizon d.0 (file_found horizon (words_of ws) ends tree d.0 d.1 (past_end (words_of ws) ends d.0 (omega arith)))
  where
    by : (file : Text) (tokens : List Token) (tree : Tree) (horizon : ℕ) (end : State) → Leads horizon (outcome (word_list file tokens)) (Ok (tree, end)) →
        ((end : State) × (outcome (word_list file tokens) ≡ Ok (tree, end))) ⊎ ((at : ℕ) × (outcome (word_list file tokens) ≡ Err (too_deep at)) × (horizon ≤ at))
    by file tokens tree horizon end (inl e) = inl (end, e)
    by file tokens tree horizon end (inr e) = inr (e.0, e.1, e.2)

tree_in : Tree → Outcome Tree → Tree
tree_in other (Ok x) = x.0
tree_in other (Err e) = other

is_read : Outcome Tree → Bool
is_read (Ok x) = true
is_read (Err e) = false

pub tree_is_the_only_one : TreeIsTheOnlyOne
unfolding tree_in is_read
tree_is_the_only_one = λ file tokens tree other horizon few far d d2. by file tokens tree other horizon far (tree_is_read file tokens tree horizon few d) (tree_is_read file tokens other 0 few d2)
  where
    by : (file : Text) (tokens : List Token) (tree other : Tree) (horizon : ℕ) → length tokens < horizon →
        ((end : State) × (outcome (word_list file tokens) ≡ Ok (tree, end))) ⊎ ((at : ℕ) × (outcome (word_list file tokens) ≡ Err (too_deep at)) × (horizon ≤ at)) →
        ((end : State) × (outcome (word_list file tokens) ≡ Ok (other, end))) ⊎ ((at : ℕ) × (outcome (word_list file tokens) ≡ Err (too_deep at)) × (0 ≤ at)) → other ≡ tree
    by file tokens tree other horizon far (inl x) (inl y) = ap (tree_in tree) (sym y.1 ∙ x.1)
    by file tokens tree other horizon far (inl x) (inr y) = let no_tree : false ≡ true = ap is_read (sym y.1 ∙ x.1) in absurd (cc)
    by file tokens tree other horizon far (inr x) y =
        let inside = stop_is_in_file (word_list file tokens) (too_deep x.0) x.1 in
        let long : length (word_list file tokens) ≡ length tokens = length_of_map (word_of file tokens) tokens in
        let late = x.2 in
        absurd (omega arith)

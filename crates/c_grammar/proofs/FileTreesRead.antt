-- What the rules of external declarations read is a tree of its words, and a file's tree is one of the file.
use Rattle.std.proofs.Common.{◌≡◌, ℕ, zero, suc, false, List, [], length, Ok, Err, ◌≤◌, le_refl, refl, sym, ◌∙◌, subst, arith}
use Rattle.std.proofs.lemmas.Option.{slice_get_past}
use Rattle.c_tree.specs.declared.tree.Unit.{Unit as Tree}
use Rattle.c_tree.specs.declared.tree.Item.{Item}
use Rattle.c_tree.specs.declared.tree.Item.TheVariants as item
use Rattle.c_expressions.specs.declared.grown.Specs.{Specs}
use Rattle.c_expressions.specs.declared.grown.Declares.{Declares}
use Rattle.c_expressions.specs.declared.grown.Mode.TheVariants as mode
use Rattle.c_input.specs.declared.word.Sign.{Sign}
use Rattle.c_input.specs.declared.word.Sign.TheVariants as sign
use Rattle.c_input.specs.declared.word.Word.{Word}
use Rattle.c_input.specs.declared.word.Place.{Place as State}
use Rattle.c_input.specs.Input.{Words, step, look_at}
use Rattle.c_input.specs.Words.{words_of, word_list, word_of}
use Rattle.c_input.specs.Parser.{Outcome, ◌>>=◌, ◌>>◌, pure, look, many_from, many, most_words}
use Rattle.c_expressions.specs.Specifiers.{declaration_specs}
use Rattle.c_syntax.specs.declared.built.Built.{Built}
use Rattle.c_syntax.specs.Declarations.{declared, init_by, parts_after}
use Rattle.c_syntax.specs.Statements.{Parts, parts_within}
use Rattle.c_syntax.specs.FileScope.{limit, start, with_params, declare_params, definition_body, definition, external_by, external_rest, declared_by, external, item_by, file_item, is_no_end, file_items, translation_unit}
use Rattle.c_grammar.specs.Laws.{TreeIsDerived}
use Rattle.c_grammar.specs.DeclarationTrees.{PartIs, no_parts}
use Rattle.c_grammar.specs.StatementTrees.{StatementIs, leaving}
use Rattle.c_grammar.specs.FileTrees.{ItemIs, definition as one_definition, declaration, lone_semicolon, ItemsAre, no_item, item_and_more}
use Rattle.c_grammar.proofs.Combinators.{reads_then}
use Rattle.c_grammar.proofs.StatementRules.{ReadsParts, reads_parts_within}
use Rattle.c_grammar.proofs.FileRules.{reads_declare_params}
use Rattle.c_grammar.proofs.Files.{tree_is_of_file, length_of_map}
use Rattle.c_grammar.proofs.ExpressionTreesRead.{All, bind_all, if_all}
use Rattle.c_grammar.proofs.SpecifierTreesRead.{Ends, declared_of}
use Rattle.c_grammar.proofs.RoomTreesRead.{IsDeclaratorIn, AreSpecifiers}
use Rattle.c_grammar.proofs.DeclarationTreesRead.{IsDeclaration, same_declared, init_by_all, parts_after_all}
use Rattle.c_grammar.proofs.StatementTreesRead.{IsStatement, SoundParts, scoped_all, parts_within_sound}

module _ (horizon : ℕ) (W : Words) (ends : Ends W) (room : ℕ) (sub : Parts) (rs : ReadsParts sub) (sound : SoundParts horizon W room sub) where
  abbrev IsItem : State → Item → State → Type 0
  IsItem s x t = (r : ℕ) → room ≤ r → ItemIs horizon W r x s t

  abbrev Specified : State → Specs → State → Type 0
  Specified = AreSpecifiers horizon W room

  map_all : {A : Type 0} (P L : A → State → Type 0) (o : Outcome A) → ((a : A) (t : State) → P a t → L a t) → All P o → All L o
  map_all P L (Ok x) f h = f x.0 x.1 h
  map_all P L (Err e) f h = tt

  definition_all : (s : State) (a : Specs) (t : State) → Specified s a t → (d : Declares) (u : State) → IsDeclaratorIn horizon W room mode.Named t d u →
      look_at W (declared d.name a.is_typedef u) ≡ sign.OpenBrace → All (IsItem s) (definition sub s.at a d W (declared d.name a.is_typedef u))
  unfolding definition definition_body
  definition_all s a t h d u g e = bind_all Body (IsItem s) W (definition_body sub d.params W before) _
      (scoped_all Body (declare_params d.params >> sub.statement) W before
      ((reads_then (reads_declare_params {k = 0} d.params) (rs.statement {k = 0} {moves = false})).keeps W before)
      (map_all (IsStatement horizon W room (with_params d.params before)) (λ b v. Body b (leaving before v)) (sub.statement W (with_params d.params before)) made
      (sound.statement (with_params d.params before))))
      (λ b w f. f)
    where
      before : State
      before = declared d.name a.is_typedef u

      Body : Built → State → Type 0
      Body b w = (r : ℕ) → room ≤ r → ItemIs horizon W r (item.Function s.at a.list d.tree b.tree) s w

      made : (b : Built) (v : State) → IsStatement horizon W room (with_params d.params before) b v → Body b (leaving before v)
      made b v f r tall = subst (λ w. look_at W w ≡ sign.OpenBrace → StatementIs horizon W r b.waits b.tree (with_params d.params w) v →
          ItemIs horizon W r (item.Function s.at a.list d.tree b.tree) s (leaving w v)) (same_declared d.name a.is_typedef u)
          (λ opens body. one_definition a.list a.is_typed a.is_typedef b.waits (declared_of d) b.tree s t u v (h r tall) (g r tall) opens body) e (f r tall)

  declared_all : (s : State) (a : Specs) (t : State) → Specified s a t → (d : Declares) (u : State) → IsDeclaratorIn horizon W room mode.Named t d u →
      All (IsItem s) ((look (init_by sub.inits d) >>= (λ x. parts_after sub.inits s.at a x >>= (λ all. pure (item.Declaration all)))) W (declared d.name a.is_typedef u))
  declared_all s a t h d u g = bind_all (λ x w. (r : ℕ) → room ≤ r → PartIs horizon W r a.is_typedef x t w) (IsItem s) W
      (init_by sub.inits d (look_at W (declared d.name a.is_typedef u)) W (declared d.name a.is_typedef u)) _
      (init_by_all horizon W ends room sub.inits rs.inits sound.inits a.is_typedef t d u g) (λ x w f.
      bind_all (IsDeclaration horizon W ends room sub.inits rs.inits sound.inits s) (IsItem s) W (parts_after sub.inits s.at a x W w) _
      (parts_after_all horizon W ends room sub.inits rs.inits sound.inits s a t h x w f) (λ all v k r tall. declaration all s v (k r tall)))

  external_all : (s : State) (a : Specs) (t : State) → Specified s a t → (d : Declares) (u : State) → IsDeclaratorIn horizon W room mode.Named t d u → (q : Sign) →
      look_at W (declared d.name a.is_typedef u) ≡ q → All (IsItem s) (external_by sub s.at a d q W (declared d.name a.is_typedef u))
  external_all s a t h d u g sign.OpenBrace e = definition_all s a t h d u g e
  external_all s a t h d u g _ e = declared_all s a t h d u g

  external_rest_all : (s : State) (a : Specs) (t : State) → Specified s a t → All (IsItem s) (external_rest sub s.at a W t)
  unfolding external_rest
  external_rest_all s a t h = bind_all (IsDeclaratorIn horizon W room mode.Named t) (IsItem s) W (sub.inits.exprs.declarator mode.Named W t) _ (sound.inits.exprs.declarator mode.Named t) (λ d u g.
      external_all s a t h d u g (look_at W (declared d.name a.is_typedef u)) refl)

  any_external : (s : State) → All (IsItem s) (external sub W s)
  unfolding external
  any_external s = bind_all (Specified s) (IsItem s) W (declaration_specs sub.inits.exprs W s) _
      (sound.inits.exprs.specs s) (λ a t h. by a t h (look_at W t) refl)
    where
      by : (a : Specs) (t : State) → Specified s a t → (q : Sign) → look_at W t ≡ q → All (IsItem s) (declared_by sub s.at a q W t)
      by a t h sign.Semicolon e = λ r tall. declaration (record { at = s.at; specs = a.list; parts = [] }) s (step t) (no_parts a.list a.is_typed a.is_typedef s t (h r tall) e)
      by a t h _ e = external_rest_all s a t h

  file_item_all : (s : State) → All (IsItem s) (file_item sub W s)
  unfolding file_item
  file_item_all s = by (look_at W s) refl
    where
      by : (q : Sign) → look_at W s ≡ q → All (IsItem s) (item_by sub q W s)
      by sign.Semicolon e = λ r tall. lone_semicolon s e
      by _ e = any_external s

  items_from : (n : ℕ) (s : State) → All (λ xs t. (r : ℕ) → room ≤ r → ItemsAre horizon W r xs s t) (many_from is_no_end (file_item sub) n W s)
  unfolding many_from
  items_from zero s = λ r tall. no_item s
  items_from (suc n) s = if_all _ (is_no_end (look_at W s)) _ _ W s
      (λ _. bind_all (IsItem s) _ W (file_item sub W s) _ (file_item_all s) (λ x t h. bind_all _ _ W (many_from is_no_end (file_item sub) n W t) _ (items_from n t)
      (λ xs u g r tall. item_and_more x xs s t u (h r tall) (g r tall))))
      (λ _ r tall. no_item s)

unit_all : (horizon : ℕ) (W : Words) → Ends W → All (λ tree t. (r : ℕ) → limit ≤ r → ItemsAre horizon W r tree.items start t) (translation_unit W start)
unfolding translation_unit file_items many
unit_all horizon W ends = bind_all (λ xs t. (r : ℕ) → limit ≤ r → ItemsAre horizon W r xs start t) _ W (file_items W start) _
    (items_from horizon W ends limit (parts_within limit) (reads_parts_within limit) (parts_within_sound horizon W ends limit) most_words start) (λ xs t h. h)

pub tree_is_derived : TreeIsDerived
tree_is_derived = λ file tokens tree end horizon few e.
    let ws : List Word = word_list file tokens in
    let long : length ws ≡ length tokens = length_of_map (word_of file tokens) tokens in
    let ends : Ends (words_of ws) = record { end = length ws; none = λ n le. slice_get_past ws n le; low = omega arith } in
    let at_end : end.at ≡ length tokens = tree_is_of_file file tokens tree end few e in
    let found : (r : ℕ) → limit ≤ r → ItemsAre horizon (words_of ws) r tree.items start end =
    subst (All (λ (tree : Tree) t. (r : ℕ) → limit ≤ r → ItemsAre horizon (words_of ws) r tree.items start t)) e (unit_all horizon (words_of ws) ends) in
    (end, found limit (le_refl limit), at_end ∙ sym long)

-- What the rules of initialisers and declarations read is a tree of its words.
use Rattle.std.proofs.Common.{◌≡◌, ℕ, zero, suc, ◌+◌, ◌-◌, ◌≤◌, ◌⊎◌, inl, inr, Bool, true, List, [], ◌∷◌, Option, Some, None, refl, sym, subst, arith}
use Rattle.c_tree.specs.declared.tree.Init.{Init}
use Rattle.c_tree.specs.declared.tree.Init.TheVariants as init
use Rattle.c_tree.specs.declared.tree.Given.{Given, roll-Given}
use Rattle.c_tree.specs.declared.tree.Designator.{Designator}
use Rattle.c_tree.specs.declared.tree.Designator.TheVariants as designator
use Rattle.c_tree.specs.declared.tree.InitPart.{InitPart}
use Rattle.c_tree.specs.declared.tree.Declaration.{Declaration}
use Rattle.c_expressions.specs.declared.grown.Specs.{Specs}
use Rattle.c_expressions.specs.declared.grown.Declares.{Declares}
use Rattle.c_expressions.specs.declared.grown.Mode.TheVariants as mode
use Rattle.c_input.specs.declared.word.Sign.{Sign}
use Rattle.c_input.specs.declared.word.Sign.TheVariants as sign
use Rattle.c_input.specs.declared.word.Place.{Place as State}
use Rattle.c_input.specs.Input.{Words, step, look_at}
use Rattle.c_input.specs.Parser.{◌>>=◌, pure, look, refuse, left_out_here, no_room, many_from, many, trailed_from, trailed, most_words}
use Rattle.c_input.specs.Signs.{is_comma, is_semicolon, is_close_brace, is_close_bracket}
use Rattle.c_expressions.specs.Specifiers.{declaration_specs, specs_after_name}
use Rattle.c_syntax.specs.Initialisers.{Inits, equal_by, member_designator, place_designator, given, designation_by, part as given_part, init_parts, init_list, initializer_by, initializer, init_within, inits_within}
use Rattle.c_syntax.specs.Declarations.{declared, init_by, part_of, part, next_part, all_parts, parts_after, parts_by, declaration, declaration_after_name}
use Rattle.c_grammar.specs.DeclaratorTrees.{declaring_any}
use Rattle.c_grammar.specs.DeclarationTrees.{Designation, no_designation, member, place, InitializerIs, expression, list, Initializers, last_part as last_given, last_and_comma, part_and_more as given_and_more, PartIs, declarator, initialised, PartsAre, last_part, part_and_more, DeclarationIs, no_parts, parts}
use Rattle.c_grammar.proofs.InitialiserRules.{ReadsInits, reads_part, reads_inits_within}
use Rattle.c_grammar.proofs.ExpressionTreesRead.{All, bind_all, if_all, expect_all, name_all, comma_sign, close_bracket}
use Rattle.c_grammar.proofs.SpecifierTreesRead.{Ends, declared_of, with_place, not_past, close_brace, semicolon}
use Rattle.c_grammar.proofs.RoomTreesRead.{IsExIn, IsDeclaratorIn, AreSpecifiers, InRoom, in_room}

pub same_declared : (n : Option ℕ) (b : Bool) (s : State) → declaring_any n b s ≡ declared n b s
same_declared (Some n) b s = refl
same_declared None b s = refl

abbrev pub IsInit : ℕ → Words → ℕ → State → Init → State → Type 0
IsInit horizon W room s x t = (r : ℕ) → room ≤ r → InitializerIs horizon W r x s t

-- what parsers of so much room read is a tree of that room
pub record SoundInits (horizon : ℕ) (W : Words) (room : ℕ) (sub : Inits) : Type 0 where
  pub exprs : InRoom horizon W room sub.exprs
  pub init : (s : State) → All (IsInit horizon W room s) (sub.init W s)

module _ (horizon : ℕ) (W : Words) (ends : Ends W) (room : ℕ) (sub : Inits) (rs : ReadsInits sub) (sound : SoundInits horizon W room sub) where
  equal_all : (L : Designator → State → Type 0) (d : Designator) (s : State) (q : Sign) → look_at W s ≡ q → (look_at W s ≡ sign.Equal → L d (step s)) → All L (equal_by d q W s)
  unfolding left_out_here refuse
  equal_all L d s sign.Equal e h = h e
  equal_all L d s sign.Dot e h = tt
  equal_all L d s sign.OpenBracket e h = tt
  equal_all L d s _ e h = tt

  abbrev IsDesignation : State → Option Designator → State → Type 0
  IsDesignation s x t = (r : ℕ) → room ≤ r → Designation horizon W r x s t

  member_all : (s : State) → look_at W s ≡ sign.Dot → All (λ d t. IsDesignation s (Some d) t) (member_designator W s)
  unfolding member_designator
  member_all s e = name_all (λ d t. IsDesignation s (Some d) t) (λ n. look (equal_by (designator.Member s.at n.1))) W (step s) (λ named.
      equal_all (λ d t. IsDesignation s (Some d) t) (designator.Member s.at (suc s.at)) (step (step s)) (look_at W (step (step s))) refl (λ equal r tall. member s e named equal))

  place_all : (s : State) → look_at W s ≡ sign.OpenBracket → All (λ d t. IsDesignation s (Some d) t) (place_designator sub W s)
  unfolding place_designator
  place_all s e = bind_all (IsExIn horizon W room 3 (step s)) (λ d t. IsDesignation s (Some d) t) W (sub.exprs.expr 3 W (step s)) _ (sound.exprs.expr 3 (step s) (omega arith)) (λ x t g.
      expect_all (λ d t. IsDesignation s (Some d) t) is_close_bracket (look (equal_by (designator.Place s.at x.tree))) W t (λ close.
      equal_all (λ d t. IsDesignation s (Some d) t) (designator.Place s.at x.tree) (step t) (look_at W (step t)) refl (λ equal r tall.
      place x.tree s t e (g.1 r 3 g.0 tall) (close_bracket _ close) equal)))

  designation_all : (s : State) → All (IsDesignation s) (designation_by sub (look_at W s) W s)
  designation_all s = by (look_at W s) refl
    where
      by : (q : Sign) → look_at W s ≡ q → All (IsDesignation s) (designation_by sub q W s)
      by sign.Dot e = bind_all (λ d t. IsDesignation s (Some d) t) (IsDesignation s) W (member_designator W s) (λ d. pure (Some d)) (member_all s e) (λ d t h. h)
      by sign.OpenBracket e = bind_all (λ d t. IsDesignation s (Some d) t) (IsDesignation s) W (place_designator sub W s) (λ d. pure (Some d)) (place_all s e) (λ d t h. h)
      by _ e = λ r tall. no_designation s

  -- a part of an initialiser's list, in its two halves
  record IsGiven (s : State) (x : Given) (t : State) : Type 0 where
    designator : Option Designator
    value : Init
    between : State
    is : x ≡ roll-Given (record { designator = designator; init = value })
    first : IsDesignation s designator between
    then : IsInit horizon W room between value t

  given_all : (s : State) → All (IsGiven s) (given_part sub W s)
  unfolding given_part
  given_all s = bind_all (IsDesignation s) (IsGiven s) W (designation_by sub (look_at W s) W s) (given sub) (designation_all s) (λ d u h.
      bind_all (IsInit horizon W room u) (IsGiven s) W (sub.init W u) _ (sound.init u) (λ i t g. record { designator = d; value = i; between = u; is = refl; first = h; then = g }))

  abbrev AreGiven : State → List Given → State → Type 0
  AreGiven s xs t = (most_words ≤ t.at) ⊎ ((r : ℕ) → room ≤ r → Initializers horizon W r xs s t)

  given_from : (n : ℕ) (s : State) → most_words ≤ n + s.at → All (AreGiven s) (trailed_from is_comma is_close_brace (given_part sub) n W s)
  unfolding trailed_from
  given_from zero s turns = inl (omega arith)
  given_from (suc n) s turns = bind_all (λ x t. IsGiven s x t × (s.at ≤ t.at)) (AreGiven s) W (given_part sub W s) _
      (with_place (IsGiven s) s.at (given_part sub W s) (given_all s) ((reads_part sub rs {k = 0} {moves = true}).forward W s))
      (λ x t h. if_all (AreGiven s) (is_comma (look_at W t)) _ _ W t
      (λ comma. if_all (AreGiven s) (is_close_brace (look_at W (step t))) _ _ W (step t)
      (λ _. inr (λ r tall. let g = h.0 in subst (λ y. Initializers horizon W r (y ∷ []) s (step t)) (sym g.is) (last_and_comma r g.designator g.value s g.between t (g.first r tall) (g.then r tall) (comma_sign _ comma))))
      (λ _. bind_all (AreGiven (step t)) (AreGiven s) W (trailed_from is_comma is_close_brace (given_part sub) n W (step t)) _
      (given_from n (step t) (let le = h.1 in omega arith)) (λ rest u g. more x t h.0 (comma_sign _ comma) rest u g)))
      (λ _. inr (λ r tall. let g = h.0 in subst (λ y. Initializers horizon W r (y ∷ []) s t) (sym g.is) (last_given r g.designator g.value s g.between t (g.first r tall) (g.then r tall)))))
    where
      more : (x : Given) (t : State) → IsGiven s x t → look_at W t ≡ sign.Comma → (rest : List Given) (u : State) → AreGiven (step t) rest u → AreGiven s (x ∷ rest) u
      more x t h comma rest u (inl le) = inl le
      more x t h comma rest u (inr g) = inr (λ r tall. subst (λ y. Initializers horizon W r (y ∷ rest) s u) (sym h.is)
          (given_and_more r h.designator h.value rest s h.between t u (h.first r tall) (h.then r tall) comma (g r tall)))

  list_all : (s : State) → look_at W s ≡ sign.OpenBrace → All (IsInit horizon W (suc room) s) (init_list sub s.at W s)
  unfolding init_list init_parts trailed
  list_all s e = bind_all (AreGiven (step s)) (IsInit horizon W (suc room) s) W (trailed is_comma is_close_brace (given_part sub) W (step s)) _ (given_from (most_words - suc s.at) (step s) (omega arith)) (λ xs t h.
      expect_all (IsInit horizon W (suc room) s) is_close_brace (pure (init.List s.at xs)) W t (λ close. whole xs t close h))
    where
      whole : (xs : List Given) (t : State) → is_close_brace (look_at W t) ≡ true → AreGiven (step s) xs t → IsInit horizon W (suc room) s (init.List s.at xs) (step t)
      whole xs t close (inl le) = absurd (not_past W ends is_close_brace refl t close le)
      whole xs t close (inr h) = λ r tall. list r xs s t (λ _. omega arith) e (h (r - 1) (omega arith)) (close_brace _ close)

  initializer_all : (s : State) → All (IsInit horizon W (suc room) s) (initializer sub W s)
  unfolding initializer
  initializer_all s = by (look_at W s) refl
    where
      value : All (IsInit horizon W (suc room) s) ((sub.exprs.expr 2 >>= (λ e. pure (init.One e.tree))) W s)
      value = bind_all (IsExIn horizon W room 2 s) (IsInit horizon W (suc room) s) W (sub.exprs.expr 2 W s) _ (sound.exprs.expr 2 s (omega arith)) (λ x t g r tall. expression r x.tree s t (λ _. omega arith) (g.1 (r - 1) 2 g.0 (omega arith)))

      by : (q : Sign) → look_at W s ≡ q → All (IsInit horizon W (suc room) s) (initializer_by sub q W s)
      by sign.OpenBrace e = list_all s e
      by _ e = value

  abbrev IsPart : Bool → State → InitPart → State → Type 0
  IsPart b s x t = (r : ℕ) → room ≤ r → PartIs horizon W r b x s t

  pub init_by_all : (b : Bool) (s : State) (d : Declares) (t : State) → IsDeclaratorIn horizon W room mode.Named s d t →
      All (IsPart b s) (init_by sub d (look_at W (declared d.name b t)) W (declared d.name b t))
  init_by_all b s d t h = subst (λ u. All (IsPart b s) (init_by sub d (look_at W u) W u)) (same_declared d.name b t) (by (look_at W (declaring_any d.name b t)) refl)
    where
      by : (q : Sign) → look_at W (declaring_any d.name b t) ≡ q → All (IsPart b s) (init_by sub d q W (declaring_any d.name b t))
      by sign.Equal e = bind_all (IsInit horizon W room (step (declaring_any d.name b t))) (IsPart b s) W (sub.init W (step (declaring_any d.name b t))) _ (sound.init (step (declaring_any d.name b t)))
          (λ i u g r tall. initialised (declared_of d) i s t u (h r tall) e (g r tall))
      by _ e = λ r tall. declarator (declared_of d) s t (h r tall)

  part_all : (b : Bool) (s : State) → All (IsPart b s) (part sub b W s)
  unfolding part part_of
  part_all b s = bind_all (IsDeclaratorIn horizon W room mode.Named s) (IsPart b s) W (sub.exprs.declarator mode.Named W s) _ (sound.exprs.declarator mode.Named s) (λ d t h. init_by_all b s d t h)

  parts_from : (b : Bool) (n : ℕ) (s : State) → All (λ xs t. (r : ℕ) (x : InitPart) (from : State) → room ≤ r → PartIs horizon W r b x from s → PartsAre horizon W r b (x ∷ xs) from t)
      (many_from is_comma (next_part sub b) n W s)
  unfolding many_from
  parts_from b zero s = λ r x from tall h. last_part x from s h
  parts_from b (suc n) s = if_all _ (is_comma (look_at W s)) _ _ W s
      (λ comma. bind_all (IsPart b (step s)) _ W (part sub b W (step s)) _ (part_all b (step s)) (λ y u h.
      bind_all _ _ W (many_from is_comma (next_part sub b) n W u) _ (parts_from b n u)
      (λ ys t g r x from tall a. part_and_more x (y ∷ ys) from s t a (comma_sign _ comma) (g r y (step s) tall (h r tall)))))
      (λ _ r x from tall h. last_part x from s h)

  abbrev pub IsDeclaration : State → Declaration → State → Type 0
  IsDeclaration s x t = (r : ℕ) → room ≤ r → DeclarationIs horizon W r x s t

  pub parts_after_all : (s : State) (a : Specs) (t : State) → AreSpecifiers horizon W room s a t → (x : InitPart) (u : State) → IsPart a.is_typedef t x u →
      All (IsDeclaration s) (parts_after sub s.at a x W u)
  unfolding parts_after all_parts many
  parts_after_all s a t h x u g = bind_all (λ xs v. (r : ℕ) → room ≤ r → PartsAre horizon W r a.is_typedef xs t v) (IsDeclaration s) W (all_parts sub a.is_typedef x W u) _
      (bind_all _ _ W (many_from is_comma (next_part sub a.is_typedef) (most_words - u.at) W u) _ (parts_from a.is_typedef (most_words - u.at) u) (λ ys v f r tall. f r x t tall (g r tall)))
      (λ xs v f. expect_all (IsDeclaration s) is_semicolon _ W v (λ ended r tall. parts a.list a.is_typed a.is_typedef xs s t v (h r tall) (f r tall) (semicolon _ ended)))

  parts_by_all : (s : State) (a : Specs) (t : State) → AreSpecifiers horizon W room s a t → (q : Sign) → look_at W t ≡ q → All (IsDeclaration s) (parts_by sub s.at a q W t)
  parts_by_all s a t h sign.Semicolon e = λ r tall. no_parts a.list a.is_typed a.is_typedef s t (h r tall) e
  parts_by_all s a t h _ e = bind_all (IsPart a.is_typedef t) (IsDeclaration s) W (part sub a.is_typedef W t) (parts_after sub s.at a) (part_all a.is_typedef t) (λ x u g.
      parts_after_all s a t h x u g)

  pub declaration_all : (s : State) → All (IsDeclaration s) (declaration sub W s)
  unfolding declaration
  declaration_all s = bind_all (AreSpecifiers horizon W room s) (IsDeclaration s) W (declaration_specs sub.exprs W s) _ (sound.exprs.specs s)
      (λ a t h. parts_by_all s a t h (look_at W t) refl)

  pub declaration_after_name_all : (s : State) → look_at W s ≡ sign.TypeName → All (IsDeclaration s) (declaration_after_name sub s.at W (step s))
  unfolding declaration_after_name
  declaration_after_name_all s e = bind_all (AreSpecifiers horizon W room s) (IsDeclaration s) W (specs_after_name sub.exprs s.at W (step s)) _
      (sound.exprs.specs_after_name s e) (λ a t h. parts_by_all s a t h (look_at W t) refl)

module _ (horizon : ℕ) (W : Words) (ends : Ends W) where
  init_within_sound : (room : ℕ) (s : State) → All (IsInit horizon W room s) (init_within room W s)
  unfolding init_within no_room
  init_within_sound zero s = tt
  init_within_sound (suc room) s = initializer_all horizon W ends room (inits_within room) (reads_inits_within room)
      (record { exprs = in_room horizon W ends room; init = λ t. init_within_sound room t }) s

  pub inits_within_sound : (room : ℕ) → SoundInits horizon W room (inits_within room)
  inits_within_sound room = record { exprs = in_room horizon W ends room; init = λ s. init_within_sound room s }

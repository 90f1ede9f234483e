-- What the rules of specifiers, structs and enumerations read is a tree of its words.
use Rattle.std.proofs.Common.{◌≡◌, ℕ, zero, suc, max, ◌+◌, ◌-◌, ◌<◌, ◌≤◌, ◌⊎◌, inl, inr, ◌||◌, nat_lt, Bool, true, false, List, [], ◌∷◌, Option, Some, None, Ok, Err, refl, sym, ap, ◌∙◌, subst, arith}
use Rattle.c_tree.specs.declared.tree.Ex.{Ex}
use Rattle.c_tree.specs.declared.tree.Spec.{Spec}
use Rattle.c_tree.specs.declared.tree.Spec.TheVariants as spec
use Rattle.c_tree.specs.declared.tree.MemberLine.{MemberLine, roll-MemberLine}
use Rattle.c_tree.specs.declared.tree.MemberPart.{MemberPart}
use Rattle.c_tree.specs.declared.tree.Enumerator.{Enumerator}
use Rattle.c_expressions.specs.declared.grown.Specs.{Specs}
use Rattle.c_expressions.specs.declared.grown.Declares.{Declares}
use Rattle.c_expressions.specs.declared.grown.Mode.{Mode}
use Rattle.c_expressions.specs.declared.grown.Mode.TheVariants as mode
use Rattle.c_input.specs.declared.word.Sign.{Sign}
use Rattle.c_input.specs.declared.word.Sign.TheVariants as sign
use Rattle.c_input.specs.declared.word.Place.{Place as State}
use Rattle.c_input.specs.declared.measured.Measured.{Measured}
use Rattle.c_input.specs.Input.{Words, step, look_at, sign_at, is_name, name_in, specifies, qualifies}
use Rattle.c_input.specs.Parser.{Outcome, Parser, and_then, ◌>>=◌, ◌>>◌, pure, look, skip, refuse, too_deep_here, if_so, any_name, take_name, declare, many_from, many, one_or_more, separated, trailed_from, trailed, trees, deepest, gathered, most_words}
use Rattle.c_input.specs.Signs.{is_comma, is_semicolon, is_close_brace, is_no_close_brace}
use Rattle.c_expressions.specs.Nest.{Nest}
use Rattle.c_expressions.specs.Specifiers.{is_type_specifier, is_typedef, tag_by, tag, member_lines, struct_by, struct_specifier, enumerator_by, enumerator, enumerators, enum_by, enum_specifier, spec_by, specs_from, specs, some_specs, declaration_specs, qualifier_specs, specs_after_name, nameless, bit_field, width_by, member_by, member, members_by, members, member_line}
use Rattle.c_grammar.specs.Places.{place}
use Rattle.c_grammar.specs.Below.{Below, Declared}
use Rattle.c_grammar.specs.SpecifierTrees.{is_spec_word, is_struct_or_union, member_part, Tag, no_tag, tag as one_tag, Lines, last_line, line_and_more, EnumeratorIs, enumeration_constant, with_value, Enumerators, last_enumerator, last_and_comma, enumerator_and_more, SpecifierIs, spec_word, typedef_name, struct_, struct_tag, enum_, enum_tag, SpecifiersAre, no_specifier, specifier, SomeSpecifiers, some_specifiers, MemberIs, member as member_is, bit_field as bit_field_is, nameless_bit_field, Members, last_member, member_and_more, LineIs, members as with_members, no_members}
use Rattle.c_grammar.proofs.Combinators.{Past}
use Rattle.c_grammar.proofs.SpecifierRules.{ReadsNest, reads_spec_by, reads_enumerator, no_specifier as none_specifies, no_qualifier as none_qualifies}
use Rattle.c_grammar.proofs.ExpressionTreesRead.{All, IsEx, bind_all, if_all, expect_all, name_all, comma_sign}

-- the words end, before the bound on a file's
pub record Ends (W : Words) : Type 0 where
  pub end : ℕ
  pub none : (n : ℕ) → end ≤ n → W n ≡ None
  pub low : end < most_words

abbrev pub declared_of : Declares → Declared
declared_of d = record { tree = d.tree; name = d.name; params = d.params }

abbrev pub IsDeclarator : Below → Mode → State → Declares → State → Type 0
IsDeclarator B m s d t = (r : ℕ) → d.height ≤ r → B.declarator r m (declared_of d) s t

abbrev pub IsLine : Below → State → Measured MemberLine → State → Type 0
IsLine B s x t = (r : ℕ) → x.height ≤ r → B.line r x.tree s t

-- what the parsers one level of room below read are trees
pub record Sound (W : Words) (B : Below) (sub : Nest) : Type 0 where
  pub expr : (l : ℕ) (s : State) → l ≤ 15 → All (IsEx B l s) (sub.expr l W s)
  pub opened : (s : State) → look_at W s ≡ sign.OpenParen → All (IsEx B 15 s) (sub.opened s.at W (step s))
  pub named : (s : State) → look_at W s ≡ sign.Name → All (IsEx B 1 s) (sub.named s.at W (step s))
  pub starred : (alone : Bool) (s : State) → All (IsEx B 2 s) (sub.starred alone W s)
  pub declarator : (m : Mode) (s : State) → All (IsDeclarator B m s) (sub.declarator m W s)
  pub line : (s : State) → All (IsLine B s) (sub.line W s)

pub close_brace : (q : Sign) → is_close_brace q ≡ true → q ≡ sign.CloseBrace
close_brace sign.CloseBrace e = refl
close_brace _ e = absurd (cc)

pub semicolon : (q : Sign) → is_semicolon q ≡ true → q ≡ sign.Semicolon
semicolon sign.Semicolon e = refl
semicolon _ e = absurd (cc)

specifies_any : (typed : Bool) (q : Sign) → specifies typed q ≡ true → specifies false q ≡ true
specifies_any false q e = e
specifies_any true sign.Storage e = refl
specifies_any true sign.Static e = refl
specifies_any true sign.Typedef e = refl
specifies_any true sign.Qualifier e = refl
specifies_any true sign.TypeWord e = refl
specifies_any true sign.Struct e = refl
specifies_any true sign.Union e = refl
specifies_any true sign.Enum e = refl
specifies_any true _ e = absurd (cc)

qualifies_any : (typed : Bool) (q : Sign) → qualifies typed q ≡ true → specifies false q ≡ true
qualifies_any false sign.Qualifier e = refl
qualifies_any false sign.TypeWord e = refl
qualifies_any false sign.Struct e = refl
qualifies_any false sign.Union e = refl
qualifies_any false sign.Enum e = refl
qualifies_any false sign.TypeName e = refl
qualifies_any false _ e = absurd (cc)
qualifies_any true sign.Qualifier e = refl
qualifies_any true sign.TypeWord e = refl
qualifies_any true sign.Struct e = refl
qualifies_any true sign.Union e = refl
qualifies_any true sign.Enum e = refl
qualifies_any true _ e = absurd (cc)

pub with_place : {A : Type 0} (P : A → State → Type 0) (n : ℕ) (o : Outcome A) → All P o → n ≤ place o → All (λ x t. P x t × (n ≤ t.at)) o
with_place P n (Ok x) h le = (h, le)
with_place P n (Err e) h le = tt

pub with_past : {A : Type 0} (P : A → State → Type 0) (n : ℕ) (o : Outcome A) → All P o → Past n o → All (λ x t. P x t × (n ≤ t.at)) o
with_past P n (Ok x) h le = (h, le)
with_past P n (Err e) h le = tt

pub gathered_all : {A : Type 0} (L : ℕ → List A → State → Type 0) (p : Parser (List (Measured A))) (W : Words) (s : State) → All (λ xs t. L (deepest xs) (trees xs) t) (p W s) →
    All (λ x t. L x.height x.tree t) (gathered p W s)
gathered_all L p W s h = bind_all _ _ W (p W s) _ h (λ xs t g. g)

tag_all : {B : Type 0} (L : B → State → Type 0) (f : Option ℕ → Parser B) (W : Words) (s : State) → (is_name (look_at W s) ≡ true → All L (f (Some s.at) W (step s))) →
    All L (and_then W ((any_name >>= (λ n. pure (Some n.1))) W s) f)
unfolding any_name refuse
tag_all L f W s h = by (is_name (look_at W s)) refl
  where
    by : (b : Bool) → is_name (look_at W s) ≡ b → All L (and_then W (and_then W (if_so b take_name refuse W s) (λ n. pure (Some n.1))) f)
    by true e = h e
    by false e = tt

module _ (W : Words) (ends : Ends W) where
  pub past_end : (s : State) → ends.end ≤ s.at → look_at W s ≡ sign.Eof
  unfolding look_at
  past_end s le = ap (sign_at s.names) (ends.none s.at le)

  pub not_past : (is : Sign → Bool) → is sign.Eof ≡ false → (s : State) → is (look_at W s) ≡ true → most_words ≤ s.at → ⊥
  not_past is eof s e le =
      let low = ends.low in
      let at_end : look_at W s ≡ sign.Eof = past_end s (omega arith) in
      let never : is sign.Eof ≡ true = subst (λ q. is q ≡ true) at_end e in
      absurd (cc)

  before_end : (is : Sign → Bool) → is sign.Eof ≡ false → (s : State) → is (look_at W s) ≡ true → s.at + 1 ≤ ends.end
  before_end is eof s e = by (grind (arith))
    where
      by : (s.at < ends.end) ⊎ (ends.end ≤ s.at) → s.at + 1 ≤ ends.end
      by (inl less_than) = omega arith
      by (inr le) =
          let at_end : look_at W s ≡ sign.Eof = past_end s le in
          let never : is sign.Eof ≡ true = subst (λ q. is q ≡ true) at_end e in
          absurd (cc)

module _ (horizon : ℕ) (W : Words) (ends : Ends W) (B : Below) (sub : Nest) (rs : ReadsNest sub) (sound : Sound W B sub) where
  lines_from : (n : ℕ) (s : State) → All (λ xs t. (r : ℕ) (x : MemberLine) (from : State) → deepest xs ≤ r → B.line r x from s → Lines horizon W B r (x ∷ trees xs) from t)
      (many_from is_no_close_brace sub.line n W s)
  unfolding many_from
  lines_from zero s = λ r x from tall d. last_line x from s d
  lines_from (suc n) s = if_all _ (is_no_close_brace (look_at W s)) _ _ W s
      (λ _. bind_all (IsLine B s) _ W (sub.line W s) _ (sound.line s) (λ y u h. bind_all _ _ W (many_from is_no_close_brace sub.line n W u) _ (lines_from n u)
      (λ ys t g r x from tall d. line_and_more x (y.tree ∷ trees ys) from s t d (g r y.tree s (omega arith) (h r (omega arith))))))
      (λ _ r x from tall d. last_line x from s d)

  lines_all : (s : State) → All (λ xs t. (r : ℕ) → deepest xs ≤ r → Lines horizon W B r (trees xs) s t) (one_or_more is_no_close_brace sub.line W s)
  unfolding one_or_more many
  lines_all s = bind_all (IsLine B s) _ W (sub.line W s) _ (sound.line s) (λ y u h.
      bind_all _ _ W (many_from is_no_close_brace sub.line (most_words - u.at) W u) _ (lines_from (most_words - u.at) u) (λ ys t g r tall. g r y.tree s (omega arith) (h r (omega arith))))

  IsSpec : State → Measured Spec → State → Type 0
  IsSpec s x t = (r : ℕ) → x.height ≤ r → SpecifierIs horizon W B r x.tree s t

  struct_all : (s : State) → is_struct_or_union (look_at W s) ≡ true → All (IsSpec s) (struct_specifier sub W s)
  unfolding IsSpec struct_specifier tag member_lines
  struct_all s struct = by (look_at W (step s)) refl
    where
      filled : (name : Option ℕ) (t : State) → Tag horizon W B name (step s) t → look_at W t ≡ sign.OpenBrace → All (IsSpec s) (struct_by sub s.at name sign.OpenBrace W t)
      filled name t named e = bind_all (λ xs u. (v : State) × (u ≡ step v) × (look_at W v ≡ sign.CloseBrace) × ((r : ℕ) → xs.height ≤ r → Lines horizon W B r xs.tree (step t) v)) (IsSpec s) W
          (member_lines sub W t) _
          (bind_all (λ xs v. (r : ℕ) → xs.height ≤ r → Lines horizon W B r xs.tree (step t) v) _ W (gathered (one_or_more is_no_close_brace sub.line) W (step t)) _
          (gathered_all (λ k xs v. (r : ℕ) → k ≤ r → Lines horizon W B r xs (step t) v) (one_or_more is_no_close_brace sub.line) W (step t) (lines_all (step t)))
          (λ xs v h. expect_all _ is_close_brace _ W v (λ close. (v, refl, close_brace _ close, h))))
          (λ xs u h r tall. subst (λ v. SpecifierIs horizon W B r (spec.Struct s.at name (Some xs.tree)) s v) (sym h.1) (struct_ name xs.tree s t h.0 struct named e (h.3 r tall) h.2))

      after : is_name (look_at W (step s)) ≡ true → (q : Sign) → look_at W (step (step s)) ≡ q → All (IsSpec s) (struct_by sub s.at (Some (suc s.at)) q W (step (step s)))
      after named sign.OpenBrace e = filled (Some (suc s.at)) (step (step s)) (one_tag (step s) named) e
      after named _ e = λ r tall. struct_tag s struct named

      by : (q : Sign) → look_at W (step s) ≡ q → All (IsSpec s) (and_then W (tag_by q W (step s)) (λ name. look (struct_by sub s.at name)))
      by sign.OpenBrace e = subst (λ q. All (IsSpec s) (struct_by sub s.at None q W (step s))) (sym e) (filled None (step s) (no_tag (step s) e) e)
      by _ e = tag_all (IsSpec s) (λ name. look (struct_by sub s.at name)) W (step s) (λ named. after named (look_at W (step (step s))) refl)

  abbrev IsEnumerator : State → Measured Enumerator → State → Type 0
  IsEnumerator s x t = (r : ℕ) → x.height ≤ r → EnumeratorIs horizon W B r x.tree s t

  enumerator_all : (s : State) → All (IsEnumerator s) (enumerator sub W s)
  unfolding enumerator declare
  enumerator_all s = name_all (IsEnumerator s) (λ n. look (enumerator_by sub n.0 n.1)) W s (λ named. by named (look_at W (step s)) refl)
    where
      by : is_name (look_at W s) ≡ true → (q : Sign) → look_at W (step s) ≡ q → All (IsEnumerator s) (enumerator_by sub (name_in (W s.at)) s.at q W (step s))
      by named sign.Equal e = bind_all (IsEx B 3 (step (step s))) _ W (sub.expr 3 W (step (step s))) _ (sound.expr 3 (step (step s)) (omega arith))
          (λ x t h r tall. with_value x.tree s t named e (h.1 r 3 h.0 tall))
      by named _ e = λ r tall. enumeration_constant s named

  -- a list that the bound ends is past the words
  abbrev AreEnumerators : State → List (Measured Enumerator) → State → Type 0
  AreEnumerators s xs t = (most_words ≤ t.at) ⊎ ((r : ℕ) → deepest xs ≤ r → Enumerators horizon W B r (trees xs) s t)

  enumerators_from : (n : ℕ) (s : State) → most_words ≤ n + s.at → All (AreEnumerators s) (trailed_from is_comma is_close_brace (enumerator sub) n W s)
  unfolding trailed_from
  enumerators_from zero s turns = inl (omega arith)
  enumerators_from (suc n) s turns = bind_all (λ x t. IsEnumerator s x t × (s.at ≤ t.at)) (AreEnumerators s) W (enumerator sub W s) _
      (with_place (IsEnumerator s) s.at (enumerator sub W s) (enumerator_all s) ((reads_enumerator sub rs {k = 0} {moves = true}).forward W s))
      (λ x t h. if_all (AreEnumerators s) (is_comma (look_at W t)) _ _ W t
      (λ comma. if_all (AreEnumerators s) (is_close_brace (look_at W (step t))) _ _ W (step t)
      (λ _. inr (λ r tall. last_and_comma x.tree s t (h.0 r (omega arith)) (comma_sign _ comma)))
      (λ _. bind_all (AreEnumerators (step t)) (AreEnumerators s) W (trailed_from is_comma is_close_brace (enumerator sub) n W (step t)) _
      (enumerators_from n (step t) (let le = h.1 in omega arith)) (λ rest u g. more x t (h.0) (comma_sign _ comma) rest u g)))
      (λ _. inr (λ r tall. last_enumerator x.tree s t (h.0 r (omega arith)))))
    where
      more : (x : Measured Enumerator) (t : State) → IsEnumerator s x t → look_at W t ≡ sign.Comma → (rest : List (Measured Enumerator)) (u : State) →
          AreEnumerators (step t) rest u → AreEnumerators s (x ∷ rest) u
      more x t h comma rest u (inl le) = inl le
      more x t h comma rest u (inr g) = inr (λ r tall. enumerator_and_more x.tree (trees rest) s t u (h r (omega arith)) comma (g r (omega arith)))

  enumerators_all : (s : State) → All (λ xs u. (v : State) × (u ≡ step v) × (look_at W v ≡ sign.CloseBrace) × ((r : ℕ) → xs.height ≤ r → Enumerators horizon W B r xs.tree (step s) v)) (enumerators sub W s)
  unfolding enumerators trailed
  enumerators_all s = bind_all (λ xs v. (most_words ≤ v.at) ⊎ ((r : ℕ) → xs.height ≤ r → Enumerators horizon W B r xs.tree (step s) v)) _ W
      (gathered (trailed is_comma is_close_brace (enumerator sub)) W (step s)) _
      (gathered_all (λ k xs v. (most_words ≤ v.at) ⊎ ((r : ℕ) → k ≤ r → Enumerators horizon W B r xs (step s) v)) (trailed is_comma is_close_brace (enumerator sub)) W (step s)
      (enumerators_from (most_words - suc s.at) (step s) (omega arith)))
      (λ xs v h. expect_all _ is_close_brace _ W v (λ close. (v, refl, close_brace _ close, whole xs v close h)))
    where
      whole : (xs : Measured (List Enumerator)) (v : State) → is_close_brace (look_at W v) ≡ true → (most_words ≤ v.at) ⊎ ((r : ℕ) → xs.height ≤ r → Enumerators horizon W B r xs.tree (step s) v) →
          (r : ℕ) → xs.height ≤ r → Enumerators horizon W B r xs.tree (step s) v
      whole xs v close (inl le) = absurd (not_past W ends is_close_brace refl v close le)
      whole xs v close (inr h) = h

  enum_all : (s : State) → look_at W s ≡ sign.Enum → All (IsSpec s) (enum_specifier sub W s)
  unfolding IsSpec enum_specifier tag
  enum_all s enum = by (look_at W (step s)) refl
    where
      filled : (name : Option ℕ) (t : State) → Tag horizon W B name (step s) t → look_at W t ≡ sign.OpenBrace → All (IsSpec s) (enum_by sub s.at name sign.OpenBrace W t)
      filled name t named e = bind_all (λ xs u. (v : State) × (u ≡ step v) × (look_at W v ≡ sign.CloseBrace) × ((r : ℕ) → xs.height ≤ r → Enumerators horizon W B r xs.tree (step t) v)) (IsSpec s) W
          (enumerators sub W t) _ (enumerators_all t)
          (λ xs u h r tall. subst (λ v. SpecifierIs horizon W B r (spec.Enum s.at name (Some xs.tree)) s v) (sym h.1) (enum_ name xs.tree s t h.0 enum named e (h.3 r tall) h.2))

      after : is_name (look_at W (step s)) ≡ true → (q : Sign) → look_at W (step (step s)) ≡ q → All (IsSpec s) (enum_by sub s.at (Some (suc s.at)) q W (step (step s)))
      after named sign.OpenBrace e = filled (Some (suc s.at)) (step (step s)) (one_tag (step s) named) e
      after named _ e = λ r tall. enum_tag s enum named

      by : (q : Sign) → look_at W (step s) ≡ q → All (IsSpec s) (and_then W (tag_by q W (step s)) (λ name. look (enum_by sub s.at name)))
      by sign.OpenBrace e = subst (λ q. All (IsSpec s) (enum_by sub s.at None q W (step s))) (sym e) (filled None (step s) (no_tag (step s) e) e)
      by _ e = tag_all (IsSpec s) (λ name. look (enum_by sub s.at name)) W (step s) (λ named. after named (look_at W (step (step s))) refl)

  spec_all : (s : State) (q : Sign) → look_at W s ≡ q → specifies false q ≡ true → All (IsSpec s) (spec_by sub q W s)
  unfolding IsSpec
  spec_all s sign.Struct e f = struct_all s (ap is_struct_or_union e)
  spec_all s sign.Enum e f = enum_all s e
  spec_all s sign.Union e f = struct_all s (ap is_struct_or_union e)
  spec_all s sign.TypeName e f = λ r tall. typedef_name s e
  spec_all s sign.Storage e f = λ r tall. spec_word s (ap is_spec_word e)
  spec_all s sign.Static e f = λ r tall. spec_word s (ap is_spec_word e)
  spec_all s sign.Typedef e f = λ r tall. spec_word s (ap is_spec_word e)
  spec_all s sign.Qualifier e f = λ r tall. spec_word s (ap is_spec_word e)
  spec_all s sign.TypeWord e f = λ r tall. spec_word s (ap is_spec_word e)
  spec_all s _ e f = absurd (cc)

  abbrev AreSpecs : (Bool → Sign → Bool) → Bool → State → Specs → State → Type 0
  AreSpecs more typed s x t = (r : ℕ) → x.height ≤ r → SpecifiersAre horizon W B more r typed x.list x.is_typed x.is_typedef s t

  module _ (more : Bool → Sign → Bool) (eof : (typed : Bool) → more typed sign.Eof ≡ false) (any : (typed : Bool) (q : Sign) → more typed q ≡ true → specifies false q ≡ true) where
    specs_from_all : (n : ℕ) (typed : Bool) (s : State) → most_words ≤ n + s.at → All (AreSpecs more typed s) (specs_from sub more n typed W s)
    unfolding specs_from IsSpec
    specs_from_all zero typed s turns =
        let low = ends.low in
        λ r tall. no_specifier typed s (ap (more typed) (past_end W ends s (omega arith)) ∙ eof typed)
    specs_from_all (suc n) typed s turns = if_all (AreSpecs more typed s) (more typed (look_at W s)) _ _ W s
        (λ one. bind_all (λ x t. IsSpec s x t × (suc s.at ≤ t.at)) (AreSpecs more typed s) W (spec_by sub (look_at W s) W s) _
        (with_past (IsSpec s) (suc s.at) (spec_by sub (look_at W s) W s) (spec_all s (look_at W s) refl (any typed (look_at W s) one))
        ((reads_spec_by sub rs {moves = true} (look_at W s)).past W s ends.end (ends.none ends.end (omega arith)) ends.low (before_end W ends (more typed) (eof typed) s one) refl))
        (λ x t h. bind_all (AreSpecs more (typed || is_type_specifier (look_at W s)) t) (AreSpecs more typed s) W
        (specs_from sub more n (typed || is_type_specifier (look_at W s)) W t) _
        (specs_from_all n (typed || is_type_specifier (look_at W s)) t (let le = h.1 in omega arith))
        (λ rest u g r tall. specifier typed x.tree rest.list rest.is_typed rest.is_typedef s t u one (h.0 r (omega arith)) (g r (omega arith)))))
        (λ none r tall. no_specifier typed s none)

    specs_all : (typed : Bool) (s : State) → All (AreSpecs more typed s) (specs sub more typed W s)
    unfolding specs
    specs_all typed s = specs_from_all (most_words - s.at) typed s (omega arith)

    pub some_specs_all : (s : State) → All (λ x t. (r : ℕ) → x.height ≤ r → SomeSpecifiers horizon W B more r x.list x.is_typed x.is_typedef s t) (some_specs sub more W s)
    unfolding some_specs refuse
    some_specs_all s = if_all _ (more false (look_at W s)) (specs sub more false) refuse W s
        (λ one. bind_pure (specs sub more false W s) (specs_all false s) one) (λ _. tt)
      where
        bind_pure : (o : Outcome Specs) → All (AreSpecs more false s) o → more false (look_at W s) ≡ true →
            All (λ x t. (r : ℕ) → x.height ≤ r → SomeSpecifiers horizon W B more r x.list x.is_typed x.is_typedef s t) o
        bind_pure (Ok x) h one = λ r tall. some_specifiers x.0.list x.0.is_typed x.0.is_typedef s x.1 one (h r tall)
        bind_pure (Err e) h one = tt

  abbrev pub AreSome : (Bool → Sign → Bool) → State → Specs → State → Type 0
  AreSome more s x t = (r : ℕ) → x.height ≤ r → SomeSpecifiers horizon W B more r x.list x.is_typed x.is_typedef s t

  pub declaration_specs_all : (s : State) → All (AreSome specifies s) (declaration_specs sub W s)
  declaration_specs_all s = some_specs_all specifies none_specifies specifies_any s

  pub qualifier_specs_all : (s : State) → All (AreSome qualifies s) (qualifier_specs sub W s)
  qualifier_specs_all s = some_specs_all qualifies none_qualifies qualifies_any s

  pub specs_after_name_all : (s : State) → look_at W s ≡ sign.TypeName → All (AreSome specifies s) (specs_after_name sub s.at W (step s))
  unfolding specs_after_name
  specs_after_name_all s e = bind_all (AreSpecs specifies true (step s)) (AreSome specifies s) W (specs sub specifies true W (step s)) _
      (specs_all specifies none_specifies specifies_any true (step s))
      (λ x t h r tall. some_specifiers (spec.Named s.at ∷ x.list) true (is_typedef sign.TypeName || x.is_typedef) s t (ap (specifies false) e) (by r x t (h r (omega arith)) (look_at W s) e))
    where
      by : (r : ℕ) (x : Specs) (t : State) → SpecifiersAre horizon W B specifies r true x.list x.is_typed x.is_typedef (step s) t → (q : Sign) → q ≡ sign.TypeName →
          SpecifiersAre horizon W B specifies r false (spec.Named s.at ∷ x.list) true (is_typedef sign.TypeName || x.is_typedef) s t
      by r x t h q f = subst (λ p. specifies false p ≡ true → SpecifiersAre horizon W B specifies r (is_type_specifier p) x.list x.is_typed x.is_typedef (step s) t →
          SpecifiersAre horizon W B specifies r false (spec.Named s.at ∷ x.list) (is_type_specifier p || x.is_typed) (is_typedef p || x.is_typedef) s t) e
          (λ one rest. specifier false (spec.Named s.at) x.list x.is_typed x.is_typedef s (step s) t one (typedef_name s e) rest) refl h

  abbrev IsMember : State → Measured MemberPart → State → Type 0
  IsMember s x t = (r : ℕ) → x.height ≤ r → MemberIs horizon W B r x.tree s t

  width_all : (d : Declares) (s t : State) →
      ((e : Ex) (k : ℕ) (u : State) → ((r : ℕ) → k ≤ r → B.expr r 3 e (step t) u) → (r : ℕ) → max d.height k ≤ r → MemberIs horizon W B r (member_part d.tree (Some e)) s u) →
      All (IsMember s) (bit_field sub d W t)
  unfolding bit_field
  width_all d s t make = bind_all (IsEx B 3 (step t)) _ W (sub.expr 3 W (step t)) _ (sound.expr 3 (step t) (omega arith))
      (λ e u h. make e.tree e.height u (λ r tall. h.1 r 3 h.0 tall))

  member_all : (room : ℕ) (s : State) → All (IsMember s) (member sub room W s)
  unfolding member too_deep_here
  member_all room s = by (look_at W s) refl
    where
      width : (d : Declares) (t : State) → IsDeclarator B mode.Named s d t → (q : Sign) → look_at W t ≡ q → All (IsMember s) (width_by sub d q W t)
      width d t h sign.Colon e = width_all d s t (λ x k u g r tall. bit_field_is (declared_of d) x s t u (h r (omega arith)) e (g r (omega arith)))
      width d t h _ e = λ r tall. member_is (declared_of d) s t (h r tall)

      some : (o : Outcome Declares) → All (IsDeclarator B mode.Named s) o → All (IsMember s) (and_then W o (λ d. look (width_by sub d)))
      some (Ok x) h = width x.0 x.1 h (look_at W x.1) refl
      some (Err e) h = tt

      by : (q : Sign) → look_at W s ≡ q → All (IsMember s) (member_by sub room s.at q W s)
      by sign.Colon e = if_all (IsMember s) (nat_lt 1 room) (bit_field sub (nameless s.at)) too_deep_here W s
          (λ _. width_all (nameless s.at) s s (λ x k u g r tall. nameless_bit_field x s u (λ _. omega arith) e (g r (omega arith)))) (λ _. tt)
      by _ e = some (sub.declarator mode.Named W s) (sound.declarator mode.Named s)

  members_from : (room n : ℕ) (s : State) → All (λ xs t. (r : ℕ) (x : MemberPart) (from : State) → deepest xs ≤ r → MemberIs horizon W B r x from s → Members horizon W B r (x ∷ trees xs) from t)
      (many_from is_comma (skip >> member sub room) n W s)
  unfolding many_from
  members_from room zero s = λ r x from tall d. last_member x from s d
  members_from room (suc n) s = if_all _ (is_comma (look_at W s)) _ _ W s
      (λ comma. bind_all (IsMember (step s)) _ W (member sub room W (step s)) _ (member_all room (step s)) (λ y u h.
      bind_all _ _ W (many_from is_comma (skip >> member sub room) n W u) _ (members_from room n u)
      (λ ys t g r x from tall d. member_and_more x (y.tree ∷ trees ys) from s t d (comma_sign _ comma) (g r y.tree (step s) (omega arith) (h r (omega arith))))))
      (λ _ r x from tall d. last_member x from s d)

  AreMembers : State → ℕ → List MemberPart → State → Type 0
  AreMembers s k xs t = ((xs ≡ []) × (s ≡ t)) ⊎ ((r : ℕ) → k ≤ r → Members horizon W B r xs s t)

  members_all : (room : ℕ) (s : State) → All (λ x t. AreMembers s x.height x.tree t) (members sub room W s)
  unfolding members separated many AreMembers
  members_all room s = gathered_all (AreMembers s) (look (members_by sub room)) W s (by (look_at W s))
    where
      some : (o : Outcome (Measured MemberPart)) → All (IsMember s) o →
          All (λ xs t. AreMembers s (deepest xs) (trees xs) t) (and_then W o (λ x. many is_comma (skip >> member sub room) >>= (λ rest. pure (x ∷ rest))))
      some (Ok x) h = bind_all _ _ W (many_from is_comma (skip >> member sub room) (most_words - x.1.at) W x.1) (λ rest. pure (x.0 ∷ rest))
          (members_from room (most_words - x.1.at) x.1) (λ rest t g. inr (λ r tall. g r x.0.tree s (omega arith) (h r (omega arith))))
      some (Err e) h = tt

      by : (q : Sign) → All (λ xs t. AreMembers s (deepest xs) (trees xs) t) (members_by sub room q W s)
      by sign.Semicolon = inl (refl, refl)
      by _ = some (member sub room W s) (member_all room s)

  pub line_all : (room : ℕ) (s : State) → All (λ x t. (r : ℕ) → x.height ≤ r → LineIs horizon W B r x.tree s t) (member_line sub room W s)
  unfolding member_line AreMembers
  line_all room s = bind_all (AreSome qualifies s) _ W (qualifier_specs sub W s) _ (qualifier_specs_all s) (λ a t h.
      bind_all (λ x u. AreMembers t x.height x.tree u) _ W (members sub room W t) _ (members_all room t) (λ parts u g.
      expect_all _ is_semicolon _ W u (λ ended r tall. by a t h parts.height parts.tree u (semicolon _ ended) g r tall)))
    where
      by : (a : Specs) (t : State) → AreSome qualifies s a t → (k : ℕ) (xs : List MemberPart) (u : State) → look_at W u ≡ sign.Semicolon → AreMembers t k xs u →
          (r : ℕ) → suc (max a.height k) ≤ r → LineIs horizon W B r (roll-MemberLine (record { at = s.at; specs = a.list; parts = xs })) s (step u)
      by a t h k xs u ended (inl same) r tall = subst (λ ys. LineIs horizon W B r (roll-MemberLine (record { at = s.at; specs = a.list; parts = ys })) s (step u)) (sym same.0)
          (no_members a.list a.is_typed a.is_typedef s u (λ _. omega arith) (subst (λ v. SomeSpecifiers horizon W B qualifies (r - 1) a.list a.is_typed a.is_typedef s v) same.1 (h (r - 1) (omega arith))) ended)
      by a t h k xs u ended (inr g) r tall = with_members a.list a.is_typed a.is_typedef xs s t u (λ _. omega arith) (h (r - 1) (omega arith)) (g (r - 1) (omega arith)) ended

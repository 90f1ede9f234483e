-- Lists are by their rules on every file: a turn takes a word, and there are more turns than words.
use Rattle.std.proofs.Common.{◌≡◌, ℕ, zero, suc, ◌+◌, ◌-◌, ◌<◌, ◌≤◌, ◌||◌, Bool, true, false, List, [], ◌∷◌, length, None, Ok, Err, refl, sym, ap, ◌∙◌, arith, le_refl}
use Rattle.std.proofs.lemmas.Option.{slice_get_past}
use Rattle.c_input.specs.declared.word.Sign.{Sign}
use Rattle.c_input.specs.declared.word.Sign.TheVariants as sign
use Rattle.c_input.specs.declared.word.Place.{Place as State}
use Rattle.c_input.specs.Input.{Words, step, look_at, specifies, qualifies}
use Rattle.c_input.specs.Words.{words_of}
use Rattle.c_input.specs.Parser.{Outcome, Parser, most_words, and_then, ◌>>◌, pure, skip, if_so, many_from, many, trailed_from, trailed}
use Rattle.c_input.specs.Signs.{is_comma, is_close_brace, is_no_close_brace}
use Rattle.c_expressions.specs.Nest.{Nest}
use Rattle.c_expressions.specs.Specifiers.{is_type_specifier, no_specs, with_spec, spec_by, specs_from, specs}
use Rattle.c_expressions.specs.Declarators.{is_ellipsis, is_qualifier, Params, in_front, last_one, taken, parameter, parameters_from, parameters}
use Rattle.c_expressions.specs.Expressions.{is_str}
use Rattle.c_expressions.specs.Levels.{nest}
use Rattle.c_syntax.specs.Initialisers.{inits_within}
use Rattle.c_syntax.specs.Statements.{parts_within}
use Rattle.c_syntax.specs.FileScope.{is_no_end, limit}
use Rattle.c_grammar.specs.Places.{place}
use Rattle.c_grammar.specs.Lists.{AreByRule, IsByRule, one_more, item_and_more, parameter_and_more, one_more_specifier, Repeats, Alternates, ListsAreByRule}
use Rattle.c_grammar.proofs.Combinators.{Reads, Past, past_of, known, known_true, known_inside, word_inside, weaker, reads_skip, reads_then}
use Rattle.c_grammar.proofs.SpecifierRules.{no_specifier, no_qualifier, reads_spec_by, reads_enumerator, reads_member}
use Rattle.c_grammar.proofs.DeclaratorRules.{reads_taken, reads_parameter}
use Rattle.c_grammar.proofs.ExpressionRules.{reads_argument}
use Rattle.c_grammar.proofs.LevelRules.{reads_nest}
use Rattle.c_grammar.proofs.InitialiserRules.{reads_part, reads_inits_within}
use Rattle.c_grammar.proofs.DeclarationRules.{reads_next_part}
use Rattle.c_grammar.proofs.StatementRules.{reads_block_item, reads_parts_within}
use Rattle.c_grammar.proofs.FileRules.{reads_file_item}
use Rattle.c_grammar.proofs.HeightRules.{operators_by_rule, suffixes_by_rule}

-- a rule asks of its list only what stands behind a word
abbrev pub Shrinks : {I A : Type 0} → ((I → Parser A) → I → Parser A) → Type 0
Shrinks {I = I} {A = A} rule = (f g : I → Parser A) (i : I) (W : Words) (s : State) (n : ℕ) → W n ≡ None → n < most_words → s.at ≤ n →
    ((j : I) (t : State) → s.at < t.at → t.at ≤ n → f j W t ≡ g j W t) → rule f i W s ≡ rule g i W s

module _ {I A : Type 0} (rule : (I → Parser A) → I → Parser A) (from : ℕ → I → Parser A) (shrinks : Shrinks rule)
    (turn : (m : ℕ) (i : I) (W : Words) (s : State) → from (suc m) i W s ≡ rule (from m) i W s) where
  same_turns : (W : Words) (n : ℕ) → W n ≡ None → n < most_words → (a b : ℕ) (i : I) (s : State) → s.at ≤ n → n < a + s.at → n < b + s.at →
      from a i W s ≡ from b i W s
  same_turns W n none low zero b i s le more_a more_b = absurd (omega arith)
  same_turns W n none low (suc a) zero i s le more_a more_b = absurd (omega arith)
  same_turns W n none low (suc a) (suc b) i s le more_a more_b =
      turn a i W s
      ∙ shrinks (from a) (from b) i W s n none low le (λ j t up in_file. same_turns W n none low a b j t in_file (omega arith) (omega arith))
      ∙ sym (turn b i W s)

  bounded : I → Parser A
  bounded i = λ W s. from (most_words - s.at) i W s

  follows : (W : Words) (n : ℕ) → W n ≡ None → n < most_words → (i : I) (s : State) → s.at ≤ n → from (most_words - s.at) i W s ≡ rule (λ j W' t. from (most_words - t.at) j W' t) i W s
  follows W n none low i s le =
      let turns : most_words - s.at ≡ suc (1048576 - s.at) = omega arith in
      ap (λ j. from j i W s) turns
      ∙ turn (1048576 - s.at) i W s
      ∙ shrinks (from (1048576 - s.at)) (λ j W' t. from (most_words - t.at) j W' t) i W s n none low le
      (λ j t up in_file. same_turns W n none low (1048576 - s.at) (most_words - t.at) j t in_file (omega arith) (omega arith))

  alone : (W : Words) (n : ℕ) → W n ≡ None → n < most_words → (others : I → Parser A) →
      ((i : I) (s : State) → s.at ≤ n → others i W s ≡ rule others i W s) → (a : ℕ) (i : I) (s : State) → s.at ≤ n → n < a + s.at → others i W s ≡ from a i W s
  alone W n none low others same zero i s le more = absurd (omega arith)
  alone W n none low others same (suc a) i s le more =
      same i s le
      ∙ shrinks others (from a) i W s n none low le (λ j t up in_file. alone W n none low others same a j t in_file (omega arith))
      ∙ sym (turn a i W s)

  by_rule : AreByRule rule (λ i W s. from (most_words - s.at) i W s)
  by_rule = record {
    follows = λ ws few i s le. follows (words_of ws) (length ws) (slice_get_past ws (length ws) (le_refl (length ws))) (omega arith) i s le;
    alone = λ ws few others same i s le. alone (words_of ws) (length ws) (slice_get_past ws (length ws) (le_refl (length ws))) (omega arith) others same
        (most_words - s.at) i s le (omega arith);
  }

-- ---- rules

after : {A B : Type 0} (W : Words) (l n : ℕ) (o : Outcome A) (f g : A → Parser B) → Past l o → place o ≤ n →
    ((a : A) (t : State) → l ≤ t.at → t.at ≤ n → f a W t ≡ g a W t) → and_then W o f ≡ and_then W o g
after W l n (Ok x) f g past le same = same x.0 x.1 past le
after W l n (Err e) f g past le same = refl

chosen : {A : Type 0} (b : Bool) (p r last : Parser A) (W : Words) (s : State) → (b ≡ true → p W s ≡ r W s) → if_so b p last W s ≡ if_so b r last W s
chosen true p r last W s same = same refl
chosen false p r last W s same = refl

unless : {A : Type 0} (b : Bool) (first p r : Parser A) (W : Words) (s : State) → p W s ≡ r W s → if_so b first p W s ≡ if_so b first r W s
unless true first p r W s same = refl
unless false first p r W s same = same

shrinks_more : {A : Type 0} (more : Sign → Bool) (item : Parser A) → ((q : Sign) → more q ≡ true → Reads (known q) true item) →
    Shrinks (λ (l : Unit {0} → Parser (List A)) i. one_more more item (l i))
shrinks_more more item ri = λ f g i W s n none low le same.
    chosen (more (look_at W s)) _ _ (pure []) W s (λ e.
    let r = ri (look_at W s) e in
    let known_word = known_inside W s n none le in
    after W (suc s.at) n (item W s) _ _ (r.past W s n none low known_word refl) (r.inside W s n none known_word)
    (λ x t up in_file. ap (λ o. and_then W o (λ rest. pure (x ∷ rest))) (same i t up in_file)))

shrinks_alternation : {A : Type 0} (between ends : Sign → Bool) (item : Parser A) → between sign.Eof ≡ false → Reads 0 false item →
    Shrinks (λ (l : Unit {0} → Parser (List A)) i. item_and_more between ends item (l i))
shrinks_alternation between ends item end ri = λ f g i W s n none low le same.
    after W s.at n (item W s) _ _ (past_of s.at (item W s) (ri.forward W s)) (ri.inside W s n none (omega arith)) (λ x t up in_file.
    chosen (between (look_at W t)) _ _ (pure (x ∷ [])) W t (λ e.
    let word = word_inside between end W t n none in_file e in
    unless (ends (look_at W (step t))) (pure (x ∷ [])) _ _ W (step t)
    (ap (λ o. and_then W o (λ rest. pure (x ∷ rest))) (same i (step t) (omega arith) (omega arith)))))

shrinks_parameters : (sub : Nest) → Reads 0 false (parameter sub) → Shrinks (λ (l : Unit {0} → Parser Params) i. parameter_and_more sub (l i))
shrinks_parameters sub ri = λ f g i W s n none low le same.
    after W s.at n (parameter sub W s) _ _ (past_of s.at (parameter sub W s) (ri.forward W s)) (ri.inside W s n none (omega arith)) (λ x t up in_file.
    chosen (is_comma (look_at W t)) _ _ (pure (last_one x false)) W t (λ e.
    let word = word_inside is_comma refl W t n none in_file e in
    unless (is_ellipsis (look_at W (step t))) (skip >> pure (last_one x true)) _ _ W (step t)
    (ap (λ o. and_then W o (λ rest. pure (in_front x rest))) (same i (step t) (omega arith) (omega arith)))))

shrinks_specifiers : (sub : Nest) (more : Bool → Sign → Bool) → ((typed : Bool) → more typed sign.Eof ≡ false) → ((q : Sign) → Reads 1 true (spec_by sub q)) →
    Shrinks (one_more_specifier sub more)
shrinks_specifiers sub more end rs = λ f g typed W s n none low le same.
    let q : Sign = look_at W s in
    chosen (more typed q) _ _ (pure no_specs) W s (λ e.
    let word = word_inside (more typed) (end typed) W s n none le e in
    after W (suc s.at) n (spec_by sub q W s) _ _ ((rs q).past W s n none low word refl) ((rs q).inside W s n none word)
    (λ x t up in_file. ap (λ o. and_then W o (λ rest. pure (with_spec q x rest))) (same (typed || is_type_specifier q) t up in_file)))

-- ---- lists

repeats : {A : Type 0} (more : Sign → Bool) (item : Parser A) → ((q : Sign) → more q ≡ true → Reads (known q) true item) → Repeats more item
unfolding many many_from
repeats more item ri = by_rule _ (λ n (i : Unit {0}). many_from more item n) (shrinks_more more item ri) (λ m i W s. refl)

repeats_any : {A : Type 0} (more : Sign → Bool) (item : Parser A) → Reads 0 true item → Repeats more item
repeats_any more item ri = repeats more item (λ q e. weaker 0 (known q) (omega arith) ri)

repeats_words : {A : Type 0} (more : Sign → Bool) (item : Parser A) → more sign.Eof ≡ false → Reads 1 true item → Repeats more item
repeats_words more item end ri = repeats more item (λ q e. weaker 1 (known q) (known_true more end q e) ri)

alternates : {A : Type 0} (between ends : Sign → Bool) (item : Parser A) → between sign.Eof ≡ false → Reads 0 false item → Alternates between ends item
unfolding trailed trailed_from
alternates between ends item end ri = by_rule _ (λ n (i : Unit {0}). trailed_from between ends item n) (shrinks_alternation between ends item end ri) (λ m i W s. refl)

lists_of_parameters : (sub : Nest) → Reads 0 false (parameter sub) → IsByRule (parameter_and_more sub) (parameters sub)
unfolding parameters parameters_from
lists_of_parameters sub ri = by_rule _ (λ n (i : Unit {0}). parameters_from sub n) (shrinks_parameters sub ri) (λ m i W s. refl)

lists_of_specifiers : (sub : Nest) (more : Bool → Sign → Bool) → ((typed : Bool) → more typed sign.Eof ≡ false) → ((q : Sign) → Reads 1 true (spec_by sub q)) →
    AreByRule (one_more_specifier sub more) (specs sub more)
unfolding specs specs_from
lists_of_specifiers sub more end rs = by_rule _ (specs_from sub more) (shrinks_specifiers sub more end rs) (λ m i W s. refl)

pub lists_are_by_rule : ListsAreByRule
lists_are_by_rule = record {
  string_literals = repeats_words is_str skip refl reads_skip;
  arguments = λ room. repeats_words is_comma _ refl (reads_then reads_skip (reads_argument (nest room) (reads_nest room)));
  operators = λ room least at. operators_by_rule (nest room) (reads_nest room) (suc room) least at;
  declaration_specifiers = λ room. lists_of_specifiers (nest room) specifies no_specifier (λ q. reads_spec_by (nest room) (reads_nest room) q);
  init_declarators = λ room is_typedef. repeats_words is_comma _ refl (reads_next_part (inits_within room) (reads_inits_within room) is_typedef);
  struct_declarations = λ room. repeats_any is_no_close_brace _ (reads_nest room).line;
  specifiers_and_qualifiers = λ room. lists_of_specifiers (nest room) qualifies no_qualifier (λ q. reads_spec_by (nest room) (reads_nest room) q);
  struct_declarators = λ room. repeats_words is_comma _ refl (reads_then reads_skip (reads_member (nest room) (reads_nest room) (suc room)));
  enumerators = λ room. alternates is_comma is_close_brace _ refl (reads_enumerator (nest room) (reads_nest room));
  type_qualifiers = repeats_words is_qualifier taken refl reads_taken;
  declarator_suffixes = λ room at. suffixes_by_rule (nest room) (reads_nest room) (suc room) at;
  parameter_lists = λ room. lists_of_parameters (nest room) (reads_parameter (nest room) (reads_nest room));
  initializers = λ room. alternates is_comma is_close_brace _ refl (reads_part (inits_within room) (reads_inits_within room));
  block_items = λ room. repeats_any is_no_close_brace _ (reads_block_item (parts_within room) (reads_parts_within room));
  external_declarations = repeats_any is_no_end _ (reads_file_item (parts_within limit) (reads_parts_within limit));
}

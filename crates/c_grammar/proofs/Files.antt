-- What holds of the parser's outcome on a file.
use Rattle.std.proofs.Common.{◌≡◌, ℕ, zero, suc, ◌+◌, ◌<◌, ◌≤◌, ◌⊎◌, inl, inr, ◌&&◌, if◌then◌else◌, Bool, true, false, List, [], ◌∷◌, length, map, take, slice_get, bytes_eq, codes, None, Ok, Err, refl, sym, ap, ◌∙◌, subst, arith, le_refl}
use Rattle.std.proofs.lemmas.Option.{slice_get_past}
use Rattle.c_lex.specs.Bytes.{Text}
use Rattle.c_lex.specs.declared.token.Token.{Token}
use Rattle.c_lex.specs.declared.token.TokenKind.{TokenKind}
use Rattle.c_lex.specs.declared.token.TokenKind.TheVariants as kind
use Rattle.c_input.specs.declared.word.Sign.{Sign}
use Rattle.c_input.specs.declared.word.Sign.TheVariants as sign
use Rattle.c_input.specs.declared.word.Word.{Word}
use Rattle.c_input.specs.declared.word.Place.{Place as State}
use Rattle.c_input.specs.Input.{Words, Names, look_at, sign_at, sign_of, sign_of_name, is_type}
use Rattle.c_input.specs.Words.{Entry, words_of, word_list, word_of, kind_sign, sign_in, keyword_signs, punctuator_signs, is_narrow, literal_sign}
use Rattle.c_input.specs.Parser.{Outcome, Parser, most_words, and_then, ◌>>=◌, pure, if_so, many_from, many}
use Rattle.c_syntax.specs.Statements.{parts_within}
use Rattle.c_syntax.specs.FileScope.{limit, is_no_end, file_item, file_items, translation_unit, start}
use Rattle.c_grammar.specs.Places.{stop_place, place}
use Rattle.c_grammar.specs.Laws.{StopIsFinal, StopIsInFile, TreeIsOfFile}
use Rattle.c_grammar.proofs.Combinators.{Reads, Past}
use Rattle.c_grammar.proofs.StatementRules.{reads_parts_within}
use Rattle.c_grammar.proofs.FileRules.{reads_file_item, reads_translation_unit}

whole : Reads 0 false translation_unit
whole = reads_translation_unit

-- ---- stops

get_of_take : {A : Type 0} (n : ℕ) (xs : List A) (i : ℕ) → i < n → slice_get (take n xs) i ≡ slice_get xs i
get_of_take zero xs i less = absurd (omega arith)
get_of_take (suc n) [] i less = refl
get_of_take (suc n) (x ∷ xs) zero less = refl
get_of_take (suc n) (x ∷ xs) (suc i) less = get_of_take n xs i (omega arith)

same_front : (n : ℕ) (ws vs : List Word) → take (suc n) vs ≡ take (suc n) ws → (i : ℕ) → i ≤ n → slice_get ws i ≡ slice_get vs i
same_front n ws vs same i le =
    sym (get_of_take (suc n) ws i (omega arith)) ∙ ap (λ us. slice_get us i) (sym same) ∙ get_of_take (suc n) vs i (omega arith)

pub stop_is_final : StopIsFinal
stop_is_final = λ ws vs e stops same.
    let at : place (translation_unit (words_of ws) start) ≡ stop_place e = ap place stops in
    whole.local (words_of ws) (words_of vs) start (λ i le. same_front (stop_place e) ws vs same i (omega arith)) ∙ stops

pub stop_is_in_file : StopIsInFile
stop_is_in_file = λ ws e stops.
    let at : place (translation_unit (words_of ws) start) ≡ stop_place e = ap place stops in
    let inside = whole.inside (words_of ws) start (length ws) (slice_get_past ws (length ws) (le_refl (length ws))) (omega arith) in
    omega arith

-- ---- no token is the end

none_ends : List Entry → Bool
none_ends [] = true
none_ends (x ∷ xs) = is_no_end x.1 && none_ends xs

both : (a b : Bool) → (a && b) ≡ true → (a ≡ true) × (b ≡ true)
both true b e = (refl, e)
both false b e = absurd (cc)

either : (b : Bool) (q r : Sign) → is_no_end q ≡ true → is_no_end r ≡ true → is_no_end (if b then q else r) ≡ true
either true q r eq er = eq
either false q r eq er = er

no_end_in : (table : List Entry) (text : Text) → none_ends table ≡ true → is_no_end (sign_in table text) ≡ true
unfolding none_ends
no_end_in [] text e = refl
no_end_in (x ∷ xs) text e = let parts = both (is_no_end x.1) (none_ends xs) e in either (bytes_eq x.0 text) x.1 (sign_in xs text) parts.0 (no_end_in xs text parts.1)

no_end_literal : (b : Bool) (q : Sign) → is_no_end q ≡ true → is_no_end (literal_sign b q) ≡ true
no_end_literal true q e = e
no_end_literal false q e = refl

left_out_or_name : (a b c : Bool) → is_no_end (if a then sign.LeftOut else (if b then sign.LeftOut else (if c then sign.LeftOut else sign.Name))) ≡ true
left_out_or_name true b c = refl
left_out_or_name false true c = refl
left_out_or_name false false true = refl
left_out_or_name false false false = refl

no_end_kind : (k : TokenKind) (text : Text) → is_no_end (kind_sign k text) ≡ true
unfolding none_ends
no_end_kind kind.Keyword text = no_end_in keyword_signs text refl
no_end_kind kind.Name text = left_out_or_name (bytes_eq text (codes "asm")) (bytes_eq text (codes "__asm")) (bytes_eq text (codes "__asm__"))
no_end_kind kind.Int text = refl
no_end_kind kind.Float text = refl
no_end_kind kind.Char text = no_end_literal (is_narrow 39 text) sign.Char refl
no_end_kind kind.Str text = no_end_literal (is_narrow 34 text) sign.Str refl
no_end_kind kind.Punct text = no_end_in punctuator_signs text refl

no_end_name : (b : Bool) → is_no_end (sign_of_name b) ≡ true
no_end_name true = refl
no_end_name false = refl

no_end_sign : (names : Names) (n : ℕ) (q : Sign) → is_no_end q ≡ true → is_no_end (sign_of names n q) ≡ true
no_end_sign names n sign.Name e = no_end_name (is_type names n)
no_end_sign names n _ e = e

pub length_of_map : {A B : Type 0} (f : A → B) (xs : List A) → length (map f xs) ≡ length xs
length_of_map f [] = refl
length_of_map f (x ∷ xs) = ap suc (length_of_map f xs)

-- within the words of a file no sign is its end
no_end_within : (file : Text) (tokens ts : List Token) (i : ℕ) (names : Names) → i < length ts →
    is_no_end (sign_at names (slice_get (map (word_of file tokens) ts) i)) ≡ true
no_end_within file tokens [] i names less = absurd (omega arith)
no_end_within file tokens (t ∷ ts) zero names less = no_end_sign names (word_of file tokens t).name _ (no_end_kind t.kind _)
no_end_within file tokens (t ∷ ts) (suc i) names less = no_end_within file tokens ts i names (omega arith)

-- ---- trees

ok_parts : {A B : Type 0} (W : Words) (o : Outcome A) (f : A → Parser B) (y : B × State) → and_then W o f ≡ Ok y →
    (x : A × State) × (o ≡ Ok x) × (f x.0 W x.1 ≡ Ok y)
ok_parts W (Ok x) f y e = (x, refl, e)
ok_parts W (Err stop) f y e = absurd (cc)

state_of : {A : Type 0} → State → Outcome A → State
state_of s (Ok x) = x.1
state_of s (Err e) = s

-- a list of items ends where no item begins
ends : {A : Type 0} (more : Sign → Bool) (item : Parser A) → Reads 0 true item → (W : Words) (n : ℕ) → W n ≡ None → n < most_words →
    (a : ℕ) (s : State) (y : List A × State) → s.at ≤ n → n < a + s.at → many_from more item a W s ≡ Ok y → more (look_at W y.1) ≡ false
unfolding many_from state_of
ends more item ri W n none low zero s y le turns e = absurd (omega arith)
ends {A} more item ri W n none low (suc a) s y le turns e = by (more (look_at W s)) refl e (λ t up in_file z g. ends more item ri W n none low a t z in_file (omega arith) g)
  where
    by : (b : Bool) → more (look_at W s) ≡ b → if_so b (item >>= (λ x. many_from more item a >>= (λ rest. pure (x ∷ rest)))) (pure []) W s ≡ Ok y →
        ((t : State) → s.at < t.at → t.at ≤ n → (z : List A × State) → many_from more item a W t ≡ Ok z → more (look_at W z.1) ≡ false) → more (look_at W y.1) ≡ false
    by false same e rest = subst (λ t. more (look_at W t) ≡ false) (ap (state_of s) e) same
    by true same e rest =
        let first = ok_parts W (item W s) (λ x. many_from more item a >>= (λ rest. pure (x ∷ rest))) y e in
        let later = ok_parts W (many_from more item a W first.0.1) (λ rest. pure (first.0.0 ∷ rest)) y first.2 in
        let up : s.at < first.0.1.at = subst (Past (suc s.at)) first.1 (ri.past W s n none low (omega arith) refl) in
        let in_file : first.0.1.at ≤ n = subst (λ o. place o ≤ n) first.1 (ri.inside W s n none (omega arith)) in
        subst (λ t. more (look_at W t) ≡ false) (ap (state_of s) later.2) (rest first.0.1 up in_file later.0 later.1)

pub tree_is_of_file : TreeIsOfFile
unfolding translation_unit file_items many state_of look_at
tree_is_of_file = λ file tokens tree end few e.
    let ws : List Word = word_list file tokens in
    let W : Words = words_of ws in
    let n : ℕ = length tokens in
    let none : W n ≡ None = slice_get_past ws n (let len = length_of_map (word_of file tokens) tokens in omega arith) in
    let parts = ok_parts W (file_items W start) (λ items. pure (record { items = items })) (tree, end) e in
    let stops : is_no_end (look_at W parts.0.1) ≡ false =
    ends is_no_end (file_item (parts_within limit)) (reads_file_item (parts_within limit) (reads_parts_within limit)) W n none (omega arith) most_words start parts.0 (omega arith) (omega arith) parts.1 in
    let same : parts.0.1 ≡ end = ap (state_of start) parts.2 in
    let no_more : is_no_end (look_at W end) ≡ false = subst (λ t. is_no_end (look_at W t) ≡ false) same stops in
    let inside : end.at ≤ n = subst (λ o. place o ≤ n) e (whole.inside W start n none (omega arith)) in
    by_place file tokens end inside no_more (grind (arith))
  where
    by_place : (file : Text) (tokens : List Token) (end : State) → end.at ≤ length tokens → is_no_end (look_at (words_of (word_list file tokens)) end) ≡ false →
        (end.at < length tokens) ⊎ (end.at ≡ length tokens) → end.at ≡ length tokens
    by_place file tokens end inside no_more (inl less) = let word = no_end_within file tokens tokens end.at end.names less in absurd (cc)
    by_place file tokens end inside no_more (inr same) = same

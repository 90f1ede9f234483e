-- The names among the first tokens of a file, by their texts.
use Rattle.std.proofs.Common.{◌≡◌, ℕ, suc, ◌+◌, ◌<◌, Bool, true, false, cond, ◌&&◌, List, [], ◌∷◌, ◌++◌, length, take, drop, get_or, Option, Some, None, option_map, unwrap_or, bytes_eq, refl, sym, ap, ◌∙◌, arith}
use Rattle.std.specs.BTreeMap.{BTreeMap}
use denote.Ref.{Bor}
use Rattle.std.proofs.lemmas.List.{take-append-drop, drop_more, length-take-le, take_more}
use Rattle.std.proofs.lemmas.Slice.Eq.{bytes_eq-Decides}
use Rattle.c_lex.specs.Bytes.{Text}
use Rattle.c_lex.specs.Source.{text_of}
use Rattle.c_lex.specs.declared.token.Token.{Token}
use Rattle.c_input.specs.Input.{Sign, Word}
use Rattle.c_input.specs.Words.{is_name_kind, first_like, number_of}
use Rattle.c_input.specs.Numbers.{held, numbered}

abbrev pub word : Sign → ℕ → Word
word q n = record { sign = q; name = n }

abbrev pub hit : Text → Token → List ℕ → Bool
hit file t q = is_name_kind t.kind && bytes_eq (text_of file t) q

abbrev pub place_in : Text → List Token → List ℕ → Option ℕ
place_in file [] q = None
place_in file (t ∷ ts) q = cond (hit file t q) (Some 0) (option_map (λ n. suc n) (place_in file ts q))

abbrev or_place : Option ℕ → Option ℕ → Option ℕ
or_place (Some n) o = Some n
or_place None o = o

both : (a b : Bool) (x y : ℕ) → cond a (cond b x y) y ≡ cond (a && b) x y
both true b x y = refl
both false b x y = refl

first_cons : (file : Text) (t : Token) (ts : List Token) (q : List ℕ) → first_like file (t ∷ ts) q ≡ cond (hit file t q) 0 (suc (first_like file ts q))
first_cons file t ts q = both (is_name_kind t.kind) (bytes_eq (text_of file t) q) 0 (suc (first_like file ts q))

place_step : (a b : Bool) (o : Option ℕ) (n : ℕ) →
    cond a (Some 0) (option_map (λ k. suc k) (or_place o (cond b (Some n) None))) ≡ or_place (cond a (Some 0) (option_map (λ k. suc k) o)) (cond b (Some (suc n)) None)
place_step true b o n = refl
place_step false b (Some k) n = refl
place_step false true None n = refl
place_step false false None n = refl

place_push : (file : Text) (xs : List Token) (t : Token) (q : List ℕ) → place_in file (xs ++ t ∷ []) q ≡ or_place (place_in file xs q) (cond (hit file t q) (Some (length xs)) None)
place_push file [] t q = refl
place_push file (x ∷ xs) t q = ap (λ o. cond (hit file x q) (Some 0) (option_map (λ n. suc n) o)) (place_push file xs t q)
    ∙ place_step (hit file x q) (hit file t q) (place_in file xs q) (length xs)

first_step : (a : Bool) (o : Option ℕ) (n : ℕ) → cond a 0 (suc (unwrap_or o n)) ≡ unwrap_or (cond a (Some 0) (option_map (λ k. suc k) o)) (suc n)
first_step true o n = refl
first_step false (Some k) n = refl
first_step false None n = refl

first_at : (file : Text) (xs : List Token) (t : Token) (ys : List Token) (q : List ℕ) → hit file t q ≡ true → first_like file (xs ++ t ∷ ys) q ≡ unwrap_or (place_in file xs q) (length xs)
first_at file [] t ys q h = first_cons file t ys q ∙ ap (λ b. cond b 0 (suc (first_like file ys q))) h
first_at file (x ∷ xs) t ys q h = first_cons file x (xs ++ t ∷ ys) q
    ∙ ap (λ n. cond (hit file x q) 0 (suc n)) (first_at file xs t ys q h)
    ∙ first_step (hit file x q) (place_in file xs q) (length xs)

split_at : (ts : List Token) (i : ℕ) (t : Token) → i < length ts → t ≡ get_or ts i t → ts ≡ take i ts ++ t ∷ drop (i + 1) ts
split_at ts i t h e = sym (take-append-drop i ts) ∙ ap (λ r. take i ts ++ r) (drop_more ts i t h ∙ ap (λ x. x ∷ drop (i + 1) ts) (sym e))

itself : (text : List ℕ) → bytes_eq text text ≡ true
itself text = (bytes_eq-Decides text text).1 refl

both_true : (a b : Bool) → a ≡ true → b ≡ true → (a && b) ≡ true
both_true a b p q = ap (λ x. x && b) p ∙ q

-- the number that a token is given
pub given_number : (file : Text) (ts : List Token) (i : ℕ) (t : Token) (m : BTreeMap (Bor (List ℕ)) ℕ) (n : ℕ) → i < length ts → t ≡ get_or ts i t →
    ((q : List ℕ) → held m q ≡ place_in file (take i ts) q) → n ≡ cond (is_name_kind t.kind) (numbered m (text_of file t) i) 0 → n ≡ number_of file ts t
given_number file ts i t m n h e known given = given ∙ by_kind (is_name_kind t.kind) refl
  where
    named : is_name_kind t.kind ≡ true → numbered m (text_of file t) i ≡ first_like file ts (text_of file t)
    named k =
        let long : length (take i ts) ≡ i = length-take-le i ts (omega arith) in
        ap (λ o. unwrap_or o i) (known (text_of file t))
        ∙ sym (ap (λ us. first_like file us (text_of file t)) (split_at ts i t h e)
        ∙ first_at file (take i ts) t (drop (i + 1) ts) (text_of file t) (both_true _ _ k (itself (text_of file t)))
        ∙ ap (λ k. unwrap_or (place_in file (take i ts) (text_of file t)) k) long)

    by_kind : (b : Bool) → is_name_kind t.kind ≡ b → cond b (numbered m (text_of file t) i) 0 ≡ cond b (first_like file ts (text_of file t)) 0
    by_kind true k = named k
    by_kind false k = refl

or_some : (o : Option ℕ) (i : ℕ) → Some (unwrap_or o i) ≡ or_place o (Some i)
or_some (Some n) i = refl
or_some None i = refl

or_none : (o : Option ℕ) → o ≡ or_place o None
or_none (Some n) = refl
or_none None = refl

-- what is held of a text behind the token
pub held_on : (file : Text) (ts : List Token) (i : ℕ) (t : Token) (m m' : BTreeMap (Bor (List ℕ)) ℕ) (n : ℕ) → i < length ts → t ≡ get_or ts i t →
    ((q : List ℕ) → held m q ≡ place_in file (take i ts) q) → n ≡ cond (is_name_kind t.kind) (numbered m (text_of file t) i) 0 →
    (q : List ℕ) → held m' q ≡ cond (is_name_kind t.kind) (cond (bytes_eq (text_of file t) q) (Some n) (held m q)) (held m q) →
    held m' q ≡ place_in file (take (i + 1) ts) q
held_on file ts i t m m' n h e known given q now =
    now ∙ by_kind (is_name_kind t.kind) (bytes_eq (text_of file t) q) refl refl ∙ sym (longer ∙ place_push file (take i ts) t q ∙ ap (λ k. or_place (place_in file (take i ts) q) (cond (hit file t q) (Some k) None)) long)
  where
    long : length (take i ts) ≡ i
    long = length-take-le i ts (omega arith)

    longer : place_in file (take (i + 1) ts) q ≡ place_in file (take i ts ++ t ∷ []) q
    longer = ap (λ us. place_in file us q) (take_more ts i t h ∙ ap (λ x. take i ts ++ x ∷ []) (sym e))

    same : is_name_kind t.kind ≡ true → bytes_eq (text_of file t) q ≡ true → Some n ≡ or_place (place_in file (take i ts) q) (Some i)
    same k b =
        let here : text_of file t ≡ q = (bytes_eq-Decides (text_of file t) q).0 b in
        let number : n ≡ numbered m (text_of file t) i = given ∙ ap (λ c. cond c (numbered m (text_of file t) i) 0) k in
        ap (λ x. Some x) (number ∙ ap (λ r. numbered m r i) here) ∙ or_some (held m q) i ∙ ap (λ o. or_place o (Some i)) (known q)

    by_kind : (a b : Bool) → is_name_kind t.kind ≡ a → bytes_eq (text_of file t) q ≡ b →
        cond a (cond b (Some n) (held m q)) (held m q) ≡ or_place (place_in file (take i ts) q) (cond (hit file t q) (Some i) None)
    by_kind true true k l = same k l ∙ sym (ap (λ c. or_place (place_in file (take i ts) q) (cond c (Some i) None)) (both_true _ _ k l))
    by_kind true false k l = known q ∙ or_none _ ∙ sym (ap (λ c. or_place (place_in file (take i ts) q) (cond c (Some i) None)) (ap (λ a. a && bytes_eq (text_of file t) q) k ∙ l))
    by_kind false b k l = known q ∙ or_none _ ∙ sym (ap (λ c. or_place (place_in file (take i ts) q) (cond c (Some i) None)) (ap (λ a. a && bytes_eq (text_of file t) q) k))

pub same_word : (a b : Sign) (m n : ℕ) → a ≡ b → m ≡ n → word a m ≡ word b n
same_word a b m n p q = ap (λ (x : Sign). word x m) p ∙ ap (λ (y : ℕ). word b y) q

-- The tokens of a file are slices of it.
use Rattle.std.proofs.Common.{◌≡◌, ℕ, zero, suc, ◌+◌, ◌^◌, ◌≤◌, Bool, true, false, cond, inl, inr, List, [], ◌∷◌, ◌++◌, length, take, drop, Option, Some, None, refl, sym, ap, ◌∙◌, subst, arith, length-drop}
use Rattle.std.specs.Prelude.{◌||◌, ◌==◌, nat_lt}
use Rattle.std.specs.Option.{option_map, option_to_list}
use Rattle.std.proofs.lemmas.Bool.{ltb-true}
use Rattle.std.proofs.lemmas.List.{length-take}
use Rattle.c_lex.specs.Bytes.{Text}
use Rattle.c_lex.specs.Number.{is_integer, integer_value, is_floating}
use Rattle.c_lex.specs.Vocabulary.{is_among, keywords, skipped_words, is_attribute}
use Rattle.c_lex.specs.Piece.{piece}
use Rattle.c_lex.specs.Rules.{IsIdentifier}
use Rattle.c_lex.specs.Reading.{State, start, own_stop, piece_stop, stop_at, kind_of, token_of, past_piece, Reads, reads, ends, Lexed}
use Rattle.c_lex.specs.Laws.{IsOfKind, AreTokensFrom}
use Rattle.c_lex.specs.declared.piece.Piece.{Piece}
use Rattle.c_lex.specs.declared.piece.Piece.TheVariants.{Blank, Comment, Marker, Pragma, Word, Number, Char, Str, Punct}
use Rattle.c_lex.specs.declared.token.TokenKind.{TokenKind}
use Rattle.c_lex.specs.declared.token.TokenKind.TheVariants as kind
use Rattle.c_lex.specs.declared.token.Token.{Token}
use Rattle.c_lex.specs.declared.error.LexStop.{LexStop}
use Rattle.c_lex.specs.declared.error.LexStop.TheVariants as stop
use Rattle.c_lex.proofs.Pieces.{word_is, punctuator_is, chosen}
use Rattle.c_lex.proofs.Words.{word_longest}
use Rattle.c_lex.proofs.Punctuators.{punctuator_longest}
use Rattle.c_lex.proofs.Unique.{no_piece}
use Rattle.c_lex.proofs.Numbers.{cases}

-- ---- slices

drop_none : (n : ℕ) → drop n (let e : Text = [] in e) ≡ []
drop_none zero = refl
drop_none (suc n) = refl

drop_more : (n m : ℕ) (z : Text) → drop (n + m) z ≡ drop m (drop n z)
drop_more zero m z = let e : 0 + m ≡ m = omega arith in ap (λ k. drop k z) e
drop_more (suc n) m [] = drop_none (suc n + m) ∙ sym (drop_none m)
drop_more (suc n) m (b ∷ z) = let e : suc n + m ≡ suc (n + m) = omega arith in ap (λ k. drop k (b ∷ z)) e ∙ drop_more n m z

drop_taken : (n : ℕ) (z : Text) → drop (length (take n z)) z ≡ drop n z
drop_taken zero z = refl
drop_taken (suc n) [] = refl
drop_taken (suc n) (b ∷ z) = drop_taken n z

take_taken : (n : ℕ) (z : Text) → take (length (take n z)) z ≡ take n z
take_taken zero z = refl
take_taken (suc n) [] = refl
take_taken (suc n) (b ∷ z) = ap (λ y. b ∷ y) (take_taken n z)

-- ---- what stands in a piece without a stop

none_left : (b : Bool) (e : LexStop) (o : Option LexStop) → cond b (Some e) o ≡ None → o ≡ None
none_left true e o h = absurd (cc)
none_left false e o h = h

own_none : (s : State) (z : Text) (p : Piece) (n : ℕ) → piece s.fresh z ≡ Some (p, n) → stop_at s z ≡ None → own_stop s p (take n z) (drop n z) ≡ None
unfolding stop_at piece_stop
own_none s [] p n found goes = absurd (no_piece s p n found)
own_none s (b ∷ z) p n found goes = let h = rw found at goes in none_left _ _ _ h

some_kind : (j k : TokenKind) → ◌≡◌ {A = Option TokenKind} (Some j) (Some k) → j ≡ k
some_kind j k h = cc

as_kind : (w : Text) (j k : TokenKind) → ◌≡◌ {A = Option TokenKind} (Some j) (Some k) → IsOfKind j w → IsOfKind k w
as_kind w j k e h = subst (λ (i : TokenKind). IsOfKind i w) (some_kind j k e) h

number_kind : (s : State) (w rest : Text) (k : TokenKind) → own_stop s Number w rest ≡ None → kind_of Number w ≡ Some k → IsOfKind k w
unfolding own_stop kind_of
number_kind s w rest k none is = elim (cases (is_integer w)) [
  | inl e ↦ elim (chosen (nat_lt (integer_value w) (2 ^ 64)) _ _ None (rw e at none)) [
    | inl t ↦ as_kind w kind.Int k (rw e at is) (e, ltb-true (integer_value w) (2 ^ 64) t.0)
    | inr t ↦ absurd (let f : ◌≡◌ {A = Option LexStop} (Some (stop.LiteralTooWide s.at s.place)) None = t.1 in cc)
  ]
  | inr e ↦ elim (chosen (is_floating w) _ _ None (rw e at none)) [
    | inl t ↦ as_kind w kind.Float k (rw e at is) (e, t.0)
    | inr t ↦ absurd (let f : ◌≡◌ {A = Option LexStop} (Some (stop.BadToken s.at s.place)) None = t.1 in cc)
  ]
]

word_kind : (w : Text) (k : TokenKind) → IsIdentifier w → kind_of Word w ≡ Some k → IsOfKind k w
unfolding kind_of
word_kind w k front is = elim (chosen (is_attribute w || is_among skipped_words w) _ _ (Some k) is) [
  | inl t ↦ absurd (let f : ◌≡◌ {A = Option TokenKind} None (Some k) = t.1 in cc)
  | inr t ↦ elim (cases (is_among keywords w)) [
    | inl e ↦ as_kind w kind.Keyword k (rw e at t.1) e
    | inr e ↦ as_kind w kind.Name k (rw e at t.1) (front, e)
  ]
]

no_kind : (k : TokenKind) → ◌≡◌ {A = Option TokenKind} None (Some k) → ⊥
no_kind k h = cc

of_kind : (s : State) (z : Text) (p : Piece) (n : ℕ) (k : TokenKind) → piece s.fresh z ≡ Some (p, n) → stop_at s z ≡ None → kind_of p (take n z) ≡ Some k → IsOfKind k (take n z)
unfolding kind_of
of_kind s z Blank n k found goes is = absurd (no_kind k is)
of_kind s z Comment n k found goes is = absurd (no_kind k is)
of_kind s z (Marker m) n k found goes is = absurd (no_kind k is)
of_kind s z Pragma n k found goes is = absurd (no_kind k is)
of_kind s z Word n k found goes is = let e = word_is s.fresh z n found in word_kind (take n z) k (word_longest z n e.0 e.1).is is
of_kind s z Number n k found goes is = number_kind s (take n z) (drop n z) k (own_none s z Number n found goes) is
of_kind s z Char n k found goes is = as_kind (take n z) kind.Char k is tt
of_kind s z Str n k found goes is = as_kind (take n z) kind.Str k is tt
of_kind s z Punct n k found goes is = let e = punctuator_is s.fresh z n found in as_kind (take n z) kind.Punct k is (punctuator_longest z n e.1 e.2).is

-- ---- the token of a piece

record Made (s : State) (p : Piece) (w : Text) (t : Token) : Type 0 where
  at : t.at ≡ s.at
  len : t.len ≡ length w
  is : kind_of p w ≡ Some t.kind

abbrev token_with : State → Text → TokenKind → Token
token_with s w k = record { kind = k; at = s.at; len = length w; place = s.place }

some_token : (t u : Token) → ◌≡◌ {A = Option Token} (Some t) (Some u) → t ≡ u
some_token t u h = cc

made_by : (s : State) (p : Piece) (w : Text) (t : Token) (o : Option TokenKind) → kind_of p w ≡ o → option_map (token_with s w) o ≡ Some t → Made s p w t
made_by s p w t None e h = absurd (let f : ◌≡◌ {A = Option Token} None (Some t) = h in cc)
made_by s p w t (Some k) e h =
    let same = some_token (token_with s w k) t h in
    record {
      at = sym (ap (λ (u : Token). u.at) same);
      len = sym (ap (λ (u : Token). u.len) same);
      is = e ∙ ap (λ (u : Token). Some u.kind) same;
    }

made : (s : State) (p : Piece) (w : Text) (t : Token) → token_of s p w ≡ Some t → Made s p w t
unfolding token_of
made s p w t h = elim (chosen (length s.brackets == 0) _ _ (Some t) h) [
  | inl e ↦ made_by s p w t (kind_of p w) refl e.1
  | inr e ↦ absurd (let f : ◌≡◌ {A = Option Token} None (Some t) = e.1 in cc)
]

-- ---- all of them

from_before : (file : Text) (from more : ℕ) (ts : List Token) → from ≤ more → AreTokensFrom file more ts → AreTokensFrom file from ts
from_before file from more [] le h = tt
from_before file from more (t ∷ ts) le h = (omega (arith, h.0), h.1, h.2, h.3)

with_token : (file : Text) (s : State) (z : Text) (p : Piece) (n : ℕ) (us : List Token) (o : Option Token) → z ≡ drop s.at file → s.at ≤ length file →
    piece s.fresh z ≡ Some (p, n) → stop_at s z ≡ None → token_of s p (take n z) ≡ o →
    AreTokensFrom file (s.at + length (take n z)) us → AreTokensFrom file s.at (option_to_list o ++ us)
with_token file s z p n us None here le found goes e rest = from_before file s.at (s.at + length (take n z)) us (omega arith) rest
with_token file s z p n us (Some t) here le found goes e rest =
    let m = made s p (take n z) t e in
    let size = length-drop s.at file in
    let size_z = ap (length {A = ℕ}) here in
    let slice : take t.len (drop t.at file) ≡ take n z = rw (m.at, m.len, ← here) (take_taken n z) in
    let last : s.at + length (take n z) ≡ t.at + t.len = omega (arith, m.at, m.len) in (
      omega (arith, m.at),
      omega (arith, m.at, m.len, size, size_z, le, length-take n z),
      rw slice (of_kind s z p n t.kind found goes m.is),
      subst (λ (k : ℕ). AreTokensFrom file k us) last rest,
    )

tokens_from : (file : Text) (s : State) (z : Text) (ts : List Token) → z ≡ drop s.at file → s.at ≤ length file → Reads s z ts → AreTokensFrom file s.at ts
unfolding past_piece
tokens_from file s z ts here le (ends _ _) = tt
tokens_from file s z ts here le (reads _ _ p n us found goes rest) =
    let w = take n z in
    let next : drop n z ≡ drop (s.at + length w) file = sym (drop_more s.at (length w) file ∙ ap (λ y. drop (length w) y) (sym here) ∙ drop_taken n z) in
    let bound : s.at + length w ≤ length file = omega (arith, length-drop s.at file, ap (length {A = ℕ}) here, le, length-take n z) in
    with_token file s z p n us (token_of s p w) here le found goes refl (tokens_from file (past_piece s p w) (drop n z) us next bound rest)

pub slices : (file : Text) (ts : List Token) → Lexed file ts → AreTokensFrom file 0 ts
slices file ts h = tokens_from file start file ts refl (omega arith) h

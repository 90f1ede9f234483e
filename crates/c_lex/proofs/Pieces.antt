-- What a piece of each sort says of the text at its place.
use Rattle.std.proofs.Common.{◌≡◌, ℕ, Bool, true, false, cond, ◌⊎◌, inl, inr, Option, Some, None, refl, sym, ap}
use Rattle.std.specs.Prelude.{◌==◌, ◌||◌, ◌&&◌, slice_index}
use Rattle.std.proofs.lemmas.Bool.{eqb-false, eqb-true}
use Rattle.c_lex.specs.Bytes.{Text, is_blank, is_letter, past}
use Rattle.c_lex.specs.Number.{begins_number, number_len}
use Rattle.c_lex.specs.Literal.{prefix, string_len, char_len, comment_len}
use Rattle.c_lex.specs.Line.{is_marker, marker_len, marker, is_pragma, pragma_len}
use Rattle.c_lex.specs.Vocabulary.{punctuator_len}
use Rattle.c_lex.specs.Piece.{Found, of_len, directive, punctuator, literal, begins_literal, piece}
use Rattle.c_lex.specs.declared.class.Class.TheVariants as class
use Rattle.c_lex.specs.declared.piece.Piece.{Piece}
use Rattle.c_lex.specs.declared.piece.Piece.TheVariants.{Blank, Comment, Marker, Pragma, Word, Number, Char, Str, Punct}

-- the seven ways of a chain of six tests
data Way {A : Type 0} (b1 b2 b3 b4 b5 b6 : Bool) (x1 x2 x3 x4 x5 x6 x7 z : A) : Type 0 where
  way1 : b1 ≡ true → x1 ≡ z → Way b1 b2 b3 b4 b5 b6 x1 x2 x3 x4 x5 x6 x7 z
  way2 : b2 ≡ true → x2 ≡ z → Way b1 b2 b3 b4 b5 b6 x1 x2 x3 x4 x5 x6 x7 z
  way3 : b3 ≡ true → x3 ≡ z → Way b1 b2 b3 b4 b5 b6 x1 x2 x3 x4 x5 x6 x7 z
  way4 : b4 ≡ true → x4 ≡ z → Way b1 b2 b3 b4 b5 b6 x1 x2 x3 x4 x5 x6 x7 z
  way5 : b5 ≡ true → x5 ≡ z → Way b1 b2 b3 b4 b5 b6 x1 x2 x3 x4 x5 x6 x7 z
  way6 : b6 ≡ true → x6 ≡ z → Way b1 b2 b3 b4 b5 b6 x1 x2 x3 x4 x5 x6 x7 z
  way7 : x7 ≡ z → Way b1 b2 b3 b4 b5 b6 x1 x2 x3 x4 x5 x6 x7 z

way : {A : Type 0} (b1 b2 b3 b4 b5 b6 : Bool) (x1 x2 x3 x4 x5 x6 x7 z : A) →
    cond b1 x1 (cond b2 x2 (cond b3 x3 (cond b4 x4 (cond b5 x5 (cond b6 x6 x7))))) ≡ z → Way b1 b2 b3 b4 b5 b6 x1 x2 x3 x4 x5 x6 x7 z
way true b2 b3 b4 b5 b6 x1 x2 x3 x4 x5 x6 x7 z h = way1 refl h
way false true b3 b4 b5 b6 x1 x2 x3 x4 x5 x6 x7 z h = way2 refl h
way false false true b4 b5 b6 x1 x2 x3 x4 x5 x6 x7 z h = way3 refl h
way false false false true b5 b6 x1 x2 x3 x4 x5 x6 x7 z h = way4 refl h
way false false false false true b6 x1 x2 x3 x4 x5 x6 x7 z h = way5 refl h
way false false false false false true x1 x2 x3 x4 x5 x6 x7 z h = way6 refl h
way false false false false false false x1 x2 x3 x4 x5 x6 x7 z h = way7 h

parts : (x y : Piece × ℕ) → x ≡ y → (x.0 ≡ y.0) × (x.1 ≡ y.1)
parts x y e = (ap (λ (t : Piece × ℕ). t.0) e, ap (λ (t : Piece × ℕ). t.1) e)

inside : (x y : Piece × ℕ) → Some x ≡ Some y → x ≡ y
inside x y h = cc

found : (p q : Piece) (n m : ℕ) → ◌≡◌ {A = Found} (Some (p, n)) (Some (q, m)) → (p ≡ q) × (n ≡ m)
found p q n m h = parts (p, n) (q, m) (inside (p, n) (q, m) h)

sized : (p q : Piece) (o : Option ℕ) (n : ℕ) → of_len p o ≡ Some (q, n) → (p ≡ q) × (o ≡ Some n)
sized p q None n h = absurd (cc)
sized p q (Some m) n h = let e = found p q m n h in (e.0, ap Some e.1)

pub chosen : {A : Type 0} (b : Bool) (x y z : A) → cond b x y ≡ z → ((b ≡ true) × (x ≡ z)) ⊎ ((b ≡ false) × (y ≡ z))
chosen true x y z h = inl (refl, h)
chosen false x y z h = inr (refl, h)

-- the pieces that other definitions give
abbrev IsLine : Piece → Bool
IsLine (Marker m) = true
IsLine Pragma = true
IsLine p = false

abbrev IsLiteral : Piece → Bool
IsLiteral Char = true
IsLiteral Str = true
IsLiteral p = false

line_of : (z : Text) (p : Piece) (n : ℕ) → directive z ≡ Some (p, n) → IsLine p ≡ true
unfolding directive
line_of z p n h = elim (chosen (is_marker z) _ _ (Some (p, n)) h) [
  | inl e ↦ ap IsLine (sym (found (Marker (marker z)) p (marker_len z) n e.1).0)
  | inr e ↦ elim (chosen (is_pragma z) _ _ (Some (p, n)) e.1) [
    | inl f ↦ ap IsLine (sym (found Pragma p (pragma_len z) n f.1).0)
    | inr f ↦ absurd (let g : None ≡ Some (p, n) = f.1 in cc)
  ]
]

literal_of : (z : Text) (p : Piece) (n : ℕ) → literal z ≡ Some (p, n) → IsLiteral p ≡ true
unfolding literal
literal_of z p n h = elim (chosen (slice_index z (prefix z) == 34) _ _ (Some (p, n)) h) [
  | inl e ↦ ap IsLiteral (sym (sized Str p (string_len (prefix z) z) n e.1).0)
  | inr e ↦ ap IsLiteral (sym (sized Char p (char_len (prefix z) z) n e.1).0)
]

abbrev pub IsPunctuatorOf : Text → Piece → ℕ → Type 0
IsPunctuatorOf z p n = (Punct ≡ p) × (punctuator_len z ≡ n) × (punctuator_len z ≡ 0 → ⊥)

punctuator_of : (z : Text) (p : Piece) (n : ℕ) → punctuator z ≡ Some (p, n) → IsPunctuatorOf z p n
unfolding punctuator
punctuator_of z p n h = elim (chosen (punctuator_len z == 0) _ _ (Some (p, n)) h) [
  | inl e ↦ absurd (let g : None ≡ Some (p, n) = e.1 in cc)
  | inr e ↦ let f = found Punct p (punctuator_len z) n e.1 in (f.0, f.1, eqb-false (punctuator_len z) 0 e.0)
]

abbrev PieceWay : Bool → Text → Piece → ℕ → Type 0
PieceWay fresh z p n =
    let b = slice_index z 0 in
    Way (is_blank b) (b == 47 && (slice_index z 1 == 42 || slice_index z 1 == 47)) (fresh && b == 35) (begins_number z) (begins_literal z) (is_letter b)
    (Some (Blank, 1)) (of_len Comment (comment_len z)) (directive z) (Some (Number, number_len z)) (literal z) (Some (Word, past class.Word z 0)) (punctuator z)
    (Some (p, n))

piece_way : (fresh : Bool) (z : Text) (p : Piece) (n : ℕ) → piece fresh z ≡ Some (p, n) → PieceWay fresh z p n
unfolding piece
piece_way fresh z p n h = way _ _ _ _ _ _ _ _ _ _ _ _ _ _ h

word_by : (fresh : Bool) (z : Text) (n : ℕ) → PieceWay fresh z Word n → (is_letter (slice_index z 0) ≡ true) × (past class.Word z 0 ≡ n)
word_by fresh z n (way1 b h) = absurd (let e = (found Blank Word 1 n h).0 in cc)
word_by fresh z n (way2 b h) = absurd (let e = (sized Comment Word (comment_len z) n h).0 in cc)
word_by fresh z n (way3 b h) = absurd (let e = line_of z Word n h in cc)
word_by fresh z n (way4 b h) = absurd (let e = (found Number Word (number_len z) n h).0 in cc)
word_by fresh z n (way5 b h) = absurd (let e = literal_of z Word n h in cc)
word_by fresh z n (way6 b h) = (b, (found Word Word (past class.Word z 0) n h).1)
word_by fresh z n (way7 h) = absurd (let e = (punctuator_of z Word n h).0 in cc)

pub word_is : (fresh : Bool) (z : Text) (n : ℕ) → piece fresh z ≡ Some (Word, n) → (is_letter (slice_index z 0) ≡ true) × (past class.Word z 0 ≡ n)
word_is fresh z n h = word_by fresh z n (piece_way fresh z Word n h)

number_by : (fresh : Bool) (z : Text) (n : ℕ) → PieceWay fresh z Number n → (begins_number z ≡ true) × (number_len z ≡ n)
number_by fresh z n (way1 b h) = absurd (let e = (found Blank Number 1 n h).0 in cc)
number_by fresh z n (way2 b h) = absurd (let e = (sized Comment Number (comment_len z) n h).0 in cc)
number_by fresh z n (way3 b h) = absurd (let e = line_of z Number n h in cc)
number_by fresh z n (way4 b h) = (b, (found Number Number (number_len z) n h).1)
number_by fresh z n (way5 b h) = absurd (let e = literal_of z Number n h in cc)
number_by fresh z n (way6 b h) = absurd (let e = (found Word Number (past class.Word z 0) n h).0 in cc)
number_by fresh z n (way7 h) = absurd (let e = (punctuator_of z Number n h).0 in cc)

pub number_is : (fresh : Bool) (z : Text) (n : ℕ) → piece fresh z ≡ Some (Number, n) → (begins_number z ≡ true) × (number_len z ≡ n)
number_is fresh z n h = number_by fresh z n (piece_way fresh z Number n h)

punctuator_by : (fresh : Bool) (z : Text) (n : ℕ) → PieceWay fresh z Punct n → IsPunctuatorOf z Punct n
punctuator_by fresh z n (way1 b h) = absurd (let e = (found Blank Punct 1 n h).0 in cc)
punctuator_by fresh z n (way2 b h) = absurd (let e = (sized Comment Punct (comment_len z) n h).0 in cc)
punctuator_by fresh z n (way3 b h) = absurd (let e = line_of z Punct n h in cc)
punctuator_by fresh z n (way4 b h) = absurd (let e = (found Number Punct (number_len z) n h).0 in cc)
punctuator_by fresh z n (way5 b h) = absurd (let e = literal_of z Punct n h in cc)
punctuator_by fresh z n (way6 b h) = absurd (let e = (found Word Punct (past class.Word z 0) n h).0 in cc)
punctuator_by fresh z n (way7 h) = punctuator_of z Punct n h

pub punctuator_is : (fresh : Bool) (z : Text) (n : ℕ) → piece fresh z ≡ Some (Punct, n) → IsPunctuatorOf z Punct n
punctuator_is fresh z n h = punctuator_by fresh z n (piece_way fresh z Punct n h)

abbrev pub BeginsComment : Text → Type 0
BeginsComment z = (slice_index z 0 == 47 && (slice_index z 1 == 42 || slice_index z 1 == 47)) ≡ true

comment_by : (fresh : Bool) (z : Text) (n : ℕ) → PieceWay fresh z Comment n → BeginsComment z × (comment_len z ≡ Some n)
comment_by fresh z n (way1 b h) = absurd (let e = (found Blank Comment 1 n h).0 in cc)
comment_by fresh z n (way2 b h) = (b, (sized Comment Comment (comment_len z) n h).1)
comment_by fresh z n (way3 b h) = absurd (let e = line_of z Comment n h in cc)
comment_by fresh z n (way4 b h) = absurd (let e = (found Number Comment (number_len z) n h).0 in cc)
comment_by fresh z n (way5 b h) = absurd (let e = literal_of z Comment n h in cc)
comment_by fresh z n (way6 b h) = absurd (let e = (found Word Comment (past class.Word z 0) n h).0 in cc)
comment_by fresh z n (way7 h) = absurd (let e = (punctuator_of z Comment n h).0 in cc)

pub comment_is : (fresh : Bool) (z : Text) (n : ℕ) → piece fresh z ≡ Some (Comment, n) → BeginsComment z × (comment_len z ≡ Some n)
comment_is fresh z n h = comment_by fresh z n (piece_way fresh z Comment n h)

-- ---- literals

string_of : (z : Text) (n : ℕ) → literal z ≡ Some (Str, n) → (slice_index z (prefix z) ≡ 34) × (string_len (prefix z) z ≡ Some n)
unfolding literal
string_of z n h = elim (chosen (slice_index z (prefix z) == 34) _ _ (Some (Str, n)) h) [
  | inl e ↦ (eqb-true (slice_index z (prefix z)) 34 e.0, (sized Str Str (string_len (prefix z) z) n e.1).1)
  | inr e ↦ absurd (let f = (sized Char Str (char_len (prefix z) z) n e.1).0 in cc)
]

char_of : (z : Text) (n : ℕ) → literal z ≡ Some (Char, n) → char_len (prefix z) z ≡ Some n
unfolding literal
char_of z n h = elim (chosen (slice_index z (prefix z) == 34) _ _ (Some (Char, n)) h) [
  | inl e ↦ absurd (let f = (sized Str Char (string_len (prefix z) z) n e.1).0 in cc)
  | inr e ↦ (sized Char Char (char_len (prefix z) z) n e.1).1
]

string_by : (fresh : Bool) (z : Text) (n : ℕ) → PieceWay fresh z Str n → literal z ≡ Some (Str, n)
string_by fresh z n (way1 b h) = absurd (let e = (found Blank Str 1 n h).0 in cc)
string_by fresh z n (way2 b h) = absurd (let e = (sized Comment Str (comment_len z) n h).0 in cc)
string_by fresh z n (way3 b h) = absurd (let e = line_of z Str n h in cc)
string_by fresh z n (way4 b h) = absurd (let e = (found Number Str (number_len z) n h).0 in cc)
string_by fresh z n (way5 b h) = h
string_by fresh z n (way6 b h) = absurd (let e = (found Word Str (past class.Word z 0) n h).0 in cc)
string_by fresh z n (way7 h) = absurd (let e = (punctuator_of z Str n h).0 in cc)

char_by : (fresh : Bool) (z : Text) (n : ℕ) → PieceWay fresh z Char n → literal z ≡ Some (Char, n)
char_by fresh z n (way1 b h) = absurd (let e = (found Blank Char 1 n h).0 in cc)
char_by fresh z n (way2 b h) = absurd (let e = (sized Comment Char (comment_len z) n h).0 in cc)
char_by fresh z n (way3 b h) = absurd (let e = line_of z Char n h in cc)
char_by fresh z n (way4 b h) = absurd (let e = (found Number Char (number_len z) n h).0 in cc)
char_by fresh z n (way5 b h) = h
char_by fresh z n (way6 b h) = absurd (let e = (found Word Char (past class.Word z 0) n h).0 in cc)
char_by fresh z n (way7 h) = absurd (let e = (punctuator_of z Char n h).0 in cc)

pub string_is : (fresh : Bool) (z : Text) (n : ℕ) → piece fresh z ≡ Some (Str, n) → (slice_index z (prefix z) ≡ 34) × (string_len (prefix z) z ≡ Some n)
string_is fresh z n h = string_of z n (string_by fresh z n (piece_way fresh z Str n h))

pub char_is : (fresh : Bool) (z : Text) (n : ℕ) → piece fresh z ≡ Some (Char, n) → char_len (prefix z) z ≡ Some n
char_is fresh z n h = char_of z n (char_by fresh z n (piece_way fresh z Char n h))

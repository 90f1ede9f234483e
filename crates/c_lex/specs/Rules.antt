-- The rules of C11 6.4 for whole texts, as the standard writes them, and the longest front of a text that a rule allows.
use Rattle.std.specs.Prelude.{◌≡◌, ◌<◌, ◌≤◌, ℕ, Bool, true, [], ◌∷◌, ◌++◌, length, take, slice_index, Some}
use Rattle.std.specs.Char.{is_ascii_digit}
use Rattle.c_lex.specs.Bytes.{Text, is_letter, is_in}
use Rattle.c_lex.specs.Number.{is_exponent, is_sign}
use Rattle.c_lex.specs.Literal.{before_close}
use Rattle.c_lex.specs.Vocabulary.{is_among, punctuators}
use Rattle.c_lex.specs.Piece.{piece}
use Rattle.c_lex.specs.declared.class.Class.TheVariants as class
use Rattle.c_lex.specs.declared.piece.Piece.{Piece}

-- 6.4.2.1: an identifier is a nondigit, or an identifier and a nondigit or digit
pub data IsIdentifier : Text → Type 0 where
  nondigit : (b : ℕ) → is_letter b ≡ true → IsIdentifier (b ∷ [])
  further : (w : Text) (b : ℕ) → IsIdentifier w → is_in class.Word b ≡ true → IsIdentifier (w ++ b ∷ [])

-- 6.4.8
pub data IsNumber : Text → Type 0 where
  digit : (d : ℕ) → is_ascii_digit d ≡ true → IsNumber (d ∷ [])
  point : (d : ℕ) → is_ascii_digit d ≡ true → IsNumber (46 ∷ d ∷ [])
  character : (w : Text) (b : ℕ) → IsNumber w → is_in class.Word b ≡ true → IsNumber (w ++ b ∷ [])
  dot : (w : Text) → IsNumber w → IsNumber (w ++ 46 ∷ [])
  sign : (w : Text) (e s : ℕ) → IsNumber w → is_exponent e ≡ true → is_sign s ≡ true → IsNumber (w ++ e ∷ s ∷ [])

-- 6.4.9: up to the end of the line, or up to the first `*/`
pub data IsComment : Text → Type 0 where
  line : (w : Text) → ((i : ℕ) → i < length w → is_in class.Line (slice_index w i) ≡ true) → IsComment (47 ∷ 47 ∷ w)
  block : (w : Text) → before_close (w ++ 42 ∷ 47 ∷ []) ≡ length w → IsComment (47 ∷ 42 ∷ (w ++ 42 ∷ 47 ∷ []))

-- 6.4.6
abbrev pub IsPunctuator : Text → Type 0
IsPunctuator w = is_among punctuators w ≡ true

-- 6.4p4: the front of n bytes is one, and no longer front is
pub record Longest (P : Text → Type 0) (z : Text) (n : ℕ) : Type 0 where
  pub within : n ≤ length z
  pub is : P (take n z)
  pub longest : (m : ℕ) → n < m → m ≤ length z → P (take m z) → ⊥

abbrev pub IsLongest : Piece → (Text → Type 0) → Type 0
IsLongest p P = (fresh : Bool) (z : Text) (n : ℕ) → piece fresh z ≡ Some (p, n) → Longest P z n

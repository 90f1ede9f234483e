-- The characters of literals by the rules of C11 6.4.4.4.
use Rattle.std.specs.Prelude.{◌≡◌, ◌≢◌, ◌<◌, ◌≤◌, ℕ, suc, ◌+◌, Bool, true, List, [], ◌∷◌, length, take, drop, slice_index, Some}
use Rattle.c_lex.specs.Bytes.{Text, is_in}
use Rattle.c_lex.specs.Number.{value_of}
use Rattle.c_lex.specs.Literal.{is_simple_escape, escape_byte, character_len, character_value, prefix, string_bytes}
use Rattle.c_lex.specs.Piece.{piece}
use Rattle.c_lex.specs.Rules.{Longest}
use Rattle.c_lex.specs.declared.class.Class.{Class}
use Rattle.c_lex.specs.declared.class.Class.TheVariants as class
use Rattle.c_lex.specs.declared.piece.Piece.TheVariants.{Char, Str}

abbrev pub AllIn : Class → Text → Type 0
AllIn c w = (i : ℕ) → i < length w → is_in c (slice_index w i) ≡ true

-- an escape sequence behind its backslash, and the number that it writes
pub data IsEscape : Text → ℕ → Type 0 where
  simple : (b : ℕ) → is_simple_escape b ≡ true → IsEscape (b ∷ []) (escape_byte b)
  octal : (w : Text) → 0 < length w → length w ≤ 3 → AllIn class.Octal w → IsEscape w (value_of 8 w)
  hexadecimal : (w : Text) → 0 < length w → AllIn class.Hexadecimal w → IsEscape (120 ∷ w) (value_of 16 w)

abbrev pub SomeEscape : Text → Type 0
SomeEscape w = (v : ℕ) × IsEscape w v

-- A character at the front of what stands between such quotes, its length, and the byte that it stands for. Behind a
-- backslash it is the longest escape sequence (6.4.4.4p7), and its number fits a byte.
pub data IsCharacter (quote : ℕ) : Text → ℕ → ℕ → Type 0 where
  plain : (b : ℕ) (z : Text) → b ≢ quote → b ≢ 10 → b ≢ 92 → IsCharacter quote (b ∷ z) 1 b
  escape : (z : Text) (n v : ℕ) → Longest SomeEscape z n → IsEscape (take n z) v → v ≤ 255 → IsCharacter quote (92 ∷ z) (suc n) v

abbrev pub CharactersAreRead : Type 0
CharactersAreRead = (quote : ℕ) (z : Text) (n : ℕ) → quote ≢ 92 → character_len quote z ≡ suc n → IsCharacter quote z (suc n) (character_value z)

abbrev pub CharactersAreAllRead : Type 0
CharactersAreAllRead = (quote : ℕ) (z : Text) (n v : ℕ) → quote ≢ 92 → IsCharacter quote z n v → (character_len quote z ≡ n) × (character_value z ≡ v)

-- ---- whole literals

-- what stands behind the opening quote: characters, and the quote that ends them
pub data IsBody (quote : ℕ) : Text → ℕ → List ℕ → Type 0 where
  closes : (z : Text) → IsBody quote (quote ∷ z) 1 []
  further : (z : Text) (n m v : ℕ) (vs : List ℕ) → IsCharacter quote z n v → IsBody quote (drop n z) m vs → IsBody quote z (n + m) (v ∷ vs)

-- a string literal is its prefix, a quote and such a body
abbrev pub IsStringAt : Text → ℕ → Type 0
IsStringAt z n = (m : ℕ) × (vs : List ℕ) × IsBody 34 (drop (prefix z + 1) z) m vs × (slice_index z (prefix z) ≡ 34) × (n ≡ prefix z + 1 + m)

abbrev pub StringsAreRead : Type 0
StringsAreRead = (fresh : Bool) (z : Text) (n : ℕ) → piece fresh z ≡ Some (Str, n) → IsStringAt z n

-- a character constant is its prefix, a quote, one character and a quote
abbrev pub IsCharAt : Text → ℕ → Type 0
IsCharAt z n = (m : ℕ) × (v : ℕ) × IsCharacter 39 (drop (prefix z + 1) z) m v × (slice_index z (prefix z + 1 + m) ≡ 39) × (n ≡ prefix z + m + 2)

abbrev pub CharsAreRead : Type 0
CharsAreRead = (fresh : Bool) (z : Text) (n : ℕ) → piece fresh z ≡ Some (Char, n) → IsCharAt z n

-- the bytes of a string literal are those of its characters
abbrev pub StringsHaveBytes : Type 0
StringsHaveBytes = (w : Text) (m : ℕ) (vs : List ℕ) → IsBody 34 (drop (prefix w + 1) w) m vs → string_bytes w ≡ vs

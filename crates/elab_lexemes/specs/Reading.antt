-- What elaboration reads of each token of a file.
use Rattle.std.specs.Prelude.{ℕ, ◌+◌, List, [], ◌∷◌, ◌++◌, length, slice_get, Option, Some, None}
use Rattle.c_lex.specs.Bytes.{Text}
use Rattle.c_lex.specs.Source.{text_of}
use Rattle.c_lex.specs.Literal.{string_bytes}
use Rattle.c_lex.specs.Constant.{int_constant, char_value}
use Rattle.c_lex.specs.declared.token.Token.{Token}
use Rattle.c_lex.specs.declared.token.TokenKind.{TokenKind}
use Rattle.c_lex.specs.declared.token.TokenKind.TheVariants as kind
use Rattle.c_input.specs.declared.word.Word.{Word}
use Rattle.c_input.specs.Words.{number_of}
use Rattle.elab_environment.specs.declared.lexeme.Lexeme.{Lexeme}
use Rattle.elab_environment.specs.declared.lexeme.Lexeme.TheVariants as lexeme
use Rattle.elab_lexemes.specs.Constants.{int_lexeme, char_lexeme}
use Rattle.elab_lexemes.specs.Words.{lexeme_in, word_lexemes, operator_lexemes}

abbrev pub place_of : Option Token → ℕ
place_of (Some t) = t.at
place_of None = 0

-- the place in the file of the first token that is spelled like a name
abbrev pub name_number : Text → List Token → Token → ℕ
name_number file ts t = place_of (slice_get ts (number_of file ts t))

-- the same of the word that a token is
abbrev pub word_place : List Token → Word → ℕ
word_place ts w = place_of (slice_get ts w.name)

abbrev pub string_lexeme : ℕ → Text → Lexeme
string_lexeme place text = lexeme.Str place (length (string_bytes text))

-- a token by its kind, its text and its name's number; the strings before it have so many bytes
abbrev pub lexeme_of : TokenKind → Text → ℕ → ℕ → Lexeme
lexeme_of kind.Keyword text name place = lexeme_in word_lexemes text
lexeme_of kind.Name text name place = lexeme.Name name
lexeme_of kind.Int text name place = int_lexeme (int_constant text)
lexeme_of kind.Float text name place = lexeme.Other
lexeme_of kind.Char text name place = char_lexeme (char_value text)
lexeme_of kind.Str text name place = string_lexeme place text
lexeme_of kind.Punct text name place = lexeme_in operator_lexemes text

abbrev pub bytes_of : TokenKind → Text → List ℕ
bytes_of kind.Str text = string_bytes text
bytes_of _ text = []

-- the bytes of the string literals, one behind the other
abbrev pub strings : Text → List Token → List ℕ
strings file [] = []
strings file (t ∷ ts) = bytes_of t.kind (text_of file t) ++ strings file ts

-- of all tokens those from one on, where the strings before it have so many bytes
abbrev pub lexemes_from : Text → List Token → ℕ → List Token → List Lexeme
lexemes_from file all place [] = []
lexemes_from file all place (t ∷ ts) =
    lexeme_of t.kind (text_of file t) (name_number file all t) place ∷ lexemes_from file all (place + length (bytes_of t.kind (text_of file t))) ts

abbrev pub lexemes : Text → List Token → List Lexeme
lexemes file ts = lexemes_from file ts 0 ts

-- What follows from the definitions, for files and tokens as they stand.
use Rattle.std.specs.Prelude.{◌≡◌, ◌<◌, ◌≤◌, ◌^◌, ℕ, ◌+◌, true, false, List, [], ◌∷◌, length}
use Rattle.c_lex.specs.Bytes.{Text}
use Rattle.c_lex.specs.Source.{text_of}
use Rattle.c_lex.specs.Number.{is_integer, integer_value, is_floating}
use Rattle.c_lex.specs.Vocabulary.{is_among, keywords}
use Rattle.c_lex.specs.Reading.{Stops, Lexed, start}
use Rattle.c_lex.specs.Rules.{IsIdentifier, IsPunctuator}
use Rattle.c_lex.specs.declared.token.TokenKind.{TokenKind}
use Rattle.c_lex.specs.declared.token.TokenKind.TheVariants as kind
use Rattle.c_lex.specs.declared.token.Token.{Token}
use Rattle.c_lex.specs.declared.error.LexStop.{LexStop}

-- a file has at most one list of tokens, at most one stop, and never both
abbrev pub OneList : Type 0
OneList = (file : Text) (ts us : List Token) → Lexed file ts → Lexed file us → ts ≡ us

abbrev pub OneStop : Type 0
OneStop = (file : Text) (e f : LexStop) → Stops start file e → Stops start file f → e ≡ f

abbrev pub NeverBoth : Type 0
NeverBoth = (file : Text) (ts : List Token) (e : LexStop) → Lexed file ts → Stops start file e → ⊥

-- ---- texts of tokens

-- What the text of a token of each kind is. Of literals nothing is said here but that they are slices.
abbrev pub IsOfKind : TokenKind → Text → Type 0
IsOfKind kind.Keyword w = is_among keywords w ≡ true
IsOfKind kind.Name w = IsIdentifier w × (is_among keywords w ≡ false)
IsOfKind kind.Int w = (is_integer w ≡ true) × (integer_value w < 2 ^ 64)
IsOfKind kind.Float w = (is_integer w ≡ false) × (is_floating w ≡ true)
IsOfKind kind.Punct w = IsPunctuator w
IsOfKind k w = Unit {0}

-- tokens of a file from a place on, in order: each is a slice of the file, of its kind, behind the one before
abbrev pub AreTokensFrom : Text → ℕ → List Token → Type 0
AreTokensFrom file from [] = Unit {0}
AreTokensFrom file from (t ∷ ts) =
    (from ≤ t.at) × (t.at + t.len ≤ length file) × IsOfKind t.kind (text_of file t) × AreTokensFrom file (t.at + t.len) ts

abbrev pub TokensAreSlices : Type 0
TokensAreSlices = (file : Text) (ts : List Token) → Lexed file ts → AreTokensFrom file 0 ts

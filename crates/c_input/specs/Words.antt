-- The words of a file: what the grammar sees of each token.
use Rattle.std.specs.Prelude.{ℕ, suc, Bool, true, false, if◌then◌else◌, List, [], ◌∷◌, take, slice_get, bytes_eq, codes, map, ◌==◌}
use Rattle.c_lex.specs.Bytes.{Text}
use Rattle.c_lex.specs.Source.{text_of}
use Rattle.c_lex.specs.declared.token.Token.{Token}
use Rattle.c_lex.specs.declared.token.TokenKind.{TokenKind}
use Rattle.c_lex.specs.declared.token.TokenKind.TheVariants as kind
use Rattle.c_input.specs.declared.word.Sign.TheVariants as sign
use Rattle.c_input.specs.Input.{Sign, Word, Words}

abbrev pub Entry : Type 0
Entry = Text × Sign

-- the sign of a text in a table, `Other` where it isn't there
abbrev pub sign_in : List Entry → Text → Sign
sign_in [] text = sign.Other
sign_in (x ∷ xs) text = if bytes_eq x.0 text then x.1 else sign_in xs text

-- keywords (6.4.1); those of left-out constructs are so wherever they stand
abbrev pub keyword_signs : List Entry
keyword_signs =
    (codes "extern", sign.Storage) ∷ (codes "auto", sign.Storage) ∷ (codes "register", sign.Storage) ∷ (codes "inline", sign.Storage) ∷
    (codes "_Noreturn", sign.Storage) ∷ (codes "static", sign.Static) ∷ (codes "typedef", sign.Typedef) ∷
    (codes "const", sign.Qualifier) ∷ (codes "volatile", sign.Qualifier) ∷ (codes "restrict", sign.Qualifier) ∷
    (codes "__const", sign.Qualifier) ∷ (codes "__volatile__", sign.Qualifier) ∷ (codes "__volatile", sign.Qualifier) ∷
    (codes "void", sign.TypeWord) ∷ (codes "char", sign.TypeWord) ∷ (codes "short", sign.TypeWord) ∷ (codes "int", sign.TypeWord) ∷
    (codes "long", sign.TypeWord) ∷ (codes "float", sign.TypeWord) ∷ (codes "double", sign.TypeWord) ∷ (codes "signed", sign.TypeWord) ∷
    (codes "__signed__", sign.TypeWord) ∷ (codes "unsigned", sign.TypeWord) ∷ (codes "_Bool", sign.TypeWord) ∷ (codes "_Complex", sign.TypeWord) ∷
    (codes "struct", sign.Struct) ∷ (codes "union", sign.Union) ∷ (codes "enum", sign.Enum) ∷ (codes "sizeof", sign.Sizeof) ∷
    (codes "if", sign.If) ∷ (codes "else", sign.Else) ∷ (codes "while", sign.While) ∷ (codes "do", sign.Do) ∷ (codes "for", sign.For) ∷
    (codes "switch", sign.Switch) ∷ (codes "case", sign.Case) ∷ (codes "default", sign.Default) ∷ (codes "goto", sign.Goto) ∷
    (codes "break", sign.Break) ∷ (codes "continue", sign.Continue) ∷ (codes "return", sign.Return) ∷
    (codes "_Atomic", sign.LeftOut) ∷ (codes "_Generic", sign.LeftOut) ∷ (codes "_Thread_local", sign.LeftOut) ∷
    (codes "_Alignas", sign.LeftOut) ∷ (codes "_Alignof", sign.LeftOut) ∷ (codes "_Static_assert", sign.LeftOut) ∷ []

-- punctuators (6.4.6)
abbrev pub punctuator_signs : List Entry
punctuator_signs =
    (codes "(", sign.OpenParen) ∷ (codes ")", sign.CloseParen) ∷ (codes "[", sign.OpenBracket) ∷ (codes "]", sign.CloseBracket) ∷
    (codes "{", sign.OpenBrace) ∷ (codes "}", sign.CloseBrace) ∷ (codes ";", sign.Semicolon) ∷ (codes ",", sign.Comma) ∷ (codes "=", sign.Equal) ∷
    (codes ".", sign.Dot) ∷ (codes "->", sign.Arrow) ∷ (codes "++", sign.Increment) ∷ (codes "--", sign.Decrement) ∷
    (codes "*", sign.Star) ∷ (codes "&", sign.Amp) ∷ (codes "+", sign.Additive) ∷ (codes "-", sign.Additive) ∷
    (codes "~", sign.Complement) ∷ (codes "!", sign.Complement) ∷ (codes "/", sign.Multiplicative) ∷ (codes "%", sign.Multiplicative) ∷
    (codes "<<", sign.Shift) ∷ (codes ">>", sign.Shift) ∷ (codes "<", sign.Relational) ∷ (codes ">", sign.Relational) ∷
    (codes "<=", sign.Relational) ∷ (codes ">=", sign.Relational) ∷ (codes "==", sign.Equality) ∷ (codes "!=", sign.Equality) ∷
    (codes "^", sign.Caret) ∷ (codes "|", sign.Bar) ∷ (codes "&&", sign.AndAnd) ∷ (codes "||", sign.OrOr) ∷
    (codes "?", sign.Question) ∷ (codes ":", sign.Colon) ∷ (codes "...", sign.Ellipsis) ∷
    (codes "*=", sign.AssignOp) ∷ (codes "/=", sign.AssignOp) ∷ (codes "%=", sign.AssignOp) ∷ (codes "+=", sign.AssignOp) ∷
    (codes "-=", sign.AssignOp) ∷ (codes "<<=", sign.AssignOp) ∷ (codes ">>=", sign.AssignOp) ∷ (codes "&=", sign.AssignOp) ∷
    (codes "^=", sign.AssignOp) ∷ (codes "|=", sign.AssignOp) ∷ []

-- the words of assembler statements are left out wherever they stand
abbrev pub name_sign : Text → Sign
name_sign text = if bytes_eq text (codes "asm") then sign.LeftOut else (if bytes_eq text (codes "__asm") then sign.LeftOut
    else (if bytes_eq text (codes "__asm__") then sign.LeftOut else sign.Name))

-- a literal that begins with its quote, or with `u8`, is narrow (6.4.4.4, 6.4.5); others are left out
abbrev pub is_narrow : ℕ → Text → Bool
is_narrow quote [] = false
is_narrow quote (b ∷ rest) = if b == quote then true else is_utf8 (take 2 (b ∷ rest))
  where
    is_utf8 : Text → Bool
    is_utf8 w = bytes_eq w (codes "u8")

abbrev pub literal_sign : Bool → Sign → Sign
literal_sign true q = q
literal_sign false q = sign.LeftOut

abbrev pub kind_sign : TokenKind → Text → Sign
kind_sign kind.Keyword text = sign_in keyword_signs text
kind_sign kind.Name text = name_sign text
kind_sign kind.Int text = sign.Int
kind_sign kind.Float text = sign.Float
kind_sign kind.Char text = literal_sign (is_narrow 39 text) sign.Char
kind_sign kind.Str text = literal_sign (is_narrow 34 text) sign.Str
kind_sign kind.Punct text = sign_in punctuator_signs text

abbrev pub is_name_kind : TokenKind → Bool
is_name_kind kind.Name = true
is_name_kind _ = false

-- the first place of a name with this text: equal names, and they alone, have equal numbers
abbrev pub first_like : Text → List Token → Text → ℕ
first_like file [] text = 0
first_like file (t ∷ ts) text = if is_name_kind t.kind then (if bytes_eq (text_of file t) text then 0 else suc (first_like file ts text))
    else suc (first_like file ts text)

abbrev pub number_of : Text → List Token → Token → ℕ
number_of file ts t = if is_name_kind t.kind then first_like file ts (text_of file t) else 0

abbrev pub word_of : Text → List Token → Token → Word
word_of file ts t = record { sign = kind_sign t.kind (text_of file t); name = number_of file ts t }

abbrev pub word_list : Text → List Token → List Word
word_list file ts = map (word_of file ts) ts

abbrev pub words_of : List Word → Words
words_of ws = λ i. slice_get ws i

-- How long a file may be, and the texts of its tokens.
use Rattle.std.specs.Prelude.{ℕ, List, [], Option, Some, None, take, drop, slice_get}
use Rattle.c_lex.specs.Bytes.{Text}
use Rattle.c_lex.specs.declared.token.Token.{Token}

-- the most bytes of a file, and so the most tokens
abbrev pub longest : ℕ
longest = 1048576

-- the text of a token, as far as it lies in the file
abbrev pub text_of : Text → Token → Text
text_of file t = take t.len (drop t.at file)

abbrev pub option_text : Text → Option Token → Text
option_text file (Some t) = text_of file t
option_text file None = []

-- the text of the token of a number, which is empty past the last
abbrev pub text_in : Text → List Token → ℕ → Text
text_in file tokens i = option_text file (slice_get tokens i)

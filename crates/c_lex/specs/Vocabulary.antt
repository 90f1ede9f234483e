-- The words, punctuators and suffixes of C11 (6.4.1, 6.4.6, 6.4.4), and the words of the compilers that read like them.
use Rattle.std.specs.Prelude.{ℕ, max, Bool, if◌then◌else◌, List, [], ◌∷◌, length, bytes_eq, codes, nat_eq}
use Rattle.std.specs.List.{list_any, starts_with}
use Rattle.c_lex.specs.Bytes.{Text}

abbrev pub is_among : List Text → Text → Bool
is_among texts w = list_any (λ t. bytes_eq t w) texts

-- 6.4.1, and `__const`, `__volatile__`, `__volatile` and `__signed__`, which stand for the words without the lines
abbrev pub keywords : List Text
keywords =
    codes "auto" ∷ codes "break" ∷ codes "case" ∷ codes "char" ∷ codes "const" ∷ codes "continue" ∷ codes "default" ∷ codes "do" ∷
    codes "double" ∷ codes "else" ∷ codes "enum" ∷ codes "extern" ∷ codes "float" ∷ codes "for" ∷ codes "goto" ∷ codes "if" ∷
    codes "inline" ∷ codes "int" ∷ codes "long" ∷ codes "register" ∷ codes "restrict" ∷ codes "return" ∷ codes "short" ∷ codes "signed" ∷
    codes "sizeof" ∷ codes "static" ∷ codes "struct" ∷ codes "switch" ∷ codes "typedef" ∷ codes "union" ∷ codes "unsigned" ∷ codes "void" ∷
    codes "volatile" ∷ codes "while" ∷ codes "_Alignas" ∷ codes "_Alignof" ∷ codes "_Atomic" ∷ codes "_Bool" ∷ codes "_Complex" ∷ codes "_Generic" ∷
    codes "_Imaginary" ∷ codes "_Noreturn" ∷ codes "_Static_assert" ∷ codes "_Thread_local" ∷
    codes "__const" ∷ codes "__volatile__" ∷ codes "__volatile" ∷ codes "__signed__" ∷ []

-- words that say nothing to an analysis of values
abbrev pub skipped_words : List Text
skipped_words = codes "__extension__" ∷ codes "__restrict" ∷ codes "__restrict__" ∷ codes "__inline" ∷ codes "__inline__" ∷ []

abbrev pub is_attribute : Text → Bool
is_attribute w = bytes_eq w (codes "__attribute__")

-- 6.4.6 without the digraphs
abbrev pub punctuators : List Text
punctuators =
    codes "..." ∷ codes "<<=" ∷ codes ">>=" ∷
    codes "->" ∷ codes "++" ∷ codes "--" ∷ codes "<<" ∷ codes ">>" ∷ codes "<=" ∷ codes ">=" ∷ codes "==" ∷ codes "!=" ∷ codes "&&" ∷ codes "||" ∷
    codes "*=" ∷ codes "/=" ∷ codes "%=" ∷ codes "+=" ∷ codes "-=" ∷ codes "&=" ∷ codes "^=" ∷ codes "|=" ∷ codes "##" ∷
    codes "[" ∷ codes "]" ∷ codes "(" ∷ codes ")" ∷ codes "{" ∷ codes "}" ∷ codes "." ∷ codes "&" ∷ codes "*" ∷ codes "+" ∷ codes "-" ∷ codes "~" ∷
    codes "!" ∷ codes "/" ∷ codes "%" ∷ codes "<" ∷ codes ">" ∷ codes "^" ∷ codes "|" ∷ codes "?" ∷ codes ":" ∷ codes ";" ∷ codes "=" ∷ codes "," ∷
    codes "#" ∷ []

-- the length of the longest of these texts that begins a text, 0 where none does
abbrev pub longest : List Text → Text → ℕ
longest [] z = 0
longest (p ∷ ps) z = max (if starts_with nat_eq z p then length p else 0) (longest ps z)

unfoldable pub punctuator_len : Text → ℕ
punctuator_len z = longest punctuators z

-- `u` or `U` for unsigned, `l`, `L`, `ll` or `LL` for long, in either order (6.4.4.1)
abbrev pub suffixes : List Text
suffixes =
    [] ∷ codes "u" ∷ codes "U" ∷ codes "l" ∷ codes "L" ∷ codes "ll" ∷ codes "LL" ∷ codes "ul" ∷ codes "uL" ∷ codes "Ul" ∷ codes "UL" ∷
    codes "ull" ∷ codes "uLL" ∷ codes "Ull" ∷ codes "ULL" ∷ codes "lu" ∷ codes "lU" ∷ codes "Lu" ∷ codes "LU" ∷
    codes "llu" ∷ codes "llU" ∷ codes "LLu" ∷ codes "LLU" ∷ []

-- 6.4.4.2
abbrev pub float_suffixes : List Text
float_suffixes = [] ∷ codes "f" ∷ codes "F" ∷ codes "l" ∷ codes "L" ∷ []

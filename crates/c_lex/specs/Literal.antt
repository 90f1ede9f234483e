-- Escape sequences, character constants and string literals (C11 6.4.4.4, 6.4.5), and comments (6.4.9).
use Rattle.std.specs.Prelude.{ℕ, zero, suc, ◌+◌, ◌-◌, min, Bool, not, ◌&&◌, ◌||◌, if◌then◌else◌, ◌==◌, nat_lt, nat_le, List, [], ◌∷◌, take, drop, slice_index, Option, Some, None}
use Rattle.c_lex.specs.Bytes.{Text, past, run}
use Rattle.c_lex.specs.Number.{value_of}
use Rattle.c_lex.specs.declared.class.Class.TheVariants as class

-- the bytes that stand for one character behind a backslash: `'` `"` `?` `\` a b f n r t v
abbrev pub is_simple_escape : ℕ → Bool
is_simple_escape b =
    b == 39 || b == 34 || b == 63 || b == 92 || b == 97 || b == 98 || b == 102 || b == 110 || b == 114 || b == 116 || b == 118

-- one to three octal digits
abbrev pub octal_len : Text → ℕ
octal_len z = min 3 (past class.Octal z 0)

-- `x` and all hexadecimal digits behind it
abbrev pub hexadecimal_len : Text → ℕ
hexadecimal_len z = past class.Hexadecimal z 1

-- the length of an escape sequence behind its backslash, 0 where none is: a value above 255 is none
unfoldable pub escape_len : Text → ℕ
escape_len z =
    if is_simple_escape (slice_index z 0) then 1
    else (if nat_lt 0 (octal_len z) then (if nat_le (value_of 8 (take (octal_len z) z)) 255 then octal_len z else 0)
    else (if slice_index z 0 == 120 && nat_lt 1 (hexadecimal_len z) && nat_le (value_of 16 (drop 1 (take (hexadecimal_len z) z))) 255 then hexadecimal_len z
    else 0))

-- the length of the character at the front of what stands between such quotes, 0 where none is
unfoldable pub character_len : ℕ → Text → ℕ
character_len quote [] = 0
character_len quote (b ∷ z) =
    if b == quote || b == 10 then 0 else (if b == 92 then (if escape_len z == 0 then 0 else 1 + escape_len z) else 1)

-- the length of the prefix `L`, `u`, `U` or `u8` before a quote
unfoldable pub prefix : Text → ℕ
prefix z =
    let b = slice_index z 0 in
    if b == 117 && slice_index z 1 == 56 && slice_index z 2 == 34 then 2
    else (if (b == 76 || b == 117 || b == 85) && (slice_index z 1 == 34 || slice_index z 1 == 39) then 1
    else 0)

-- The length of a string literal, its quote at `at`: characters up to the quote that ends it.
unfoldable pub string_len : ℕ → Text → Option ℕ
string_len at z =
    let end = at + 1 + run (character_len 34) (drop (at + 1) z) in
    if slice_index z end == 34 then Some (end + 1) else None

-- the length of a character constant, its quote at `at`: one character
unfoldable pub char_len : ℕ → Text → Option ℕ
char_len at z =
    let len = character_len 39 (drop (at + 1) z) in
    if not (len == 0) && slice_index z (at + 1 + len) == 39 then Some (at + len + 2) else None

-- how many bytes stand before the first `*/`
abbrev pub before_close : Text → ℕ
before_close [] = 0
before_close (b ∷ z) = if b == 42 && slice_index z 0 == 47 then 0 else suc (before_close z)

-- The length of the comment at the front: one that `//` begins goes to the end of the line.
unfoldable pub comment_len : Text → Option ℕ
comment_len z =
    let close = 2 + before_close (drop 2 z) in
    if slice_index z 1 == 47 then Some (past class.Line z 2) else (if slice_index z close == 42 then Some (close + 2) else None)

-- ---- values

-- what a simple escape sequence stands for
abbrev pub escape_byte : ℕ → ℕ
escape_byte b =
    if b == 97 then 7 else (if b == 98 then 8 else (if b == 102 then 12 else (if b == 110 then 10 else (if b == 114 then 13 else (if b == 116 then 9 else (if b == 118 then 11 else b))))))

-- the byte that an escape sequence stands for
unfoldable pub escape_value : Text → ℕ
escape_value z =
    if is_simple_escape (slice_index z 0) then escape_byte (slice_index z 0)
    else (if nat_lt 0 (octal_len z) then value_of 8 (take (octal_len z) z)
    else value_of 16 (drop 1 (take (hexadecimal_len z) z)))

-- the byte that the character at the front stands for
unfoldable pub character_value : Text → ℕ
character_value z = if slice_index z 0 == 92 then escape_value (drop 1 z) else slice_index z 0

-- the bytes that characters stand for, up to the first place where none begins
abbrev pub characters_from : ℕ → ℕ → Text → List ℕ
characters_from quote left [] = []
characters_from quote (suc left) (b ∷ z) = characters_from quote left z
characters_from quote zero (b ∷ z) =
    if character_len quote (b ∷ z) == 0 then [] else character_value (b ∷ z) ∷ characters_from quote (character_len quote (b ∷ z) - 1) z

unfoldable pub characters : ℕ → Text → List ℕ
characters quote z = characters_from quote 0 z

-- the bytes of a string literal without its ending zero (6.4.5p6)
unfoldable pub string_bytes : Text → List ℕ
string_bytes w = characters 34 (drop (prefix w + 1) w)

-- the byte of a character constant
unfoldable pub char_byte : Text → ℕ
char_byte w = character_value (drop (prefix w + 1) w)

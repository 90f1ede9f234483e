-- What constants stand for (C11 6.4.4.1, 6.4.4.4).
use Rattle.std.specs.Prelude.{ℕ, ℤ, pos, ◌-ℤ◌, ◌^◌, Bool, false, not, slice_index, ◌||◌, ◌&&◌, if◌then◌else◌, ◌==◌, nat_lt, drop, length, count_by, Option, Some, None}
use Rattle.std.specs.List.{list_any}
use Rattle.c_lex.specs.Bytes.{Text}
use Rattle.c_lex.specs.Number.{is_integer, integer_value, digits_end}
use Rattle.c_lex.specs.Literal.{prefix, char_len, char_byte}
use Rattle.c_lex.specs.declared.constant.IntConstant.{IntConstant}
use Rattle.c_lex.specs.declared.constant.Longs.{Longs}
use Rattle.c_lex.specs.declared.constant.Longs.TheVariants.{Zero, One, Two}

abbrev pub is_u : ℕ → Bool
is_u b = b == 117 || b == 85

abbrev pub is_l : ℕ → Bool
is_l b = b == 108 || b == 76

abbrev pub longs_of : Text → Longs
longs_of suffix = let n = count_by is_l suffix in if n == 0 then Zero else (if n == 1 then One else Two)

-- the value, and what its digits and its suffix say of the type
unfoldable pub facts : Text → IntConstant
facts w = record {
  value = integer_value w;
  decimal = not (slice_index w 0 == 48);
  unsigned = list_any is_u (drop (digits_end w) w);
  longs = longs_of (drop (digits_end w) w);
}

-- an integer constant below 2^64
unfoldable pub int_constant : Text → Option IntConstant
int_constant w = if is_integer w && nat_lt (integer_value w) (2 ^ 64) then Some (facts w) else None

abbrev pub same_len : Option ℕ → ℕ → Bool
same_len None n = false
same_len (Some m) n = m == n

-- the text is a character constant
unfoldable pub is_char : Text → Bool
is_char w = slice_index w (prefix w) == 39 && same_len (char_len (prefix w) w) (length w)

-- its value: a char is signed and has 8 bits
unfoldable pub char_value : Text → Option ℤ
char_value w = if is_char w then Some (if nat_lt (char_byte w) 128 then pos (char_byte w) else pos (char_byte w) -ℤ pos 256) else None

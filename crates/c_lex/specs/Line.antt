-- Lines that begin with `#` (C11 6.10.4, 6.10.6), as a preprocessor leaves them: line markers and pragmas.
use Rattle.std.specs.Prelude.{ℕ, ◌+◌, ◌-◌, ◌^◌, Bool, not, ◌&&◌, ◌||◌, if◌then◌else◌, ◌==◌, nat_lt, [], ◌∷◌, length, take, drop, slice_index, codes, nat_eq}
use Rattle.std.specs.List.{starts_with}
use Rattle.c_lex.specs.Bytes.{Text, is_in, past, run}
use Rattle.c_lex.specs.Number.{value_of}
use Rattle.c_lex.specs.declared.class.Class.TheVariants as class
use Rattle.c_lex.specs.declared.line.Marker.{Marker}

-- the first word of the line
abbrev pub word_at : Text → ℕ
word_at z = past class.Gap z 1

-- `#line` and white space
unfoldable pub is_line : Text → Bool
is_line z = starts_with nat_eq (drop (word_at z) z) (codes "line") && is_in class.Gap (slice_index z (word_at z + 4))

unfoldable pub number_at : Text → ℕ
number_at z = if is_line z then past class.Gap z (word_at z + 4) else word_at z

unfoldable pub number_end : Text → ℕ
number_end z = past class.Decimal z (number_at z)

unfoldable pub line_number : Text → ℕ
line_number z = value_of 10 (drop (number_at z) (take (number_end z) z))

-- the place of the quote before the name
unfoldable pub quote_at : Text → ℕ
quote_at z = past class.Gap z (number_end z)

-- a part of a name: a backslash keeps the byte behind it
unfoldable pub name_part : Text → ℕ
name_part [] = 0
name_part (b ∷ z) =
    if b == 34 || b == 10 then 0 else (if not (b == 92) then 1 else (if length z == 0 || slice_index z 0 == 10 then 0 else 2))

unfoldable pub name_end : Text → ℕ
name_end z = quote_at z + 1 + run name_part (drop (quote_at z + 1) z)

-- behind the name: white space and, without the word `line`, numbers
unfoldable pub flags_end : Text → ℕ
flags_end z = past (if is_line z then class.Gap else class.Flags) z (name_end z + 1)

unfoldable pub is_marker : Text → Bool
is_marker z =
    nat_lt (number_at z) (number_end z) && nat_lt (line_number z) (2 ^ 31) && slice_index z (quote_at z) == 34 && slice_index z (name_end z) == 34
    && (flags_end z == length z || slice_index z (flags_end z) == 10)

-- the line's length with its end, where it has one
unfoldable pub marker_len : Text → ℕ
marker_len z = if flags_end z == length z then flags_end z else flags_end z + 1

unfoldable pub marker : Text → Marker
marker z = record { number = line_number z; name_at = quote_at z + 1; name_len = name_end z - (quote_at z + 1) }

unfoldable pub is_pragma : Text → Bool
is_pragma z = starts_with nat_eq (drop (word_at z) z) (codes "pragma") && not (is_in class.Word (slice_index z (word_at z + 6)))

-- without the end of its line
unfoldable pub pragma_len : Text → ℕ
pragma_len z = past class.Line z 1

-- What stands at a place, by its first bytes (C11 6.4), and how far it goes.
use Rattle.std.specs.Prelude.{◌<◌, ◌^◌, ◌≤◌, length, ℕ, ◌+◌, Bool, ◌&&◌, ◌||◌, if◌then◌else◌, ◌==◌, slice_index, Option, Some, None}
use Rattle.c_lex.specs.Bytes.{Text, is_blank, is_letter, past}
use Rattle.c_lex.specs.Number.{begins_number, number_len}
use Rattle.c_lex.specs.Literal.{prefix, string_len, char_len, comment_len}
use Rattle.c_lex.specs.Line.{is_marker, marker_len, marker, is_pragma, pragma_len}
use Rattle.c_lex.specs.Vocabulary.{punctuator_len}
use Rattle.c_lex.specs.declared.class.Class.TheVariants as class
use Rattle.c_lex.specs.declared.piece.Piece.{Piece}
use Rattle.c_lex.specs.declared.piece.Piece.TheVariants.{Blank, Comment, Marker, Pragma, Word, Number, Char, Str, Punct}

abbrev pub Found : Type 0
Found = Option (Piece × ℕ)

abbrev pub of_len : Piece → Option ℕ → Found
of_len p None = None
of_len p (Some n) = Some (p, n)

-- a line that begins with `#`
unfoldable pub directive : Text → Found
directive z =
    if is_marker z then Some (Marker (marker z), marker_len z) else (if is_pragma z then Some (Pragma, pragma_len z) else None)

unfoldable pub punctuator : Text → Found
punctuator z = if punctuator_len z == 0 then None else Some (Punct, punctuator_len z)

abbrev pub is_quote : ℕ → Bool
is_quote b = b == 34 || b == 39

abbrev pub begins_literal : Text → Bool
begins_literal z = is_quote (slice_index z (prefix z))

unfoldable pub literal : Text → Found
literal z = if slice_index z (prefix z) == 34 then of_len Str (string_len (prefix z) z) else of_len Char (char_len (prefix z) z)

-- `fresh`: nothing but white space stands before in the line
unfoldable pub piece : Bool → Text → Found
piece fresh z =
    let b = slice_index z 0 in
    if is_blank b then Some (Blank, 1)
    else (if b == 47 && (slice_index z 1 == 42 || slice_index z 1 == 47) then of_len Comment (comment_len z)
    else (if fresh && b == 35 then directive z
    else (if begins_number z then Some (Number, number_len z)
    else (if begins_literal z then literal z
    else (if is_letter b then Some (Word, past class.Word z 0)
    else punctuator z)))))

-- a piece is some bytes of the text, and a marker's name lies in it
abbrev pub MarkerWithin : Piece → ℕ → Type 0
MarkerWithin (Marker m) n = (m.number < 2 ^ 31) × (m.name_at + m.name_len ≤ n)
MarkerWithin p n = Unit {0}

abbrev pub Within : Found → Text → Type 0
Within None z = Unit {0}
Within (Some (p, n)) z = (0 < n) × (n ≤ length z) × MarkerWithin p n

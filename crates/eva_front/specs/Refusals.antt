-- What is printed where a file is refused, or has no such function.
use Rattle.std.specs.Prelude.{ℕ, ◌-◌, min, List, ◌++◌, length, slice_get, Option, Some, None}
use Rattle.std.specs.Fmt.{decimal}
use lib.Chars.{codes}
use Rattle.c_lex.specs.declared.error.LexStop.{LexStop}
use Rattle.c_lex.specs.declared.error.LexStop.TheVariants as lex
use Rattle.c_lex.specs.declared.token.Place.{Place}
use Rattle.c_lex.specs.declared.token.Token.{Token}
use Rattle.eva_front.specs.declared.refusals.Layer.{Layer}
use Rattle.eva_front.specs.declared.refusals.Layer.TheVariants as layer
use Rattle.eva_front.specs.declared.refusals.Refusal.{Refusal}
use Rattle.eva_front.specs.declared.refusals.Refusal.TheVariants.{TooLong, NotOfForm, Stopped}
use Rattle.eva_front.specs.FileNames.{file_name, shown_name}

abbrev pub layer_text : Layer → List ℕ
layer_text layer.Lex = codes "lex"
layer_text layer.Syntax = codes "syntax"

abbrev pub reason_text : List ℕ → List ℕ → Refusal → List ℕ
reason_text file word TooLong = codes "source 1"
reason_text file word NotOfForm = codes "form 1"
reason_text file word (Stopped l number place) =
    layer_text l ++ codes " " ++ decimal number ++ codes " at " ++ shown_name (file_name file word place.name_at place.name_len) ++ codes ":" ++ decimal place.line

abbrev pub refusal_line : List ℕ → List ℕ → Refusal → List ℕ
refusal_line file word r = codes "refused: " ++ reason_text file word r

abbrev pub unknown_line : List ℕ → List ℕ
unknown_line entry = codes "unknown entry: " ++ entry

-- a stop of the tokens, unless memory fails
abbrev pub lex_refusal : LexStop → Option Refusal
lex_refusal (lex.BadByte at place) = Some (Stopped layer.Lex 1 place)
lex_refusal (lex.BadToken at place) = Some (Stopped layer.Lex 2 place)
lex_refusal (lex.LiteralTooWide at place) = Some (Stopped layer.Lex 3 place)
lex_refusal lex.Memory = None

-- the place of a token, and at the end of the list that of the last one
abbrev pub place_or : Option Token → Place
place_or (Some t) = t.place
place_or None = record { name_at = 0; name_len = 0; line = 1 }

abbrev pub place_of : List Token → ℕ → Place
place_of tokens at = place_or (slice_get tokens (min at (length tokens - 1)))

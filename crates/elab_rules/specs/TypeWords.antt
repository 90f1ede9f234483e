-- The type specifiers of one word, in any order (C11 6.7.2p2).
use Rattle.std.specs.Prelude.{Bool, true, not, ◌||◌, ◌&&◌, if◌then◌else◌, Option, Some, None}
use Rattle.c_types.specs.declared.types.IntKind.{IntKind}
use Rattle.c_types.specs.declared.types.IntKind.TheVariants as kind
use Rattle.elab_environment.specs.declared.lexeme.Word.{Word}
use Rattle.elab_environment.specs.declared.lexeme.Word.TheVariants as word
use Rattle.elab_types.specs.declared.types.SourceType.{SourceType}
use Rattle.elab_types.specs.declared.types.SourceType.TheVariants as source
use Rattle.elab_types.specs.Qualified.{no_qualifiers}
use Rattle.elab_rules.specs.declared.gathered.TypeWords.{TypeWords}

-- one word more; `long` may stand twice
abbrev pub with_word : Word → TypeWords → TypeWords
with_word word.Void w = record w { is_any = true; is_repeated = w.is_repeated || w.is_void; is_void = true }
with_word word.Bool w = record w { is_any = true; is_repeated = w.is_repeated || w.is_bool; is_bool = true }
with_word word.Char w = record w { is_any = true; is_repeated = w.is_repeated || w.is_char; is_char = true }
with_word word.Short w = record w { is_any = true; is_repeated = w.is_repeated || w.is_short; is_short = true }
with_word word.Int w = record w { is_any = true; is_repeated = w.is_repeated || w.is_int; is_int = true }
with_word word.Long w = record w { is_any = true; is_repeated = w.is_repeated || w.is_long_long; is_long_long = w.is_long; is_long = true }
with_word word.Signed w = record w { is_any = true; is_repeated = w.is_repeated || w.is_signed; is_signed = true }
with_word word.Unsigned w = record w { is_any = true; is_repeated = w.is_repeated || w.is_unsigned; is_unsigned = true }
with_word word.Float w = record w { is_any = true; is_repeated = w.is_repeated || w.is_float; is_float = true }
with_word word.Double w = record w { is_any = true; is_repeated = w.is_repeated || w.is_double; is_double = true }
with_word word.Complex w = record w { is_any = true; is_repeated = w.is_repeated || w.is_complex; is_complex = true }
with_word _ w = w

abbrev pub has_sign : TypeWords → Bool
has_sign w = w.is_signed || w.is_unsigned

abbrev pub has_size : TypeWords → Bool
has_size w = w.is_char || (w.is_short || w.is_long)

abbrev pub is_integer : TypeWords → Bool
is_integer w = has_sign w || (has_size w || w.is_int)

abbrev pub is_floating : TypeWords → Bool
is_floating w = w.is_float || (w.is_double || w.is_complex)

-- of the integer types: `char` stands with a sign alone, `short` with a sign and `int`, `long` with these, once or twice
abbrev pub kind_of : TypeWords → Option IntKind
kind_of w =
    if w.is_signed && w.is_unsigned then None
    else (if w.is_char then (if w.is_short || (w.is_long || w.is_int) then None
    else (if w.is_signed then Some kind.SChar else (if w.is_unsigned then Some kind.UChar else Some kind.Char)))
    else (if w.is_short then (if w.is_long then None else (if w.is_unsigned then Some kind.UShort else Some kind.Short))
    else (if w.is_long_long then Some (if w.is_unsigned then kind.ULongLong else kind.LongLong)
    else (if w.is_long then Some (if w.is_unsigned then kind.ULong else kind.Long)
    else (if w.is_unsigned then Some kind.UInt else Some kind.Int)))))

abbrev pub integer_by : Option IntKind → Option SourceType
integer_by (Some k) = Some (source.Int k no_qualifiers)
integer_by None = None

abbrev pub integer_of : TypeWords → Option SourceType
integer_of w = integer_by (kind_of w)

-- `float`, `double` and `long double`, each with `_Complex` or without
abbrev pub floating_of : TypeWords → Option SourceType
floating_of w =
    if ((w.is_float && not (w.is_double || w.is_long)) || (w.is_double && not w.is_float))
    && not (w.is_long_long || (has_sign w || (w.is_char || (w.is_short || w.is_int))))
    then Some (source.Floating no_qualifiers) else None

abbrev pub type_of : TypeWords → Option SourceType
type_of w =
    if w.is_repeated then None
    else (if w.is_void then (if w.is_bool || (is_integer w || is_floating w) then None else Some (source.Void no_qualifiers))
    else (if w.is_bool then (if is_integer w || is_floating w then None else Some (source.Int kind.Bool no_qualifiers))
    else (if is_floating w then floating_of w
    else (if is_integer w then integer_of w else None))))

-- Tests of one sign, by which the rules tell what comes next.
use Rattle.std.specs.Prelude.{Bool, true, false}
use denote.Enum.Bare.{sameb}
use Rattle.c_input.specs.contracts.word.Sign.{the_type}
use Rattle.c_input.specs.declared.word.Sign.TheVariants as sign
use Rattle.c_input.specs.Input.{Sign}

-- whether a sign is the one that is wanted
abbrev pub is : Sign → Sign → Bool
is wanted q = sameb the_type q wanted

abbrev pub is_comma : Sign → Bool
is_comma = is sign.Comma

abbrev pub is_semicolon : Sign → Bool
is_semicolon = is sign.Semicolon

abbrev pub is_close_brace : Sign → Bool
is_close_brace = is sign.CloseBrace

abbrev pub is_no_close_brace : Sign → Bool
is_no_close_brace sign.CloseBrace = false
is_no_close_brace _ = true

abbrev pub is_open_paren : Sign → Bool
is_open_paren = is sign.OpenParen

abbrev pub is_close_paren : Sign → Bool
is_close_paren = is sign.CloseParen

abbrev pub is_close_bracket : Sign → Bool
is_close_bracket = is sign.CloseBracket

abbrev pub is_colon : Sign → Bool
is_colon = is sign.Colon

abbrev pub is_while : Sign → Bool
is_while = is sign.While

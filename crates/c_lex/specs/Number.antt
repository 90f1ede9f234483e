-- Preprocessing numbers (C11 6.4.8), integer constants (6.4.4.1) and floating constants (6.4.4.2).
use Rattle.std.specs.Prelude.{ℕ, suc, ◌+◌, ◌-◌, ◌*◌, Bool, not, ◌&&◌, ◌||◌, if◌then◌else◌, ◌==◌, nat_lt, nat_le, [], ◌∷◌, take, drop, fold, slice_index}
use Rattle.std.specs.Char.{is_ascii_digit}
use Rattle.c_lex.specs.Bytes.{Text, is_in, past}
use Rattle.c_lex.specs.Vocabulary.{is_among, suffixes, float_suffixes}
use Rattle.c_lex.specs.declared.class.Class.TheVariants as class
use Rattle.c_lex.specs.declared.class.Class.{Class}

-- ---- digits

abbrev pub digit_of : ℕ → ℕ
digit_of b = if nat_le 97 b then b - 87 else (if nat_le 65 b then b - 55 else b - 48)

-- the number that digits write in a base
unfoldable pub value_of : ℕ → Text → ℕ
value_of base digits = fold (λ n b. n * base + digit_of b) 0 digits

-- ---- preprocessing numbers

abbrev pub begins_number : Text → Bool
begins_number z = is_ascii_digit (slice_index z 0) || (slice_index z 0 == 46 && is_ascii_digit (slice_index z 1))

abbrev pub is_exponent : ℕ → Bool
is_exponent b = b == 101 || b == 69 || b == 112 || b == 80

-- a letter, digit, `_` or `.` goes on with a number, and so does a sign behind `e`, `E`, `p` or `P`
abbrev pub goes_on : ℕ → ℕ → Bool
goes_on last b = is_in class.Word b || b == 46 || (is_exponent last && (b == 43 || b == 45))

abbrev pub goes_on_from : ℕ → Text → ℕ
goes_on_from last [] = 0
goes_on_from last (b ∷ z) = if goes_on last b then suc (goes_on_from b z) else 0

-- the length of the number at the front
unfoldable pub number_len : Text → ℕ
number_len z = 1 + goes_on_from (slice_index z 0) (drop 1 z)

-- ---- integer constants

abbrev pub is_hexadecimal : Text → Bool
is_hexadecimal w = slice_index w 0 == 48 && (slice_index w 1 == 120 || slice_index w 1 == 88)

abbrev pub digits : Text → Class
digits w = if is_hexadecimal w then class.Hexadecimal else (if slice_index w 0 == 48 then class.Octal else class.Decimal)

abbrev pub base : Class → ℕ
base class.Hexadecimal = 16
base class.Octal = 8
base _ = 10

abbrev pub digits_at : Text → ℕ
digits_at w = if is_hexadecimal w then 2 else 0

unfoldable pub digits_end : Text → ℕ
digits_end w = past (digits w) w (digits_at w)

-- digits and one of the suffixes behind them
unfoldable pub is_integer : Text → Bool
is_integer w = nat_lt (digits_at w) (digits_end w) && is_among suffixes (drop (digits_end w) w)

unfoldable pub integer_value : Text → ℕ
integer_value w = value_of (base (digits w)) (drop (digits_at w) (take (digits_end w) w))

-- ---- floating constants

abbrev pub float_digits : Text → Class
float_digits w = if is_hexadecimal w then class.Hexadecimal else class.Decimal

-- where the digits before the point end
unfoldable pub whole_end : Text → ℕ
whole_end w = past (float_digits w) w (digits_at w)

abbrev pub has_point : Text → Bool
has_point w = slice_index w (whole_end w) == 46

-- where the digits end
unfoldable pub fraction_end : Text → ℕ
fraction_end w = if has_point w then past (float_digits w) w (whole_end w + 1) else whole_end w

-- `e` or `E` in a decimal one, `p` or `P` in a hexadecimal one
abbrev pub begins_exponent : Text → Bool
begins_exponent w =
    let b = slice_index w (fraction_end w) in
    if is_hexadecimal w then b == 112 || b == 80 else b == 101 || b == 69

abbrev pub is_sign : ℕ → Bool
is_sign b = b == 43 || b == 45

-- where the digits of the exponent begin, and end
abbrev pub exponent_at : Text → ℕ
exponent_at w = if is_sign (slice_index w (fraction_end w + 1)) then fraction_end w + 2 else fraction_end w + 1

unfoldable pub exponent_end : Text → ℕ
exponent_end w = past class.Decimal w (exponent_at w)

-- some digit, a point or an exponent (in a hexadecimal one an exponent), and one of the suffixes
unfoldable pub is_floating : Text → Bool
is_floating w =
    let some = nat_lt (digits_at w) (whole_end w) || nat_lt (whole_end w + 1) (fraction_end w) in
    if begins_exponent w
    then some && nat_lt (exponent_at w) (exponent_end w) && is_among float_suffixes (drop (exponent_end w) w)
    else some && has_point w && not (is_hexadecimal w) && is_among float_suffixes (drop (fraction_end w) w)

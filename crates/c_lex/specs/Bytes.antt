-- The bytes of a source file by classes (C11 5.2.1, 6.4), and how far a class goes. A text reads as 0 past its end.
use Rattle.std.specs.Prelude.{ℕ, zero, suc, ◌+◌, ◌-◌, Bool, not, ◌&&◌, ◌||◌, if◌then◌else◌, ◌==◌, nat_le, List, [], ◌∷◌, drop, fold, count_by}
use Rattle.std.specs.Char.{is_ascii_digit, is_ascii_hexdigit, is_ascii_alphabetic, is_ascii_alphanumeric}
use Rattle.std.specs.List.{prefix_len}
use Rattle.c_lex.specs.declared.class.Class.{Class}
use Rattle.c_lex.specs.declared.class.Class.TheVariants as class

abbrev pub Text : Type 0
Text = List ℕ

-- white space: the bytes 9 to 13 and the blank
abbrev pub is_blank : ℕ → Bool
is_blank b = b == 32 || (nat_le 9 b && nat_le b 13)

-- what may stand in a file outside comments, literals and line markers: white space and printed ASCII
abbrev pub is_plain : ℕ → Bool
is_plain b = is_blank b || (nat_le 32 b && nat_le b 126)

abbrev pub is_letter : ℕ → Bool
is_letter b = is_ascii_alphabetic b || b == 95

abbrev pub is_in : Class → ℕ → Bool
is_in class.Gap b = is_blank b && not (b == 10)
is_in class.Flags b = (is_blank b && not (b == 10)) || is_ascii_digit b
is_in class.Octal b = nat_le 48 b && nat_le b 55
is_in class.Decimal b = is_ascii_digit b
is_in class.Hexadecimal b = is_ascii_hexdigit b
is_in class.Word b = is_ascii_alphanumeric b || b == 95
is_in class.Line b = not (b == 10)
is_in class.Plain b = is_plain b
is_in class.Inner b = is_plain b || nat_le 128 b

-- the first place from `at` on whose byte isn't of the class
abbrev pub past : Class → Text → ℕ → ℕ
past c z at = at + prefix_len (is_in c) (drop at z)

-- How far equal parts go, one behind the other: `part` measures the one at the front, 0 where none begins. The first
-- number counts the bytes that are left of a part.
abbrev pub run_from : (Text → ℕ) → ℕ → Text → ℕ
run_from part left [] = 0
run_from part (suc left) (b ∷ z) = suc (run_from part left z)
run_from part zero (b ∷ z) = if part (b ∷ z) == 0 then 0 else suc (run_from part (part (b ∷ z) - 1) z)

unfoldable pub run : (Text → ℕ) → Text → ℕ
run part z = run_from part 0 z

-- whether only white space stands before the end of a text in its line, where `fresh` says so of what stands before it
unfoldable pub fresh_past : Bool → Text → Bool
fresh_past fresh z = fold (λ f b. b == 10 || (f && is_blank b)) fresh z

-- how many lines end in a text
unfoldable pub lines_in : Text → ℕ
lines_in z = count_by (λ b. b == 10) z

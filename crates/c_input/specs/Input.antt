-- What a parser reads from, and what it sees of a word.
use Rattle.std.specs.Prelude.{ℕ, suc, Bool, true, false, Option, Some, None}
pub use Rattle.c_input.specs.declared.word.Sign.{Sign}
pub use Rattle.c_input.specs.declared.word.Word.{Word}
pub use Rattle.c_input.specs.declared.word.Place.{Place as State}
use Rattle.c_input.specs.declared.word.Sign.TheVariants as sign
pub use Rattle.c_input.specs.Scope.{Names, is_type, oldest}

-- the word at each place, and none past the last
abbrev pub Words : Type 0
Words = ℕ → Option Word

abbrev pub step : State → State
step s = record { at = suc s.at; names = s.names }

-- a name is a typedef name where the names in scope say so (6.7.8)
abbrev pub sign_of_name : Bool → Sign
sign_of_name true = sign.TypeName
sign_of_name false = sign.Name

abbrev pub sign_of : Names → ℕ → Sign → Sign
sign_of names n sign.Name = sign_of_name (is_type names n)
sign_of names n q = q

abbrev pub sign_at : Names → Option Word → Sign
sign_at names None = sign.Eof
sign_at names (Some w) = sign_of names w.name w.sign

unfoldable pub look_at : Words → State → Sign
look_at W s = sign_at s.names (W s.at)

abbrev pub name_in : Option Word → ℕ
name_in None = 0
name_in (Some w) = w.name

-- The levels of precedence of 6.5: 1 expression, 2 assignment, 3 conditional, 4 to 13 binary operators, 14 cast, 15 unary,
-- 16 postfix and primary.

-- the level of the production that the word continues, 0 where it continues none
abbrev pub binds : Sign → ℕ
binds sign.Comma = 1
binds sign.Equal = 2
binds sign.AssignOp = 2
binds sign.Question = 3
binds sign.OrOr = 4
binds sign.AndAnd = 5
binds sign.Bar = 6
binds sign.Caret = 7
binds sign.Amp = 8
binds sign.Equality = 9
binds sign.Relational = 10
binds sign.Shift = 11
binds sign.Additive = 12
binds sign.Star = 13
binds sign.Multiplicative = 13
binds sign.OpenParen = 16
binds sign.OpenBracket = 16
binds sign.Dot = 16
binds sign.Arrow = 16
binds sign.Increment = 16
binds sign.Decrement = 16
binds _ = 0

-- the level that it wants of what stands before it
abbrev pub wants : Sign → ℕ
wants sign.Equal = 15
wants sign.AssignOp = 15
wants sign.Question = 4
wants q = binds q

-- the first word of an expression
abbrev pub begins_expression : Sign → Bool
begins_expression sign.Name = true
begins_expression sign.Int = true
begins_expression sign.Float = true
begins_expression sign.Char = true
begins_expression sign.Str = true
begins_expression sign.OpenParen = true
begins_expression sign.Increment = true
begins_expression sign.Decrement = true
begins_expression sign.Amp = true
begins_expression sign.Star = true
begins_expression sign.Additive = true
begins_expression sign.Complement = true
begins_expression sign.Sizeof = true
begins_expression _ = false

-- a word of a list of specifiers and qualifiers (6.7.2.1); a type specifier of its own is wanted where none stands before
abbrev pub qualifies : Bool → Sign → Bool
qualifies typed sign.Qualifier = true
qualifies typed sign.TypeWord = true
qualifies typed sign.Struct = true
qualifies typed sign.Union = true
qualifies typed sign.Enum = true
qualifies false sign.TypeName = true
qualifies typed _ = false

-- a word of a list of declaration specifiers (6.7)
abbrev pub specifies : Bool → Sign → Bool
specifies typed sign.Storage = true
specifies typed sign.Static = true
specifies typed sign.Typedef = true
specifies typed q = qualifies typed q

abbrev pub is_name : Sign → Bool
is_name sign.Name = true
is_name sign.TypeName = true
is_name _ = false

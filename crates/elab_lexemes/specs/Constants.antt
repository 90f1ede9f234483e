-- Integer constants with their types, and character constants (C11 6.4.4).
use Rattle.std.specs.Prelude.{ℕ, ℤ, pos, int_le, if◌then◌else◌, List, [], ◌∷◌, Option, Some, None}
use Rattle.c_lex.specs.declared.constant.IntConstant.{IntConstant}
use Rattle.c_lex.specs.declared.constant.Longs.{Longs}
use Rattle.c_lex.specs.declared.constant.Longs.TheVariants.{Zero, One, Two}
use Rattle.c_types.specs.declared.types.IntKind.{IntKind}
use Rattle.c_types.specs.declared.types.IntKind.TheVariants as kind
use Rattle.c_types.specs.Integers.{greatest}
use Rattle.elab_environment.specs.declared.lexeme.Lexeme.{Lexeme}
use Rattle.elab_environment.specs.declared.lexeme.Lexeme.TheVariants as lexeme

-- 6.4.4.1p5, the columns of the table: decimal constants, and octal and hexadecimal ones
abbrev pub decimal_kinds : Longs → List IntKind
decimal_kinds Zero = kind.Int ∷ kind.Long ∷ kind.LongLong ∷ []
decimal_kinds One = kind.Long ∷ kind.LongLong ∷ []
decimal_kinds Two = kind.LongLong ∷ []

abbrev pub other_kinds : Longs → List IntKind
other_kinds Zero = kind.Int ∷ kind.UInt ∷ kind.Long ∷ kind.ULong ∷ kind.LongLong ∷ kind.ULongLong ∷ []
other_kinds One = kind.Long ∷ kind.ULong ∷ kind.LongLong ∷ kind.ULongLong ∷ []
other_kinds Two = kind.LongLong ∷ kind.ULongLong ∷ []

-- with a suffix `u` they are the same
abbrev pub unsigned_kinds : Longs → List IntKind
unsigned_kinds Zero = kind.UInt ∷ kind.ULong ∷ kind.ULongLong ∷ []
unsigned_kinds One = kind.ULong ∷ kind.ULongLong ∷ []
unsigned_kinds Two = kind.ULongLong ∷ []

abbrev pub kinds_of : IntConstant → List IntKind
kinds_of c = if c.unsigned then unsigned_kinds c.longs else (if c.decimal then decimal_kinds c.longs else other_kinds c.longs)

-- the first that holds the value; past the end of the list `unsigned long`
abbrev pub first_holding : List IntKind → ℕ → IntKind
first_holding [] v = kind.ULong
first_holding (k ∷ ks) v = if int_le (pos v) (greatest k) then k else first_holding ks v

abbrev pub int_kind : IntConstant → IntKind
int_kind c = first_holding (kinds_of c) c.value

abbrev pub int_lexeme : Option IntConstant → Lexeme
int_lexeme (Some c) = lexeme.Int (int_kind c) c.value
int_lexeme None = lexeme.Other

abbrev pub char_lexeme : Option ℤ → Lexeme
char_lexeme (Some v) = lexeme.Char v
char_lexeme None = lexeme.Other

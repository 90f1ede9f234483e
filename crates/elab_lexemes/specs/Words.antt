-- The words and operators of C11 that elaboration reads (6.4.1, 6.4.6).
use Rattle.std.specs.Prelude.{if◌then◌else◌, List, [], ◌∷◌, bytes_eq, codes}
use Rattle.c_lex.specs.Bytes.{Text}
use Rattle.elab_environment.specs.declared.lexeme.Lexeme.{Lexeme}
use Rattle.elab_environment.specs.declared.lexeme.Lexeme.TheVariants as lexeme
use Rattle.elab_environment.specs.declared.lexeme.Word.TheVariants as word
use Rattle.elab_environment.specs.declared.lexeme.Operator.TheVariants as operator

abbrev pub Entry : Type 0
Entry = Text × Lexeme

-- what a text stands for in a table, `Other` where it isn't there
abbrev pub lexeme_in : List Entry → Text → Lexeme
lexeme_in [] text = lexeme.Other
lexeme_in (x ∷ xs) text = if bytes_eq x.0 text then x.1 else lexeme_in xs text

abbrev pub word_lexemes : List Entry
word_lexemes =
    (codes "typedef", lexeme.Word word.Typedef) ∷ (codes "extern", lexeme.Word word.Extern) ∷ (codes "static", lexeme.Word word.Static) ∷
    (codes "auto", lexeme.Word word.Auto) ∷ (codes "register", lexeme.Word word.Register) ∷ (codes "inline", lexeme.Word word.Inline) ∷
    (codes "_Noreturn", lexeme.Word word.Noreturn) ∷ (codes "const", lexeme.Word word.Const) ∷ (codes "__const", lexeme.Word word.Const) ∷
    (codes "volatile", lexeme.Word word.Volatile) ∷ (codes "__volatile__", lexeme.Word word.Volatile) ∷ (codes "__volatile", lexeme.Word word.Volatile) ∷
    (codes "restrict", lexeme.Word word.Restrict) ∷ (codes "void", lexeme.Word word.Void) ∷ (codes "char", lexeme.Word word.Char) ∷
    (codes "short", lexeme.Word word.Short) ∷ (codes "int", lexeme.Word word.Int) ∷ (codes "long", lexeme.Word word.Long) ∷
    (codes "float", lexeme.Word word.Float) ∷ (codes "double", lexeme.Word word.Double) ∷ (codes "signed", lexeme.Word word.Signed) ∷
    (codes "__signed__", lexeme.Word word.Signed) ∷ (codes "unsigned", lexeme.Word word.Unsigned) ∷ (codes "_Bool", lexeme.Word word.Bool) ∷
    (codes "_Complex", lexeme.Word word.Complex) ∷ (codes "struct", lexeme.Word word.Struct) ∷ (codes "union", lexeme.Word word.Union) ∷ []

abbrev pub operator_lexemes : List Entry
operator_lexemes =
    (codes "*", lexeme.Operator operator.Star) ∷ (codes "/", lexeme.Operator operator.Slash) ∷ (codes "%", lexeme.Operator operator.Percent) ∷
    (codes "+", lexeme.Operator operator.Plus) ∷ (codes "-", lexeme.Operator operator.Minus) ∷ (codes "<<", lexeme.Operator operator.ShiftLeft) ∷
    (codes ">>", lexeme.Operator operator.ShiftRight) ∷ (codes "<", lexeme.Operator operator.Less) ∷ (codes "<=", lexeme.Operator operator.LessOrEqual) ∷
    (codes ">", lexeme.Operator operator.Greater) ∷ (codes ">=", lexeme.Operator operator.GreaterOrEqual) ∷ (codes "==", lexeme.Operator operator.Equal) ∷
    (codes "!=", lexeme.Operator operator.NotEqual) ∷ (codes "&", lexeme.Operator operator.Ampersand) ∷ (codes "^", lexeme.Operator operator.Caret) ∷
    (codes "|", lexeme.Operator operator.Bar) ∷ (codes "&&", lexeme.Operator operator.And) ∷ (codes "||", lexeme.Operator operator.Or) ∷
    (codes "!", lexeme.Operator operator.Not) ∷ (codes "~", lexeme.Operator operator.Tilde) ∷ (codes "++", lexeme.Operator operator.Increment) ∷
    (codes "--", lexeme.Operator operator.Decrement) ∷ (codes "=", lexeme.Assign) ∷ (codes "*=", lexeme.Compound operator.Star) ∷
    (codes "/=", lexeme.Compound operator.Slash) ∷ (codes "%=", lexeme.Compound operator.Percent) ∷ (codes "+=", lexeme.Compound operator.Plus) ∷
    (codes "-=", lexeme.Compound operator.Minus) ∷ (codes "<<=", lexeme.Compound operator.ShiftLeft) ∷ (codes ">>=", lexeme.Compound operator.ShiftRight) ∷
    (codes "&=", lexeme.Compound operator.Ampersand) ∷ (codes "^=", lexeme.Compound operator.Caret) ∷ (codes "|=", lexeme.Compound operator.Bar) ∷ []

-- The parsers of the nodes that hold one another, one level of room below. Each rule of the grammar takes them as `sub`.
use Rattle.std.specs.Prelude.{ℕ, Bool}
use Rattle.c_expressions.specs.declared.grown.Grown.{Grown}
use Rattle.c_expressions.specs.declared.grown.Declares.{Declares}
use Rattle.c_expressions.specs.declared.grown.Mode.{Mode}
use Rattle.c_tree.specs.declared.tree.MemberLine.{MemberLine}
use Rattle.c_input.specs.declared.measured.Measured.{Measured}
use Rattle.c_input.specs.Parser.{Parser}

pub record Nest : Type 0 where
  -- an expression of a level of precedence
  pub expr : ℕ → Parser Grown
  -- a unary expression whose first word, the bracket at the place, was taken, and no type name stands behind it
  pub opened : ℕ → Parser Grown
  -- an expression whose first word, the name at the place, was taken
  pub named : ℕ → Parser Grown
  -- a length that begins with `*`; whether that may be a length of its own, which is left out (6.7.6.2)
  pub starred : Bool → Parser Grown
  pub declarator : Mode → Parser Declares
  pub line : Parser (Measured MemberLine)

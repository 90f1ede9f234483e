-- The levels of nodes that hold one another, tied together.
use Rattle.std.specs.Prelude.{ℕ, zero, suc}
use Rattle.c_input.specs.Input.{Words}
use Rattle.c_grammar.specs.Below.{Below}
use Rattle.c_grammar.specs.SpecifierTrees.{LineIs}
use Rattle.c_grammar.specs.DeclaratorTrees.{DeclaratorIs}
use Rattle.c_grammar.specs.ExpressionTrees.{ExpressionIs}

-- trees of so many levels
abbrev pub Within : ℕ → Words → ℕ → Below
Within horizon W zero = record {
  expr = λ room l e s t. ⊥;
  declarator = λ room m d s t. ⊥;
  line = λ room x s t. ⊥;
}
Within horizon W (suc n) = record {
  expr = ExpressionIs horizon W (Within horizon W n);
  declarator = DeclaratorIs horizon W (Within horizon W n);
  line = LineIs horizon W (Within horizon W n);
}

-- trees of any number of levels
abbrev pub Derived : ℕ → Words → Below
Derived horizon W = record {
  expr = λ room l e s t. (n : ℕ) × (Within horizon W n).expr room l e s t;
  declarator = λ room m d s t. (n : ℕ) × (Within horizon W n).declarator room m d s t;
  line = λ room x s t. (n : ℕ) × (Within horizon W n).line room x s t;
}

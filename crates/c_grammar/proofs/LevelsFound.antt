-- Each tree of any number of levels is read, or a stop for depth behind the horizon comes first.
use Rattle.std.proofs.Common.{ℕ, zero, suc}
use Rattle.c_input.specs.Input.{Words}
use Rattle.c_grammar.specs.LevelTrees.{Within, Derived}
use Rattle.c_grammar.proofs.SpecifierTreesRead.{Ends}
use Rattle.c_grammar.proofs.ExpressionsFound.{expression_found}
use Rattle.c_grammar.proofs.NodesFound.{FoundBelow}
use Rattle.c_grammar.proofs.MembersFound.{line_found}
use Rattle.c_grammar.proofs.ParametersFound.{type_name_found}
use Rattle.c_grammar.proofs.DeclaratorsFound.{declarator_found}

module _ (horizon : ℕ) (W : Words) (ends : Ends W) where
  within_found : (n : ℕ) → FoundBelow horizon W (Within horizon W n)
  within_found zero = record { expr = λ r l e s t d. absurd d; declarator = λ r m x s t d. absurd d; line = λ r x s t d. absurd d }
  within_found (suc n) =
      let below = within_found n in
      record {
        expr = expression_found horizon W (Within horizon W n) below.expr (type_name_found horizon W (Within horizon W n) below ends) ends;
        declarator = declarator_found horizon W (Within horizon W n) below ends;
        line = line_found horizon W (Within horizon W n) below ends;
      }

  pub all_found : FoundBelow horizon W (Derived horizon W)
  all_found = record {
    expr = λ r l e s t d. (within_found d.0).expr r l e s t d.1;
    declarator = λ r m x s t d. (within_found d.0).declarator r m x s t d.1;
    line = λ r x s t d. (within_found d.0).line r x s t d.1;
  }

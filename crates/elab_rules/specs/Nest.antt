-- The rules that hold one another, one level of nesting below.
use Rattle.std.specs.Prelude.{ℕ, Bool, List}
use Rattle.c_tree.specs.declared.tree.Spec.{Spec}
use Rattle.c_tree.specs.declared.tree.Declarator.{Declarator}
use Rattle.c_tree.specs.declared.tree.Ex.{Ex}
use Rattle.c_tree.specs.declared.tree.Param.{Param}
use Rattle.elab_types.specs.declared.types.SourceType.{SourceType}
use Rattle.elab_environment.specs.declared.constant.Constant.{Constant}
use Rattle.elab_environment.specs.Elaborating.{Elaborating}
use Rattle.elab_rules.specs.declared.operand.Operand.{Operand}
use Rattle.elab_rules.specs.declared.types.Specified.{Specified}
use Rattle.elab_rules.specs.declared.types.Declared.{Declared}
use Rattle.elab_rules.specs.declared.types.Nearest.{Nearest}
use Rattle.elab_rules.specs.declared.types.Where.{Where}

pub record Nest : Type 0 where
  -- an expression
  pub ex : Ex → Elaborating Operand
  -- an integer constant expression
  pub constant : Ex → Elaborating Constant
  -- a type name
  pub type_name : Param → Elaborating SourceType
  -- a list of specifiers; whether it is a whole declaration of one tag, and the declaration's first token
  pub specifiers : Bool → ℕ → List Spec → Elaborating Specified
  -- a declarator of a type derived so far, with the derivation nearest to it
  pub declarator : Where → SourceType → Nearest → Declarator → Elaborating Declared

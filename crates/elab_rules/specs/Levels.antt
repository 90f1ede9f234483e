-- The rules at each level of nesting, tied together. A level's rules ask those below it alone, so that no file asks a rule of
-- level 0 where the topmost level is above its depth.
use Rattle.std.specs.Prelude.{ℕ, zero, suc, ◌≤◌, false, None, Result}
use Rattle.std.specs.declared.alloc.Global.{Global}
use Rattle.std.specs.declared.alloc.AllocError.{AllocError}
use denote.Ref.{Bor, MutBor}
use Rattle.c_tree.specs.declared.tree.Ex.{Ex}
use Rattle.elab_types.specs.declared.types.SourceType.TheVariants as source
use Rattle.elab_environment.specs.declared.constant.Constant.{Constant}
use Rattle.elab_environment.specs.declared.constant.Constant.TheVariants as constant
use Rattle.elab_environment.specs.declared.state.Environment.{Environment}
use Rattle.elab_environment.specs.Elaborating.{Elaborating, ◌>>=◌, pure, Gives}
use Rattle.elab_rules.specs.declared.operand.Operand.{Operand}
use Rattle.elab_rules.specs.declared.types.Specified.{Specified}
use Rattle.elab_rules.specs.declared.types.Declared.{Declared}
use Rattle.elab_rules.specs.declared.types.Nearest.TheVariants as nearest
use Rattle.elab_rules.specs.Nest.{Nest}
use Rattle.elab_rules.specs.Operands.{faulty}
use Rattle.elab_rules.specs.Conversions.{value}
use Rattle.elab_rules.specs.Constants.{constant_value}
use Rattle.elab_rules.specs.Lists.{specifiers}
use Rattle.elab_rules.specs.Forms.{declarator, type_name}
use Rattle.elab_rules.specs.Expressions.{expression}

-- 6.6: what a value is where an integer constant is wanted
abbrev pub constant_of : Operand → Elaborating Constant
constant_of x = value x >>= (λ v. pure (constant_value v))

abbrev pub nothing_declared : Declared
nothing_declared = record { ty = source.Faulty; name = None; nearest = nearest.Other }

abbrev pub nothing_specified : Specified
nothing_specified = record { storage = None; is_inline = false; is_function = false; ty = source.Faulty }

abbrev pub nothing : Nest
nothing = record {
  ex = λ e. pure faulty;
  type_name = λ p. pure source.Faulty;
  constant = λ e. pure constant.Faulty;
  specifiers = λ alone at specs. pure nothing_specified;
  declarator = λ w t n d. pure nothing_declared;
}

abbrev pub one_level : Nest → Nest
one_level sub = record {
  ex = expression sub;
  type_name = type_name sub;
  constant = λ e. expression sub e >>= constant_of;
  specifiers = specifiers sub;
  declarator = declarator sub;
}

unfoldable pub nest : ℕ → Nest
nest zero = nothing
nest (suc n) = one_level (nest n)

-- a function value that elaborates constants at every level up to the room
pub record Nests (room : ℕ) (pre : Global → MutBor Environment → ℕ → Bor Ex → Type 0)
    (post : Global → MutBor Environment → ℕ → Bor Ex → Result Constant AllocError → MutBor Environment → Type 0) : Type 0 where
  pub callable : (alloc : Global) (old : MutBor Environment) (r : ℕ) (e : Bor Ex) → r ≤ room → pre alloc old r e
  pub gives : (alloc : Global) (old new : MutBor Environment) (r : ℕ) (e : Bor Ex) (out : Result Constant AllocError) → post alloc old r e out new
      → Gives ((nest r).constant e.now old.now) out new.now

-- Function values that elaborate constants, lists of specifiers and declarators one level of nesting below.
use Rattle.std.specs.Prelude.{ℕ, Bool, List, Result}
use Rattle.std.specs.declared.alloc.Global.{Global}
use Rattle.std.specs.declared.alloc.AllocError.{AllocError}
use denote.Ref.{Bor, MutBor}
use Rattle.c_tree.specs.declared.tree.Ex.{Ex}
use Rattle.c_tree.specs.declared.tree.Spec.{Spec}
use Rattle.c_tree.specs.declared.tree.Declarator.{Declarator}
use Rattle.elab_types.specs.declared.types.SourceType.{SourceType}
use Rattle.elab_environment.specs.declared.constant.Constant.{Constant}
use Rattle.elab_environment.specs.declared.state.Environment.{Environment}
use Rattle.elab_environment.specs.Elaborating.{Gives}
use Rattle.elab_rules.specs.declared.types.Specified.{Specified}
use Rattle.elab_rules.specs.declared.types.Declared.{Declared}
use Rattle.elab_rules.specs.declared.types.Nearest.{Nearest}
use Rattle.elab_rules.specs.declared.types.Where.{Where}
use Rattle.elab_rules.specs.Levels.{nest}

pub record Constants (room : ℕ) (pre : Global → MutBor Environment → ℕ → Bor Ex → Type 0)
    (post : Global → MutBor Environment → ℕ → Bor Ex → Result Constant AllocError → MutBor Environment → Type 0) : Type 0 where
  pub callable : (alloc : Global) (old : MutBor Environment) (e : Bor Ex) → pre alloc old room e
  pub gives : (alloc : Global) (old new : MutBor Environment) (e : Bor Ex) (out : Result Constant AllocError) → post alloc old room e out new
      → Gives ((nest room).constant e.now old.now) out new.now

pub record Lists (room : ℕ) (pre : Global → MutBor Environment → ℕ → Bool → ℕ → Bor (List Spec) → Type 0)
    (post : Global → MutBor Environment → ℕ → Bool → ℕ → Bor (List Spec) → Result Specified AllocError → MutBor Environment → Type 0) : Type 0 where
  pub callable : (alloc : Global) (old : MutBor Environment) (alone : Bool) (at : ℕ) (specs : Bor (List Spec)) → pre alloc old room alone at specs
  pub gives : (alloc : Global) (old new : MutBor Environment) (alone : Bool) (at : ℕ) (specs : Bor (List Spec)) (out : Result Specified AllocError)
      → post alloc old room alone at specs out new → Gives ((nest room).specifiers alone at specs.now old.now) out new.now

pub record Declarators (room : ℕ) (pre : Global → MutBor Environment → ℕ → Where → SourceType → Nearest → Bor Declarator → Type 0)
    (post : Global → MutBor Environment → ℕ → Where → SourceType → Nearest → Bor Declarator → Result Declared AllocError → MutBor Environment → Type 0) : Type 0 where
  pub callable : (alloc : Global) (old : MutBor Environment) (w : Where) (t : SourceType) (n : Nearest) (d : Bor Declarator) → pre alloc old room w t n d
  pub gives : (alloc : Global) (old new : MutBor Environment) (w : Where) (t : SourceType) (n : Nearest) (d : Bor Declarator) (out : Result Declared AllocError)
      → post alloc old room w t n d out new → Gives ((nest room).declarator w t n d.now old.now) out new.now

-- Objects, and identifiers without linkage (C11 6.2.2p6, 6.7p3).
use Rattle.std.specs.Prelude.{ℕ, [], ◌∷◌, ◌++◌, length, Option, Some, None, is_some, if◌then◌else◌}
use Rattle.elab_findings.specs.declared.fault.Rule.TheVariants.{Redefined}
use Rattle.elab_findings.specs.Uses.{naming}
use Rattle.elab_types.specs.declared.types.SourceType.{SourceType}
use Rattle.elab_types.specs.declared.compatible.Likeness.TheVariants.{Same}
use Rattle.elab_types.specs.Compatible.{alike}
use Rattle.elab_environment.specs.declared.state.Entity.{Entity}
use Rattle.elab_environment.specs.declared.state.Entity.TheVariants as entity
use Rattle.elab_environment.specs.declared.state.Named.{Named}
use Rattle.elab_environment.specs.declared.state.Object.{Object}
use Rattle.elab_environment.specs.Elaborating.{Elaborating, done}
use Rattle.elab_environment.specs.Steps.{refuse, declare, find_here}

unfoldable pub new_object : Object → Elaborating ℕ
new_object o = λ s. (length s.objects, record s { objects = s.objects ++ o ∷ [] })

-- 6.7p3: a name without linkage is new in its block
unfoldable pub bind : ℕ → ℕ → Entity → ℕ → Elaborating (Unit {0})
bind token name e d = λ s. if is_some (find_here s name) then refuse token Redefined s else declare name e d s

-- 6.7p3: but for a typedef name, which may stand for the same type again
abbrev pub typedef_again : ℕ → SourceType → Entity → Elaborating (Unit {0})
typedef_again token t (entity.Typedef u) = if alike Same u t then done else refuse token Redefined
typedef_again token t e = refuse token Redefined

abbrev pub typedef_over : ℕ → ℕ → SourceType → ℕ → Option Named → Elaborating (Unit {0})
typedef_over token name t d (Some n) = typedef_again token t n.entity
typedef_over token name t d None = declare name (entity.Typedef t) d

unfoldable pub bind_typedef : ℕ → ℕ → SourceType → ℕ → Elaborating (Unit {0})
bind_typedef token name t d = λ s. typedef_over token name t d (find_here s name) s

-- what uses the declaration of an entity uses the one at hand too
unfoldable pub join : ℕ → Elaborating (Unit {0})
join h = λ s. (tt, record s { findings = record s.findings { uses = naming s.findings.uses h s.declaration } })

-- Objects and functions with linkage, by one of their declarations (C11 6.2.2, 6.2.7, 6.7p4, 6.9p3).
use Rattle.std.specs.Prelude.{ℕ, Bool, true, false, not, ◌||◌, ◌&&◌, ◌==◌, [], ◌∷◌, ◌++◌, length, slice_get, slice_set, Option, Some, None, is_some, if◌then◌else◌}
use Rattle.elab_findings.specs.declared.fault.Rule.TheVariants.{Redefined}
use Rattle.elab_scope.specs.Scope as scope
use Rattle.elab_types.specs.declared.compatible.Likeness.TheVariants.{Compatible}
use Rattle.elab_types.specs.Compatible.{alike}
use Rattle.elab_types.specs.Composite.{composite}
use Rattle.elab_environment.specs.declared.state.Entity.{Entity}
use Rattle.elab_environment.specs.declared.state.Entity.TheVariants as entity
use Rattle.elab_environment.specs.declared.state.Named.{Named}
use Rattle.elab_environment.specs.declared.state.Object.{Object}
use Rattle.elab_environment.specs.declared.state.Prototype.{Prototype}
use Rattle.elab_environment.specs.declared.state.Environment.{Environment}
use Rattle.elab_environment.specs.Elaborating.{Elaborating, ◌>>=◌, ◌>>◌, pure, done, when}
use Rattle.elab_environment.specs.Steps.{refuse, new_declaration}
use Rattle.elab_environment.specs.Objects.{new_object, join}

-- among `named`: what a name stands for by a declaration of the innermost block, and what it stands for with linkage
abbrev pub here : Environment → ℕ → Option ℕ
here s name = scope.find_here s.block.names s.names name

abbrev pub linked : Environment → ℕ → Option ℕ
linked s name = scope.find s.linked name

-- 6.7p3: in one block a name stands for one entity
abbrev pub clashes : Option ℕ → Option ℕ → Bool
clashes None m = false
clashes (Some n) (Some m) = not (n == m)
clashes (Some n) None = true

-- 6.2.2p2: each declaration of a name with linkage stands for one entity, in each block
unfoldable pub declare_linked : ℕ → Entity → ℕ → Elaborating (Unit {0})
declare_linked name e h = λ s. (
  tt,
  record s {
    named = s.named ++ record { entity = e; declaration = h } ∷ [];
    names = (name, length s.named) ∷ s.names;
    linked = (name, length s.named) ∷ s.linked;
  },
)

unfoldable pub declare_again : ℕ → ℕ → Option ℕ → Elaborating (Unit {0})
declare_again name n (Some m) = done
declare_again name n None = λ s. (tt, record s { names = (name, n) ∷ s.names })

abbrev pub either : Option ℕ → Option ℕ → Option ℕ
either (Some n) m = Some n
either None m = m

-- ---- objects

-- 6.2.7p4: its type is composed of those of its declarations
abbrev pub merged_object : Object → Object → Object
merged_object old o = record old { ty = composite old.ty o.ty; is_defined = old.is_defined || o.is_defined; initialiser = either old.initialiser o.initialiser }

unfoldable pub set_object : ℕ → Object → Elaborating (Unit {0})
set_object n o = λ s. (tt, record s { objects = slice_set s.objects n o })

abbrev pub clashing_object : ℕ → Object → Elaborating ℕ
clashing_object token o = refuse token Redefined >> new_object o

abbrev pub first_object : ℕ → Object → Elaborating ℕ
first_object name o = new_declaration >>= (λ h. join h >> new_object (record o { declaration = h }) >>= (λ n. declare_linked name (entity.Object n) h >> pure n))

-- 6.9p3, p5: one definition with an initialiser at most
abbrev pub again_object : ℕ → ℕ → Object → Option ℕ → ℕ → ℕ → Option Object → Elaborating ℕ
again_object token name o before k n (Some old) =
    if alike Compatible old.ty o.ty
    then set_object n (merged_object old o) >> when (is_some old.initialiser && is_some o.initialiser) (refuse token Redefined) >>
    join old.declaration >> declare_again name k before >> pure n
    else clashing_object token o
again_object token name o before k n None = clashing_object token o

abbrev pub object_of : Entity → Option ℕ
object_of (entity.Object n) = Some n
object_of e = None

abbrev pub object_named : Option Named → Option ℕ
object_named (Some m) = object_of m.entity
object_named None = None

abbrev pub object_over : ℕ → ℕ → Object → Option ℕ → ℕ → Option ℕ → Elaborating ℕ
object_over token name o before k (Some n) = λ s. again_object token name o before k n (slice_get s.objects n) s
object_over token name o before k None = clashing_object token o

abbrev pub object_beside : ℕ → ℕ → Object → Option ℕ → Option ℕ → Elaborating ℕ
object_beside token name o before (Some k) = λ s. object_over token name o before k (object_named (slice_get s.named k)) s
object_beside token name o before None = first_object name o

-- an object with linkage, declared as this one: its number. Where the name stands for something else, or for an object of
-- another type, that is noted at its token, and the object is a new one without a name.
unfoldable pub link_object : ℕ → ℕ → Object → Elaborating ℕ
link_object token name o = λ s. if clashes (here s name) (linked s name) then clashing_object token o s else object_beside token name o (here s name) (linked s name) s

-- ---- functions

unfoldable pub new_function : Prototype → Elaborating ℕ
new_function f = λ s. (length s.functions, record s { functions = s.functions ++ f ∷ [] })

abbrev pub merged_function : Prototype → Prototype → Prototype
merged_function old f = record old { ty = composite old.ty f.ty; definition = either old.definition f.definition; is_inline = old.is_inline && f.is_inline }

unfoldable pub set_function : ℕ → Prototype → Elaborating (Unit {0})
set_function n f = λ s. (tt, record s { functions = slice_set s.functions n f })

abbrev pub clashing_function : ℕ → Prototype → Elaborating ℕ
clashing_function token f = refuse token Redefined >> new_function f

abbrev pub first_function : ℕ → Prototype → Elaborating ℕ
first_function name f = new_declaration >>= (λ h. join h >> new_function (record f { declaration = h }) >>= (λ n. declare_linked name (entity.Function n) h >> pure n))

-- 6.9p3, p5: one definition at most
abbrev pub again_function : ℕ → ℕ → Prototype → Option ℕ → ℕ → ℕ → Option Prototype → Elaborating ℕ
again_function token name f before k n (Some old) =
    if alike Compatible old.ty f.ty
    then set_function n (merged_function old f) >> when (is_some old.definition && is_some f.definition) (refuse token Redefined) >>
    join old.declaration >> declare_again name k before >> pure n
    else clashing_function token f
again_function token name f before k n None = clashing_function token f

abbrev pub function_of : Entity → Option ℕ
function_of (entity.Function n) = Some n
function_of e = None

abbrev pub function_named : Option Named → Option ℕ
function_named (Some m) = function_of m.entity
function_named None = None

abbrev pub function_over : ℕ → ℕ → Prototype → Option ℕ → ℕ → Option ℕ → Elaborating ℕ
function_over token name f before k (Some n) = λ s. again_function token name f before k n (slice_get s.functions n) s
function_over token name f before k None = clashing_function token f

abbrev pub function_beside : ℕ → ℕ → Prototype → Option ℕ → Option ℕ → Elaborating ℕ
function_beside token name f before (Some k) = λ s. function_over token name f before k (function_named (slice_get s.named k)) s
function_beside token name f before None = first_function name f

-- a function, declared as this one: as for objects
unfoldable pub link_function : ℕ → ℕ → Prototype → Elaborating ℕ
link_function token name f = λ s. if clashes (here s name) (linked s name) then clashing_function token f s else function_beside token name f (here s name) (linked s name) s

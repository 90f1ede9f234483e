-- The forms of a declarator (C11 6.7.6), and type names (6.7.7).
use Rattle.std.specs.Prelude.{ℕ, false, Some, None}
use Rattle.c_tree.specs.declared.tree.DeclForm.{DeclForm, out-DeclForm}
use Rattle.c_tree.specs.declared.tree.DeclForm.TheOpen.{DeclForm-F}
use Rattle.c_tree.specs.declared.tree.Spec.{Spec}
use Rattle.c_tree.specs.declared.tree.ExForm.{ExForm}
use Rattle.c_tree.specs.declared.tree.Declarator.{Declarator}
use Rattle.c_tree.specs.declared.tree.Enumerator.{Enumerator}
use Rattle.c_tree.specs.declared.tree.Ex.{Ex}
use Rattle.c_tree.specs.declared.tree.MemberLine.{MemberLine}
use Rattle.c_tree.specs.declared.tree.MemberPart.{MemberPart}
use Rattle.c_tree.specs.declared.tree.Param.{Param}
use Rattle.elab_types.specs.declared.types.SourceType.{SourceType}
use Rattle.elab_environment.specs.Elaborating.{Elaborating, ◌>>=◌, ◌>>◌, pure}
use Rattle.elab_rules.specs.declared.types.Declared.{Declared}
use Rattle.elab_rules.specs.declared.types.Nearest.{Nearest}
use Rattle.elab_rules.specs.declared.types.Nearest.TheVariants as nearest
use Rattle.elab_rules.specs.declared.types.Where.{Where}
use Rattle.elab_rules.specs.declared.types.Where.TheVariants as where_
use Rattle.elab_rules.specs.Declarators.{named, stands_inside, pointer, array, array_nearest}
use Rattle.elab_rules.specs.Functions.{function}
use Rattle.elab_rules.specs.Nest.{Nest}

abbrev pub DeclaratorLevel : Type 0
DeclaratorLevel = DeclForm-F DeclForm ExForm Spec Declarator Enumerator Ex MemberLine MemberPart Param

abbrev pub declared : Nest → Where → SourceType → Nearest → ℕ → DeclaratorLevel → Elaborating Declared
declared sub w t n at DeclForm-F.«DeclForm::Name» = named w t n (Some at)
declared sub w t n at DeclForm-F.Abstract = named w t n None
declared sub w t n at (DeclForm-F.«DeclForm::Paren» d) = sub.declarator w t n d
declared sub w t n at (DeclForm-F.Pointer words d) = stands_inside n >> pointer at words t >>= (λ u. sub.declarator w u nearest.Other d)
declared sub w t n at (DeclForm-F.Array d words e) =
    stands_inside n >> array sub w at e t >>= (λ u s. sub.declarator w u (array_nearest at words s) d s)
declared sub w t n at (DeclForm-F.Function d params variadic) =
    stands_inside n >> function sub at params variadic t >>= (λ r. sub.declarator w r.0 (nearest.Function r.1) d)

-- a declarator of a type derived so far, with the derivation nearest to it
unfoldable pub declarator : Nest → Where → SourceType → Nearest → Declarator → Elaborating Declared
declarator sub w t n d = declared sub w t n d.at (out-DeclForm d.form)

-- 6.7.7: the type that a type name stands for
unfoldable pub type_name : Nest → Param → Elaborating SourceType
type_name sub p = sub.specifiers false p.at p.specs >>= (λ x. sub.declarator where_.TypeName x.ty nearest.Other p.declarator >>= (λ d. pure d.ty))

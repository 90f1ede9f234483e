-- Tags (C11 6.7.2.3).
use Rattle.std.specs.Prelude.{ℕ, Bool, true, false, List, [], ◌∷◌, ◌++◌, slice_get, slice_set, Option, Some, None, if◌then◌else◌}
use Rattle.c_types.specs.declared.types.StructInfo.{StructInfo}
use Rattle.elab_scope.specs.Scope as scope
use Rattle.elab_environment.specs.declared.state.Tag.{Tag}
use Rattle.elab_environment.specs.declared.state.TagKind.{TagKind}
use Rattle.elab_environment.specs.declared.state.TagKind.TheVariants as tag_kind
use Rattle.elab_environment.specs.declared.state.Body.{Body}
use Rattle.elab_environment.specs.declared.state.Body.TheVariants as body
use Rattle.elab_environment.specs.declared.state.Struct.{Struct}
use Rattle.elab_environment.specs.declared.state.Environment.{Environment}
use Rattle.elab_environment.specs.Elaborating.{Elaborating, ◌>>=◌}
use Rattle.elab_environment.specs.Steps.{new_tag}

abbrev pub same_tag_kind : TagKind → TagKind → Bool
same_tag_kind tag_kind.Struct tag_kind.Struct = true
same_tag_kind tag_kind.Union tag_kind.Union = true
same_tag_kind tag_kind.Enum tag_kind.Enum = true
same_tag_kind _ _ = false

abbrev pub is_enum : TagKind → Bool
is_enum k = same_tag_kind k tag_kind.Enum

abbrev pub is_union : TagKind → Bool
is_union k = same_tag_kind k tag_kind.Union

abbrev pub has_no_body : Body → Bool
has_no_body body.NoBody = true
has_no_body _ = false

-- ---- which tag a name stands for: in any block around, and by a declaration of the innermost block

abbrev pub find_tag : Environment → ℕ → Option ℕ
find_tag s name = scope.find s.tag_names name

abbrev pub find_tag_here : Environment → ℕ → Option ℕ
find_tag_here s name = scope.find_here s.block.tags s.tag_names name

-- what a tag's number stands for
abbrev pub tag_at : Environment → ℕ → Option Tag
tag_at s n = slice_get s.tags n

-- ---- a new tag in the innermost block

abbrev pub empty_struct : TagKind → Struct
empty_struct k = record { is_union = is_union k; is_complete = false; is_flexible = false; has_const = false; fields = [] }

abbrev pub no_layout : TagKind → ℕ → StructInfo
no_layout k name = record { tag = name; members = []; size_bits = 0; align_bits = 0; complete = false; is_union = is_union k }

-- the struct of a struct's or union's tag is new too
abbrev pub with_struct : TagKind → ℕ → Environment → Environment
with_struct k name s = record s {
  structs = s.structs ++ empty_struct k ∷ [];
  layout = record { structs = s.layout.structs ++ no_layout k name ∷ [] };
}

abbrev pub named_tag : Option ℕ → ℕ → Environment → Environment
named_tag (Some name) n s = record s { tag_names = (name, n) ∷ s.tag_names }
named_tag None n s = s

-- the name of a struct's layout, which is 0 where it has no tag
abbrev pub or_zero : Option ℕ → ℕ
or_zero (Some n) = n
or_zero None = 0

unfoldable pub fresh_tag : TagKind → Option ℕ → Elaborating ℕ
fresh_tag k name = new_tag k >>= (λ n s. (n, named_tag name n (if is_enum k then s else with_struct k (or_zero name) s)))

-- ---- how far a tag's body was read

abbrev pub with_body : Body → Option Tag → List Tag → ℕ → List Tag
with_body b (Some t) tags n = slice_set tags n (record t { body = b })
with_body b None tags n = tags

unfoldable pub body_is : Body → ℕ → Environment → Environment
body_is b n s = record s { tags = with_body b (tag_at s n) s.tags n }

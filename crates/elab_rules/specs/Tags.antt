-- Tags, and the bodies of structs, unions and enumerations (C11 6.7.2.1 to 6.7.2.3).
use Rattle.std.specs.Prelude.{ℕ, ℤ, pos, ◌+ℤ◌, Bool, true, false, not, ◌||◌, ◌&&◌, if◌then◌else◌, List, [], ◌∷◌, Option, Some, None, is_some}
use Rattle.std.specs.List.{list_any}
use Rattle.elab_findings.specs.declared.fault.Rule.TheVariants.{TypeError, UnknownName, Redefined, OutOfProfile}
use Rattle.c_tree.specs.declared.tree.Ex.{Ex}
use Rattle.c_tree.specs.declared.tree.Spec.{Spec, out-Spec}
use Rattle.c_tree.specs.declared.tree.DeclForm.TheOpen.{Spec-F}
use Rattle.c_tree.specs.declared.tree.MemberLine.{MemberLine, out-MemberLine}
use Rattle.c_tree.specs.declared.tree.MemberPart.{MemberPart, out-MemberPart}
use Rattle.c_tree.specs.declared.tree.Enumerator.{Enumerator, out-Enumerator}
use Rattle.c_types.specs.declared.types.IntKind.TheVariants as kind
use Rattle.elab_types.specs.declared.types.SourceType.{SourceType, out-SourceType}
use Rattle.elab_types.specs.declared.types.SourceType.TheVariants as source
use Rattle.elab_types.specs.Qualified.{no_qualifiers}
use Rattle.elab_environment.specs.declared.constant.Constant.TheVariants as constant
use Rattle.elab_environment.specs.declared.state.Tag.{Tag}
use Rattle.elab_environment.specs.declared.state.TagKind.{TagKind}
use Rattle.elab_environment.specs.declared.state.TagKind.TheVariants as tag_kind
use Rattle.elab_environment.specs.declared.state.Body.TheVariants as body
use Rattle.elab_environment.specs.declared.state.Collected.{Collected}
use Rattle.elab_environment.specs.declared.state.Entity.TheVariants as entity
use Rattle.elab_environment.specs.declared.state.Environment.{Environment}
use Rattle.elab_environment.specs.Elaborating.{Elaborating, and_then, ◌>>=◌, ◌>>◌, pure, done, when}
use Rattle.elab_environment.specs.Steps.{refuse, hold, mention, within, name_at}
use Rattle.elab_environment.specs.Objects.{bind}
use Rattle.elab_environment.specs.Tags.{same_tag_kind, is_enum, has_no_body, find_tag, find_tag_here, tag_at, fresh_tag, body_is}
use Rattle.elab_environment.specs.Structs.{any_named, collect, completed}
use Rattle.elab_rules.specs.declared.types.Declared.{Declared}
use Rattle.elab_rules.specs.declared.types.Nearest.TheVariants as nearest
use Rattle.elab_rules.specs.declared.types.Where.TheVariants as where_
use Rattle.elab_rules.specs.Specifiers.{SpecLevel}
use Rattle.elab_rules.specs.Bodies.{width_by, member_type, enumerator_by}
use Rattle.elab_rules.specs.Nest.{Nest}

-- ---- which tag is meant (6.7.2.3)

abbrev pub fresh : TagKind → Option ℕ → Elaborating (Option ℕ)
fresh k name = fresh_tag k name >>= (λ n. pure (Some n))

-- a tag that can't be meant; a body is read as that of a tag without a name
abbrev pub clashing : TagKind → ℕ → Bool → Elaborating (Option ℕ)
clashing k token with_body = refuse token Redefined >> (if with_body then fresh k None else pure None)

-- 6.7.2.3p1, p2: a tag is of one sort, and has one body at most
abbrev pub meant_tag : TagKind → ℕ → Bool → ℕ → Option Tag → Elaborating (Option ℕ)
meant_tag k token with_body n (Some t) =
    if not (same_tag_kind t.kind k) || (with_body && not (has_no_body t.body)) then clashing k token with_body else pure (Some n)
meant_tag k token with_body n None = pure None

-- 6.7.2.3p3: `enum` with a tag alone stands behind its body
abbrev pub new_one : TagKind → ℕ → ℕ → Bool → Elaborating (Option ℕ)
new_one k token name with_body = if is_enum k && not with_body then refuse token UnknownName >> pure None else fresh k (Some name)

abbrev pub meant_by : TagKind → ℕ → ℕ → Bool → Option ℕ → Elaborating (Option ℕ)
meant_by k token name with_body (Some n) = λ s. meant_tag k token with_body n (tag_at s n) s
meant_by k token name with_body None = new_one k token name with_body

-- 6.7.2.3p4 to p8: a body, and a struct or union that is a declaration by itself, look in the innermost block alone
abbrev pub looked_up : TagKind → Bool → Bool → ℕ → Environment → Option ℕ
looked_up k alone with_body name s = if with_body || (alone && not (is_enum k)) then find_tag_here s name else find_tag s name

-- what a specifier with a tag stands for: a tag, or nothing, where the tag is of another sort
abbrev pub meant : TagKind → Bool → ℕ → Bool → Option ℕ → Elaborating (Option ℕ)
meant k alone token with_body (Some name) = λ s. meant_by k token name with_body (looked_up k alone with_body name s) s
meant k alone token with_body None = fresh k None

abbrev pub meant_at : TagKind → Bool → Bool → Option ℕ → Elaborating (Option ℕ)
meant_at k alone with_body (Some token) = λ s. meant k alone token with_body (name_at s token) s
meant_at k alone with_body None = fresh k None

-- ---- a struct or union body

abbrev pub or_token : Option ℕ → ℕ
or_token (Some n) = n
or_token None = 0

abbrev pub name_of_token : Environment → Option ℕ → Option ℕ
name_of_token s (Some token) = name_at s token
name_of_token s None = None

abbrev pub collected : Option ℕ → SourceType → Option ℕ → List Collected → Elaborating (List Collected)
collected token t bits cs = λ s. collect (or_token token) (record { name = name_of_token s token; ty = t; bits = bits }) cs s

abbrev pub bit_field_by : Declared → Option ℕ → List Collected → Elaborating (List Collected)
bit_field_by d (Some w) cs = collected d.name d.ty (Some w) cs
bit_field_by d None cs = collected d.name source.Faulty None cs

abbrev pub is_last : {A : Type 0} → List A → Bool
is_last [] = true
is_last (x ∷ xs) = false

-- one declarator of a line; whether it is the last of a struct with a named member before it
abbrev pub member : Nest → ℕ → Bool → Bool → Declared → Option Ex → List Collected → Elaborating (List Collected)
member sub at is_union may_be_open d (Some e) cs = sub.constant e >>= (λ c. width_by at (out-SourceType d.ty) (is_some d.name) c >>= (λ w. bit_field_by d w cs))
member sub at is_union may_be_open d None cs = λ s. and_then (member_type at is_union may_be_open d.ty s s) (λ t. collected d.name t None cs)

abbrev pub members : Nest → Bool → Bool → SourceType → List MemberPart → List Collected → Elaborating (List Collected)
members sub is_union last t [] cs = pure cs
members sub is_union last t (p ∷ ps) cs =
    sub.declarator where_.Member t nearest.Other (out-MemberPart p).declarator >>= (λ d.
    member sub (out-MemberPart p).declarator.at is_union (last && (is_last ps && (not is_union && any_named cs))) d (out-MemberPart p).width cs >>= members sub is_union last t ps)

-- 6.7.2.1p2, p13: a line without declarators declares nothing, but for a struct or union without a name, which is left out
abbrev pub is_anonymous_at : SpecLevel → Bool
is_anonymous_at (Spec-F.Struct at None (Some lines)) = true
is_anonymous_at _ = false

abbrev pub empty_line : ℕ → List Spec → Elaborating (Unit {0})
empty_line at specs = if list_any (λ x. is_anonymous_at (out-Spec x)) specs then hold at OutOfProfile else refuse at TypeError

abbrev pub line_of : Nest → Bool → Bool → ℕ → List Spec → SourceType → List MemberPart → List Collected → Elaborating (List Collected)
line_of sub is_union last at specs t [] cs = empty_line at specs >> pure cs
line_of sub is_union last at specs t (p ∷ ps) cs = members sub is_union last t (p ∷ ps) cs

abbrev pub line : Nest → Bool → Bool → MemberLine → List Collected → Elaborating (List Collected)
line sub is_union last l cs = sub.specifiers false (out-MemberLine l).at (out-MemberLine l).specs >>= (λ s.
    line_of sub is_union last (out-MemberLine l).at (out-MemberLine l).specs s.ty (out-MemberLine l).parts cs)

abbrev pub lines : Nest → Bool → List MemberLine → List Collected → Elaborating (List Collected)
lines sub is_union [] cs = pure cs
lines sub is_union (l ∷ ls) cs = line sub is_union (is_last ls) l cs >>= lines sub is_union ls

-- ---- an enumeration

abbrev pub next_value : Nest → ℕ → Option Ex → ℤ → Elaborating ℤ
next_value sub name (Some e) v = sub.constant e >>= enumerator_by e.at
next_value sub name None v = enumerator_by name (constant.Number v)

-- 6.7p3: an enumerator's name is new in its block. Naming it uses the body.
abbrev pub enumerator_named : ℕ → Option ℕ → ℤ → ℕ → Elaborating (Unit {0})
enumerator_named token (Some name) v d = bind token name (entity.Enumerator v) d
enumerator_named token None v d = done

abbrev pub enumerator_at : ℕ → ℤ → ℕ → Elaborating (Unit {0})
enumerator_at token v d = λ s. enumerator_named token (name_at s token) v d s

abbrev pub enumerators : Nest → ℕ → ℤ → List Enumerator → Elaborating (Unit {0})
enumerators sub d v [] = done
enumerators sub d v (e ∷ es) = next_value sub (out-Enumerator e).name (out-Enumerator e).value v >>= (λ w.
    enumerator_at (out-Enumerator e).name w d >> enumerators sub d (w +ℤ pos 1) es)

-- ---- the specifier

-- 6.7.2.1p8: a struct or union has a named member; without one it is left out
abbrev pub ended_body : ℕ → ℕ → ℕ → Bool → List Collected → Elaborating (Unit {0})
ended_body at n id is_union cs =
    when (not (any_named cs)) (hold at OutOfProfile) >> (λ s. (tt, body_is body.Closed n (completed id is_union cs s)))

abbrev pub struct_body : Nest → ℕ → ℕ → ℕ → Bool → Option (List MemberLine) → Elaborating (Unit {0})
struct_body sub at n id is_union (Some ls) = (λ s. lines sub is_union ls [] (body_is body.Open n s)) >>= ended_body at n id is_union
struct_body sub at n id is_union None = done

abbrev pub struct_of : Nest → ℕ → ℕ → Bool → Option (List MemberLine) → Option Tag → Elaborating SourceType
struct_of sub at n is_union ls (Some t) = mention t.declaration >> within t.declaration (struct_body sub at n t.id.0 is_union ls) >> pure (source.Struct t.id no_qualifiers)
struct_of sub at n is_union ls None = pure source.Faulty

abbrev pub struct_meant : Nest → ℕ → Bool → Option (List MemberLine) → Option ℕ → Elaborating SourceType
struct_meant sub at is_union ls (Some n) = λ s. struct_of sub at n is_union ls (tag_at s n) s
struct_meant sub at is_union ls None = pure source.Faulty

abbrev pub sort_of : Bool → TagKind
sort_of true = tag_kind.Union
sort_of false = tag_kind.Struct

-- `struct` or `union` with its tag and body; what the body names, its tag's declaration names
unfoldable pub struct_type : Nest → Bool → ℕ → Bool → Option ℕ → Option (List MemberLine) → Elaborating SourceType
struct_type sub alone at is_union tag ls = meant_at (sort_of is_union) alone (is_some ls) tag >>= struct_meant sub at is_union ls

abbrev pub enum_body : Nest → ℕ → ℕ → Option (List Enumerator) → Elaborating (Unit {0})
enum_body sub n d (Some es) = enumerators sub d (pos 0) es >> (λ s. (tt, body_is body.Closed n s))
enum_body sub n d None = done

abbrev pub enum_of : Nest → ℕ → Option (List Enumerator) → Option Tag → Elaborating SourceType
enum_of sub n es (Some t) = mention t.declaration >> within t.declaration (enum_body sub n t.declaration es) >> pure (source.Int kind.Int no_qualifiers)
enum_of sub n es None = pure source.Faulty

abbrev pub enum_meant : Nest → Option (List Enumerator) → Option ℕ → Elaborating SourceType
enum_meant sub es (Some n) = λ s. enum_of sub n es (tag_at s n) s
enum_meant sub es None = pure source.Faulty

-- an enumeration has the type int
unfoldable pub enum_type : Nest → Bool → Option ℕ → Option (List Enumerator) → Elaborating SourceType
enum_type sub alone tag es = meant_at tag_kind.Enum alone (is_some es) tag >>= enum_meant sub es

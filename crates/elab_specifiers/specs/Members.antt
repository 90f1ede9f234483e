-- A member of a struct or union, and an enumerator, once their types and constants were read (C11 6.7.2.1, 6.7.2.2).
use Rattle.std.specs.Prelude.{ℕ, Bool, List, None, is_some}
use Rattle.elab_types.specs.declared.types.SourceType.{out-SourceType}
use Rattle.elab_environment.specs.declared.constant.Constant.{Constant}
use Rattle.elab_environment.specs.declared.state.Collected.{Collected}
use Rattle.elab_environment.specs.Elaborating.{Elaborating, and_then, ◌>>=◌}
use Rattle.elab_rules.specs.declared.types.Declared.{Declared}
use Rattle.elab_rules.specs.Bodies.{width_by, member_type}
use Rattle.elab_rules.specs.Tags.{collected, bit_field_by}

-- a bit-field of a width that was read
abbrev pub bit_field : ℕ → Declared → Constant → List Collected → Elaborating (List Collected)
bit_field at d c cs = width_by at (out-SourceType d.ty) (is_some d.name) c >>= (λ w. bit_field_by d w cs)

-- a member that is no bit-field
abbrev pub plain : ℕ → Bool → Bool → Declared → List Collected → Elaborating (List Collected)
plain at is_union may_be_open d cs = λ s. and_then (member_type at is_union may_be_open d.ty s s) (λ t. collected d.name t None cs)

-- Structs, unions and enumerations (C11 6.7.2.1 to 6.7.2.3).
use Rattle.std.specs.Prelude.{ℕ, ◌^◌, ◌-◌, ℤ, pos, neg_ℤ, int_le, Bool, true, false, not, ◌||◌, ◌&&◌, if◌then◌else◌, Option, Some, None, unsigned_abs}
use Rattle.elab_findings.specs.declared.fault.Rule.TheVariants.{TypeError, OutOfProfile}
use Rattle.c_types.specs.declared.types.IntKind.{IntKind}
use Rattle.c_types.specs.declared.types.IntKind.TheVariants as kind
use Rattle.c_types.specs.Integers.{width}
use Rattle.elab_types.specs.declared.types.Extent.{Extent}
use Rattle.elab_types.specs.declared.types.Extent.TheVariants as extent
use Rattle.elab_types.specs.declared.types.SourceType.{SourceType, end_of-SourceType, more_of-SourceType}
use Rattle.elab_types.specs.declared.types.SourceType.TheOpen.{SourceType-F}
use Rattle.elab_types.specs.declared.types.SourceType.TheVariants.{Pointer', Array', Function'}
use Rattle.elab_types.specs.declared.types.SourceType.TheVariants as source
use Rattle.elab_types.specs.Compatible.{same_kind}
use Rattle.elab_environment.specs.declared.constant.Constant.{Constant}
use Rattle.elab_environment.specs.declared.constant.Constant.TheVariants as constant
use Rattle.elab_environment.specs.declared.state.Environment.{Environment}
use Rattle.elab_environment.specs.Elaborating.{Elaborating, ◌>>◌, pure, when}
use Rattle.elab_environment.specs.Steps.{refuse, hold}
use Rattle.elab_environment.specs.Complete.{is_complete, is_flexible}
use Rattle.elab_environment.specs.Structs.{is_open_array}
use Rattle.elab_rules.specs.Sorts.{TypeLevel}

-- ---- bit-fields (6.7.2.1p4, p5)

-- a width isn't negative and no greater than the type's; 0 for one without a name alone; 1 for `_Bool`
abbrev pub is_width : IntKind → Bool → ℤ → Bool
is_width k named v = int_le (pos 0) v && (int_le v (pos (width k)) &&
    (not (named && int_le v (pos 0)) && (not (same_kind k kind.Bool) || (int_le v (pos 1)))))

abbrev pub no_width : ℕ → Elaborating (Option ℕ)
no_width at = refuse at TypeError >> pure None

-- of an integer type
abbrev pub width_of : ℕ → IntKind → Bool → Constant → Elaborating (Option ℕ)
width_of at k named (constant.Number v) = if is_width k named v then pure (Some (unsigned_abs v)) else no_width at
width_of at k named constant.Faulty = pure None
width_of at k named c = no_width at

-- of a type that broke a rule
abbrev pub any_width : ℕ → Constant → Elaborating (Option ℕ)
any_width at (constant.Number v) = pure None
any_width at constant.Faulty = pure None
any_width at c = no_width at

-- the width of a bit-field; none where it breaks a rule, which is noted at the declarator
abbrev pub width_by : ℕ → TypeLevel → Bool → Constant → Elaborating (Option ℕ)
width_by at (SourceType-F.Int k q) named c = width_of at k named c
width_by at SourceType-F.Faulty named c = any_width at c
width_by at t named c = no_width at

-- ---- a member

-- 6.7.6p3: an array whose length isn't constant, or a type derived from one
abbrev pub is_variable : Extent → Bool
is_variable extent.Variable = true
is_variable _ = false

unfoldable pub is_variably_modified : SourceType → Bool
is_variably_modified (Pointer' _ (more_of-SourceType t end_of-SourceType) q) = is_variably_modified t
is_variably_modified (Array' _ (more_of-SourceType t end_of-SourceType) n) = is_variable n || is_variably_modified t
is_variably_modified (Function' _ (more_of-SourceType t end_of-SourceType) _ ts v) = is_variably_modified t
is_variably_modified _ = false

abbrev pub no_member : ℕ → Elaborating SourceType
no_member at = refuse at TypeError >> pure source.Faulty

abbrev pub closed_member : ℕ → Bool → SourceType → Environment → Elaborating SourceType
closed_member at is_union t s = when (is_flexible s t && not is_union) (refuse at TypeError) >> pure t

-- 6.7.6.2p2: a member isn't of a variably modified type. 6.7.2.1p3, p18: it is complete; an array without a length may stand
-- last in a struct, behind a named member, and is left out. A struct with such a member stands in no other struct.
abbrev pub member_type : ℕ → Bool → Bool → SourceType → Environment → Elaborating SourceType
member_type at is_union may_be_open t s =
    if is_variably_modified t then no_member at
    else (if may_be_open && is_open_array t then hold at OutOfProfile >> pure t
    else (if is_complete s t then closed_member at is_union t s else no_member at))

-- ---- enumerators (6.7.2.2)

abbrev pub no_value : ℕ → Elaborating ℤ
no_value at = refuse at TypeError >> pure (pos 0)

-- its value is one of int's; `at` is its expression's first token, or its name
abbrev pub enumerator_by : ℕ → Constant → Elaborating ℤ
enumerator_by at (constant.Number v) =
    if int_le (neg_ℤ (pos (2 ^ 31))) v && int_le v (pos (2 ^ 31 - 1)) then pure v else no_value at
enumerator_by at constant.Faulty = pure (pos 0)
enumerator_by at c = no_value at

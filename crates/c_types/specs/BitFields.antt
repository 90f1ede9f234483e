-- The values of a bit-field (C11 6.7.2.1p9, p10): of so many bits, signed or not as its declared type; plain int is signed.
use Rattle.std.specs.Prelude.{ℕ, ◌^◌, ◌-◌, ℤ, pos, neg_ℤ, ◌+ℤ◌, ◌-ℤ◌, ◌≤ℤ◌, int_le, ◌&&◌, if◌then◌else◌}
use Rattle.std.specs.Int.{int_rem_euclid}
use Rattle.std.specs.Ordering.{int_eq}
use Rattle.c_types.specs.declared.types.IntKind.{IntKind}
use Rattle.c_types.specs.declared.types.IntKind.TheVariants as kind
use Rattle.c_types.specs.Integers.{is_signed, least, greatest, promoted}

abbrev pub field_least : IntKind → ℕ → ℤ
field_least k width = if is_signed k then neg_ℤ (pos (2 ^ (width - 1))) else pos 0

abbrev pub field_greatest : IntKind → ℕ → ℤ
field_greatest k width = if is_signed k then pos (2 ^ (width - 1)) -ℤ pos 1 else pos (2 ^ width) -ℤ pos 1

pub record InFieldRange (k : IntKind) (width : ℕ) (v : ℤ) : Type 0 where
  pub above : field_least k width ≤ℤ v
  pub below : v ≤ℤ field_greatest k width

-- 6.3.1.2 and 6.3.1.3: the value of the range that is congruent to `v` modulo 2^width; of a `_Bool` bit-field 0 for 0, else 1
abbrev pub field_wrapped : IntKind → ℕ → ℤ → ℤ
field_wrapped kind.Bool width v = if int_eq v (pos 0) then pos 0 else pos 1
field_wrapped k width v = field_least k width +ℤ int_rem_euclid (v -ℤ field_least k width) (pos (2 ^ width))

-- 6.3.1.1p2: it becomes `int` where that represents all its values, and else what its declared type becomes
abbrev pub field_promoted : IntKind → ℕ → IntKind
field_promoted k width =
    if int_le (least kind.Int) (field_least k width) && int_le (field_greatest k width) (greatest kind.Int) then kind.Int
    else promoted k

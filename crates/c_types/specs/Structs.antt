-- The layout of a struct or union from its members (C11 6.7.2.1p11 to p17 in this data model).
use Rattle.std.specs.Prelude.{◌≡◌, ◌<◌, ◌≤◌, ℕ, ◌+◌, ◌-◌, ◌/◌, ◌%◌, max, Bool, true, false, not, ◌||◌, ◌==◌, if◌then◌else◌, List, [], ◌∷◌, ◌++◌, Option, Some, None}
use Rattle.c_types.specs.declared.types.Declared.{Declared}
use Rattle.c_types.specs.declared.types.Member.{Member}
use Rattle.c_types.specs.declared.types.StructInfo.{StructInfo}
use Rattle.c_types.specs.declared.types.Layout.{Layout}
use Rattle.c_types.specs.Sizes.{kept, is_incomplete, size_of, align_of}

-- the least multiple of an alignment that isn't below a place
unfoldable pub next_multiple : ℕ → ℕ → ℕ
next_multiple place alignment = place + (alignment - place % alignment) % alignment

-- what that says
pub record IsNextMultiple (place alignment at : ℕ) : Type 0 where
  pub multiple : at % alignment ≡ 0
  pub not_below : place ≤ at
  pub first : at < place + alignment

-- whether bits from a place on lie within one unit
abbrev pub fits_unit : ℕ → ℕ → ℕ → Bool
fits_unit place unit width = (place / unit) == ((place + width - 1) / unit)

-- where a bit-field begins: at the place where it fits its type's unit there, else at the next unit; one of width 0 ends
-- the unit (6.7.2.1p11, p12). The unit of an integer type has its size, which is its alignment.
abbrev pub field_place : ℕ → ℕ → ℕ → ℕ
field_place place unit width = if width == 0 then next_multiple place unit
    else (if fits_unit place unit width then place else next_multiple place unit)

-- where a member begins that doesn't begin below a place, and how many bits it takes
abbrev pub begins_by : Layout → ℕ → Declared → Option ℕ → ℕ
begins_by l place m (Some width) = field_place place (align_of l m.ctype) width
begins_by l place m None = next_multiple place (align_of l m.ctype)

abbrev pub begins : Layout → ℕ → Declared → ℕ
begins l place m = begins_by l place m m.bits

abbrev pub bits_of : Layout → Declared → Option ℕ → ℕ
bits_of l m (Some width) = width
bits_of l m None = size_of l m.ctype

abbrev pub ends : Layout → ℕ → Declared → ℕ
ends l place m = begins l place m + bits_of l m m.bits

-- a member with its place, where it has a name
abbrev pub at_place : ℕ → Declared → Option ℕ → List Member
at_place place m (Some name) = record { name = name; ctype = m.ctype; offset_bits = kept place; bits = m.bits } ∷ []
at_place place m None = []

-- the members of a struct from a place on, each behind the one before
abbrev pub placed : Layout → ℕ → List Declared → List Member
placed l place [] = []
placed l place (m ∷ ms) = at_place (begins l place m) m m.name ++ placed l (ends l place m) ms

-- where the last of them ends
abbrev pub end_of : Layout → ℕ → List Declared → ℕ
end_of l place [] = place
end_of l place (m ∷ ms) = end_of l (ends l place m) ms

-- the members of a union stand at its beginning, and it ends with the longest
abbrev pub stacked : List Declared → List Member
stacked [] = []
stacked (m ∷ ms) = at_place 0 m m.name ++ stacked ms

abbrev pub longest : Layout → List Declared → ℕ
longest l [] = 0
longest l (m ∷ ms) = max (bits_of l m m.bits) (longest l ms)

-- the greatest alignment of the members that have a name, a byte's at least
abbrev pub align_if_named : Layout → Declared → Option ℕ → ℕ
align_if_named l m (Some name) = align_of l m.ctype
align_if_named l m None = 8

abbrev pub greatest_align : Layout → List Declared → ℕ
greatest_align l [] = 8
greatest_align l (m ∷ ms) = max (align_if_named l m m.name) (greatest_align l ms)

-- some member has no size
abbrev pub any_incomplete : Layout → List Declared → Bool
any_incomplete l [] = false
any_incomplete l (m ∷ ms) = is_incomplete l m.ctype || any_incomplete l ms

abbrev pub is_named : Option ℕ → Bool
is_named (Some name) = true
is_named None = false

abbrev pub any_named : List Declared → Bool
any_named [] = false
any_named (m ∷ ms) = is_named m.name || any_named ms

abbrev pub members_of : Layout → Bool → List Declared → List Member
members_of l is_union ms = if is_union then stacked ms else placed l 0 ms

abbrev pub extent_of : Layout → Bool → List Declared → ℕ
extent_of l is_union ms = if is_union then longest l ms else end_of l 0 ms

-- the struct or union of a tag and members; its size is rounded up to its alignment. It is kept without places where some
-- member has no size, or none has a name.
abbrev pub laid_out : Layout → ℕ → Bool → List Declared → StructInfo
laid_out l tag is_union ms =
    if any_incomplete l ms || not (any_named ms)
    then record { tag = tag; members = stacked ms; size_bits = 0; align_bits = 0; complete = false; is_union = is_union }
    else record {
      tag = tag;
      members = members_of l is_union ms;
      size_bits = kept (next_multiple (extent_of l is_union ms) (greatest_align l ms));
      align_bits = greatest_align l ms;
      complete = true;
      is_union = is_union;
    }

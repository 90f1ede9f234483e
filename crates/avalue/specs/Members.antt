-- What a value may be, and what its operations keep of it.
use Rattle.std.specs.Prelude.{◌≡◌, ◌⊎◌, ℕ, List, true, ℤ, pos, neg_ℤ, ◌-ℤ◌, ◌-◌, ◌^◌}
use Rattle.ival.specs.Forms.{Has, Within}
use Rattle.avalue.specs.Pointers.{offsets_at}
use Rattle.avalue.specs.Values.{IsWellFormedValue, PointsIntoObjects, IsJoin, IsWidening, value_included}
use Rattle.avalue.specs.declared.value.Value.{Value}

-- nothing written yet, a pointer to an object that is gone, a number, or a pointer to a byte of a base
pub data Member : Type 0 where
  uninit : Member
  dangling : Member
  number : ℤ → Member
  pointer : ℕ → ℤ → Member

abbrev pub HasMember : Value → Member → Type 0
HasMember v uninit = v.uninit ≡ true
HasMember v dangling = v.dangling ≡ true
HasMember v (number x) = Has v.ints x
HasMember v (pointer base offset) = Has (offsets_at v.ptrs base) offset

-- each member of one of both sides is a member of the join
abbrev pub JoinKeeps : Type 0
JoinKeeps = (a b v : Value) → IsWellFormedValue a → IsWellFormedValue b → IsJoin a b v → (m : Member) → HasMember a m ⊎ HasMember b m → HasMember v m

-- and of the widening
abbrev pub WideningKeeps : Type 0
WideningKeeps = (a b v : Value) (thresholds : List ℤ) (width : ℕ) → IsWellFormedValue a → IsWellFormedValue b → PointsIntoObjects a → PointsIntoObjects b
    → Within (neg_ℤ (pos (2 ^ (width - 1)))) (pos (2 ^ width) -ℤ pos 1) a.ints → Within (neg_ℤ (pos (2 ^ (width - 1)))) (pos (2 ^ width) -ℤ pos 1) b.ints
    → IsWidening a b thresholds width v → (m : Member) → HasMember a m ⊎ HasMember b m → HasMember v m

-- yes means that each member of the first is one of the second
abbrev pub InclusionIsSound : Type 0
InclusionIsSound = (a b : Value) → IsWellFormedValue a → IsWellFormedValue b → value_included a b ≡ true → (m : Member) → HasMember a m → HasMember b m

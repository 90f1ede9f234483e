-- No scalar of an object has more bits than the widest integer type.
use Rattle.std.proofs.Common.{◌≡◌, ℕ, zero, suc, ◌+◌, ◌≤◌, arith, List, [], ◌∷◌, take, drop, length, Bool, true, false, Option, Some, None, slice_get, slice_index_or, refl}
use Rattle.std.specs.Prelude.{All, IfSome, if◌then◌else◌}
use Rattle.std.specs.List.{flat_map}
use Rattle.std.proofs.lemmas.List.Elements.{All-nil, All-cons, All-head, All-tail, All-append, All-take}
use Rattle.std.proofs.lemmas.Option.{slice_get-get_or}
use Rattle.c_types.specs.declared.types.IntKind.{IntKind}
use Rattle.c_types.specs.declared.types.CType.{CType, end_of-CType, more_of-CType}
use Rattle.c_types.specs.declared.types.CType.TheVariants.{Void, Int, Ptr', Array', Struct, Unusable}
use Rattle.c_types.specs.declared.types.Member.{Member}
use Rattle.c_types.specs.declared.types.StructInfo.{StructInfo}
use Rattle.c_types.specs.declared.types.Layout.{Layout}
use Rattle.c_types.specs.Sizes.{kept, size_of}
use Rattle.program.specs.declared.graph.Start.{Start}
use Rattle.program.specs.declared.graph.Start.TheVariants as start
use Rattle.program.specs.Pointers.{members_begun}
use Rattle.c_meaning.specs.declared.parts.Part.{Part}
use Rattle.c_meaning.specs.declared.parts.Free.{Free}
use Rattle.c_meaning.specs.PlaceTypes.{HasNarrowFields, kind_of_type}
use Rattle.c_meaning.specs.Begin.{in_a_row, parts_given, field_or, member_parts, struct_parts, parts_of, freed_part, freed, free_in, HasFewBits}
use Rattle.c_meaning.proofs.ScalarSizes.{width_is_small}

abbrev HasFew : Part → Type 0
HasFew part = part.bits ≤ 64

row_few : (step n at : ℕ) (element : ℕ → List Part) → ((x : ℕ) → All HasFew (element x)) → All HasFew (in_a_row step n at element)
row_few step zero at element h = All-nil HasFew
row_few step (suc n) at element h = All-append HasFew (element at) (in_a_row step n (kept (at + step)) element) (h at) (row_few step n (kept (at + step)) element h)

one : (part : Part) → part.bits ≤ 64 → All HasFew (part ∷ [])
one part h = All-cons HasFew part [] h (All-nil HasFew)

-- from those in structs
module _ (structs : ℕ → ℕ → List Part) (l : Layout) (each : (id at : ℕ) → All HasFew (structs id at)) where
  given_few : (at : ℕ) (t : CType) → All HasFew (parts_given structs l at t)
  unfolding parts_given
  given_few at Void = All-nil HasFew
  given_few at (Int k volatile) = one _ (width_is_small k)
  given_few at (Ptr' _ _) = one _ (omega arith)
  given_few at (Array' _ (more_of-CType t end_of-CType) n) = row_few (kept (size_of l t)) n at (λ x. parts_given structs l x t) (λ x. given_few x t)
  given_few at (Struct id) = each id.0 at
  given_few at Unusable = All-nil HasFew

  field_few : (bits : Option ℕ) (at : ℕ) (k : IntKind) (parts : List Part) → IfSome bits (λ w. w ≤ 64) → All HasFew parts → All HasFew (field_or bits at k parts)
  field_few None at k parts narrow h = h
  field_few (Some w) at k parts narrow h = one _ narrow

  members_few : (at : ℕ) (ms : List Member) → All (λ m. IfSome m.bits (λ w. w ≤ 64)) ms → All HasFew (flat_map (member_parts structs l at) ms)
  members_few at [] h = All-nil HasFew
  members_few at (m ∷ ms) h =
      All-append HasFew (member_parts structs l at m) (flat_map (member_parts structs l at) ms)
      (field_few m.bits (kept (at + m.offset_bits)) (kind_of_type m.ctype) _ (All-head (λ (n : Member). IfSome n.bits (λ w. w ≤ 64)) m ms h) (given_few (kept (at + m.offset_bits)) m.ctype))
      (members_few at ms (All-tail (λ (n : Member). IfSome n.bits (λ w. w ≤ 64)) m ms h))

abbrev AreNarrow : List Member → Type 0
AreNarrow ms = All (λ m. IfSome m.bits (λ w. w ≤ 64)) ms

begun_narrow : (b : Bool) (ms : List Member) → AreNarrow ms → AreNarrow (if b then take 1 ms else ms)
begun_narrow true ms h = All-take (λ (m : Member). IfSome m.bits (λ w. w ≤ 64)) 1 ms h
begun_narrow false ms h = h

narrow_in : (l : Layout) → HasNarrowFields l → (id : ℕ) (found : Option StructInfo) → slice_get l.structs id ≡ found → AreNarrow (members_begun found)
narrow_in l h id None is = All-nil (λ (m : Member). IfSome m.bits (λ w. w ≤ 64))
narrow_in l h id (Some info) is = begun_narrow info.is_union info.members (λ k d inside. h.narrow id k info (slice_index_or info.members k d) is (slice_get-get_or info.members k d inside))

struct_few : (l : Layout) → HasNarrowFields l → (depth id at : ℕ) → All HasFew (struct_parts depth l id at)
unfolding struct_parts
struct_few l h zero id at = All-nil HasFew
struct_few l h (suc depth) id at = members_few (struct_parts depth l) l (struct_few l h depth) at (members_begun (slice_get l.structs id)) (narrow_in l h id (slice_get l.structs id) refl)

part_freed : (kind : Option IntKind) (part : Part) (integers pointers : List Free) → part.bits ≤ 64 → All HasFewBits integers → All HasFewBits pointers → All HasFewBits (freed_part kind part integers pointers)
part_freed (Some k) part integers pointers h i p = All-cons HasFewBits _ integers h i
part_freed None part integers pointers h i p = p

freed_few : (parts : List Part) (targets : List (Option ℕ)) → All HasFew parts → All HasFewBits (freed parts targets)
freed_few [] targets h = All-nil HasFewBits
freed_few (part ∷ parts) targets h =
    let rest = All-tail HasFew part parts h in
    part_freed part.kind part (freed parts targets) _ (All-head HasFew part parts h) (freed_few parts targets rest)
    (All-cons HasFewBits _ (freed parts (drop 1 targets)) tt (freed_few parts (drop 1 targets) rest))

parts_few : (l : Layout) → HasNarrowFields l → (t : CType) → All HasFew (parts_of l t)
parts_few l h t = given_few (struct_parts (length l.structs) l) l (struct_few l h (length l.structs)) 0 t

pub free_few : (l : Layout) → HasNarrowFields l → (t : CType) (s : Start) → All HasFewBits (free_in l t s)
free_few l h t (start.Given scalars) = All-nil HasFewBits
free_few l h t start.Any = freed_few (parts_of l t) [] (parts_few l h t)
free_few l h t start.Uninit = All-nil HasFewBits
free_few l h t (start.Choice target) = All-cons HasFewBits _ [] tt (All-nil HasFewBits)
free_few l h t (start.Hidden targets) = freed_few (parts_of l t) targets (parts_few l h t)

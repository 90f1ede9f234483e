-- The scalars of a type at each variant, and how a walk through types ends.
use Rattle.std.proofs.Common.{◌≡◌, ℕ, zero, suc, ◌+◌, ◌-◌, ◌<◌, ◌≤◌, arith, List, [], ◌∷◌, ◌++◌, append_assoc, append-nil, take, Bool, true, false, Some, None, slice_get, refl, subst}
use Rattle.std.specs.Prelude.{if◌then◌else◌}
use Rattle.std.specs.List.{flat_map}
use Rattle.c_types.specs.declared.types.IntKind.{IntKind}
use Rattle.c_types.specs.declared.types.CType.{CType}
use Rattle.c_types.specs.declared.types.CType.TheVariants as ctype
use Rattle.c_types.specs.declared.types.StructId.{StructId}
use Rattle.c_types.specs.declared.types.Member.{Member}
use Rattle.c_types.specs.declared.types.StructInfo.{StructInfo}
use Rattle.c_types.specs.declared.types.Layout.{Layout}
use Rattle.c_types.specs.Integers.{width}
use Rattle.c_types.specs.Sizes.{kept, size_of}
use Rattle.program.specs.Pointers.{members_begun}
use Rattle.c_meaning.specs.declared.parts.Part.{Part}
use Rattle.c_meaning.specs.ArrayDepth.{array_depth, deepest, deepest_in}
use Rattle.c_meaning.specs.Begin.{in_a_row, parts_given, member_parts, struct_parts}
use denote.Hole.Carrier.{hidden}
use Rattle.c_types.specs.declared.types.CType.TheBlock.{hidden-the_row-CType-0}

-- ---- the scalars of a type

module _ (structs : ℕ → ℕ → List Part) (l : Layout) (at : ℕ) where
  pub parts_void : parts_given structs l at ctype.Void ≡ []
  unfolding parts_given
  parts_void = refl

  pub parts_int : (k : IntKind) (volatile : Bool) → parts_given structs l at (ctype.Int k volatile) ≡ record { at = at; bits = width k; kind = Some k } ∷ []
  unfolding parts_given
  parts_int k volatile = refl

  pub parts_ptr : (to : CType) → parts_given structs l at (ctype.Ptr to) ≡ record { at = at; bits = 64; kind = None } ∷ []
  unfolding parts_given hidden hidden-the_row-CType-0
  parts_ptr to = refl

  pub parts_array : (t : CType) (n : ℕ) → parts_given structs l at (ctype.Array t n) ≡ in_a_row (kept (size_of l t)) n at (λ x. parts_given structs l x t)
  unfolding parts_given hidden hidden-the_row-CType-0
  parts_array t n = refl

  pub parts_struct : (id : StructId) → parts_given structs l at (ctype.Struct id) ≡ structs id.0 at
  unfolding parts_given
  parts_struct id = refl

  pub parts_unusable : parts_given structs l at ctype.Unusable ≡ []
  unfolding parts_given
  parts_unusable = refl

pub struct_none : (l : Layout) (id at : ℕ) → struct_parts 0 l id at ≡ []
unfolding struct_parts
struct_none l id at = refl

pub struct_nested : (depth : ℕ) (l : Layout) (id at : ℕ) → 0 < depth → struct_parts depth l id at ≡ flat_map (member_parts (struct_parts (depth - 1) l) l at) (members_begun (slice_get l.structs id))
unfolding struct_parts
struct_nested zero l id at h = absurd (omega arith)
struct_nested (suc depth) l id at h = let e : suc depth - 1 ≡ depth = omega arith in rw e refl

-- ---- arrays of structs of arrays

pub depth_array : (t : CType) (n : ℕ) → array_depth (ctype.Array t n) ≡ 1 + array_depth t
unfolding array_depth hidden hidden-the_row-CType-0
depth_array t n = refl

pub deepest_first : (ms : List Member) → deepest (take 1 ms) ≤ deepest ms
deepest_first [] = omega arith
deepest_first (m ∷ ms) = omega arith

pub deepest_there : (infos : List StructInfo) (i : ℕ) (info : StructInfo) → slice_get infos i ≡ Some info → deepest info.members ≤ deepest_in infos
deepest_there [] i info h = absurd (cc)
deepest_there (x ∷ xs) zero info h = let e : x ≡ info = cc in subst (λ (y : StructInfo). deepest y.members ≤ deepest_in (x ∷ xs)) e (omega arith)
deepest_there (x ∷ xs) (suc i) info h = omega (arith, deepest_there xs i info h)

begun_less : (b : Bool) (ms : List Member) → deepest (if b then take 1 ms else ms) ≤ deepest ms
begun_less true ms = deepest_first ms
begun_less false ms = omega arith

pub deepest_begun : (infos : List StructInfo) (i : ℕ) (info : StructInfo) → slice_get infos i ≡ Some info → deepest (members_begun (Some info)) ≤ deepest_in infos
deepest_begun infos i info h = omega (arith, begun_less info.is_union info.members, deepest_there infos i info h)

-- ---- one element more, one member more

pub row_none : (step at : ℕ) (element : ℕ → List Part) → in_a_row step 0 at element ≡ []
row_none step at element = refl

pub row_more : (step n at : ℕ) (element : ℕ → List Part) → 0 < n → in_a_row step n at element ≡ element at ++ in_a_row step (n - 1) (kept (at + step)) element
row_more step zero at element h = absurd (omega arith)
row_more step (suc n) at element h = let e : suc n - 1 ≡ n = omega arith in rw e refl

pub ruleset part_cases = (parts_void, parts_int, parts_ptr, parts_array, parts_struct, parts_unusable, struct_none, struct_nested, row_none, row_more, depth_array, deepest_begun, append_assoc, append-nil)

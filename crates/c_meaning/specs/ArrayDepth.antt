-- How deep arrays nest in types: by it a walk through types ends.
use Rattle.std.specs.Prelude.{ℕ, ◌+◌, max, List, [], ◌∷◌}
use Rattle.c_types.specs.declared.types.CType.{CType, end_of-CType, more_of-CType}
use Rattle.c_types.specs.declared.types.CType.TheVariants.{Array'}
use Rattle.c_types.specs.declared.types.Member.{Member}
use Rattle.c_types.specs.declared.types.StructInfo.{StructInfo}

-- how many arrays stand round what is no array
unfoldable pub array_depth : CType → ℕ
array_depth (Array' _ (more_of-CType t end_of-CType) n) = 1 + array_depth t
array_depth _ = 0

-- the deepest of the types of members
abbrev pub deepest : List Member → ℕ
deepest [] = 0
deepest (m ∷ ms) = max (array_depth m.ctype) (deepest ms)

-- and of all members of structs
abbrev pub deepest_in : List StructInfo → ℕ
deepest_in [] = 0
deepest_in (info ∷ infos) = max (deepest info.members) (deepest_in infos)

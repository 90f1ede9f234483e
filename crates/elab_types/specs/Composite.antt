-- Composite types (C11 6.2.7p3).
use Rattle.std.specs.Prelude.{List, [], ◌∷◌}
use Rattle.elab_types.specs.declared.types.Extent.{Extent}
use Rattle.elab_types.specs.declared.types.Extent.TheVariants as extent
use Rattle.elab_types.specs.declared.types.SourceType.{SourceType, Row_of-SourceType, end_of-SourceType, more_of-SourceType}
use Rattle.elab_types.specs.declared.types.SourceType.TheVariants.{Pointer', Array', Function'}
use Rattle.elab_types.specs.declared.types.SourceType.TheVariants as source

-- the length that is known; one that isn't constant goes before none
abbrev pub known_extent : Extent → Extent → Extent
known_extent (extent.Length m) n = extent.Length m
known_extent extent.Variable (extent.Length n) = extent.Length n
known_extent extent.Variable n = extent.Variable
known_extent extent.Unknown n = n

unfoldable mutual
  -- the composite of two compatible types; of others the second
  pub composite : SourceType → SourceType → SourceType
  composite (Pointer' _ (more_of-SourceType t end_of-SourceType) p) (Pointer' _ (more_of-SourceType u end_of-SourceType) q) = source.Pointer (composite t u) q
  composite (Array' _ (more_of-SourceType t end_of-SourceType) m) (Array' _ (more_of-SourceType u end_of-SourceType) n) = source.Array (composite t u) (known_extent m n)
  composite (Function' _ (more_of-SourceType t end_of-SourceType) _ xs v) (Function' _ (more_of-SourceType u end_of-SourceType) _ ys w) = source.Function (composite t u) (composite_rows xs ys) w
  composite t u = u

  pub composite_rows : {m n : _} → Row_of-SourceType m → Row_of-SourceType n → List SourceType
  composite_rows (more_of-SourceType t xs) (more_of-SourceType u ys) = composite t u ∷ composite_rows xs ys
  composite_rows _ _ = []

abbrev pub all_composite : List SourceType → List SourceType → List SourceType
all_composite (t ∷ ts) (u ∷ us) = composite t u ∷ all_composite ts us
all_composite _ _ = []

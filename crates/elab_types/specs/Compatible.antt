-- Compatible types (C11 6.2.7).
use Rattle.std.specs.Prelude.{ℕ, ◌==◌, Bool, true, false, not, ◌&&◌, List, [], ◌∷◌}
use Rattle.c_types.specs.declared.types.IntKind.{IntKind}
use Rattle.c_types.specs.declared.types.IntKind.TheVariants as kind
use Rattle.elab_types.specs.declared.types.Qualifiers.{Qualifiers}
use Rattle.elab_types.specs.declared.types.Extent.{Extent}
use Rattle.elab_types.specs.declared.types.Extent.TheVariants as extent
use Rattle.elab_types.specs.declared.compatible.Likeness.{Likeness}
use Rattle.elab_types.specs.declared.compatible.Likeness.TheVariants as likeness
use Rattle.elab_types.specs.declared.types.SourceType.{SourceType, Row_of-SourceType, end_of-SourceType, more_of-SourceType}
use Rattle.elab_types.specs.declared.types.SourceType.TheVariants.{Void, Int, Pointer', Array', Struct, Function', Floating, Faulty}

abbrev pub same : Bool → Bool → Bool
same true b = b
same false b = not b

-- a number for each integer type
abbrev pub kind_number : IntKind → ℕ
kind_number kind.Bool = 0
kind_number kind.Char = 1
kind_number kind.SChar = 2
kind_number kind.UChar = 3
kind_number kind.Short = 4
kind_number kind.UShort = 5
kind_number kind.Int = 6
kind_number kind.UInt = 7
kind_number kind.Long = 8
kind_number kind.ULong = 9
kind_number kind.LongLong = 10
kind_number kind.ULongLong = 11

abbrev pub same_kind : IntKind → IntKind → Bool
same_kind k l = kind_number k == kind_number l

-- 6.7.3p10: two qualified types to be compatible have the same qualifiers
abbrev pub same_qualifiers : Qualifiers → Qualifiers → Bool
same_qualifiers p q = same p.is_const q.is_const && (same p.is_volatile q.is_volatile && same p.is_restrict q.is_restrict)

abbrev pub agree : Likeness → Qualifiers → Qualifiers → Bool
agree likeness.ButForQualifiers p q = true
agree l p q = same_qualifiers p q

-- 6.7.6.2p6: the lengths of both, where both have one, are the same. One type twice has them at the same places, and they
-- are constants (6.7p3).
abbrev pub is_same : Likeness → Bool
is_same likeness.Same = true
is_same l = false

abbrev pub same_extent : Likeness → Extent → Extent → Bool
same_extent l (extent.Length m) (extent.Length n) = m == n
same_extent l extent.Unknown extent.Unknown = true
same_extent l m n = not (is_same l)

unfoldable mutual
  -- types that are compatible, that are so but for qualifiers at every level, or that are the same
  pub alike : Likeness → SourceType → SourceType → Bool
  alike how Faulty u = true
  alike how t Faulty = true
  alike how (Void p) (Void q) = agree how p q
  alike how (Int k p) (Int l q) = same_kind k l && agree how p q
  alike how (Pointer' _ (more_of-SourceType t end_of-SourceType) p) (Pointer' _ (more_of-SourceType u end_of-SourceType) q) = agree how p q && alike how t u
  alike how (Array' _ (more_of-SourceType t end_of-SourceType) m) (Array' _ (more_of-SourceType u end_of-SourceType) n) = same_extent how m n && alike how t u
  alike how (Struct s p) (Struct t q) = (s.0 == t.0) && agree how p q
  alike how (Function' _ (more_of-SourceType t end_of-SourceType) _ xs v) (Function' _ (more_of-SourceType u end_of-SourceType) _ ys w) = same v w && (alike how t u && rows_alike how xs ys)
  alike how (Floating p) (Floating q) = agree how p q
  alike how _ _ = false

  pub rows_alike : {m n : _} → Likeness → Row_of-SourceType m → Row_of-SourceType n → Bool
  rows_alike how end_of-SourceType end_of-SourceType = true
  rows_alike how (more_of-SourceType t xs) (more_of-SourceType u ys) = alike how t u && rows_alike how xs ys
  rows_alike how _ _ = false

abbrev pub all_alike : Likeness → List SourceType → List SourceType → Bool
all_alike how [] [] = true
all_alike how (t ∷ ts) (u ∷ us) = alike how t u && all_alike how ts us
all_alike how _ _ = false

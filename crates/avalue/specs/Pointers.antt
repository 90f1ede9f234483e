-- Offsets by base: a finite function, kept as a list with rising bases.
use Rattle.std.specs.Prelude.{◌≡◌, ◌^◌, ◌<◌, ℕ, List, [], ◌∷◌, Bool, ℤ, pos, nat_lt, nat_eq, if◌then◌else◌}
use Rattle.std.specs.List.{All, list_all, list_any}
use Rattle.ival.specs.Forms.{HasEnds, Within, norm, least, step}
use Rattle.ival.specs.SetOperations.{join_of, included_of}
use Rattle.ival.specs.declared.forms.Ival.{Ival}
use Rattle.ival.specs.declared.forms.Ival.TheVariants.{Empty, Set, Range, All as Every}

-- a base with its byte offsets
abbrev pub Pointer : Type 0
Pointer = ℕ × Ival

-- the bases rise
abbrev pub AreRising : List Pointer → Type 0
AreRising [] = Unit {0}
AreRising (p ∷ []) = Unit {0}
AreRising (p ∷ q ∷ rest) = (p.0 < q.0) × AreRising (q ∷ rest)

-- well-formed offsets that aren't Empty; All is no set of offsets
abbrev pub IsPointer : Pointer → Type 0
IsPointer p = HasEnds p.1

-- rising bases, each with offsets
pub record ArePointers (ps : List Pointer) : Type 0 where
  pub rising : AreRising ps
  pub each : All IsPointer ps

-- the offsets of a base; Empty where there are none
abbrev pub offsets_at : List Pointer → ℕ → Ival
offsets_at [] base = Empty
offsets_at (p ∷ rest) base = if nat_eq p.0 base then p.1 else offsets_at rest base

-- what the offsets of two sides become at one base: where a side has none, those of the other
abbrev pub of_both : (Ival → Ival → Ival) → Ival → Ival → Ival
of_both f Empty y = y
of_both f (Set xs) Empty = Set xs
of_both f (Set xs) y = f (Set xs) y
of_both f (Range lo hi r m) Empty = Range lo hi r m
of_both f (Range lo hi r m) y = f (Range lo hi r m) y
of_both f Every Empty = Every
of_both f Every y = f Every y

-- base by base
pub record AreCombined (f : Ival → Ival → Ival) (ps qs both : List Pointer) : Type 0 where
  pub formed : ArePointers both
  pub each : (base : ℕ) → offsets_at both base ≡ of_both f (offsets_at ps base) (offsets_at qs base)

-- the two lists as one with rising bases
unfoldable pub merged : (Ival → Ival → Ival) → List Pointer → List Pointer → List Pointer
merged f [] qs = qs
merged f (p ∷ ps) [] = p ∷ ps
merged f (p ∷ ps) (q ∷ qs) =
    if nat_lt p.0 q.0 then p ∷ merged f ps (q ∷ qs)
    else (if nat_lt q.0 p.0 then q ∷ merged f (p ∷ ps) qs else (p.0, f p.1 q.1) ∷ merged f ps qs)

-- an object has at most 2^21 bytes
abbrev pub object_end : ℤ
object_end = pos (2 ^ 21)

abbrev pub AreInObject : Ival → Type 0
AreInObject x = Within (pos 0) object_end x

-- offsets that grow become all of the object in their class
abbrev pub widened_offsets : Ival → Ival → Ival
widened_offsets old newer =
    if included_of newer old then old
    else norm (pos 0) object_end (least (join_of old newer)) (step (join_of old newer))

-- each base's offsets are among those of the other side
abbrev pub pointers_included : List Pointer → List Pointer → Bool
pointers_included ps qs = list_all (λ p. included_of p.1 (offsets_at qs p.0)) ps

abbrev pub is_listed : List ℕ → Pointer → Bool
is_listed bases p = list_any (λ b. nat_eq b p.0) bases

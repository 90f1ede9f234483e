-- A part of a list of pointers is one.
use Rattle.std.proofs.Common.{◌≡◌, List, [], ◌∷◌, sym, subst, arith}
use Rattle.std.specs.Prelude.{Bool, true, false, cond}
use Rattle.std.specs.List.{filter}
use Rattle.std.proofs.lemmas.List.Elements.{All-filter}
use Rattle.avalue.specs.Pointers.{Pointer, AreRising, IsPointer, ArePointers}

without_second : (o p : Pointer) (ps : List Pointer) → AreRising (o ∷ p ∷ ps) → AreRising (o ∷ ps)
without_second o p [] r = tt
without_second o p (q ∷ qs) r = (omega (arith, r.0, r.1.0), r.1.1)

behind_rising : (keep : Pointer → Bool) (o : Pointer) (ps : List Pointer) → AreRising (o ∷ ps) → AreRising (o ∷ filter keep ps)
behind_rising keep o [] r = tt
behind_rising keep o (q ∷ qs) r = elim (keep q) as (λ b. AreRising (o ∷ cond b (q ∷ filter keep qs) (filter keep qs))) [
  | true ↦ (r.0, behind_rising keep q qs r.1)
  | false ↦ behind_rising keep o qs (without_second o q qs r)
]

filter_rising : (keep : Pointer → Bool) (ps : List Pointer) → AreRising ps → AreRising (filter keep ps)
filter_rising keep [] r = tt
filter_rising keep (q ∷ qs) r = elim (keep q) as (λ b. AreRising (cond b (q ∷ filter keep qs) (filter keep qs))) [
  | true ↦ behind_rising keep q qs r
  | false ↦ filter_rising keep qs (tail_rising q qs r)
]
  where
    tail_rising : (o : Pointer) (os : List Pointer) → AreRising (o ∷ os) → AreRising os
    tail_rising o [] s = tt
    tail_rising o (x ∷ xs) s = s.1

pub filter_pointers : (keep : Pointer → Bool) (ps kept : List Pointer) → ArePointers ps → kept ≡ filter keep ps → ArePointers kept
filter_pointers keep ps kept a e = subst ArePointers (sym e) (record { rising = filter_rising keep ps a.rising; each = All-filter keep IsPointer ps a.each })

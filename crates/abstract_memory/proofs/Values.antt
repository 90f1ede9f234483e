-- The operations on values as functions are those of `avalue`, and keep members.
use Rattle.std.proofs.Common.{◌≡◌, ◌⊎◌, ℕ, List, [], ◌∷◌, refl, ℤ, pos, arith, Bool, true, false}
use Rattle.std.specs.Prelude.{nat_lt, slice_index_or, if◌then◌else◌}
use Rattle.std.specs.List.{All}
use Rattle.std.proofs.lemmas.List.Elements.{All-head, All-tail, All-cons}
use Rattle.std.proofs.lemmas.Int.{ints}
use Rattle.ival.specs.Forms.{IsBounded, HasEnds, norm, least, step}
use Rattle.ival.specs.SetOperations.{join_of, included_of}
use Rattle.ival.specs.declared.forms.Ival.{Ival}
use Rattle.ival.proofs.WidenMembers.{join-well_formed, join-within}
use Rattle.ival.proofs.WellFormed.{norm-well_formed}
use Rattle.avalue.specs.Pointers.{Pointer, IsPointer, ArePointers, AreInObject, merged, widened_offsets, object_end}
use Rattle.avalue.specs.Values.{IsWellFormedValue, PointsIntoObjects, IsJoin, IsWidening}
use Rattle.avalue.specs.Members.{Member, HasMember}
use Rattle.avalue.specs.declared.value.Value.{Value}
use Rattle.avalue.proofs.Ends.{formed_of, join_ends, widened_ends}
use Rattle.avalue.proofs.Members.{join_members}
use Rattle.avalue.proofs.Merging.{merged_combined, merged_rising}
use Rattle.abstract_memory.specs.Values.{join_values, widen_values}

-- what holds of each pointer of both sides, and of what a rule makes of two, holds of the merged pointers
pub merged_all : (P Q : Pointer → Type 0) (f : Ival → Ival → Ival) (ps qs : List Pointer) → ((p : Pointer) → P p → Q p) → ((p q : Pointer) → P p → P q → Q (p.0, f p.1 q.1))
    → All P ps → All P qs → All Q (merged f ps qs)
unfolding merged
merged_all P Q f [] qs i h a b = λ k d l. i (slice_index_or qs k d) (b k d l)
merged_all P Q f (p ∷ ps) [] i h a b = λ k d l. i (slice_index_or (p ∷ ps) k d) (a k d l)
merged_all P Q f (p ∷ ps) (q ∷ qs) i h a b =
    elim (nat_lt p.0 q.0) as (λ (c : Bool). All Q (if c then p ∷ merged f ps (q ∷ qs) else (if nat_lt q.0 p.0 then q ∷ merged f (p ∷ ps) qs else (p.0, f p.1 q.1) ∷ merged f ps qs))) [
      | true ↦ All-cons Q p (merged f ps (q ∷ qs)) (i p (All-head P p ps a)) (merged_all P Q f ps (q ∷ qs) i h (All-tail P p ps a) b)
      | false ↦ elim (nat_lt q.0 p.0) as (λ (c : Bool). All Q (if c then q ∷ merged f (p ∷ ps) qs else (p.0, f p.1 q.1) ∷ merged f ps qs)) [
        | true ↦ All-cons Q q (merged f (p ∷ ps) qs) (i q (All-head P q qs b)) (merged_all P Q f (p ∷ ps) qs i h a (All-tail P q qs b))
        | false ↦ All-cons Q (p.0, f p.1 q.1) (merged f ps qs) (h p q (All-head P p ps a) (All-head P q qs b)) (merged_all P Q f ps qs i h (All-tail P p ps a) (All-tail P q qs b))
      ]
    ]

join_pointer : (p q : Pointer) → IsPointer p → IsPointer q → IsPointer (p.0, join_of p.1 q.1)
join_pointer p q h k = join_ends p.1 q.1 (join_of p.1 q.1) refl h k (join-well_formed p.1 q.1 (formed_of p.1 h) (formed_of q.1 k))

pub joined_pointers : (ps qs : List Pointer) → ArePointers ps → ArePointers qs → ArePointers (merged join_of ps qs)
joined_pointers ps qs a b = record { rising = merged_rising join_of ps qs a.rising b.rising; each = merged_all IsPointer IsPointer join_of ps qs (λ p h. h) join_pointer a.each b.each }

pub is_join : (a b : Value) → IsWellFormedValue a → IsWellFormedValue b → IsJoin a b (join_values a b)
unfolding join_values
is_join a b x y = record {
  uninit = refl;
  dangling = refl;
  ints = refl;
  ptrs = merged_combined join_of a.ptrs b.ptrs (merged join_of a.ptrs b.ptrs) x.ptrs y.ptrs (joined_pointers a.ptrs b.ptrs x.ptrs y.ptrs).each refl;
}

pub join_formed : (a b : Value) → IsWellFormedValue a → IsWellFormedValue b → IsWellFormedValue (join_values a b)
unfolding join_values
join_formed a b x y = record { ints = join-well_formed a.ints b.ints x.ints y.ints; ptrs = joined_pointers a.ptrs b.ptrs x.ptrs y.ptrs }

pub join_has : (a b : Value) → IsWellFormedValue a → IsWellFormedValue b → (u : Member) → HasMember a u ⊎ HasMember b u → HasMember (join_values a b) u
join_has a b x y u o = join_members a b (join_values a b) x y (is_join a b x y) u o

-- ---- widening

IsInside : Pointer → Type 0
IsInside p = IsPointer p × AreInObject p.1

widened_formed : (x y : Ival) (c : Bool) → HasEnds x → HasEnds y → AreInObject x → included_of y x ≡ c
    → HasEnds (if c then x else norm (pos 0) object_end (least (join_of x y)) (step (join_of x y)))
widened_formed x y true h k i e = h
widened_formed x y false h k i e =
    let w = join-well_formed x y (formed_of x h) (formed_of y k) in
    widened_ends x y (join_of x y) (norm (pos 0) object_end (least (join_of x y)) (step (join_of x y))) refl h k (join_ends x y (join_of x y) refl h k w) i
    (norm-well_formed (pos 0) object_end (least (join_of x y)) (step (join_of x y)) low high) refl
  where
    low : IsBounded (pos 0)
    low = record { above = omega (arith, ints); below = omega (arith, ints) }

    high : IsBounded object_end
    high = record { above = omega (arith, ints); below = omega (arith, ints) }

widen_pointer : (p q : Pointer) → IsInside p → IsInside q → IsPointer (p.0, widened_offsets p.1 q.1)
unfolding IsInside
widen_pointer p q h k = widened_formed p.1 q.1 (included_of q.1 p.1) h.0 k.0 h.1 refl

pub widened_pointers : (a b : Value) → IsWellFormedValue a → IsWellFormedValue b → PointsIntoObjects a → PointsIntoObjects b → ArePointers (merged widened_offsets a.ptrs b.ptrs)
unfolding IsInside
widened_pointers a b x y i j = record {
  rising = merged_rising widened_offsets a.ptrs b.ptrs x.ptrs.rising y.ptrs.rising;
  each = merged_all IsInside IsPointer widened_offsets a.ptrs b.ptrs (λ p h. h.0) widen_pointer (λ k d l. (x.ptrs.each k d l, i k d l)) (λ k d l. (y.ptrs.each k d l, j k d l));
}

pub is_widening : (thresholds : List ℤ) (width : ℕ) (a b : Value) → IsWellFormedValue a → IsWellFormedValue b → PointsIntoObjects a → PointsIntoObjects b
    → IsWidening a b thresholds width (widen_values thresholds width a b)
unfolding widen_values
is_widening thresholds width a b x y i j = record {
  uninit = refl;
  dangling = refl;
  ints = refl;
  ptrs = merged_combined widened_offsets a.ptrs b.ptrs (merged widened_offsets a.ptrs b.ptrs) x.ptrs y.ptrs (widened_pointers a b x y i j).each refl;
}

pub join_offsets : (a b : Value) → IsWellFormedValue a → IsWellFormedValue b → PointsIntoObjects a → PointsIntoObjects b → PointsIntoObjects (join_values a b)
unfolding join_values IsInside
join_offsets a b x y i j =
    merged_all IsInside (λ p. AreInObject p.1) join_of a.ptrs b.ptrs (λ p h. h.1)
    (λ p q h k. join-within (pos 0) object_end p.1 q.1 (formed_of p.1 h.0) (formed_of q.1 k.0) h.1 k.1)
    (λ k d l. (x.ptrs.each k d l, i k d l)) (λ k d l. (y.ptrs.each k d l, j k d l))

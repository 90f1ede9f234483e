-- Bits of groups.
use Rattle.std.proofs.Common.{◌≡◌, ℕ, zero, suc, ◌+◌, ◌-◌, List, [], ◌∷◌, sym, refl, ap, ◌∙◌, Bool, true, false, ℤ, pos, Option, Some, None, arith, IsTrue, ◌↔◌}
use Rattle.std.specs.Prelude.{if◌then◌else◌}
use Rattle.std.specs.List.{fold, range_with_len}
use Rattle.std.proofs.lemmas.Int.{ints}
use Rattle.std.proofs.lemmas.List.Elements.{All-cons, All-nil}
use Rattle.c_memory.specs.Cells.{bit_of}
use Rattle.ival.specs.Forms.{IsBounded, IsMemberList, IsWellFormed, hull, is_empty, only_number}
use Rattle.ival.specs.declared.forms.Ival.{Ival}
use Rattle.ival.specs.declared.forms.Ival.TheVariants.{Empty, Set}
use Rattle.avalue.specs.Pointers.{ArePointers, IsPointer, Pointer}
use Rattle.avalue.specs.Values.{IsWellFormedValue}
use Rattle.avalue.specs.declared.value.Value.{Value}
use Rattle.abstract_memory.specs.Values.{bit_ints, bit_number, has_no_pointers, is_plain, join_values, loose, loose_by, nothing, of_ints, one_number}
use Rattle.abstract_memory.proofs.Ascending.{hull_members}
use Rattle.abstract_memory.proofs.Formed.{one_formed}

bounded : (b : Bool) → IsBounded (bit_number b)
bounded true = record { above = omega (arith, ints); below = omega (arith, ints) }
bounded false = record { above = omega (arith, ints); below = omega (arith, ints) }

both : IsMemberList (pos 0 ∷ pos 1 ∷ [])
both = record {
  some = omega arith;
  few = omega arith;
  ascending = (omega (arith, ints), tt);
  bounded = All-cons IsBounded (pos 0) (pos 1 ∷ []) (bounded false) (All-cons IsBounded (pos 1) [] (bounded true) (All-nil IsBounded));
}

pub zero_set : hull (pos 0 ∷ []) ≡ Set (pos 0 ∷ [])
zero_set = hull_members (pos 0 ∷ []) (one_formed (pos 0) (bounded false))

pub one_set : hull (pos 1 ∷ []) ≡ Set (pos 1 ∷ [])
one_set = hull_members (pos 1 ∷ []) (one_formed (pos 1) (bounded true))

pub both_set : hull (pos 0 ∷ pos 1 ∷ []) ≡ Set (pos 0 ∷ pos 1 ∷ [])
both_set = hull_members (pos 0 ∷ pos 1 ∷ []) both

pub bits_bounded : (b : Bool) → IsBounded (bit_number b)
bits_bounded b = bounded b

pub ints_cases : (i : Ival) (w : ℕ) (e z o : Bool) → IsWellFormed (if e then Empty else (if z then one_number (pos 0) else (if o then one_number (pos 1) else Set (pos 0 ∷ pos 1 ∷ []))))
ints_cases i w true z o = tt
ints_cases i w false true o = one_formed (pos 0) (bounded false)
ints_cases i w false false true = one_formed (pos 1) (bounded true)
ints_cases i w false false false = both

pub ruleset bit_facts = (zero_set, one_set, both_set, bits_bounded)

-- ---- pointers

pub none_tells : (ps : List Pointer) (b : Bool) → (IsTrue b ↔ (ps ≡ [])) → b ≡ has_no_pointers ps
none_tells [] b h = h.1 refl
none_tells (p ∷ ps) true h = absurd (no_cons (h.0 refl))
  where
    no_cons : p ∷ ps ≡ [] → ⊥
    no_cons e = cc
none_tells (p ∷ ps) false h = refl

pub ruleset pointer_facts = (none_tells)

-- ---- loosening

no_pointers : ArePointers []
no_pointers = record { rising = tt; each = All-nil IsPointer }

pub known_bit : (v : Value) (w j : ℕ) (x : ℤ) → only_number v.ints ≡ Some x → is_plain v ≡ true → of_ints (one_number (bit_number (bit_of x j))) ≡ loose v w j
unfolding loose
known_bit v w j x e p = sym (ap (λ o. loose_by o v w j) e ∙ rw p refl)

pub mixed_bit : (v : Value) (w j : ℕ) (x : ℤ) → only_number v.ints ≡ Some x → is_plain v ≡ false → record { uninit = v.uninit; dangling = v.dangling; ints = bit_ints v.ints w; ptrs = v.ptrs } ≡ loose v w j
unfolding loose
mixed_bit v w j x e p = sym (ap (λ o. loose_by o v w j) e ∙ rw p refl)

pub other_bit : (v : Value) (w j : ℕ) → only_number v.ints ≡ None → record { uninit = v.uninit; dangling = v.dangling; ints = bit_ints v.ints w; ptrs = v.ptrs } ≡ loose v w j
unfolding loose
other_bit v w j e = sym (ap (λ o. loose_by o v w j) e)

by_formed : (v : Value) (w j : ℕ) (o : Option ℤ) (c : Bool) → IsWellFormedValue v → is_plain v ≡ c → IsWellFormedValue (loose_by o v w j)
by_formed v w j None c h e = record { ints = ints_cases v.ints w (is_empty v.ints) _ _; ptrs = h.ptrs }
by_formed v w j (Some x) true h e = rw e (record { ints = one_formed (bit_number (bit_of x j)) (bounded (bit_of x j)); ptrs = no_pointers })
by_formed v w j (Some x) false h e = rw e (record { ints = ints_cases v.ints w (is_empty v.ints) _ _; ptrs = h.ptrs })

pub loose_formed : (v : Value) (w j : ℕ) → IsWellFormedValue v → IsWellFormedValue (loose v w j)
unfolding loose
loose_formed v w j h = by_formed v w j (only_number v.ints) (is_plain v) h refl

pub ruleset loose_facts = (known_bit, mixed_bit, other_bit, loose_formed)

-- ---- a fold over the first numbers

fold_end : {B : Type 0} (f : B → ℕ → B) (a n : ℕ) (b : B) → fold f b (range_with_len a (suc n)) ≡ f (fold f b (range_with_len a n)) (a + n)
fold_end f a zero b = ap (f b) (let z : a ≡ a + 0 = omega arith in z)
fold_end f a (suc n) b = fold_end f (a + 1) n (f b a) ∙ ap (f (fold f (f b a) (range_with_len (a + 1) n))) (let z : a + 1 + n ≡ a + suc n = omega arith in z)

pub fold_next : {B : Type 0} (f : B → ℕ → B) (n : ℕ) (b : B) → fold f b (range_with_len 0 (n + 1)) ≡ f (fold f b (range_with_len 0 n)) n
fold_next f n b = ap (λ k. fold f b (range_with_len 0 k)) (let z : n + 1 ≡ suc n = omega arith in z) ∙ fold_end f 0 n b ∙ ap (f (fold f b (range_with_len 0 n))) (let z : 0 + n ≡ n = omega arith in z)

pub join_next : (v : Value) (n j : ℕ) (bit : Value) → bit ≡ fold (λ bit j. join_values bit (loose v n j)) nothing (range_with_len 0 j)
    → join_values bit (loose v n j) ≡ fold (λ bit j. join_values bit (loose v n j)) nothing (range_with_len 0 (j + 1))
join_next v n j bit e = ap (λ b. join_values b (loose v n j)) e ∙ sym (fold_next (λ bit j. join_values bit (loose v n j)) j nothing)

pub nothing_formed : IsWellFormedValue (of_ints Empty)
nothing_formed = record { ints = tt; ptrs = no_pointers }

pub ruleset join_facts = (join_next, nothing_formed)

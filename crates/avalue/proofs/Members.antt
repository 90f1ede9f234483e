-- Members are kept, part by part and base by base.
use Rattle.std.proofs.Common.{◌≡◌, ◌≢◌, ◌⊎◌, inl, inr, ℕ, ◌^◌, ◌-◌, List, [], ◌∷◌, sym, refl, subst, ◌∙◌, ℤ, pos, neg_ℤ, ◌-ℤ◌, ◌≤ℤ◌, arith}
use Rattle.std.proofs.lemmas.Bool.Decides.{nat_tests}
use Rattle.std.specs.Prelude.{Bool, true, false, cond, ◌&&◌, ◌||◌, nat_eq}
use Rattle.std.specs.List.{All}
use Rattle.std.proofs.lemmas.List.Elements.{All-head, All-tail}
use Rattle.ival.specs.Forms.{Has, HasEnds, IsWellFormed, Within, norm, least, step}
use Rattle.ival.specs.SetOperations.{join_of, included_of}
use Rattle.ival.specs.declared.forms.Ival.{Ival}
use Rattle.ival.specs.declared.forms.Ival.TheVariants.{Empty, Set, Range, All as Every}
use Rattle.ival.proofs.JoinMembers.{join-keeps}
use Rattle.ival.proofs.WidenMembers.{widen-keeps, join-well_formed}
use Rattle.ival.proofs.Membership.{included-sound, by-test}
use Rattle.ival.proofs.Keeping.{norm-keeps, member-between, member-class}
use Rattle.avalue.specs.declared.value.Value.{Value}
use Rattle.avalue.specs.Pointers.{Pointer, IsPointer, ArePointers, AreCombined, AreInObject, object_end, offsets_at, of_both, widened_offsets, pointers_included}
use Rattle.avalue.specs.Values.{IsWellFormedValue, PointsIntoObjects, IsJoin, IsWidening, implies, value_included}
use Rattle.avalue.specs.Members.{Member, uninit, dangling, number, pointer, HasMember}
use Rattle.avalue.proofs.Ends.{formed_of, join_ends, within_least, within_greatest}
use Rattle.std.proofs.lemmas.Int.{ints}

-- ---- the offsets of a base

-- they are well-formed, and are offsets where there is one
offsets_formed : (ps : List Pointer) (base : ℕ) → All IsPointer ps → IsWellFormed (offsets_at ps base)
offsets_formed [] base a = tt
offsets_formed (p ∷ ps) base a = elim (nat_eq p.0 base) as (λ b. IsWellFormed (cond b p.1 (offsets_at ps base))) [
  | true ↦ formed_of p.1 (All-head IsPointer p ps a)
  | false ↦ offsets_formed ps base (All-tail IsPointer p ps a)
]

pub offsets_have : (P : Ival → Type 0) (ps : List Pointer) (base : ℕ) (z : ℤ) → All (λ p. P p.1) ps → Has (offsets_at ps base) z → P (offsets_at ps base)
offsets_have P [] base z a = λ h. absurd h
offsets_have P (p ∷ ps) base z a = elim (nat_eq p.0 base) as (λ b. Has (cond b p.1 (offsets_at ps base)) z → P (cond b p.1 (offsets_at ps base))) [
  | true ↦ (λ h. All-head (λ q. P q.1) p ps a)
  | false ↦ offsets_have P ps base z (All-tail (λ q. P q.1) p ps a)
]

-- what a rule keeps of offsets is kept base by base
both_keep : (f : Ival → Ival → Ival) (x y : Ival) (z : ℤ) → (HasEnds x → HasEnds y → Has x z ⊎ Has y z → Has (f x y) z)
    → (Has x z → HasEnds x) → (Has y z → HasEnds y) → IsWellFormed x → IsWellFormed y → Has x z ⊎ Has y z → Has (of_both f x y) z
both_keep f Empty y z k a b w v (inl h) = absurd h
both_keep f Empty y z k a b w v (inr h) = h
both_keep f Every y z k a b w v (inl h) = absurd (a h)
both_keep f Every y z k a b w v (inr h) = every_left y b v h
  where
    every_left : (y : Ival) → (Has y z → HasEnds y) → IsWellFormed y → Has y z → Has (of_both f Every y) z
    every_left y b v h = absurd (a tt)
both_keep f (Set xs) Empty z k a b w v (inl h) = h
both_keep f (Set xs) Empty z k a b w v (inr h) = absurd h
both_keep f (Set xs) Every z k a b w v o = absurd (b tt)
both_keep f (Set xs) (Set ys) z k a b w v o = k w v o
both_keep f (Set xs) (Range lo hi r m) z k a b w v o = k w v o
both_keep f (Range lo hi r m) Empty z k a b w v (inl h) = h
both_keep f (Range lo hi r m) Empty z k a b w v (inr h) = absurd h
both_keep f (Range lo hi r m) Every z k a b w v o = absurd (b tt)
both_keep f (Range lo hi r m) (Set ys) z k a b w v o = k w v o
both_keep f (Range lo hi r m) (Range low high rest stride) z k a b w v o = k w v o

-- ---- parts

or_true : (p q : Bool) → (p ≡ true) ⊎ (q ≡ true) → (p || q) ≡ true
or_true true q o = refl
or_true false q (inl e) = absurd (no e)
  where
    no : false ≡ true → ⊥
    no e = cc
or_true false q (inr e) = e

and_left : (p q : Bool) → (p && q) ≡ true → p ≡ true
and_left true q e = refl
and_left false q e = e

and_right : (p q : Bool) → (p && q) ≡ true → q ≡ true
and_right true q e = e
and_right false q e = absurd (no e)
  where
    no : false ≡ true → ⊥
    no e = cc

implied : (p q : Bool) → implies p q ≡ true → p ≡ true → q ≡ true
implied true q e h = e
implied false q e h = absurd (no h)
  where
    no : false ≡ true → ⊥
    no e = cc

combined_keep : (f : Ival → Ival → Ival) (ps qs both : List Pointer) → ArePointers ps → ArePointers qs → AreCombined f ps qs both → (base : ℕ) (z : ℤ)
    → (HasEnds (offsets_at ps base) → HasEnds (offsets_at qs base) → Has (offsets_at ps base) z ⊎ Has (offsets_at qs base) z → Has (f (offsets_at ps base) (offsets_at qs base)) z)
    → Has (offsets_at ps base) z ⊎ Has (offsets_at qs base) z → Has (offsets_at both base) z
combined_keep f ps qs both a b c base z k o =
    subst (λ s. Has s z) (sym (c.each base)) (both_keep f (offsets_at ps base) (offsets_at qs base) z k
    (offsets_have HasEnds ps base z a.each) (offsets_have HasEnds qs base z b.each) (offsets_formed ps base a.each) (offsets_formed qs base b.each) o)

pub join_members : (a b v : Value) → IsWellFormedValue a → IsWellFormedValue b → IsJoin a b v → (m : Member) → HasMember a m ⊎ HasMember b m → HasMember v m
join_members a b v x y j uninit o = j.uninit ∙ or_true a.uninit b.uninit o
join_members a b v x y j dangling o = j.dangling ∙ or_true a.dangling b.dangling o
join_members a b v x y j (number z) o = subst (λ s. Has s z) (sym j.ints) (join-keeps a.ints b.ints x.ints y.ints z o)
join_members a b v x y j (pointer base z) o =
    combined_keep join_of a.ptrs b.ptrs v.ptrs x.ptrs y.ptrs j.ptrs base z
    (λ h k. join-keeps (offsets_at a.ptrs base) (offsets_at b.ptrs base) (formed_of _ h) (formed_of _ k) z) o

-- ---- widening

inside : (x : Ival) (z : ℤ) → HasEnds x → AreInObject x → Has x z → (pos 0 ≤ℤ z) × (z ≤ℤ object_end)
inside x z h i m =
    let b = member-between x z h m in let l = within_least x (pos 0) object_end h i in let g = within_greatest x (pos 0) object_end h i in
    (omega (arith, ints, b.0, l.0), omega (arith, ints, b.1, g.1))

widened_keep : (x y : Ival) (z : ℤ) → HasEnds x → HasEnds y → AreInObject x → AreInObject y → Has x z ⊎ Has y z → Has (widened_offsets x y) z
widened_keep x y z h k i j o = by-test (λ s. Has s z) (included_of y x) x (norm (pos 0) object_end (least (join_of x y)) (step (join_of x y)))
    (λ e. old e o) (λ e. grown)
  where
    old : included_of y x ≡ true → Has x z ⊎ Has y z → Has x z
    old e (inl m) = m
    old e (inr m) = included-sound y x (formed_of y k) (formed_of x h) e z m

    lies : Has x z ⊎ Has y z → (pos 0 ≤ℤ z) × (z ≤ℤ object_end)
    lies (inl m) = inside x z h i m
    lies (inr m) = inside y z k j m

    grown : Has (norm (pos 0) object_end (least (join_of x y)) (step (join_of x y))) z
    grown =
        let l = lies o in
        let w : IsWellFormed (join_of x y) = join-well_formed x y (formed_of x h) (formed_of y k) in
        norm-keeps (pos 0) object_end (least (join_of x y)) z (step (join_of x y)) l.0 l.1
        (member-class (join_of x y) z (join_ends x y (join_of x y) refl h k w) (join-keeps x y (formed_of x h) (formed_of y k) z o))

pub widening_members : (a b v : Value) (thresholds : List ℤ) (width : ℕ) → IsWellFormedValue a → IsWellFormedValue b → PointsIntoObjects a → PointsIntoObjects b
    → Within (neg_ℤ (pos (2 ^ (width - 1)))) (pos (2 ^ width) -ℤ pos 1) a.ints → Within (neg_ℤ (pos (2 ^ (width - 1)))) (pos (2 ^ width) -ℤ pos 1) b.ints
    → IsWidening a b thresholds width v → (m : Member) → HasMember a m ⊎ HasMember b m → HasMember v m
widening_members a b v thresholds width x y i j p q w uninit o = w.uninit ∙ or_true a.uninit b.uninit o
widening_members a b v thresholds width x y i j p q w dangling o = w.dangling ∙ or_true a.dangling b.dangling o
widening_members a b v thresholds width x y i j p q w (number z) o =
    subst (λ s. Has s z) (sym w.ints) (widen-keeps a.ints b.ints thresholds width x.ints y.ints p q z o)
widening_members a b v thresholds width x y i j p q w (pointer base z) o =
    combined_keep widened_offsets a.ptrs b.ptrs v.ptrs x.ptrs y.ptrs w.ptrs base z
    (λ h k. widened_keep (offsets_at a.ptrs base) (offsets_at b.ptrs base) z h k (into a.ptrs i base) (into b.ptrs j base)) o
  where
    into : (ps : List Pointer) → All (λ p. AreInObject p.1) ps → (base : ℕ) → AreInObject (offsets_at ps base)
    into [] all base = tt
    into (p ∷ ps) all base = elim (nat_eq p.0 base) as (λ b. AreInObject (cond b p.1 (offsets_at ps base))) [
      | true ↦ All-head (λ s. AreInObject s.1) p ps all
      | false ↦ into ps (All-tail (λ s. AreInObject s.1) p ps all) base
    ]

-- ---- inclusion

included_at : (ps qs : List Pointer) (base : ℕ) → pointers_included ps qs ≡ true → included_of (offsets_at ps base) (offsets_at qs base) ≡ true
included_at [] qs base e = refl
included_at (p ∷ ps) qs base e = elim (same_or_not p.0 base) [
  | inl d ↦ subst (λ s. included_of s (offsets_at qs base) ≡ true) (sym (here p ps base d))
      (subst (λ (n : ℕ). included_of p.1 (offsets_at qs n) ≡ true) d (and_left (included_of p.1 (offsets_at qs p.0)) (pointers_included ps qs) e))
  | inr n ↦ subst (λ s. included_of s (offsets_at qs base) ≡ true) (sym (there p ps base n)) (included_at ps qs base (and_right (included_of p.1 (offsets_at qs p.0)) (pointers_included ps qs) e))
]
  where
    same_or_not : (x y : ℕ) → (x ≡ y) ⊎ (x ≢ y)
    same_or_not x y = grind arith

    here : (p : Pointer) (ps : List Pointer) (base : ℕ) → p.0 ≡ base → offsets_at (p ∷ ps) base ≡ p.1
    here p ps base e = let t : nat_eq p.0 base ≡ true = grind (arith, nat_tests) in rw t refl

    there : (p : Pointer) (ps : List Pointer) (base : ℕ) → p.0 ≢ base → offsets_at (p ∷ ps) base ≡ offsets_at ps base
    there p ps base e = let t : nat_eq p.0 base ≡ false = grind (arith, nat_tests) in rw t refl

pub included_members : (a b : Value) → IsWellFormedValue a → IsWellFormedValue b → value_included a b ≡ true → (m : Member) → HasMember a m → HasMember b m
included_members a b x y e m h =
    let u = implies a.uninit b.uninit in let d = implies a.dangling b.dangling in let i = included_of a.ints b.ints in let p = pointers_included a.ptrs b.ptrs in
    by_part (and_left u d (and_left (u && d) i (and_left (u && d && i) p e))) (and_right u d (and_left (u && d) i (and_left (u && d && i) p e)))
    (and_right (u && d) i (and_left (u && d && i) p e)) (and_right (u && d && i) p e) m h
  where
    by_part : implies a.uninit b.uninit ≡ true → implies a.dangling b.dangling ≡ true → included_of a.ints b.ints ≡ true → pointers_included a.ptrs b.ptrs ≡ true
        → (m : Member) → HasMember a m → HasMember b m
    by_part u d i p uninit h = implied a.uninit b.uninit u h
    by_part u d i p dangling h = implied a.dangling b.dangling d h
    by_part u d i p (number z) h = included-sound a.ints b.ints x.ints y.ints i z h
    by_part u d i p (pointer base z) h =
        included-sound (offsets_at a.ptrs base) (offsets_at b.ptrs base) (offsets_formed a.ptrs base x.ptrs.each) (offsets_formed b.ptrs base y.ptrs.each)
        (included_at a.ptrs b.ptrs base p) z h

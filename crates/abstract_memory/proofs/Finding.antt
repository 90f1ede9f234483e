-- The objects of states, base by base.
use Rattle.std.proofs.Common.{ℕ, suc, ◌+◌, ◌<◌, ◌≤◌, ◌≡◌, ◌≢◌, ◌⊎◌, inl, inr, refl, sym, ap, subst, ◌∙◌, true, false, eqb, List, [], ◌∷◌, Option, Some, None, arith}
use Rattle.std.specs.Prelude.{nat_lt, slice_index}
use Rattle.std.specs.List.{All}
use Rattle.std.specs.List.Sorted.{IsStrictlyIncreasing}
use Rattle.std.specs.Map.{keys_of}
use Rattle.std.proofs.lemmas.Bool.Decides.{nat_tests}
use Rattle.std.proofs.lemmas.List.Elements.{All-head, All-tail}
use Rattle.abstract_memory.specs.Objects.{Object, IsObject}
use Rattle.abstract_memory.specs.States.{Objects, AreObjects, combined, find_object}

eq_no : (x y : ℕ) → x ≢ y → eqb x y ≡ false
eq_no x y e = grind (arith, nat_tests)

eq_yes : (x y : ℕ) → x ≡ y → eqb x y ≡ true
eq_yes x y e = grind (arith, nat_tests)

pub lt_yes : (x y : ℕ) → x < y → nat_lt x y ≡ true
lt_yes x y h = grind (arith, nat_tests)

pub lt_no : (x y : ℕ) → y ≤ x → nat_lt x y ≡ false
lt_no x y h = grind (arith, nat_tests)

pub order : (x y : ℕ) → (x < y) ⊎ ((y < x) ⊎ (x ≡ y))
order x y = grind arith

pub same_or_not : (x y : ℕ) → (x ≡ y) ⊎ (x ≢ y)
same_or_not x y = grind arith

-- ---- rising bases

pub tail_rises : (x : ℕ) (xs : List ℕ) → IsStrictlyIncreasing (x ∷ xs) → IsStrictlyIncreasing xs
tail_rises x xs h k l =
    let z : suc k + 1 ≡ suc (k + 1) = omega arith in
    subst (λ (j : ℕ). slice_index (x ∷ xs) (suc k) < slice_index (x ∷ xs) j) z (h (suc k) (omega (arith, l)))

pub head_rises : (x y : ℕ) (ys : List ℕ) → IsStrictlyIncreasing (x ∷ y ∷ ys) → x < y
head_rises x y ys h = h 0 (omega arith)

-- ---- finding

pub find_here : (p : ℕ × Object) (ps : Objects) (base : ℕ) → p.0 ≡ base → find_object (p ∷ ps) base ≡ Some p.1
find_here p ps base e = let t = eq_yes p.0 base e in rw t refl

pub find_there : (p : ℕ × Object) (ps : Objects) (base : ℕ) → p.0 ≢ base → find_object (p ∷ ps) base ≡ find_object ps base
find_there p ps base e = let t = eq_no p.0 base e in rw t refl

absent : (p : ℕ × Object) (ps : Objects) (base : ℕ) → base < p.0 → IsStrictlyIncreasing (keys_of (p ∷ ps)) → find_object (p ∷ ps) base ≡ None
absent p [] base h r = find_there p [] base (omega (arith, h))
absent p (q ∷ qs) base h r =
    let l = head_rises p.0 q.0 (keys_of qs) r in
    find_there p (q ∷ qs) base (omega (arith, h)) ∙ absent q qs base (omega (arith, h, l)) (tail_rises p.0 (keys_of (q ∷ qs)) r)

-- what both sides have of a base
abbrev pub united : (Object → Object → Object) → Option Object → Option Object → Option Object
united f None o = o
united f (Some a) None = Some a
united f (Some a) (Some b) = Some (f a b)

right_none : (f : Object → Object → Object) (o : Option Object) → united f o None ≡ o
right_none f None = refl
right_none f (Some a) = refl

pub left_first : (f : Object → Object → Object) (p q : ℕ × Object) (ps qs : Objects) → p.0 < q.0 → combined f (p ∷ ps) (q ∷ qs) ≡ p ∷ combined f ps (q ∷ qs)
unfolding combined
left_first f p q ps qs h = let t = lt_yes p.0 q.0 h in rw t refl

pub right_first : (f : Object → Object → Object) (p q : ℕ × Object) (ps qs : Objects) → q.0 < p.0 → combined f (p ∷ ps) (q ∷ qs) ≡ q ∷ combined f (p ∷ ps) qs
unfolding combined
right_first f p q ps qs h = let t = lt_no p.0 q.0 (omega (arith, h)) in let s = lt_yes q.0 p.0 h in rw (t, s) refl

pub both_first : (f : Object → Object → Object) (p q : ℕ × Object) (ps qs : Objects) → p.0 ≡ q.0 → combined f (p ∷ ps) (q ∷ qs) ≡ (p.0, f p.1 q.1) ∷ combined f ps qs
unfolding combined
both_first f p q ps qs h = let t = lt_no p.0 q.0 (omega (arith, h)) in let s = lt_no q.0 p.0 (omega (arith, h)) in rw (t, s) refl

pub combined_find : (f : Object → Object → Object) (ps qs : Objects) (base : ℕ) → IsStrictlyIncreasing (keys_of ps) → IsStrictlyIncreasing (keys_of qs)
    → find_object (combined f ps qs) base ≡ united f (find_object ps base) (find_object qs base)
unfolding combined
combined_find f [] qs base r s = refl
combined_find f (p ∷ ps) [] base r s = sym (right_none f (find_object (p ∷ ps) base))
combined_find f (p ∷ ps) (q ∷ qs) base r s = elim (order p.0 q.0) [
  | inl h ↦ ap (λ os. find_object os base) (left_first f p q ps qs h) ∙ elim (same_or_not p.0 base) [
    | inl e ↦
        find_here p (combined f ps (q ∷ qs)) base e
        ∙ sym (ap (λ o. united f o (find_object (q ∷ qs) base)) (find_here p ps base e) ∙ ap (λ o. united f (Some p.1) o) (absent q qs base (omega (arith, h, e)) s))
    | inr e ↦
        find_there p (combined f ps (q ∷ qs)) base e ∙ combined_find f ps (q ∷ qs) base (tail_rises p.0 (keys_of ps) r) s
        ∙ sym (ap (λ o. united f o (find_object (q ∷ qs) base)) (find_there p ps base e))
  ]
  | inr k ↦ elim k [
    | inl h ↦ ap (λ os. find_object os base) (right_first f p q ps qs h) ∙ elim (same_or_not q.0 base) [
      | inl e ↦
          find_here q (combined f (p ∷ ps) qs) base e
          ∙ sym (ap (λ o. united f o (find_object (q ∷ qs) base)) (absent p ps base (omega (arith, h, e)) r) ∙ find_here q qs base e)
      | inr e ↦
          find_there q (combined f (p ∷ ps) qs) base e ∙ combined_find f (p ∷ ps) qs base r (tail_rises q.0 (keys_of qs) s)
          ∙ sym (ap (λ o. united f (find_object (p ∷ ps) base) o) (find_there q qs base e))
    ]
    | inr h ↦ ap (λ os. find_object os base) (both_first f p q ps qs h) ∙ elim (same_or_not p.0 base) [
      | inl e ↦
          find_here (p.0, f p.1 q.1) (combined f ps qs) base e
          ∙ sym (ap (λ o. united f o (find_object (q ∷ qs) base)) (find_here p ps base e) ∙ ap (λ o. united f (Some p.1) o) (find_here q qs base (sym h ∙ e)))
      | inr e ↦
          find_there (p.0, f p.1 q.1) (combined f ps qs) base e ∙ combined_find f ps qs base (tail_rises p.0 (keys_of ps) r) (tail_rises q.0 (keys_of qs) s)
          ∙ sym (ap (λ o. united f o (find_object (q ∷ qs) base)) (find_there p ps base e) ∙ ap (λ o. united f (find_object ps base) o) (find_there q qs base (λ t. e (h ∙ t))))
    ]
  ]
]

-- what holds of each object holds of one that is found
pub found : (P : Object → Type 0) (os : Objects) (base : ℕ) (o : Object) → All (λ p. P p.1) os → find_object os base ≡ Some o → P o
found P [] base o a e = absurd (none_some o e)
  where
    none_some : (o : Object) → None ≡ Some o → ⊥
    none_some o e = cc
found P (p ∷ ps) base o a e = elim (same_or_not p.0 base) [
  | inl h ↦ subst P (some_same p.1 o (sym (find_here p ps base h) ∙ e)) (All-head (λ q. P q.1) p ps a)
  | inr h ↦ found P ps base o (All-tail (λ q. P q.1) p ps a) (sym (find_there p ps base h) ∙ e)
]
  where
    value : Option Object → Object
    value None = []
    value (Some o) = o

    some_same : (a b : Object) → Some a ≡ Some b → a ≡ b
    some_same a b e = ap value e

pub found_object : (os : Objects) (base : ℕ) (o : Object) → AreObjects os → find_object os base ≡ Some o → IsObject o
found_object os base o h e = found IsObject os base o h.each e

-- what holds of each base with its object holds of one that is found
pub found_pair : (P : ℕ → Object → Type 0) (os : Objects) (base : ℕ) (o : Object) → All (λ p. P p.0 p.1) os → find_object os base ≡ Some o → P base o
found_pair P [] base o a e = absurd (none_some o e)
  where
    none_some : (o : Object) → None ≡ Some o → ⊥
    none_some o e = cc
found_pair P (p ∷ ps) base o a e = elim (same_or_not p.0 base) [
  | inl h ↦ subst (λ (k : ℕ). P k o) h (subst (P p.0) (some_same p.1 o (sym (find_here p ps base h) ∙ e)) (All-head (λ q. P q.0 q.1) p ps a))
  | inr h ↦ found_pair P ps base o (All-tail (λ q. P q.0 q.1) p ps a) (sym (find_there p ps base h) ∙ e)
]
  where
    value : Option Object → Object
    value None = []
    value (Some o) = o

    some_same : (a b : Object) → Some a ≡ Some b → a ≡ b
    some_same a b e = ap value e

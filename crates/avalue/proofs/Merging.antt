-- The merge of two lists with rising bases is the combination base by base.
use Rattle.std.proofs.Common.{◌≡◌, ◌≢◌, ◌⊎◌, inl, inr, ℕ, ◌+◌, ◌-◌, ◌<◌, ◌≤◌, List, [], ◌∷◌, ◌++◌, length, sym, refl, ap, subst, ◌∙◌, arith}
use Rattle.std.proofs.lemmas.Bool.Decides.{nat_tests}
use Rattle.std.specs.Prelude.{true, false, nat_lt, nat_eq, take, drop, slice_index_or}
use Rattle.std.specs.List.{All}
use Rattle.std.proofs.lemmas.List.Elements.{All-head, All-tail, All-append, All-drop, All-push}
use Rattle.std.proofs.lemmas.List.{drop_more, drop_all, append_assoc, append-nil, take_all, length-drop}
use Rattle.ival.specs.Forms.{HasEnds}
use Rattle.ival.specs.declared.forms.Ival.{Ival}
use Rattle.ival.specs.declared.forms.Ival.TheVariants.{Empty, Set, Range, All as Every}
use Rattle.avalue.specs.Pointers.{Pointer, AreRising, IsPointer, ArePointers, AreCombined, offsets_at, of_both, merged}

lt_yes : (x y : ℕ) → x < y → nat_lt x y ≡ true
lt_yes x y h = grind (arith, nat_tests)

lt_no : (x y : ℕ) → y ≤ x → nat_lt x y ≡ false
lt_no x y h = grind (arith, nat_tests)

eq_yes : (x y : ℕ) → x ≡ y → nat_eq x y ≡ true
eq_yes x y h = grind (arith, nat_tests)

eq_no : (x y : ℕ) → x ≢ y → nat_eq x y ≡ false
eq_no x y h = grind (arith, nat_tests)

same_or_not : (x y : ℕ) → (x ≡ y) ⊎ (x ≢ y)
same_or_not x y = grind arith

order : (x y : ℕ) → (x < y) ⊎ ((y < x) ⊎ (x ≡ y))
order x y = grind arith

-- ---- one step

offsets_here : (p : Pointer) (ps : List Pointer) (base : ℕ) → p.0 ≡ base → offsets_at (p ∷ ps) base ≡ p.1
offsets_here p ps base e = let t = eq_yes p.0 base e in rw t refl

offsets_there : (p : Pointer) (ps : List Pointer) (base : ℕ) → p.0 ≢ base → offsets_at (p ∷ ps) base ≡ offsets_at ps base
offsets_there p ps base e = let t = eq_no p.0 base e in rw t refl

absent : (p : Pointer) (ps : List Pointer) (base : ℕ) → base < p.0 → AreRising (p ∷ ps) → offsets_at (p ∷ ps) base ≡ Empty
absent p [] base h r = offsets_there p [] base (omega arith)
absent p (q ∷ qs) base h r = offsets_there p (q ∷ qs) base (omega arith) ∙ absent q qs base (omega (arith, r.0)) r.1

left_first : (f : Ival → Ival → Ival) (p q : Pointer) (ps qs : List Pointer) → p.0 < q.0 → merged f (p ∷ ps) (q ∷ qs) ≡ p ∷ merged f ps (q ∷ qs)
unfolding merged
left_first f p q ps qs h = let t = lt_yes p.0 q.0 h in rw t refl

right_first : (f : Ival → Ival → Ival) (p q : Pointer) (ps qs : List Pointer) → q.0 < p.0 → merged f (p ∷ ps) (q ∷ qs) ≡ q ∷ merged f (p ∷ ps) qs
unfolding merged
right_first f p q ps qs h = let t = lt_no p.0 q.0 (omega arith) in let s = lt_yes q.0 p.0 h in rw (t, s) refl

both_first : (f : Ival → Ival → Ival) (p q : Pointer) (ps qs : List Pointer) → p.0 ≡ q.0 → merged f (p ∷ ps) (q ∷ qs) ≡ (p.0, f p.1 q.1) ∷ merged f ps qs
unfolding merged
both_first f p q ps qs h = let t = lt_no p.0 q.0 (omega arith) in let s = lt_no q.0 p.0 (omega arith) in rw (t, s) refl

-- ---- the bases rise

rebased : (o p : Pointer) (ps : List Pointer) → o.0 ≡ p.0 → AreRising (o ∷ ps) → AreRising (p ∷ ps)
rebased o p [] e r = tt
rebased o p (q ∷ qs) e r = (omega (arith, e, r.0), r.1)

behind : (f : Ival → Ival → Ival) (o : Pointer) (ps qs : List Pointer) → AreRising (o ∷ ps) → AreRising (o ∷ qs) → AreRising (o ∷ merged f ps qs)
unfolding merged
behind f o [] qs r s = s
behind f o (p ∷ ps) [] r s = r
behind f o (p ∷ ps) (q ∷ qs) r s = elim (order p.0 q.0) [
  | inl h ↦ rw (left_first f p q ps qs h) (r.0, behind f p ps (q ∷ qs) r.1 (h, s.1))
  | inr k ↦ elim k [
    | inl h ↦ rw (right_first f p q ps qs h) (s.0, behind f q (p ∷ ps) qs (h, r.1) s.1)
    | inr e ↦ rw (both_first f p q ps qs e) (r.0, behind f (p.0, f p.1 q.1) ps qs (rebased p (p.0, f p.1 q.1) ps refl r.1) (rebased q (p.0, f p.1 q.1) qs (sym e) s.1))
  ]
]

below_all : (ps : List Pointer) → AreRising ps → AreRising ps
below_all ps r = r

pub merged_rising : (f : Ival → Ival → Ival) (ps qs : List Pointer) → AreRising ps → AreRising qs → AreRising (merged f ps qs)
unfolding merged
merged_rising f [] qs r s = s
merged_rising f (p ∷ ps) [] r s = r
merged_rising f (p ∷ ps) (q ∷ qs) r s = elim (order p.0 q.0) [
  | inl h ↦ rw (left_first f p q ps qs h) (behind f p ps (q ∷ qs) r (h, s))
  | inr k ↦ elim k [
    | inl h ↦ rw (right_first f p q ps qs h) (behind f q (p ∷ ps) qs (h, r) s)
    | inr e ↦ rw (both_first f p q ps qs e) (behind f (p.0, f p.1 q.1) ps qs (rebased p (p.0, f p.1 q.1) ps refl r) (rebased q (p.0, f p.1 q.1) qs (sym e) s))
  ]
]

-- ---- the offsets of a base

left_alone : (f : Ival → Ival → Ival) (x : Ival) → of_both f x Empty ≡ x
left_alone f Empty = refl
left_alone f (Set xs) = refl
left_alone f (Range lo hi r m) = refl
left_alone f Every = refl

have_both : (f : Ival → Ival → Ival) (x y : Ival) → HasEnds x → HasEnds y → of_both f x y ≡ f x y
have_both f Empty y h k = absurd h
have_both f (Set xs) Empty h k = absurd k
have_both f (Set xs) (Set ys) h k = refl
have_both f (Set xs) (Range lo hi r m) h k = refl
have_both f (Set xs) Every h k = absurd k
have_both f (Range lo hi r m) Empty h k = absurd k
have_both f (Range lo hi r m) (Set ys) h k = refl
have_both f (Range lo hi r m) (Range low high rest stride) h k = refl
have_both f (Range lo hi r m) Every h k = absurd k
have_both f Every y h k = absurd h

pub merged_each : (f : Ival → Ival → Ival) (ps qs : List Pointer) → AreRising ps → AreRising qs → All IsPointer ps → All IsPointer qs → (base : ℕ)
    → offsets_at (merged f ps qs) base ≡ of_both f (offsets_at ps base) (offsets_at qs base)
unfolding merged
merged_each f [] qs r s a b base = refl
merged_each f (p ∷ ps) [] r s a b base = sym (left_alone f (offsets_at (p ∷ ps) base))
merged_each f (p ∷ ps) (q ∷ qs) r s a b base = elim (order p.0 q.0) [
  | inl h ↦ rw (left_first f p q ps qs h) (elim (same_or_not p.0 base) [
    | inl e ↦ offsets_here p (merged f ps (q ∷ qs)) base e
        ∙ sym (rw (offsets_here p ps base e, absent q qs base (omega (arith, e, h)) s) (left_alone f p.1))
    | inr n ↦ offsets_there p (merged f ps (q ∷ qs)) base n
        ∙ merged_each f ps (q ∷ qs) (tail_rising p ps r) s (All-tail IsPointer p ps a) b base
        ∙ ap (λ x. of_both f x (offsets_at (q ∷ qs) base)) (sym (offsets_there p ps base n))
  ])
  | inr k ↦ elim k [
    | inl h ↦ rw (right_first f p q ps qs h) (elim (same_or_not q.0 base) [
      | inl e ↦ offsets_here q (merged f (p ∷ ps) qs) base e
          ∙ sym (rw (offsets_here q qs base e, absent p ps base (omega (arith, e, h)) r) refl)
      | inr n ↦ offsets_there q (merged f (p ∷ ps) qs) base n
          ∙ merged_each f (p ∷ ps) qs r (tail_rising q qs s) a (All-tail IsPointer q qs b) base
          ∙ ap (λ y. of_both f (offsets_at (p ∷ ps) base) y) (sym (offsets_there q qs base n))
    ])
    | inr e ↦ rw (both_first f p q ps qs e) (elim (same_or_not p.0 base) [
      | inl d ↦ offsets_here (p.0, f p.1 q.1) (merged f ps qs) base d
          ∙ sym (rw (offsets_here p ps base d, offsets_here q qs base (sym e ∙ d)) (have_both f p.1 q.1 (All-head IsPointer p ps a) (All-head IsPointer q qs b)))
      | inr n ↦ offsets_there (p.0, f p.1 q.1) (merged f ps qs) base n
          ∙ merged_each f ps qs (tail_rising p ps r) (tail_rising q qs s) (All-tail IsPointer p ps a) (All-tail IsPointer q qs b) base
          ∙ sym (rw (offsets_there p ps base n, offsets_there q qs base (λ d. n (e ∙ d))) refl)
    ])
  ]
]
  where
    tail_rising : (o : Pointer) (os : List Pointer) → AreRising (o ∷ os) → AreRising os
    tail_rising o [] r = tt
    tail_rising o (x ∷ xs) r = r.1

-- ---- turns of a loop that merges what is left of both behind what it has

-- what is left at an element
left_of : (ps : List Pointer) (i : ℕ) (p : Pointer) → i < length ps → p ≡ slice_index_or ps i p → drop i ps ≡ p ∷ drop (i + 1) ps
left_of ps i p h e = drop_more ps i p h ∙ ap (λ (x : Pointer). x ∷ drop (i + 1) ps) (sym e)

-- an element of the list of pointers is a pointer
pub pointer_at : (ps : List Pointer) (i : ℕ) (p : Pointer) → All IsPointer ps → i < length ps → p ≡ slice_index_or ps i p → IsPointer p
pointer_at ps i p a h e = subst IsPointer (sym e) (a i p h)

at_heads : (f : Ival → Ival → Ival) (xs ys ps qs : List Pointer) (p q : Pointer) → xs ≡ p ∷ ps → ys ≡ q ∷ qs → merged f xs ys ≡ merged f (p ∷ ps) (q ∷ qs)
at_heads f xs ys ps qs p q d e = ap (λ u. merged f u ys) d ∙ ap (λ v. merged f (p ∷ ps) v) e

-- one more behind the list
pushed : (f : Ival → Ival → Ival) (out now xs ys ps qs total : List Pointer) (x : Pointer) → now ≡ out ++ x ∷ [] → merged f xs ys ≡ x ∷ merged f ps qs
    → out ++ merged f xs ys ≡ total → now ++ merged f ps qs ≡ total
pushed f out now xs ys ps qs total x e m t =
    ap (λ u. u ++ merged f ps qs) e ∙ append_assoc out (x ∷ []) (merged f ps qs) ∙ ap (λ u. out ++ u) (sym m) ∙ t

module _ (f : Ival → Ival → Ival) (a b out now : List Pointer) (i j : ℕ) (p q : Pointer)
    (i_in : i < length a) (j_in : j < length b) (p_is : p ≡ slice_index_or a i p) (q_is : q ≡ slice_index_or b j q)
    (inv : out ++ merged f (drop i a) (drop j b) ≡ merged f a b) where
  pub turn_left : p.0 < q.0 → now ≡ out ++ p ∷ [] → now ++ merged f (drop (i + 1) a) (drop j b) ≡ merged f a b
  turn_left h e =
      let d = left_of a i p i_in p_is in let d' = left_of b j q j_in q_is in
      pushed f out now (drop i a) (drop j b) (drop (i + 1) a) (drop j b) (merged f a b) p e
      (at_heads f (drop i a) (drop j b) (drop (i + 1) a) (drop (j + 1) b) p q d d' ∙ left_first f p q (drop (i + 1) a) (drop (j + 1) b) h
      ∙ ap (λ v. p ∷ merged f (drop (i + 1) a) v) (sym d')) inv

  pub turn_right : q.0 < p.0 → now ≡ out ++ q ∷ [] → now ++ merged f (drop i a) (drop (j + 1) b) ≡ merged f a b
  turn_right h e =
      let d = left_of a i p i_in p_is in let d' = left_of b j q j_in q_is in
      pushed f out now (drop i a) (drop j b) (drop i a) (drop (j + 1) b) (merged f a b) q e
      (at_heads f (drop i a) (drop j b) (drop (i + 1) a) (drop (j + 1) b) p q d d' ∙ right_first f p q (drop (i + 1) a) (drop (j + 1) b) h
      ∙ ap (λ u. q ∷ merged f u (drop (j + 1) b)) (sym d)) inv

  pub turn_both : p.0 ≡ q.0 → now ≡ out ++ (p.0, f p.1 q.1) ∷ [] → now ++ merged f (drop (i + 1) a) (drop (j + 1) b) ≡ merged f a b
  turn_both h e =
      let d = left_of a i p i_in p_is in let d' = left_of b j q j_in q_is in
      pushed f out now (drop i a) (drop j b) (drop (i + 1) a) (drop (j + 1) b) (merged f a b) (p.0, f p.1 q.1) e
      (at_heads f (drop i a) (drop j b) (drop (i + 1) a) (drop (j + 1) b) p q d d' ∙ both_first f p q (drop (i + 1) a) (drop (j + 1) b) h) inv

-- ---- at the end one side is empty

merged_none : (f : Ival → Ival → Ival) (ps : List Pointer) → merged f ps [] ≡ ps
unfolding merged
merged_none f [] = refl
merged_none f (p ∷ ps) = refl

none_merged : (f : Ival → Ival → Ival) (qs : List Pointer) → merged f [] qs ≡ qs
unfolding merged
none_merged f qs = refl

rest_all : (ps : List Pointer) (i : ℕ) → All IsPointer ps → All IsPointer (drop i ps)
rest_all ps i a = All-drop IsPointer i ps a

pub merged_combined : (f : Ival → Ival → Ival) (a b both : List Pointer) → ArePointers a → ArePointers b → All IsPointer both → both ≡ merged f a b → AreCombined f a b both
merged_combined f a b both x y each e = record {
  formed = record { rising = subst AreRising (sym e) (merged_rising f a b x.rising y.rising); each = each };
  each = λ base. ap (λ u. offsets_at u base) e ∙ merged_each f a b x.rising y.rising x.each y.each base;
}

pub ended : (f : Ival → Ival → Ival) (a b out both : List Pointer) (i j : ℕ) → ArePointers a → ArePointers b → All IsPointer out
    → (length a ≤ i) ⊎ (length b ≤ j) → out ++ merged f (drop i a) (drop j b) ≡ merged f a b → both ≡ (out ++ drop i a) ++ drop j b → AreCombined f a b both
ended f a b out both i j x y o none inv e =
    merged_combined f a b both x y
    (subst (All IsPointer) (sym e) (All-append IsPointer (out ++ drop i a) (drop j b) (All-append IsPointer out (drop i a) o (rest_all a i x.each)) (rest_all b j y.each)))
    (e ∙ append_assoc out (drop i a) (drop j b) ∙ ap (λ u. out ++ u) (sym (one_side none)) ∙ inv)
  where
    one_side : (length a ≤ i) ⊎ (length b ≤ j) → merged f (drop i a) (drop j b) ≡ drop i a ++ drop j b
    one_side (inl h) = let d : drop i a ≡ [] = drop_all i a h in ap (λ u. merged f u (drop j b)) d ∙ none_merged f (drop j b) ∙ ap (λ u. u ++ drop j b) (sym d)
    one_side (inr h) = let d : drop j b ≡ [] = drop_all j b h in
        ap (λ v. merged f (drop i a) v) d ∙ merged_none f (drop i a) ∙ sym (append-nil (drop i a)) ∙ ap (λ v. drop i a ++ v) (sym d)

-- the list with one more pointer
pub all_pushed : (out now : List Pointer) (x : Pointer) → All IsPointer out → IsPointer x → now ≡ out ++ x ∷ [] → All IsPointer now
all_pushed out now x a h e = subst (All IsPointer) (sym e) (All-push IsPointer out x a h)

whole_rest : (xs : List Pointer) (i n : ℕ) → n ≡ length xs - i → take n (drop i xs) ≡ drop i xs
whole_rest xs i n e = let l = length-drop i xs in take_all n (drop i xs) (omega (arith, e, l))

pub with_rests : (out mid both a b : List Pointer) (i j n m : ℕ) → mid ≡ out ++ take n (drop i a) → both ≡ mid ++ take m (drop j b)
    → n ≡ length a - i → m ≡ length b - j → both ≡ (out ++ drop i a) ++ drop j b
with_rests out mid both a b i j n m e d k l =
    d ∙ ap (λ u. mid ++ u) (whole_rest b j m l) ∙ ap (λ u. u ++ drop j b) (e ∙ ap (λ u. out ++ u) (whole_rest a i n k))

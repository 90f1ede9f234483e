-- Objects of two states, base by base, are objects of a state.
use Rattle.std.proofs.Common.{ℕ, zero, suc, ◌+◌, ◌<◌, ◌≤◌, ◌≡◌, ◌^◌, inl, inr, refl, sym, ap, subst, ◌∙◌, List, [], ◌∷◌, length, get_or, Option, Some, None, arith}
use Rattle.std.specs.Prelude.{slice_index}
use Rattle.std.specs.List.{All}
use Rattle.std.specs.List.Sorted.{IsStrictlyIncreasing}
use Rattle.std.specs.Map.{keys_of}
use Rattle.std.proofs.lemmas.List.Elements.{All-head, All-tail, All-cons, All-nil}
use Rattle.abstract_memory.specs.Objects.{Object, IsObject}
use Rattle.abstract_memory.specs.States.{Objects, AreObjects, HaveOneSize, combined, find_object}
use Rattle.abstract_memory.proofs.Finding.{find_here, find_there, head_rises, tail_rises, order, left_first, right_first, both_first, combined_find, united}

-- ---- rising bases

rises_cons : (x y : ℕ) (ys : List ℕ) → x < y → IsStrictlyIncreasing (y ∷ ys) → IsStrictlyIncreasing (x ∷ y ∷ ys)
rises_cons x y ys h r zero l = h
rises_cons x y ys h r (suc k) l =
    let z : suc (k + 1) ≡ suc k + 1 = omega arith in
    subst (λ (j : ℕ). slice_index (x ∷ y ∷ ys) (suc k) < slice_index (x ∷ y ∷ ys) j) z (r k (omega (arith, l)))

rises_from : (p : ℕ × Object) (os : Objects) → All (λ q. p.0 < q.0) os → IsStrictlyIncreasing (keys_of os) → IsStrictlyIncreasing (keys_of (p ∷ os))
rises_from p [] a r = λ k l. (let m : k + 1 < 1 = l in absurd (omega (arith, m)))
rises_from p (q ∷ qs) a r = rises_cons p.0 q.0 (keys_of qs) (All-head (λ o. p.0 < o.0) q qs a) r

lower : (x y : ℕ) (os : Objects) → x ≤ y → All (λ o. y < o.0) os → All (λ o. x < o.0) os
lower x y os h a = λ k d i. (let l = a k d i in omega (arith, h, l))

above : (p : ℕ × Object) (ps : Objects) → IsStrictlyIncreasing (keys_of (p ∷ ps)) → All (λ q. p.0 < q.0) ps
above p [] r = All-nil (λ q. p.0 < q.0)
above p (q ∷ qs) r =
    let h = head_rises p.0 q.0 (keys_of qs) r in
    All-cons (λ o. p.0 < o.0) q qs h (lower p.0 q.0 qs (omega (arith, h)) (above q qs (tail_rises p.0 (keys_of (q ∷ qs)) r)))

-- each object is found at its base
all_found : (os : Objects) → IsStrictlyIncreasing (keys_of os) → All (λ p. find_object os p.0 ≡ Some p.1) os
all_found [] r = All-nil (λ p. find_object [] p.0 ≡ Some p.1)
all_found (p ∷ ps) r =
    let rest = all_found ps (tail_rises p.0 (keys_of ps) r) in
    let a = above p ps r in
    All-cons (λ o. find_object (p ∷ ps) o.0 ≡ Some o.1) p ps (find_here p ps p.0 refl)
    (λ k d i. (let l = a k d i in find_there p ps (get_or ps k d).0 (λ e. omega (arith, l, e)) ∙ rest k d i))

-- ---- both sides

module _ (P Q R : ℕ × Object → Type 0) (f : Object → Object → Object) (left : (p : ℕ × Object) → Q p → P p) (right : (p : ℕ × Object) → R p → P p)
    (meets : (p q : ℕ × Object) → Q p → R q → p.0 ≡ q.0 → P (p.0, f p.1 q.1)) where
  combined_all : (os ps : Objects) → All Q os → All R ps → All P (combined f os ps)
  unfolding combined
  combined_all [] ps a b = λ k d i. right (get_or ps k d) (b k d i)
  combined_all (p ∷ ps) [] a b = λ k d i. left (get_or (p ∷ ps) k d) (a k d i)
  combined_all (p ∷ ps) (q ∷ qs) a b = elim (order p.0 q.0) [
    | inl l ↦ subst (All P) (sym (left_first f p q ps qs l))
        (All-cons P p (combined f ps (q ∷ qs)) (left p (All-head Q p ps a)) (combined_all ps (q ∷ qs) (All-tail Q p ps a) b))
    | inr o ↦ elim o [
      | inl l ↦ subst (All P) (sym (right_first f p q ps qs l))
          (All-cons P q (combined f (p ∷ ps) qs) (right q (All-head R q qs b)) (combined_all (p ∷ ps) qs a (All-tail R q qs b)))
      | inr e ↦ subst (All P) (sym (both_first f p q ps qs e))
          (All-cons P (p.0, f p.1 q.1) (combined f ps qs) (meets p q (All-head Q p ps a) (All-head R q qs b) e) (combined_all ps qs (All-tail Q p ps a) (All-tail R q qs b)))
    ]
  ]

all_above : (x : ℕ) (f : Object → Object → Object) (os ps : Objects) → All (λ o. x < o.0) os → All (λ o. x < o.0) ps → All (λ o. x < o.0) (combined f os ps)
all_above x f os ps a b = combined_all (λ o. x < o.0) (λ o. x < o.0) (λ o. x < o.0) f (λ p h. h) (λ p h. h) (λ p q h k e. h) os ps a b

combined_rises : (f : Object → Object → Object) (os ps : Objects) → IsStrictlyIncreasing (keys_of os) → IsStrictlyIncreasing (keys_of ps) → IsStrictlyIncreasing (keys_of (combined f os ps))
unfolding combined
combined_rises f [] ps r s = s
combined_rises f (p ∷ ps) [] r s = r
combined_rises f (p ∷ ps) (q ∷ qs) r s = elim (order p.0 q.0) [
  | inl l ↦ subst (λ os. IsStrictlyIncreasing (keys_of os)) (sym (left_first f p q ps qs l))
      (rises_from p (combined f ps (q ∷ qs))
      (all_above p.0 f ps (q ∷ qs) (above p ps r) (All-cons (λ o. p.0 < o.0) q qs l (lower p.0 q.0 qs (omega (arith, l)) (above q qs s))))
      (combined_rises f ps (q ∷ qs) (tail_rises p.0 (keys_of ps) r) s))
  | inr o ↦ elim o [
    | inl l ↦ subst (λ os. IsStrictlyIncreasing (keys_of os)) (sym (right_first f p q ps qs l))
        (rises_from q (combined f (p ∷ ps) qs)
        (all_above q.0 f (p ∷ ps) qs (All-cons (λ o. q.0 < o.0) p ps l (lower q.0 p.0 ps (omega (arith, l)) (above p ps r))) (above q qs s))
        (combined_rises f (p ∷ ps) qs r (tail_rises q.0 (keys_of qs) s)))
    | inr e ↦ subst (λ os. IsStrictlyIncreasing (keys_of os)) (sym (both_first f p q ps qs e))
        (rises_from (p.0, f p.1 q.1) (combined f ps qs)
        (all_above p.0 f ps qs (above p ps r) (lower p.0 q.0 qs (omega (arith, e)) (above q qs s)))
        (combined_rises f ps qs (tail_rises p.0 (keys_of ps) r) (tail_rises q.0 (keys_of qs) s)))
  ]
]

-- a rule that makes objects of two of one size makes states
pub combined_objects : (f : Object → Object → Object) → ((a b : Object) → IsObject a → IsObject b → length a ≡ length b → IsObject (f a b)) →
    (os ps : Objects) → AreObjects os → AreObjects ps → HaveOneSize os ps → AreObjects (combined f os ps)
combined_objects f keeps os ps h k sizes =
    let in_os = all_found os h.rising in
    let in_ps = all_found ps k.rising in
    record {
      rising = combined_rises f os ps h.rising k.rising;
      bases = combined_all (λ o. o.0 < 2 ^ 32) (λ o. o.0 < 2 ^ 32) (λ o. o.0 < 2 ^ 32) f (λ p l. l) (λ p l. l) (λ p q l m e. l) os ps h.bases k.bases;
      each = combined_all (λ o. IsObject o.1) (λ o. IsObject o.1 × (find_object os o.0 ≡ Some o.1)) (λ o. IsObject o.1 × (find_object ps o.0 ≡ Some o.1)) f
          (λ p l. l.0) (λ p l. l.0) (λ p q l m e. keeps p.1 q.1 l.0 m.0 (sizes p.0 p.1 q.1 l.1 (ap (find_object ps) e ∙ m.1))) os ps
          (λ i d l. (h.each i d l, in_os i d l)) (λ i d l. (k.each i d l, in_ps i d l));
    }

-- the objects have the sizes of those of both sides
pub combined_sizes : (f : Object → Object → Object) → ((a b : Object) → length (f a b) ≡ length a) → (os ps : Objects) → AreObjects os → AreObjects ps → (base n : ℕ) →
    ((o : Object) → find_object os base ≡ Some o → length o ≡ n) → ((o : Object) → find_object ps base ≡ Some o → length o ≡ n) → (o : Object) → find_object (combined f os ps) base ≡ Some o → length o ≡ n
combined_sizes f size os ps h k base n s t o e = by (find_object os base) (find_object ps base) refl refl (sym (combined_find f os ps base h.rising k.rising) ∙ e)
  where
    value : Option Object → Object
    value None = o
    value (Some x) = x

    by : (a b : Option Object) → find_object os base ≡ a → find_object ps base ≡ b → united f a b ≡ Some o → length o ≡ n
    by None None d g u = cc
    by None (Some y) d g u = ap length (sym (ap value u)) ∙ t y g
    by (Some x) None d g u = ap length (sym (ap value u)) ∙ s x d
    by (Some x) (Some y) d g u = ap length (sym (ap value u)) ∙ size x y ∙ s x d

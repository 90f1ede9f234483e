-- Entering keeps members: the object that comes is uninitialised.
use Rattle.std.proofs.Common.{ℕ, zero, suc, ◌+◌, ◌<◌, ◌≡◌, ◌≢◌, inl, inr, refl, sym, ap, subst, ◌∙◌, cond, List, [], ◌∷◌, length, get_or, replicate, Some, arith}
use Rattle.std.specs.Prelude.{IsSomeAnd, nat_lt}
use Rattle.std.specs.List.{All}
use Rattle.std.proofs.lemmas.List.Elements.{All-head, All-tail, All-cons, All-nil}
use Rattle.c_memory.specs.declared.cells.Cell.TheVariants.{Uninit}
use Rattle.c_memory.specs.declared.memory.Object as concrete
use Rattle.c_memory.specs.Memory.{cell_at, entered}
use Rattle.avalue.specs.Members.{uninit}
use Rattle.abstract_memory.specs.Values.{uninitialised}
use Rattle.abstract_memory.specs.Objects.{Object, single}
use Rattle.abstract_memory.specs.Writes.{fresh}
use Rattle.abstract_memory.specs.Members.{Shows, HasCells}
use Rattle.abstract_memory.specs.States.{Objects, bottom, live, find_object, with_pair}
use Rattle.abstract_memory.specs.StateMembers.{HasObject, EnterKeeps}
use Rattle.abstract_memory.proofs.Tests.{bool_cases}
use Rattle.abstract_memory.proofs.Listed.{listed_cells, listed_length}
use Rattle.abstract_memory.proofs.Finding.{find_here, find_there, lt_no, lt_yes, order, same_or_not}

module _ {X : Type 0} where
  put_first : (p : ℕ × X) (ps : List (ℕ × X)) (key : ℕ) (x : X) → key < p.0 → with_pair (p ∷ ps) key x ≡ (key, x) ∷ p ∷ ps
  unfolding with_pair
  put_first p ps key x h = let t = lt_yes key p.0 h in rw t refl

  put_later : (p : ℕ × X) (ps : List (ℕ × X)) (key : ℕ) (x : X) → p.0 < key → with_pair (p ∷ ps) key x ≡ p ∷ with_pair ps key x
  unfolding with_pair
  put_later p ps key x h = let t = lt_no key p.0 (omega (arith, h)) in let s = lt_yes p.0 key h in rw (t, s) refl

  put_same : (p : ℕ × X) (ps : List (ℕ × X)) (key : ℕ) (x : X) → p.0 ≡ key → with_pair (p ∷ ps) key x ≡ (key, x) ∷ ps
  unfolding with_pair
  put_same p ps key x h = let t = lt_no key p.0 (omega (arith, h)) in let s = lt_no p.0 key (omega (arith, h)) in rw (t, s) refl

find_put : (os : Objects) (base : ℕ) (o : Object) → find_object (with_pair os base o) base ≡ Some o
unfolding with_pair
find_put [] base o = find_here (base, o) [] base refl
find_put (p ∷ ps) base o = elim (order base p.0) [
  | inl l ↦ ap (λ os. find_object os base) (put_first p ps base o l) ∙ find_here (base, o) (p ∷ ps) base refl
  | inr k ↦ elim k [
    | inl l ↦ ap (λ os. find_object os base) (put_later p ps base o l) ∙ find_there p (with_pair ps base o) base (λ e. omega (arith, l, e)) ∙ find_put ps base o
    | inr e ↦ ap (λ os. find_object os base) (put_same p ps base o (sym e)) ∙ find_here (base, o) ps base refl
  ]
]

pub find_other : (os : Objects) (base other : ℕ) (o : Object) → other ≢ base → find_object (with_pair os base o) other ≡ find_object os other
unfolding with_pair
find_other [] base other o n = find_there (base, o) [] other (λ e. n (sym e))
find_other (p ∷ ps) base other o n = elim (order base p.0) [
  | inl l ↦ ap (λ os. find_object os other) (put_first p ps base o l) ∙ find_there (base, o) (p ∷ ps) other (λ e. n (sym e))
  | inr k ↦ elim k [
    | inl l ↦ ap (λ os. find_object os other) (put_later p ps base o l) ∙ elim (same_or_not p.0 other) [
      | inl e ↦ find_here p (with_pair ps base o) other e ∙ sym (find_here p ps other e)
      | inr e ↦ find_there p (with_pair ps base o) other e ∙ find_other ps base other o n ∙ sym (find_there p ps other e)
    ]
    | inr e ↦ ap (λ os. find_object os other) (put_same p ps base o (sym e)) ∙ find_there (base, o) ps other (λ t. n (sym t)) ∙ sym (find_there p ps other (λ t. n (sym t ∙ sym e)))
  ]
]

nothing_there : (n x : ℕ) → cell_at (replicate n Uninit) x ≡ Uninit
nothing_there zero x = refl
nothing_there (suc n) zero = refl
nothing_there (suc n) (suc x) = nothing_there n x

replicated : (n : ℕ) → length (replicate n Uninit) ≡ n
replicated zero = refl
replicated (suc n) = ap suc (replicated n)

fresh_cells : (size : ℕ) → HasCells (fresh size uninitialised) (cell_at (replicate size Uninit))
unfolding Shows
fresh_cells size = listed_cells size (λ x. single uninitialised) (cell_at (replicate size Uninit))
    (λ x l p. record { member = uninit; is_in = refl; shows = λ j k. nothing_there size (x + j) })

-- what holds of the new object, and of each other that is there
entered_all : (P Q : concrete.Object → Type 0) (m : List concrete.Object) (base size : ℕ) → P (record { base = base; cells = replicate size Uninit })
    → ((c : concrete.Object) → Q c → c.base ≢ base → P c) → All (λ c. c.base ≢ base) m → All Q m → All P (entered base size m)
entered_all P Q [] base size h g n a = All-cons P (record { base = base; cells = replicate size Uninit }) [] h (All-nil P)
entered_all P Q (c ∷ cs) base size h g n a =
    let kept : All P (c ∷ cs) = λ k d i. g (get_or (c ∷ cs) k d) (a k d i) (n k d i) in
    let rest = entered_all P Q cs base size h g (All-tail (λ c. c.base ≢ base) c cs n) (All-tail Q c cs a) in
    bool_cases (All P (cond (nat_lt base c.base) (record { base = base; cells = replicate size Uninit } ∷ c ∷ cs) (c ∷ entered base size cs))) (nat_lt base c.base)
    (λ e. rw e (All-cons P (record { base = base; cells = replicate size Uninit }) (c ∷ cs) h kept))
    (λ e. rw e (All-cons P c (entered base size cs) (g c (All-head Q c cs a) (All-head (λ c. c.base ≢ base) c cs n)) rest))

pub enter_keeps : EnterKeeps
enter_keeps bottom m base size n s = absurd s
enter_keeps (live os) m base size n s =
    entered_all (HasObject (with_pair os base (fresh size uninitialised))) (HasObject os) m base size
    (subst (λ t. IsSomeAnd t (λ o. (length (replicate size Uninit) ≡ length o) × HasCells o (cell_at (replicate size Uninit)))) (sym (find_put os base (fresh size uninitialised)))
    (replicated size ∙ sym (listed_length size (λ x. single uninitialised)), fresh_cells size))
    (λ c a d. subst (λ t. IsSomeAnd t (λ o. (length c.cells ≡ length o) × HasCells o (cell_at c.cells))) (sym (find_other os base c.base (fresh size uninitialised) d)) a) n s

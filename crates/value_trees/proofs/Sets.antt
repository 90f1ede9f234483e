-- What a node of an integer set says.
use Rattle.std.proofs.Common.{◌≡◌, ℕ, ◌+◌, ◌-◌, ◌<◌, ◌≤◌, List, [], ◌∷◌, ◌++◌, length, take, sym, refl, ap, subst, ◌∙◌, ℤ, Bool, true, false, eqb, arith}
use Rattle.std.specs.List.{All}
use Rattle.std.specs.Prelude.{nat_lt, if◌then◌else◌}
use Rattle.std.proofs.lemmas.Bool.Decides.{nat_tests}
use Rattle.store_api.specs.declared.Shape.{Shape}
use Rattle.store_api.specs.Tree.{Tree, Nil, Node, kid, shape_is}
use Rattle.abstract_memory.proofs.Ascending.{hull_members}
use Rattle.value_trees.specs.Integers.{SpellsSet, large_set, range_in, small_set}
use Rattle.ival.specs.Forms.{IsBounded, IsMemberList, IsWellFormed, hull}
use Rattle.ival.specs.declared.forms.Ival.{Ival}
use Rattle.ival.specs.declared.forms.Ival.TheVariants.{Empty, Set, Range, All as Every}
use Rattle.memory_trees.specs.Values.{IsIvalTree, ival_of, ival_tree, number_at, numbers_at, numbers_of, number_node, number_shape}

-- ---- nodes

abbrev head_of : Tree → ℕ
head_of Nil = 0
head_of (Node s a b) = s.head

abbrev kids_of : Tree → ℕ
kids_of Nil = 0
kids_of (Node s a b) = s.kids

abbrev first_of : Tree → Tree
first_of Nil = Nil
first_of (Node s a b) = a

-- what stands at the node of a set
record IsSetNode (s : Shape) (a : Tree) : Type 0 where
  above : 20 < s.head
  below : s.head ≤ 28
  small : s.head ≤ 24 → a ≡ Nil
  large : 24 < s.head → s.kids ≡ 1

tree_node : (s : Shape) (a b : Tree) (xs : List ℤ) (c : Bool) → IsMemberList xs → nat_lt 4 (length xs) ≡ c
    → Node s a b ≡ (if c then Node (number_shape (20 + length xs) xs 0 1) (number_node 13 xs 4) Nil else number_node (20 + length xs) xs 0) → IsSetNode s a
tree_node s a b xs true h l e =
    let t : 4 < length xs = grind (arith, nat_tests) in
    let d : s.head ≡ 20 + length xs = ap head_of e in
    let some = h.some in let few = h.few in
    record { above = omega (arith, some, d); below = omega (arith, few, d); small = λ k. absurd (omega (arith, t, k, d)); large = λ k. ap kids_of e }
tree_node s a b xs false h l e =
    let t : length xs ≤ 4 = grind (arith, nat_tests) in
    let d : s.head ≡ 20 + length xs = ap head_of e in
    let some = h.some in let few = h.few in
    record { above = omega (arith, some, d); below = omega (arith, few, d); small = λ k. ap first_of e; large = λ k. absurd (omega (arith, t, k, d)) }

-- a node whose head is no other's is a set's
by_form : (s : Shape) (a b : Tree) (x : Ival) → IsWellFormed x → Node s a b ≡ ival_tree x → eqb s.head 10 ≡ false → eqb s.head 11 ≡ false → eqb s.head 12 ≡ false → IsSetNode s a
unfolding ival_tree
by_form s a b Empty h e p q r = absurd (let d : s.head ≡ 10 = ap head_of e in grind (arith, nat_tests))
by_form s a b (Set xs) h e p q r = tree_node s a b xs (nat_lt 4 (length xs)) h refl e
by_form s a b (Range lo hi c m) h e p q r = absurd (let d : s.head ≡ 11 = ap head_of e in grind (arith, nat_tests))
by_form s a b Every h e p q r = absurd (let d : s.head ≡ 12 = ap head_of e in grind (arith, nat_tests))

set_node : (t : Tree) (s : Shape) → IsIvalTree t → shape_is t s → eqb s.head 10 ≡ false → eqb s.head 11 ≡ false → eqb s.head 12 ≡ false → IsSetNode s (kid t 0)
set_node Nil s i h p q r = absurd h
set_node (Node z a b) s i h p q r = subst (λ (y : Shape). eqb y.head 10 ≡ false → eqb y.head 11 ≡ false → eqb y.head 12 ≡ false → IsSetNode y a) (sym h) (by_form z a b (ival_of (Node z a b)) i.formed i.tree) p q r

-- ---- for the code

pub node_empty : (t : Tree) (s : Shape) → shape_is t s → eqb s.head 10 ≡ true → Empty ≡ ival_of t
unfolding ival_of
node_empty Nil s h e = absurd h
node_empty (Node z a b) s h e = let k : eqb z.head 10 ≡ true = rw h at e in rw k refl

pub node_range : (t : Tree) (s : Shape) → shape_is t s → eqb s.head 11 ≡ true → range_in s ≡ ival_of t
unfolding ival_of range_in
node_range Nil s h e = absurd h
node_range (Node z a b) s h e = let k : eqb z.head 11 ≡ true = rw h at e in let j : eqb z.head 10 ≡ false = grind (arith, nat_tests) in rw (j, k) (rw h refl)

pub node_every : (t : Tree) (s : Shape) → shape_is t s → eqb s.head 12 ≡ true → Every ≡ ival_of t
unfolding ival_of
node_every Nil s h e = absurd h
node_every (Node z a b) s h e = let k : eqb z.head 12 ≡ true = rw h at e in let j : eqb z.head 10 ≡ false = grind (arith, nat_tests) in let i : eqb z.head 11 ≡ false = grind (arith, nat_tests) in rw (j, i, k) refl

node_of_set : (t : Tree) (s : Shape) → shape_is t s → eqb s.head 10 ≡ false → eqb s.head 11 ≡ false → eqb s.head 12 ≡ false
    → ival_of t ≡ Set (take (s.head - 20) (numbers_at s ++ numbers_of (kid t 0)))
unfolding ival_of
node_of_set Nil s h p q r = absurd h
node_of_set (Node z a b) s h p q r =
    let i : eqb z.head 10 ≡ false = rw h at p in let j : eqb z.head 11 ≡ false = rw h at q in let k : eqb z.head 12 ≡ false = rw h at r in rw (i, j, k) (rw h refl)

numbers_in : (a : Tree) (z : Shape) → shape_is a z → numbers_of a ≡ numbers_at z
numbers_in Nil z h = absurd h
numbers_in (Node y a b) z h = ap numbers_at (sym h)

pub spells_set : (t : Tree) (s : Shape) → IsIvalTree t → shape_is t s → eqb s.head 10 ≡ false → eqb s.head 11 ≡ false → eqb s.head 12 ≡ false → SpellsSet t s
unfolding small_set large_set
spells_set t s i h p q r =
    let n = set_node t s i h p q r in
    record {
      above = n.above;
      below = n.below;
      small = λ l. sym (node_of_set t s h p q r ∙ ap (λ (a : Tree). Set (take (s.head - 20) (numbers_at s ++ numbers_of a))) (n.small l));
      large = λ l z g. sym (node_of_set t s h p q r ∙ ap (λ (ns : List ℤ). Set (take (s.head - 20) (numbers_at s ++ ns))) (numbers_in (kid t 0) z g));
      kids = n.large;
    }

pub ruleset node_facts = (node_empty, node_range, node_every, spells_set)

pub set_formed : (t : Tree) (s : Shape) (n : ℕ) → IsIvalTree t → SpellsSet t s → s.head ≤ 24 → n ≡ s.head - 20 → IsWellFormed (small_set s n)
set_formed t s n i h l e = subst IsWellFormed (sym (ap (small_set s) e ∙ h.small l)) i.formed

pub set_value : (t : Tree) (s : Shape) (n : ℕ) → SpellsSet t s → s.head ≤ 24 → n ≡ s.head - 20 → small_set s n ≡ ival_of t
set_value t s n h l e = ap (small_set s) e ∙ h.small l

pub more_formed : (t : Tree) (s z : Shape) (n : ℕ) → IsIvalTree t → SpellsSet t s → 24 < s.head → shape_is (kid t 0) z → n ≡ s.head - 20 → IsWellFormed (large_set s z n)
more_formed t s z n i h l g e = subst IsWellFormed (sym (ap (large_set s z) e ∙ h.large l z g)) i.formed

pub more_value : (t : Tree) (s z : Shape) (n : ℕ) → SpellsSet t s → 24 < s.head → shape_is (kid t 0) z → n ≡ s.head - 20 → large_set s z n ≡ ival_of t
more_value t s z n h l g e = ap (large_set s z) e ∙ h.large l z g

same_shape : (t : Tree) (s z : Shape) → shape_is t s → shape_is t z → z ≡ s
same_shape Nil s z h g = absurd h
same_shape (Node y a b) s z h g = g ∙ sym h

pub some_kid : (t : Tree) (s z : Shape) → SpellsSet t s → 24 < s.head → shape_is t s → shape_is t z → 0 < z.kids
some_kid t s z h l f g = let k = h.kids l in let e : z.kids ≡ s.kids = ap (λ (y : Shape). y.kids) (same_shape t s z f g) in omega (arith, k, e)

pub ruleset set_facts = (set_formed, set_value, more_formed, more_value, some_kid)

-- ---- lists of numbers

pub range_is : (s : Shape) (a b c d : ℤ) → a ≡ number_at s 0 → b ≡ number_at s 1 → c ≡ number_at s 2 → d ≡ number_at s 3 → Range a b c d ≡ range_in s
unfolding range_in
range_is s a b c d p q r t =
    ap (λ (x : ℤ). Range x b c d) p ∙ ap (λ (x : ℤ). Range (number_at s 0) x c d) q ∙ ap (λ (x : ℤ). Range (number_at s 0) (number_at s 1) x d) r ∙ ap (λ (x : ℤ). Range (number_at s 0) (number_at s 1) (number_at s 2) x) t

four : (s : Shape) (a b c d : ℤ) (xs : List ℤ) → a ≡ number_at s 0 → b ≡ number_at s 1 → c ≡ number_at s 2 → d ≡ number_at s 3 → a ∷ b ∷ c ∷ d ∷ xs ≡ numbers_at s ++ xs
four s a b c d xs p q r t =
    ap (λ (x : ℤ). x ∷ b ∷ c ∷ d ∷ xs) p ∙ ap (λ (x : ℤ). number_at s 0 ∷ x ∷ c ∷ d ∷ xs) q ∙ ap (λ (x : ℤ). number_at s 0 ∷ number_at s 1 ∷ x ∷ d ∷ xs) r
    ∙ ap (λ (x : ℤ). number_at s 0 ∷ number_at s 1 ∷ number_at s 2 ∷ x ∷ xs) t

four_alone : (s : Shape) (a b c d : ℤ) → a ≡ number_at s 0 → b ≡ number_at s 1 → c ≡ number_at s 2 → d ≡ number_at s 3 → a ∷ b ∷ c ∷ d ∷ [] ≡ numbers_at s
four_alone s a b c d p q r t = four s a b c d [] p q r t

pub small_bounded : (s : Shape) (n : ℕ) (a b c d : ℤ) → a ≡ number_at s 0 → b ≡ number_at s 1 → c ≡ number_at s 2 → d ≡ number_at s 3 → IsWellFormed (small_set s n) → All IsBounded (take n (a ∷ b ∷ c ∷ d ∷ []))
unfolding small_set
small_bounded s n a b c d p q r t h = subst (λ xs. All IsBounded (take n xs)) (sym (four_alone s a b c d p q r t)) h.bounded

pub small_is : (s : Shape) (n : ℕ) (a b c d : ℤ) (x : Ival) → a ≡ number_at s 0 → b ≡ number_at s 1 → c ≡ number_at s 2 → d ≡ number_at s 3 → IsWellFormed (small_set s n) → x ≡ hull (take n (a ∷ b ∷ c ∷ d ∷ [])) → x ≡ small_set s n
unfolding small_set
small_is s n a b c d x p q r t h e = e ∙ ap (λ xs. hull (take n xs)) (four_alone s a b c d p q r t) ∙ hull_members (take n (numbers_at s)) h

eight : (s z : Shape) (a b c d e f g h : ℤ) → a ≡ number_at s 0 → b ≡ number_at s 1 → c ≡ number_at s 2 → d ≡ number_at s 3 → e ≡ number_at z 0 → f ≡ number_at z 1 → g ≡ number_at z 2 → h ≡ number_at z 3
    → a ∷ b ∷ c ∷ d ∷ e ∷ f ∷ g ∷ h ∷ [] ≡ numbers_at s ++ numbers_at z
eight s z a b c d e f g h p q r t u v w y = four s a b c d (e ∷ f ∷ g ∷ h ∷ []) p q r t ∙ ap (λ xs. numbers_at s ++ xs) (four_alone z e f g h u v w y)

pub large_bounded : (s z : Shape) (n : ℕ) (a b c d e f g h : ℤ) → a ≡ number_at s 0 → b ≡ number_at s 1 → c ≡ number_at s 2 → d ≡ number_at s 3 → e ≡ number_at z 0 → f ≡ number_at z 1 → g ≡ number_at z 2 → h ≡ number_at z 3
    → IsWellFormed (large_set s z n) → All IsBounded (take n (a ∷ b ∷ c ∷ d ∷ e ∷ f ∷ g ∷ h ∷ []))
unfolding large_set
large_bounded s z n a b c d e f g h p q r t u v w y i = subst (λ xs. All IsBounded (take n xs)) (sym (eight s z a b c d e f g h p q r t u v w y)) i.bounded

pub large_is : (s z : Shape) (n : ℕ) (a b c d e f g h : ℤ) (x : Ival) → a ≡ number_at s 0 → b ≡ number_at s 1 → c ≡ number_at s 2 → d ≡ number_at s 3 → e ≡ number_at z 0 → f ≡ number_at z 1 → g ≡ number_at z 2 → h ≡ number_at z 3
    → IsWellFormed (large_set s z n) → x ≡ hull (take n (a ∷ b ∷ c ∷ d ∷ e ∷ f ∷ g ∷ h ∷ [])) → x ≡ large_set s z n
unfolding large_set
large_is s z n a b c d e f g h x p q r t u v w y i k = k ∙ ap (λ xs. hull (take n xs)) (eight s z a b c d e f g h p q r t u v w y) ∙ hull_members (take n (numbers_at s ++ numbers_at z)) i

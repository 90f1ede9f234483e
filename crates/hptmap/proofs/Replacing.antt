use Rattle.std.proofs.Common.{ℕ, ◌+◌, ◌*◌, ◌≤◌, ◌≡◌, ◌/◌, ◌^◌, cond, eqb, Bool, true, false, IsTrue, Some, None, arith, refl, sym, ap, ◌∙◌, subst, inl, inr, Result, Ok, Err, IfOk}
use Rattle.std.proofs.lemmas.Bool.{cases_lt}
use Rattle.std.proofs.lemmas.Bool.Decides.{eqb_tells}
use Rattle.store_api.specs.declared.Shape.{Shape}
use Rattle.store_api.specs.Tree.{Tree, Nil, Node, depth, kid, shape_is}
use Rattle.hptmap.specs.Trie.{is_leaf, key_of, level_of, map_of, IsBranch, IsTrie}
use Rattle.store_api.specs.Bag.{Bag}
use Rattle.hptmap.specs.Leaves.{PairMeaning}
use Rattle.hptmap.specs.Each.{Replaces, TakesPairs, replaced_at}
use Rattle.hptmap.proofs.Tries.{kids_of_trie, below_trie, key_small, leaf_of, branch_of, trie_leaf, trie_branch, depth_trie, node_left, node_right, find_leaf}
use Rattle.hptmap.proofs.Changes.{map_leaf, replaced_left, replaced_right}
use Rattle.hptmap.proofs.Merging.{one_node, kid_falls, kid_map}

takes_at : (f : ℕ → Tree → Bool) (t : Tree) → TakesPairs f t → (x : ℕ) (a : Tree) → map_of t x ≡ Some a → IsTrue (f x a)
unfolding TakesPairs
takes_at f t c = c

takes_all : (f : ℕ → Tree → Bool) (t : Tree) → ((x : ℕ) (a : Tree) → map_of t x ≡ Some a → IsTrue (f x a)) → TakesPairs f t
unfolding TakesPairs
takes_all f t c = c

pub takes_pair : (f : ℕ → Tree → Bool) (t : Tree) (s : Shape) → IsTrie t → TakesPairs f t → shape_is t s → is_leaf s ≡ true → IsTrue (f (key_of s) (kid t 0))
takes_pair f t s h c i e = takes_at f t c (key_of s) (kid t 0) (find_leaf t s (key_of s) h i e refl)

pub takes_below : (f : ℕ → Tree → Bool) (t : Tree) (s : Shape) (k : ℕ) → IsTrie t → shape_is t s → is_leaf s ≡ false → TakesPairs f t → TakesPairs f (kid t k)
takes_below f t s k h i e c = takes_all f (kid t k) (λ x a p. takes_at f t c x a (kid_map t s k x a h i e p))

pub leaf_depth : (t : Tree) (s : Shape) (r : Tree) → shape_is t s → depth r ≤ 95 → depth (Node s r Nil) ≤ 128
leaf_depth t s r h d = omega arith

-- a leaf
replaced_cond : (f : ℕ → Tree → Tree) (k x : ℕ) (a : Tree) → cond (eqb k x) (Some (f k a)) None ≡ replaced_at (f x) (cond (eqb k x) (Some a) None)
replaced_cond f k x a = elim (eqb_tells k x) [
  | inl e ↦ ap (λ c. cond c (Some (f k a)) None) e.0 ∙ ap (λ y. Some (f y a)) e.1 ∙ sym (ap (λ c. replaced_at (f x) (cond c (Some a) None)) e.0)
  | inr e ↦ ap (λ c. cond c (Some (f k a)) None) e.0 ∙ sym (ap (λ c. replaced_at (f x) (cond c (Some a) None)) e.0)
]

node_replaces_leaf : (f : ℕ → Tree → Tree) (s : Shape) (a b : Tree) → IsTrie (Node s a b) → is_leaf s ≡ true → depth (f (key_of s) a) ≤ 95 → Replaces f (Node s a b) (Node s (f (key_of s) a) Nil)
node_replaces_leaf f s a b h e l =
    let i = leaf_of s a b h e in
    record {
      trie = trie_leaf s (f (key_of s) a) Nil (record { shape = i.shape; key = i.key; depth = l; none = refl }) e;
      map = λ x. map_leaf s (f (key_of s) a) Nil x e ∙ replaced_cond f (key_of s) x a ∙ sym (ap (λ o. replaced_at (f x) o) (map_leaf s a b x e));
      within = λ n q w. w;
    }

pub replaces_leaf : (f : ℕ → Tree → Tree) (t : Tree) (s : Shape) → IsTrie t → shape_is t s → is_leaf s ≡ true → depth (f (key_of s) (kid t 0)) ≤ 95 → Replaces f t (Node s (f (key_of s) (kid t 0)) Nil)
replaces_leaf f t s h i e l = one_node (λ v. IsTrie v → depth (f (key_of s) (kid v 0)) ≤ 95 → Replaces f v (Node s (f (key_of s) (kid v 0)) Nil)) s t i (λ a b y d. node_replaces_leaf f s a b y e d) h l

-- a branch
node_replaces_sides : (f : ℕ → Tree → Tree) (s : Shape) (a b p q : Tree) → IsTrie (Node s a b) → is_leaf s ≡ false → Replaces f a p → Replaces f b q → Replaces f (Node s a b) (Node s p q)
node_replaces_sides f s a b p q h e l r =
    let i = branch_of s a b h e in
    let o : IsBranch s p b = replaced_left s a b p i.0 (l.within (level_of s) (2 * (key_of s / 2 ^ (level_of s + 1))) i.0.left) in
    let z : IsTrie (Node s p q) = trie_branch s p q (replaced_right s p b q o (r.within (level_of s) (2 * (key_of s / 2 ^ (level_of s + 1)) + 1) i.0.right)) l.trie r.trie e in
    record {
      trie = z;
      map = λ x. elim (cases_lt x (key_of s)) [
        | inl m ↦ (node_left s p q x z e m).1 ∙ l.map x ∙ sym (ap (λ w. replaced_at (f x) w) (node_left s a b x h e m).1)
        | inr m ↦ (node_right s p q x z e m).1 ∙ r.map x ∙ sym (ap (λ w. replaced_at (f x) w) (node_right s a b x h e m).1)
      ];
      within = λ n y w. w;
    }

pub replaces_sides : (f : ℕ → Tree → Tree) (t : Tree) (s : Shape) (p q : Tree) → IsTrie t → shape_is t s → is_leaf s ≡ false → Replaces f (kid t 0) p → Replaces f (kid t 1) q → Replaces f t (Node s p q)
replaces_sides f t s p q h i e l r = one_node (λ v. IsTrie v → Replaces f (kid v 0) p → Replaces f (kid v 1) q → Replaces f v (Node s p q)) s t i (λ a b y m n. node_replaces_sides f s a b p q y e m n) h l r

pub sides_depth : (f : ℕ → Tree → Tree) (t : Tree) (s : Shape) (p q : Tree) → IsTrie t → shape_is t s → is_leaf s ≡ false → Replaces f (kid t 0) p → Replaces f (kid t 1) q → depth (Node s p q) ≤ 128
sides_depth f t s p q h i e l r = depth_trie (Node s p q) (replaces_sides f t s p q h i e l r).trie

-- the same at an answer
pub replaces_moved : (m k : PairMeaning) (t r x z : Tree) → k ≡ m → x ≡ t → z ≡ r → Replaces k.replace x z → Replaces m.replace t r
replaces_moved m k t r x z d e f g = subst (λ v. Replaces m.replace t v) f (subst (λ v. Replaces m.replace v z) e (subst (λ v. Replaces v.replace x z) d g))

pub right_ok : {H E : Type 0} (name : H → ℕ) (c : Bag) (m k : PairMeaning) (t x v : Tree) (r : Result H E) (h : H) → r ≡ Ok h → k ≡ m → x ≡ t → c.tree (name h) ≡ v
    → IfOk r (λ j. Replaces k.replace x (c.tree (name j))) → Replaces m.replace t v
right_ok name c m k t x v r h i d e l g = replaces_moved m k t v x (c.tree (name h)) d e l (subst (λ z. IfOk z (λ j. Replaces k.replace x (c.tree (name j)))) i g)

pub tree_ok : {H E : Type 0} (name : H → ℕ) (c : Bag) (f : ℕ → Tree → Tree) (t x : Tree) (r : Result H E) → Replaces f t x → IfOk r (λ h. c.tree (name h) ≡ x) → IfOk r (λ h. Replaces f t (c.tree (name h)))
tree_ok name c f t x (Ok h) w g = subst (λ v. Replaces f t v) (sym g) w
tree_ok name c f t x (Err e) w g = tt

pub ruleset leaf_facts = (kids_of_trie, key_small, takes_pair, leaf_depth, replaces_leaf)

pub ruleset side_facts = (kids_of_trie, below_trie, kid_falls, takes_below)

pub ruleset map_facts = (kids_of_trie, replaces_sides, sides_depth)

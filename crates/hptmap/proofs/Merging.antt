use Rattle.std.proofs.Common.{ℕ, zero, suc, ◌+◌, ◌*◌, ◌<◌, ◌≤◌, ◌≡◌, ◌≢◌, ◌/◌, ◌^◌, cond, eqb, Bool, true, false, IsTrue, List, ℤ, Option, Some, None, arith, refl, sym, ap, ◌∙◌, subst, inl, inr, Result, Ok, Err, IfOk}
use Rattle.std.proofs.lemmas.Bool.{cases_lt}
use Rattle.store_api.specs.declared.Shape.{Shape}
use Rattle.store_api.specs.Tree.{Tree, Nil, Node, depth, kid, shape_is}
use Rattle.store_api.specs.Bag.{Bag, Gains}
use Rattle.hptmap.specs.declared.way.Way.{Way}
use Rattle.hptmap.specs.declared.way.Way.TheVariants.{Join, Widen, JoinBack, WidenBack}
use Rattle.hptmap.specs.declared.order.Blocks.TheVariants.{Equal, Around, Inside, Apart}
use Rattle.hptmap.specs.Trie.{leaf_shape, branch_shape, is_leaf, key_of, level_of, top_of, either, map_of, Within, split_at, IsBranch, IsTrie}
use Rattle.hptmap.specs.Leaves.{LeafMeaning, Idempotent}
use Rattle.hptmap.specs.Merges.{Lies, Merges, OnSide, TakesAll, back, merged, takes_in, united}
use Rattle.hptmap.proofs.Bits.{shorten, split_shorter}
use Rattle.hptmap.proofs.Tries.{kids_of_trie, below_trie, key_small, level_small, leaf_of, branch_of, trie_leaf, trie_branch, outside, prefix_low, prefix_high, not_left, not_right, depth_trie, map_branch, node_left, node_right, top_leaf, top_branch, leaf_or, find_leaf}
use Rattle.hptmap.proofs.Changes.{map_leaf, replaced_left, replaced_right, linked_trie, split_small, told_low, below_bit, over_bit, not_key}

-- a fact about two trees whose shapes are known
pub both_nodes : (P : Tree → Tree → Type 0) (s z : Shape) (t u : Tree) → shape_is t s → shape_is u z → ((a b c d : Tree) → P (Node s a b) (Node z c d)) → P t u
both_nodes P s z Nil u i j f = absurd i
both_nodes P s z (Node x a b) Nil i j f = absurd j
both_nodes P s z (Node x a b) (Node y c d) i j f = subst (λ w. P (Node w a b) (Node y c d)) i (subst (λ v. P (Node s a b) (Node v c d)) j (f a b c d))

pub one_node : (P : Tree → Type 0) (s : Shape) (t : Tree) → shape_is t s → ((a b : Tree) → P (Node s a b)) → P t
one_node P s Nil i f = absurd i
one_node P s (Node x a b) i f = subst (λ w. P (Node w a b)) i (f a b)

-- unions of payloads
unite_same : (f : Tree → Tree → Tree) (o : Option Tree) → ((a : Tree) → o ≡ Some a → f a a ≡ a) → o ≡ united f o o
unite_same f None h = refl
unite_same f (Some a) h = ap (λ (b : Tree). Some b) (sym (h a refl))

pub unite_none : (f : Tree → Tree → Tree) (o : Option Tree) → united f o None ≡ o
unite_none f None = refl
unite_none f (Some a) = refl

unite_equal : (f : Tree → Tree → Tree) (o p q r : Option Tree) → o ≡ q → p ≡ r → united f o p ≡ united f q r
unite_equal f o p q r e d = ap (λ v. united f v p) e ∙ ap (λ v. united f q v) d

unite_cond : (t : Bool) (f : Tree → Tree → Tree) (a c : Tree) → cond t (Some (f a c)) None ≡ united f (cond t (Some a) None) (cond t (Some c) None)
unite_cond true f a c = refl
unite_cond false f a c = refl

merged_same : (m : LeafMeaning) (about : List ℤ) (w : Way) (a : Tree) → Idempotent m → IsTrue (takes_in m about w a a) → merged m w a a ≡ a
merged_same m about Join a i h = i.join about a h
merged_same m about Widen a i h = i.widen about a h
merged_same m about JoinBack a i h = i.join about a h
merged_same m about WidenBack a i h = i.widen about a h

merged_back : (m : LeafMeaning) (w : Way) (a b : Tree) → merged m (back w) b a ≡ merged m w a b
merged_back m Join a b = refl
merged_back m Widen a b = refl
merged_back m JoinBack a b = refl
merged_back m WidenBack a b = refl

taken_back : (m : LeafMeaning) (about : List ℤ) (w : Way) (a b : Tree) → takes_in m about w a b ≡ takes_in m about (back w) b a
taken_back m about Join a b = refl
taken_back m about Widen a b = refl
taken_back m about JoinBack a b = refl
taken_back m about WidenBack a b = refl

unite_back : (m : LeafMeaning) (w : Way) (o p : Option Tree) → united (merged m (back w)) p o ≡ united (merged m w) o p
unite_back m w None None = refl
unite_back m w None (Some b) = refl
unite_back m w (Some a) None = refl
unite_back m w (Some a) (Some b) = ap (λ (t : Tree). Some t) (merged_back m w a b)

pub takes_at : (f : Tree → Tree → Bool) (t u : Tree) → TakesAll f t u → (x : ℕ) (a b : Tree) → map_of t x ≡ Some a → map_of u x ≡ Some b → IsTrue (f a b)
unfolding TakesAll
takes_at f t u c = c

pub takes_all : (f : Tree → Tree → Bool) (t u : Tree) → ((x : ℕ) (a b : Tree) → map_of t x ≡ Some a → map_of u x ≡ Some b → IsTrue (f a b)) → TakesAll f t u
unfolding TakesAll
takes_all f t u c = c

some_none : {A : Type 0} (p : A) → Some p ≡ None → ⊥
some_none p e = cc

-- a payload of a side is one of the branch
node_kid_left : (s : Shape) (a b : Tree) (x : ℕ) (p : Tree) → is_leaf s ≡ false → map_of a x ≡ Some p → map_of (Node s a b) x ≡ Some p
node_kid_left s a b x p e m = map_branch s a b x e ∙ ap (λ o. either o (map_of b x)) m

node_kid_right : (s : Shape) (a b : Tree) (x : ℕ) (p : Tree) → IsTrie (Node s a b) → is_leaf s ≡ false → map_of b x ≡ Some p → map_of (Node s a b) x ≡ Some p
node_kid_right s a b x p h e m = elim (cases_lt x (key_of s)) [ inl l ↦ absurd (some_none p (sym m ∙ (node_left s a b x h e l).0)) | inr l ↦ (node_right s a b x h e l).1 ∙ m ]

pub kid_map : (t : Tree) (s : Shape) (k x : ℕ) (p : Tree) → IsTrie t → shape_is t s → is_leaf s ≡ false → map_of (kid t k) x ≡ Some p → map_of t x ≡ Some p
kid_map Nil s k x p h i e m = absurd i
kid_map (Node z a b) s zero x p h i e m = node_kid_left z a b x p (subst (λ w. is_leaf w ≡ false) i e) m
kid_map (Node z a b) s (suc k) x p h i e m = node_kid_right z a b x p h (subst (λ w. is_leaf w ≡ false) i e) m

-- what the payloads of a call below need
pub takes_leaf : (f : Tree → Tree → Bool) (t u : Tree) (s : Shape) → IsTrie t → IsTrie u → TakesAll f t u → shape_is t s → shape_is u s → is_leaf s ≡ true → IsTrue (f (kid t 0) (kid u 0))
takes_leaf f t u s h g c i j e = takes_at f t u c (key_of s) (kid t 0) (kid u 0) (find_leaf t s (key_of s) h i e refl) (find_leaf u s (key_of s) g j e refl)

pub takes_sides : (f : Tree → Tree → Bool) (t u : Tree) (s : Shape) (k : ℕ) → IsTrie t → IsTrie u → shape_is t s → shape_is u s → is_leaf s ≡ false → TakesAll f t u → TakesAll f (kid t k) (kid u k)
takes_sides f t u s k h g i j e c = takes_all f (kid t k) (kid u k) (λ x a b p q. takes_at f t u c x a b (kid_map t s k x a h i e p) (kid_map u s k x b g j e q))

pub takes_side : (f : Tree → Tree → Bool) (t u : Tree) (s : Shape) (k : ℕ) → IsTrie t → shape_is t s → is_leaf s ≡ false → TakesAll f t u → TakesAll f (kid t k) u
takes_side f t u s k h i e c = takes_all f (kid t k) u (λ x a b p q. takes_at f t u c x a b (kid_map t s k x a h i e p) q)

pub takes_back : (m : LeafMeaning) (about : List ℤ) (w : Way) (t u : Tree) → TakesAll (takes_in m about w) t u → TakesAll (takes_in m about (back w)) u t
takes_back m about w t u c = takes_all (takes_in m about (back w)) u t (λ x a b p q. subst IsTrue (taken_back m about w b a) (takes_at (takes_in m about w) t u c x b a q p))

-- a trie with itself
pub merges_same : (m : LeafMeaning) (about : List ℤ) (w : Way) (t u : Tree) → t ≡ u → Idempotent m → IsTrie t → TakesAll (takes_in m about w) t u → Merges (merged m w) t u t
merges_same m about w t u e i h c =
    let d : TakesAll (takes_in m about w) t t = subst (λ v. TakesAll (takes_in m about w) t v) (sym e) c in
    record {
      trie = h;
      map = λ x. unite_same (merged m w) (map_of t x) (λ a p. merged_same m about w a i (takes_at (takes_in m about w) t t d x a a p p)) ∙ ap (λ v. united (merged m w) (map_of t x) (map_of v x)) e;
      within = λ n q v _. v;
    }

-- two leaves of one key
pub leaf_depth : (t : Tree) (s : Shape) (r : Tree) → shape_is t s → depth r ≤ 95 → depth (Node s r Nil) ≤ 128
leaf_depth t s r h d = omega arith

node_merges_leaf : (f : Tree → Tree → Tree) (s : Shape) (a b c d : Tree) → IsTrie (Node s a b) → IsTrie (Node s c d) → is_leaf s ≡ true → depth (f a c) ≤ 95 → Merges f (Node s a b) (Node s c d) (Node s (f a c) Nil)
node_merges_leaf f s a b c d h g e l =
    let i = leaf_of s a b h e in
    record {
      trie = trie_leaf s (f a c) Nil (record { shape = i.shape; key = i.key; depth = l; none = refl }) e;
      map = λ x. map_leaf s (f a c) Nil x e ∙ unite_cond (eqb (key_of s) x) f a c
          ∙ sym (unite_equal f (map_of (Node s a b) x) (map_of (Node s c d) x) (cond (eqb (key_of s) x) (Some a) None) (cond (eqb (key_of s) x) (Some c) None) (map_leaf s a b x e) (map_leaf s c d x e));
      within = λ n q w _. w;
    }

pub merges_leaf : (f : Tree → Tree → Tree) (t u : Tree) (s : Shape) → IsTrie t → IsTrie u → shape_is t s → shape_is u s → is_leaf s ≡ true → depth (f (kid t 0) (kid u 0)) ≤ 95 → Merges f t u (Node s (f (kid t 0) (kid u 0)) Nil)
merges_leaf f t u s h g i j e l =
    both_nodes (λ v w. IsTrie v → IsTrie w → depth (f (kid v 0) (kid w 0)) ≤ 95 → Merges f v w (Node s (f (kid v 0) (kid w 0)) Nil)) s s t u i j (λ a b c d y z m. node_merges_leaf f s a b c d y z e m) h g l

pub kid_falls : (t : Tree) (s : Shape) (k : ℕ) → shape_is t s → depth (kid t k) < depth t
kid_falls Nil s k h = absurd h
kid_falls (Node z a b) s zero h = omega arith
kid_falls (Node z a b) s (suc k) h = omega arith

-- two branches of one block
node_merges_sides : (f : Tree → Tree → Tree) (s : Shape) (a b c d p q : Tree) → IsTrie (Node s a b) → IsTrie (Node s c d) → is_leaf s ≡ false → Merges f a c p → Merges f b d q → Merges f (Node s a b) (Node s c d) (Node s p q)
node_merges_sides f s a b c d p q h g e l r =
    let i = branch_of s a b h e in let j = branch_of s c d g e in
    let o : IsBranch s p b = replaced_left s a b p i.0 (l.within (level_of s) (2 * (key_of s / 2 ^ (level_of s + 1))) i.0.left j.0.left) in
    let z : IsTrie (Node s p q) = trie_branch s p q (replaced_right s p b q o (r.within (level_of s) (2 * (key_of s / 2 ^ (level_of s + 1)) + 1) i.0.right j.0.right)) l.trie r.trie e in
    record {
      trie = z;
      map = λ x. elim (cases_lt x (key_of s)) [
        | inl m ↦ (node_left s p q x z e m).1 ∙ l.map x ∙ sym (unite_equal f (map_of (Node s a b) x) (map_of (Node s c d) x) (map_of a x) (map_of c x) (node_left s a b x h e m).1 (node_left s c d x g e m).1)
        | inr m ↦ (node_right s p q x z e m).1 ∙ r.map x ∙ sym (unite_equal f (map_of (Node s a b) x) (map_of (Node s c d) x) (map_of b x) (map_of d x) (node_right s a b x h e m).1 (node_right s c d x g e m).1)
      ];
      within = λ n y w _. w;
    }

pub merges_sides : (f : Tree → Tree → Tree) (t u : Tree) (s : Shape) (p q : Tree) → IsTrie t → IsTrie u → shape_is t s → shape_is u s → is_leaf s ≡ false → Merges f (kid t 0) (kid u 0) p → Merges f (kid t 1) (kid u 1) q → Merges f t u (Node s p q)
merges_sides f t u s p q h g i j e l r =
    both_nodes (λ v w. IsTrie v → IsTrie w → Merges f (kid v 0) (kid w 0) p → Merges f (kid v 1) (kid w 1) q → Merges f v w (Node s p q)) s s t u i j (λ a b c d y z m n. node_merges_sides f s a b c d p q y z e m n) h g l r

pub sides_depth : (f : Tree → Tree → Tree) (t u : Tree) (s : Shape) (p q : Tree) → IsTrie t → IsTrie u → shape_is t s → shape_is u s → is_leaf s ≡ false → Merges f (kid t 0) (kid u 0) p → Merges f (kid t 1) (kid u 1) q → depth (Node s p q) ≤ 128
sides_depth f t u s p q h g i j e l r = depth_trie (Node s p q) (merges_sides f t u s p q h g i j e l r).trie

-- a trie that lies in a branch
pub on_side_branch : (u : Tree) (s : Shape) (k : ℕ) → OnSide u s k → is_leaf s ≡ false
on_side_branch u s k o = o.branch

node_merges_left : (f : Tree → Tree → Tree) (s : Shape) (a b u : Tree) (k : ℕ) (r : Tree) → IsTrie (Node s a b) → IsTrie u → OnSide u s k → k < key_of s → Merges f a u r → Merges f (Node s a b) u (Node s r b)
node_merges_left f s a b u k r h g o l m =
    let e = o.branch in let i = branch_of s a b h e in
    let p : k / 2 ^ level_of s ≡ 2 * (key_of s / 2 ^ (level_of s + 1)) = prefix_low k (key_of s) (level_of s) i.0.split o.prefix l in
    let v : Within u (level_of s) (2 * (key_of s / 2 ^ (level_of s + 1))) = subst (λ (y : ℕ). Within u (level_of s) y) p o.within in
    let z : IsTrie (Node s r b) = trie_branch s r b (replaced_left s a b r i.0 (m.within (level_of s) (2 * (key_of s / 2 ^ (level_of s + 1))) i.0.left v)) m.trie i.2 e in
    record {
      trie = z;
      map = λ x. elim (cases_lt x (key_of s)) [
        | inl y ↦ (node_left s r b x z e y).1 ∙ m.map x ∙ sym (ap (λ w. united f w (map_of u x)) (node_left s a b x h e y).1)
        | inr y ↦ (node_right s r b x z e y).1 ∙ sym (unite_equal f (map_of (Node s a b) x) (map_of u x) (map_of b x) None (node_right s a b x h e y).1
            (outside u (level_of s) (2 * (key_of s / 2 ^ (level_of s + 1))) x g v (not_left x (key_of s) (level_of s) i.0.split y)) ∙ unite_none f (map_of b x))
      ];
      within = λ n y w _. w;
    }

node_merges_right : (f : Tree → Tree → Tree) (s : Shape) (a b u : Tree) (k : ℕ) (r : Tree) → IsTrie (Node s a b) → IsTrie u → OnSide u s k → key_of s ≤ k → Merges f b u r → Merges f (Node s a b) u (Node s a r)
node_merges_right f s a b u k r h g o l m =
    let e = o.branch in let i = branch_of s a b h e in
    let p : k / 2 ^ level_of s ≡ 2 * (key_of s / 2 ^ (level_of s + 1)) + 1 = prefix_high k (key_of s) (level_of s) i.0.split o.prefix l in
    let v : Within u (level_of s) (2 * (key_of s / 2 ^ (level_of s + 1)) + 1) = subst (λ (y : ℕ). Within u (level_of s) y) p o.within in
    let z : IsTrie (Node s a r) = trie_branch s a r (replaced_right s a b r i.0 (m.within (level_of s) (2 * (key_of s / 2 ^ (level_of s + 1)) + 1) i.0.right v)) i.1 m.trie e in
    record {
      trie = z;
      map = λ x. elim (cases_lt x (key_of s)) [
        | inl y ↦ (node_left s a r x z e y).1 ∙ sym (unite_equal f (map_of (Node s a b) x) (map_of u x) (map_of a x) None (node_left s a b x h e y).1
            (outside u (level_of s) (2 * (key_of s / 2 ^ (level_of s + 1)) + 1) x g v (not_right x (key_of s) (level_of s) i.0.split y)) ∙ unite_none f (map_of a x))
        | inr y ↦ (node_right s a r x z e y).1 ∙ m.map x ∙ sym (ap (λ w. united f w (map_of u x)) (node_right s a b x h e y).1)
      ];
      within = λ n y w _. w;
    }

pub merges_left : (f : Tree → Tree → Tree) (t u : Tree) (s : Shape) (k : ℕ) (r : Tree) → IsTrie t → IsTrie u → shape_is t s → OnSide u s k → k < key_of s → Merges f (kid t 0) u r → Merges f t u (Node s r (kid t 1))
merges_left f t u s k r h g i o l m = one_node (λ v. IsTrie v → Merges f (kid v 0) u r → Merges f v u (Node s r (kid v 1))) s t i (λ a b y n. node_merges_left f s a b u k r y g o l n) h m

pub merges_right : (f : Tree → Tree → Tree) (t u : Tree) (s : Shape) (k : ℕ) (r : Tree) → IsTrie t → IsTrie u → shape_is t s → OnSide u s k → key_of s ≤ k → Merges f (kid t 1) u r → Merges f t u (Node s (kid t 0) r)
merges_right f t u s k r h g i o l m = one_node (λ v. IsTrie v → Merges f (kid v 1) u r → Merges f v u (Node s (kid v 0) r)) s t i (λ a b y n. node_merges_right f s a b u k r y g o l n) h m

pub left_depth : (f : Tree → Tree → Tree) (t u : Tree) (s : Shape) (k : ℕ) (r : Tree) → IsTrie t → IsTrie u → shape_is t s → OnSide u s k → k < key_of s → Merges f (kid t 0) u r → depth (Node s r (kid t 1)) ≤ 128
left_depth f t u s k r h g i o l m = depth_trie (Node s r (kid t 1)) (merges_left f t u s k r h g i o l m).trie

pub right_depth : (f : Tree → Tree → Tree) (t u : Tree) (s : Shape) (k : ℕ) (r : Tree) → IsTrie t → IsTrie u → shape_is t s → OnSide u s k → key_of s ≤ k → Merges f (kid t 1) u r → depth (Node s (kid t 0) r) ≤ 128
right_depth f t u s k r h g i o l m = depth_trie (Node s (kid t 0) r) (merges_right f t u s k r h g i o l m).trie

-- the sides swapped
pub merges_back : (m : LeafMeaning) (w : Way) (t u r : Tree) → Merges (merged m (back w)) u t r → Merges (merged m w) t u r
merges_back m w t u r g = record { trie = g.trie; map = λ x. g.map x ∙ unite_back m w (map_of t x) (map_of u x); within = λ n q v y. g.within n q y v }

-- how blocks lie
leaf_equal : (s z : Shape) → top_of s ≡ 0 → key_of z / 2 ^ top_of s ≡ key_of s / 2 ^ top_of s → key_of s ≡ key_of z
leaf_equal s z t p = let q : key_of z / 2 ^ 0 ≡ key_of s / 2 ^ 0 = subst (λ (n : ℕ). key_of z / 2 ^ n ≡ key_of s / 2 ^ n) t p in omega arith

node_equal : (s z : Shape) (a b c d : Tree) → IsTrie (Node s a b) → IsTrie (Node z c d) → Lies Equal s z → s ≡ z
unfolding split_at
node_equal s z a b c d h g t =
    elim (leaf_or s) [
      | inl e ↦ elim (leaf_or z) [
        | inl l ↦ (leaf_of s a b h e).shape ∙ ap leaf_shape (leaf_equal s z (top_leaf s e) t.1) ∙ sym (leaf_of z c d g l).shape
        | inr l ↦ absurd (omega (arith, t.0, top_leaf s e, top_branch z l))
      ]
      | inr e ↦ elim (leaf_or z) [
        | inl l ↦ absurd (omega (arith, t.0, top_branch s e, top_leaf z l))
        | inr l ↦
            let i = (branch_of s a b h e).0 in let j = (branch_of z c d g l).0 in
            let n : level_of s ≡ level_of z = omega (arith, t.0, top_branch s e, top_branch z l) in
            let p : key_of z / 2 ^ (level_of s + 1) ≡ key_of s / 2 ^ (level_of s + 1) = subst (λ (y : ℕ). key_of z / 2 ^ y ≡ key_of s / 2 ^ y) (top_branch s e) t.1 in
            let k : key_of s ≡ key_of z = i.split ∙ ap (λ (y : ℕ). (2 * y + 1) * 2 ^ level_of s) (sym p) ∙ ap (λ (y : ℕ). (2 * (key_of z / 2 ^ (y + 1)) + 1) * 2 ^ y) n ∙ sym j.split in
            i.shape ∙ ap (λ y. branch_shape y (level_of s)) k ∙ ap (λ y. branch_shape (key_of z) y) n ∙ sym j.shape
      ]
    ]

pub equal_shapes : (t u : Tree) (s z : Shape) → IsTrie t → IsTrie u → shape_is t s → shape_is u z → Lies Equal s z → shape_is u s
equal_shapes t u s z h g i j e = both_nodes (λ v w. IsTrie v → IsTrie w → shape_is w s) s z t u i j (λ a b c d y x. node_equal s z a b c d y x e) h g

node_around : (s z : Shape) (c d : Tree) → Lies Around s z → OnSide (Node z c d) s (key_of z)
node_around s z c d l = elim (leaf_or s) [
  | inl e ↦ absurd (omega (arith, l.0, top_leaf s e))
  | inr e ↦ record { branch = e; within = (omega (arith, l.0, top_branch s e), refl); prefix = subst (λ (n : ℕ). key_of z / 2 ^ n ≡ key_of s / 2 ^ n) (top_branch s e) l.1 }
]

pub around : (u : Tree) (s z : Shape) → shape_is u z → Lies Around s z → OnSide u s (key_of z)
around u s z h l = one_node (λ v. OnSide v s (key_of z)) z u h (λ c d. node_around s z c d l)

pub inside : (t : Tree) (s z : Shape) → shape_is t s → Lies Inside s z → OnSide t z (key_of s)
inside t s z h l = around t z s h l

pub apart_keys : (s z : Shape) → Lies Apart s z → key_of s ≢ key_of z
apart_keys s z l e = elim l [ inl p ↦ p.1 (ap (λ (k : ℕ). k / 2 ^ top_of z) e) | inr p ↦ p.1 (ap (λ (k : ℕ). k / 2 ^ top_of s) (sym e)) ]

apart_below : (s z : Shape) (n : ℕ) → Lies Apart s z → key_of s / 2 ^ (n + 1) ≡ key_of z / 2 ^ (n + 1) → (top_of s ≤ n) × (top_of z ≤ n)
apart_below s z n l e = elim l [
  | inl p ↦ let b = below_bit z (key_of s) n p.1 e in (omega (arith, p.0), b)
  | inr p ↦ let b = below_bit s (key_of z) n p.1 (sym e) in (b, omega (arith, p.0))
]

-- two tries whose blocks lie apart
node_links_low : (f : Tree → Tree → Tree) (s z : Shape) (a b c d : Tree) (n : ℕ) → IsTrie (Node s a b) → IsTrie (Node z c d) → Lies Apart s z
    → n < 32 → key_of s / 2 ^ n ≢ key_of z / 2 ^ n → key_of s / 2 ^ (n + 1) ≡ key_of z / 2 ^ (n + 1) → key_of s < key_of z → Merges f (Node s a b) (Node z c d) (Node (branch_shape (split_at (key_of s) n) n) (Node s a b) (Node z c d))
node_links_low f s z a b c d n h g l m o e y =
    let w = told_low (key_of s) (key_of z) n y o e in let r = apart_below s z n l e in
    let k : IsTrie (Node (branch_shape (split_at (key_of s) n) n) (Node s a b) (Node z c d)) =
    linked_trie (key_of s) n (Node s a b) (Node z c d) (split_small (key_of s) n (key_small (Node s a b) s h refl) m) m h g (r.0, w.0) (r.1, w.1) in
    record {
      trie = k;
      map = λ x. elim (cases_lt x (split_at (key_of s) n)) [
        | inl j ↦ let v = node_left (branch_shape (split_at (key_of s) n) n) (Node s a b) (Node z c d) x k refl j in v.1 ∙ sym (ap (λ p. united f (map_of (Node s a b) x) p) v.0 ∙ unite_none f (map_of (Node s a b) x))
        | inr j ↦ let v = node_right (branch_shape (split_at (key_of s) n) n) (Node s a b) (Node z c d) x k refl j in v.1 ∙ sym (ap (λ p. united f p (map_of (Node z c d) x)) v.0)
      ];
      within = λ i q v j. let b = over_bit (key_of s) (key_of z) n i q o j.1 v.1 in (b, shorten (split_at (key_of s) n) (key_of s) (n + 1) i b (split_shorter (key_of s) n) ∙ v.1);
    }

node_links_high : (f : Tree → Tree → Tree) (s z : Shape) (a b c d : Tree) (n : ℕ) → IsTrie (Node s a b) → IsTrie (Node z c d) → Lies Apart s z
    → n < 32 → key_of s / 2 ^ n ≢ key_of z / 2 ^ n → key_of s / 2 ^ (n + 1) ≡ key_of z / 2 ^ (n + 1) → key_of z < key_of s → Merges f (Node s a b) (Node z c d) (Node (branch_shape (split_at (key_of s) n) n) (Node z c d) (Node s a b))
node_links_high f s z a b c d n h g l m o e y =
    let w = told_low (key_of z) (key_of s) n y (λ i. o (sym i)) (sym e) in let r = apart_below s z n l e in
    let k : IsTrie (Node (branch_shape (split_at (key_of s) n) n) (Node z c d) (Node s a b)) =
    linked_trie (key_of s) n (Node z c d) (Node s a b) (split_small (key_of s) n (key_small (Node s a b) s h refl) m) m g h (r.1, w.0 ∙ ap (λ (i : ℕ). 2 * i) (sym e)) (r.0, w.1 ∙ ap (λ (i : ℕ). 2 * i + 1) (sym e)) in
    record {
      trie = k;
      map = λ x. elim (cases_lt x (split_at (key_of s) n)) [
        | inl j ↦ let v = node_left (branch_shape (split_at (key_of s) n) n) (Node z c d) (Node s a b) x k refl j in v.1 ∙ sym (ap (λ p. united f p (map_of (Node z c d) x)) v.0)
        | inr j ↦ let v = node_right (branch_shape (split_at (key_of s) n) n) (Node z c d) (Node s a b) x k refl j in v.1 ∙ sym (ap (λ p. united f (map_of (Node s a b) x) p) v.0 ∙ unite_none f (map_of (Node s a b) x))
      ];
      within = λ i q v j. let b = over_bit (key_of s) (key_of z) n i q o j.1 v.1 in (b, shorten (split_at (key_of s) n) (key_of s) (n + 1) i b (split_shorter (key_of s) n) ∙ v.1);
    }

pub links_low : (f : Tree → Tree → Tree) (t u : Tree) (s z : Shape) (n : ℕ) → IsTrie t → IsTrie u → shape_is t s → shape_is u z → Lies Apart s z
    → n < 32 → key_of s / 2 ^ n ≢ key_of z / 2 ^ n → key_of s / 2 ^ (n + 1) ≡ key_of z / 2 ^ (n + 1) → key_of s < key_of z → Merges f t u (Node (branch_shape (split_at (key_of s) n) n) t u)
links_low f t u s z n h g i j l m o e y = both_nodes (λ v w. IsTrie v → IsTrie w → Merges f v w (Node (branch_shape (split_at (key_of s) n) n) v w)) s z t u i j (λ a b c d p q. node_links_low f s z a b c d n p q l m o e y) h g

pub links_high : (f : Tree → Tree → Tree) (t u : Tree) (s z : Shape) (n : ℕ) → IsTrie t → IsTrie u → shape_is t s → shape_is u z → Lies Apart s z
    → n < 32 → key_of s / 2 ^ n ≢ key_of z / 2 ^ n → key_of s / 2 ^ (n + 1) ≡ key_of z / 2 ^ (n + 1) → key_of z < key_of s → Merges f t u (Node (branch_shape (split_at (key_of s) n) n) u t)
links_high f t u s z n h g i j l m o e y = both_nodes (λ v w. IsTrie v → IsTrie w → Merges f v w (Node (branch_shape (split_at (key_of s) n) n) w v)) s z t u i j (λ a b c d p q. node_links_high f s z a b c d n p q l m o e y) h g

first : Tree → Tree → Tree
first a b = a

pub low_depth : (t u : Tree) (s z : Shape) (n : ℕ) → IsTrie t → IsTrie u → shape_is t s → shape_is u z → Lies Apart s z
    → n < 32 → key_of s / 2 ^ n ≢ key_of z / 2 ^ n → key_of s / 2 ^ (n + 1) ≡ key_of z / 2 ^ (n + 1) → key_of s < key_of z → depth (Node (branch_shape (split_at (key_of s) n) n) t u) ≤ 128
low_depth t u s z n h g i j l m o e y = depth_trie (Node (branch_shape (split_at (key_of s) n) n) t u) (links_low first t u s z n h g i j l m o e y).trie

pub high_depth : (t u : Tree) (s z : Shape) (n : ℕ) → IsTrie t → IsTrie u → shape_is t s → shape_is u z → Lies Apart s z
    → n < 32 → key_of s / 2 ^ n ≢ key_of z / 2 ^ n → key_of s / 2 ^ (n + 1) ≡ key_of z / 2 ^ (n + 1) → key_of z < key_of s → depth (Node (branch_shape (split_at (key_of s) n) n) u t) ≤ 128
high_depth t u s z n h g i j l m o e y = depth_trie (Node (branch_shape (split_at (key_of s) n) n) u t) (links_high first t u s z n h g i j l m o e y).trie

-- the same at an answer
pub same_ok : {H E : Type 0} (name : H → ℕ) (b c : Bag) (m : LeafMeaning) (about : List ℤ) (w : Way) (t u : Tree) (r : Result H E) → t ≡ u → Idempotent m → IsTrie t → TakesAll (takes_in m about w) t u
    → IfOk r (λ h. Gains b c (name h) t) → IfOk r (λ h. Merges (merged m w) t u (c.tree (name h)))
same_ok name b c m about w t u (Ok h) e i k d g = subst (λ v. Merges (merged m w) t u v) (sym g.tree) (merges_same m about w t u e i k d)
same_ok name b c m about w t u (Err e) d i k a g = tt

pub back_ok : {H E : Type 0} (name : H → ℕ) (c : Bag) (m : LeafMeaning) (w v : Way) (t u x y : Tree) (r : Result H E) → v ≡ back w → x ≡ u → y ≡ t
    → IfOk r (λ h. Merges (merged m v) x y (c.tree (name h))) → IfOk r (λ h. Merges (merged m w) t u (c.tree (name h)))
back_ok name c m w v t u x y (Ok h) e d f g =
    merges_back m w t u (c.tree (name h)) (subst (λ z. Merges (merged m (back w)) u z (c.tree (name h))) f (subst (λ z. Merges (merged m (back w)) z y (c.tree (name h))) d (subst (λ z. Merges (merged m z) x y (c.tree (name h))) e g)))
back_ok name c m w v t u x y (Err e) d f i g = tt

pub link_ok : {H E : Type 0} (name : H → ℕ) (c : Bag) (f : Tree → Tree → Tree) (t u x y : Tree) (r : Result H E) → x ≡ t → y ≡ u
    → IfOk r (λ h. (k : Tree → Tree → Tree) → Merges k x y (c.tree (name h))) → IfOk r (λ h. Merges f t u (c.tree (name h)))
link_ok name c f t u x y (Ok h) e d g = subst (λ z. Merges f t z (c.tree (name h))) d (subst (λ z. Merges f z y (c.tree (name h))) e (g f))
link_ok name c f t u x y (Err e) d i g = tt

pub linked_low_ok : {H E : Type 0} (name : H → ℕ) (b c : Bag) (t u : Tree) (s z y : Shape) (n : ℕ) (r : Result H E) → IsTrie t → IsTrie u → shape_is t s → shape_is u z → Lies Apart s z
    → n < 32 → key_of s / 2 ^ n ≢ key_of z / 2 ^ n → key_of s / 2 ^ (n + 1) ≡ key_of z / 2 ^ (n + 1) → key_of s < key_of z
    → y ≡ branch_shape (split_at (key_of s) n) n → IfOk r (λ h. Gains b c (name h) (Node y t u)) → IfOk r (λ h. (f : Tree → Tree → Tree) → Merges f t u (c.tree (name h)))
linked_low_ok name b c t u s z y n (Ok h) p q i j l m o e k d g = λ f. subst (λ v. Merges f t u v) (sym g.tree) (subst (λ v. Merges f t u (Node v t u)) (sym d) (links_low f t u s z n p q i j l m o e k))
linked_low_ok name b c t u s z y n (Err x) p q i j l m o e k d g = tt

pub linked_high_ok : {H E : Type 0} (name : H → ℕ) (b c : Bag) (t u : Tree) (s z y : Shape) (n : ℕ) (r : Result H E) → IsTrie t → IsTrie u → shape_is t s → shape_is u z → Lies Apart s z
    → n < 32 → key_of s / 2 ^ n ≢ key_of z / 2 ^ n → key_of s / 2 ^ (n + 1) ≡ key_of z / 2 ^ (n + 1) → key_of z < key_of s
    → y ≡ branch_shape (split_at (key_of s) n) n → IfOk r (λ h. Gains b c (name h) (Node y u t)) → IfOk r (λ h. (f : Tree → Tree → Tree) → Merges f t u (c.tree (name h)))
linked_high_ok name b c t u s z y n (Ok h) p q i j l m o e k d g = λ f. subst (λ v. Merges f t u v) (sym g.tree) (subst (λ v. Merges f t u (Node v u t)) (sym d) (links_high f t u s z n p q i j l m o e k))
linked_high_ok name b c t u s z y n (Err x) p q i j l m o e k d g = tt

pub tree_ok : {H E : Type 0} (name : H → ℕ) (c : Bag) (f : Tree → Tree → Tree) (t u x : Tree) (r : Result H E) → Merges f t u x → IfOk r (λ h. c.tree (name h) ≡ x) → IfOk r (λ h. Merges f t u (c.tree (name h)))
tree_ok name c f t u x (Ok h) w g = subst (λ v. Merges f t u v) (sym g) w
tree_ok name c f t u x (Err e) w g = tt

pub merges_moved : (m k : LeafMeaning) (w : Way) (t u r x y z : Tree) → k ≡ m → x ≡ t → y ≡ u → z ≡ r → Merges (merged k w) x y z → Merges (merged m w) t u r
merges_moved m k w t u r x y z d e f h g = subst (λ v. Merges (merged m w) t u v) h (subst (λ v. Merges (merged m w) t v z) f (subst (λ v. Merges (merged m w) v y z) e (subst (λ v. Merges (merged v w) x y z) d g)))

pub right_ok : {H E : Type 0} (name : H → ℕ) (c : Bag) (m k : LeafMeaning) (w : Way) (t u x y v : Tree) (r : Result H E) (h : H) → r ≡ Ok h → k ≡ m → x ≡ t → y ≡ u → c.tree (name h) ≡ v
    → IfOk r (λ j. Merges (merged k w) x y (c.tree (name j))) → Merges (merged m w) t u v
right_ok name c m k w t u x y v r h i d e f l g = merges_moved m k w t u v x y (c.tree (name h)) d e f l (subst (λ z. IfOk z (λ j. Merges (merged k w) x y (c.tree (name j)))) i g)

pub ruleset leaf_facts = (kids_of_trie, takes_leaf, leaf_depth, merges_leaf)

pub ruleset link_facts = (key_small, apart_keys, low_depth, high_depth, links_low, links_high, not_key)

pub ruleset side_facts = (kids_of_trie, below_trie, kid_falls, takes_sides)

pub ruleset equal_facts = (kids_of_trie, merges_sides, sides_depth)

pub ruleset into_facts = (kids_of_trie, below_trie, on_side_branch, takes_side, merges_left, merges_right, left_depth, right_depth)

pub ruleset merge_facts = (level_small, merges_same, takes_back, merges_back, equal_shapes, around, inside)

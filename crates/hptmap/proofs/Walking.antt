use Rattle.std.proofs.Common.{ℕ, ◌+◌, ◌≤◌, ◌≡◌, cond, true, false, List, [], ◌∷◌, ◌++◌, map, arith, refl, sym, ap, ◌∙◌, Result, Ok, Err, IfOk}
use Rattle.std.proofs.lemmas.List.{append_assoc, map-append}
use Rattle.std.proofs.lemmas.List.Sums.{sum_by-append}
use Rattle.store_api.specs.declared.Shape.{Shape}
use Rattle.store_api.specs.Tree.{Tree, kid, shape_is}
use Rattle.store_api.specs.Bag.{Bag, Trades, none, one, one_self}
use Rattle.hptmap.specs.Trie.{is_leaf, key_of, entries}
use Rattle.hptmap.specs.Pairs.{pair_holds, pair_trees, holds_none, holds_more}
use Rattle.hptmap.proofs.Tries.{kids_of_trie, below_trie, key_small}
use Rattle.hptmap.proofs.Merging.{one_node, kid_falls}

holds_first : {H : Type 0} (name : H → ℕ) (p : ℕ × H) (ps : List (ℕ × H)) (x : ℕ) → pair_holds name (p ∷ ps) x ≡ one (name p.1) x + pair_holds name ps x
unfolding pair_holds
holds_first name p ps x = omega (arith, sum_by-append (λ k. one (name k.1) x) (p ∷ []) ps)

-- pairs keep their payloads while other holds go and come
pub trees_kept : {H : Type 0} (name : H → ℕ) (b c : Bag) (out come : ℕ → ℕ) (ps : List (ℕ × H)) → Trades b c out come → ((x : ℕ) → pair_holds name ps x + out x ≤ b.count x) → pair_trees name c ps ≡ pair_trees name b ps
unfolding pair_trees
trees_kept name b c out come [] w l = refl
trees_kept name b c out come (p ∷ ps) w l =
    let q : c.tree (name p.1) ≡ b.tree (name p.1) = w.trees (name p.1) (omega (arith, l (name p.1), holds_first name p ps (name p.1), one_self (name p.1))) in
    let r : map (λ k. (k.0, c.tree (name k.1))) ps ≡ map (λ k. (k.0, b.tree (name k.1))) ps = trees_kept name b c out come ps w (λ x. omega (arith, l x, holds_first name p ps x)) in
    ap (λ t. (p.0, t) ∷ map (λ k. (k.0, c.tree (name k.1))) ps) q ∙ ap (λ v. (p.0, b.tree (name p.1)) ∷ v) r

pub trees_more : {H : Type 0} (name : H → ℕ) (b : Bag) (ps : List (ℕ × H)) (p : ℕ × H) → pair_trees name b (ps ++ p ∷ []) ≡ pair_trees name b ps ++ (p.0, b.tree (name p.1)) ∷ []
unfolding pair_trees
trees_more name b ps p = map-append (λ k. (k.0, b.tree (name k.1))) ps (p ∷ [])

pub no_pairs : {H : Type 0} (name : H → ℕ) (b : Bag) → pair_trees name b [] ≡ []
unfolding pair_trees
no_pairs name b = refl

entries_leaf : (t : Tree) (s : Shape) → shape_is t s → is_leaf s ≡ true → entries t ≡ (key_of s, kid t 0) ∷ []
entries_leaf t s i e = one_node (λ v. entries v ≡ (key_of s, kid v 0) ∷ []) s t i (λ a b. ap (λ c. cond c ((key_of s, a) ∷ []) (entries a ++ entries b)) e)

entries_branch : (t : Tree) (s : Shape) → shape_is t s → is_leaf s ≡ false → entries t ≡ entries (kid t 0) ++ entries (kid t 1)
entries_branch t s i e = one_node (λ v. entries v ≡ entries (kid v 0) ++ entries (kid v 1)) s t i (λ a b. ap (λ c. cond c ((key_of s, a) ∷ []) (entries a ++ entries b)) e)

-- the pair of a leaf
pub walked_leaf : {H : Type 0} (name : H → ℕ) (b c : Bag) (ps v : List (ℕ × H)) (h : H) (t : Tree) (s : Shape) → shape_is t s → is_leaf s ≡ true → c.tree (name h) ≡ kid t 0
    → pair_trees name c ps ≡ pair_trees name b ps → v ≡ ps ++ (key_of s, h) ∷ [] → pair_trees name c v ≡ pair_trees name b ps ++ entries t
walked_leaf name b c ps v h t s i e d k q =
    ap (pair_trees name c) q ∙ trees_more name c ps (key_of s, h)
    ∙ ap (λ y. y ++ (key_of s, c.tree (name h)) ∷ []) k ∙ ap (λ y. pair_trees name b ps ++ (key_of s, y) ∷ []) d ∙ ap (λ y. pair_trees name b ps ++ y) (sym (entries_leaf t s i e))

-- the pairs of both sides of a branch
pub walked_sides : {H : Type 0} (name : H → ℕ) (b c d : Bag) (ps v w : List (ℕ × H)) (t : Tree) (s : Shape) → shape_is t s → is_leaf s ≡ false
    → pair_trees name c v ≡ pair_trees name b ps ++ entries (kid t 0) → pair_trees name d w ≡ pair_trees name c v ++ entries (kid t 1) → pair_trees name d w ≡ pair_trees name b ps ++ entries t
walked_sides name b c d ps v w t s i e f g =
    g ∙ ap (λ y. y ++ entries (kid t 1)) f ∙ append_assoc (pair_trees name b ps) (entries (kid t 0)) (entries (kid t 1)) ∙ ap (λ y. pair_trees name b ps ++ y) (sym (entries_branch t s i e))

-- the same at an answer
pub side_ok : {H V E : Type 0} (r : Result V E) (items : V → List (ℕ × H)) (name : H → ℕ) (a b c d : Bag) (n : ℕ) (ps : List (ℕ × H)) (t u : Tree) → u ≡ t → Trades a b none (one n) → ((x : ℕ) → pair_holds name ps x ≤ a.count x)
    → IfOk r (λ v. Trades b c (pair_holds name ps) (pair_holds name (items v))) → IfOk r (λ v. pair_trees name c (items v) ≡ pair_trees name b ps ++ entries u) → Trades c d (one n) none
    → IfOk r (λ v. pair_trees name d (items v) ≡ pair_trees name a ps ++ entries t)
side_ok (Ok v) items name a b c d n ps t u e w l g h k =
    trees_kept name c d (one n) none (items v) k (λ x. omega (arith, g.counts x, w.counts x, l x)) ∙ h
    ∙ ap (λ y. y ++ entries u) (trees_kept name a b none (one n) ps w (λ x. omega (arith, l x))) ∙ ap (λ y. pair_trees name a ps ++ entries y) e
side_ok (Err x) items name a b c d n ps t u e w l g h k = tt

pub leaf_ok : {H V E : Type 0} (r : Result V E) (items : V → List (ℕ × H)) (name : H → ℕ) (a b c : Bag) (ps : List (ℕ × H)) (h : H) (k : ℕ) (t : Tree) (s : Shape) → k ≡ key_of s → shape_is t s → is_leaf s ≡ true
    → b.tree (name h) ≡ kid t 0 → pair_trees name b ps ≡ pair_trees name a ps → IfOk r (λ v. items v ≡ ps ++ (k, h) ∷ []) → IfOk r (λ v. c ≡ b) → IfOk r (λ v. pair_trees name c (items v) ≡ pair_trees name a ps ++ entries t)
leaf_ok (Ok v) items name a b c ps h k t s e i l d f g q =
    ap (λ y. pair_trees name y (items v)) q ∙ walked_leaf name a b ps (items v) h t s i l d f (g ∙ ap (λ (y : ℕ). ps ++ (y, h) ∷ []) e)
leaf_ok (Err x) items name a b c ps h k t s e i l d f g q = tt

pub sides_ok : {H V E : Type 0} (r : Result V E) (items : V → List (ℕ × H)) (name : H → ℕ) (a c d : Bag) (ps v : List (ℕ × H)) (t x : Tree) (s : Shape) → shape_is t s → is_leaf s ≡ false → x ≡ t
    → pair_trees name c v ≡ pair_trees name a ps ++ entries (kid t 0) → IfOk r (λ w. pair_trees name d (items w) ≡ pair_trees name c v ++ entries (kid x 1)) → IfOk r (λ w. pair_trees name d (items w) ≡ pair_trees name a ps ++ entries t)
sides_ok (Ok w) items name a c d ps v t x s i e q f g = walked_sides name a c d ps v (items w) t s i e f (g ∙ ap (λ y. pair_trees name c v ++ entries (kid y 1)) q)
sides_ok (Err y) items name a c d ps v t x s i e q f g = tt

pub ruleset side_facts = (holds_none, holds_more)

pub ruleset walk_facts = (kids_of_trie, below_trie, kid_falls, key_small, holds_none, holds_more)

pub ruleset top_facts = (holds_none, no_pairs)

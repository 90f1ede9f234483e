use Rattle.std.proofs.Common.{ℕ, zero, suc, ◌+◌, ◌<◌, ◌≤◌, ◌≡◌, cond, ltb, List, length, max, refl, get_or, arith, ap, sym, ◌∙◌, inl, inr}
use Rattle.std.proofs.lemmas.Bool.{lt-ltb, cases_lt}
use Rattle.std.proofs.lemmas.List.{get_or_default, get_or_past}
use Rattle.store_api.specs.Tree.{Tree, Nil, depth, kid, shape_is}
use Rattle.plain_store.specs.declared.slot.Slot.{Slot}
use Rattle.plain_store.specs.Slots.{at, node_tree, tree_at, deepest, Ordered, no_slot}

-- a node's tree depends on its shape and its subtrees alone
node_same : (n m : Slot) (g h : ℕ → Tree) → m.shape ≡ n.shape → m.first ≡ n.first → m.second ≡ n.second →
    (0 < n.shape.kids → g n.first ≡ h n.first) → (1 < n.shape.kids → g n.second ≡ h n.second) → node_tree m g ≡ node_tree n h
node_same n m g h a b c d e = grind arith

node_alike : (n m : Slot) (g : ℕ → Tree) → n.shape ≡ m.shape → (0 < n.shape.kids → g n.first ≡ g m.first) → (1 < n.shape.kids → g n.second ≡ g m.second) → node_tree n g ≡ node_tree m g
node_alike n m g a b c = grind arith

-- lists that agree on the indexes of K, which leads to no others, have the same trees there
pub tree_frame : (K : ℕ → Type 0) (ns ms : List Slot) → ((i : ℕ) → K i → (at ms i).shape ≡ (at ns i).shape) → ((i : ℕ) → K i → (at ms i).first ≡ (at ns i).first)
    → ((i : ℕ) → K i → (at ms i).second ≡ (at ns i).second) → ((i : ℕ) → K i → 0 < (at ns i).shape.kids → K (at ns i).first) → ((i : ℕ) → K i → 1 < (at ns i).shape.kids → K (at ns i).second)
    → (f i : ℕ) → K i → tree_at ms f i ≡ tree_at ns f i
unfolding tree_at
tree_frame K ns ms a b c d e zero i k = refl
tree_frame K ns ms a b c d e (suc f) i k =
    node_same (at ns i) (at ms i) (tree_at ms f) (tree_at ns f) (a i k) (b i k) (c i k)
    (λ h. tree_frame K ns ms a b c d e f (at ns i).first (d i k h))
    (λ h. tree_frame K ns ms a b c d e f (at ns i).second (e i k h))

deepest_same : (k d1 d2 e1 e2 : ℕ) → (0 < k → d1 ≡ d2) → (1 < k → e1 ≡ e2) → max (cond (ltb 0 k) d1 0) (cond (ltb 1 k) e1 0) ≡ max (cond (ltb 0 k) d2 0) (cond (ltb 1 k) e2 0)
deepest_same k d1 d2 e1 e2 a b = grind arith

less_first : (k d e n : ℕ) → n ≡ max (cond (ltb 0 k) d 0) (cond (ltb 1 k) e 0) + 1 → 0 < k → d + 1 ≤ n
less_first k d e n h l = grind arith

less_second : (k d e n : ℕ) → n ≡ max (cond (ltb 0 k) d 0) (cond (ltb 1 k) e 0) + 1 → 1 < k → e + 1 ≤ n
less_second k d e n h l = grind arith

-- a subtree is less deep
pub first_less : (ns : List Slot) (i : ℕ) → Ordered ns → i < length ns → 0 < (at ns i).shape.kids → (at ns (at ns i).first).depth + 1 ≤ (at ns i).depth
first_less ns i o l h = less_first (at ns i).shape.kids (at ns (at ns i).first).depth (at ns (at ns i).second).depth (at ns i).depth (o.exact i l) h

pub second_less : (ns : List Slot) (i : ℕ) → Ordered ns → i < length ns → 1 < (at ns i).shape.kids → (at ns (at ns i).second).depth + 1 ≤ (at ns i).depth
second_less ns i o l h = less_second (at ns i).shape.kids (at ns (at ns i).first).depth (at ns (at ns i).second).depth (at ns i).depth (o.exact i l) h

-- levels past the depth don't count
pub tree_fuel : (ns : List Slot) → Ordered ns → (f g i : ℕ) → i < length ns → (at ns i).depth ≤ f → (at ns i).depth ≤ g → tree_at ns f i ≡ tree_at ns g i
unfolding tree_at
tree_fuel ns o zero g i l a b = absurd (let e = o.exact i l in omega arith)
tree_fuel ns o (suc f) zero i l a b = absurd (let e = o.exact i l in omega arith)
tree_fuel ns o (suc f) (suc g) i l a b =
    node_same (at ns i) (at ns i) (tree_at ns f) (tree_at ns g) refl refl refl
    (λ h. tree_fuel ns o f g (at ns i).first (o.first i l h) (omega (arith, first_less ns i o l h)) (omega (arith, first_less ns i o l h)))
    (λ h. tree_fuel ns o f g (at ns i).second (o.second i l h) (omega (arith, second_less ns i o l h)) (omega (arith, second_less ns i o l h)))

-- the depth of a node's tree, where its subtrees have the depths that their nodes say
node_depth : (ns : List Slot) (n : Slot) (g : ℕ → Tree) → (0 < n.shape.kids → depth (g n.first) ≡ (at ns n.first).depth) → (1 < n.shape.kids → depth (g n.second) ≡ (at ns n.second).depth)
    → depth (node_tree n g) ≡ deepest ns n + 1
node_depth ns n g a b = grind arith

pub depth_tree : (ns : List Slot) → Ordered ns → (f i : ℕ) → i < length ns → (at ns i).depth ≤ f → depth (tree_at ns f i) ≡ (at ns i).depth
unfolding tree_at
depth_tree ns o zero i l a = absurd (let e = o.exact i l in omega arith)
depth_tree ns o (suc f) i l a =
    node_depth ns (at ns i) (tree_at ns f)
    (λ h. depth_tree ns o f (at ns i).first (o.first i l h) (omega (arith, first_less ns i o l h)))
    (λ h. depth_tree ns o f (at ns i).second (o.second i l h) (omega (arith, second_less ns i o l h)))
    ∙ sym (o.exact i l)

-- a node that is held is there
pub held_within : (ns : List Slot) (i : ℕ) → 0 < (at ns i).holds → i < length ns
held_within ns i h = elim (cases_lt i (length ns)) [ inl l ↦ l | inr g ↦ absurd (let e = ap (λ (n : Slot). n.holds) (get_or_past ns i no_slot g) in omega arith) ]

-- the subtrees
pub kid_first : (ns : List Slot) (i : ℕ) → Ordered ns → i < length ns → 0 < (at ns i).shape.kids → tree_at ns 128 (at ns i).first ≡ kid (tree_at ns 128 i) 0
unfolding tree_at
kid_first ns i o l h =
    tree_fuel ns o 128 127 (at ns i).first (o.first i l h) (omega (arith, o.deep i l, first_less ns i o l h)) (omega (arith, o.deep i l, first_less ns i o l h))
    ∙ sym (ap (λ b. cond b (tree_at ns 127 (at ns i).first) Nil) (lt-ltb 0 (at ns i).shape.kids h))

pub kid_second : (ns : List Slot) (i k : ℕ) → Ordered ns → i < length ns → 1 < (at ns i).shape.kids → tree_at ns 128 (at ns i).second ≡ kid (tree_at ns 128 i) (suc k)
unfolding tree_at
kid_second ns i k o l h =
    tree_fuel ns o 128 127 (at ns i).second (o.second i l h) (omega (arith, o.deep i l, second_less ns i o l h)) (omega (arith, o.deep i l, second_less ns i o l h))
    ∙ sym (ap (λ b. cond b (tree_at ns 127 (at ns i).second) Nil) (lt-ltb 1 (at ns i).shape.kids h))

pub shape_at : (ns : List Slot) (i : ℕ) → shape_is (tree_at ns 128 i) (at ns i).shape
unfolding tree_at
shape_at ns i = refl

pub shape_read : (ns : List Slot) (i : ℕ) (x : Slot) → 0 < (at ns i).holds → x ≡ get_or ns i x → shape_is (tree_at ns 128 i) x.shape
unfolding tree_at
shape_read ns i x h e = ap (λ (n : Slot). n.shape) (e ∙ get_or_default ns i x no_slot (held_within ns i h))

pub same_shape : (ns : List Slot) (i j : ℕ) → tree_at ns 128 i ≡ tree_at ns 128 j → (at ns i).shape ≡ (at ns j).shape
unfolding tree_at
same_shape ns i j e = cc

-- equal trees have equal parts
pub same_parts : (ns : List Slot) (i j : ℕ) → Ordered ns → i < length ns → j < length ns → tree_at ns 128 i ≡ tree_at ns 128 j
    → ((at ns i).shape ≡ (at ns j).shape) × (0 < (at ns i).shape.kids → tree_at ns 128 (at ns i).first ≡ tree_at ns 128 (at ns j).first) × (1 < (at ns i).shape.kids → tree_at ns 128 (at ns i).second ≡ tree_at ns 128 (at ns j).second)
same_parts ns i j o k l e =
    let s : (at ns i).shape ≡ (at ns j).shape = same_shape ns i j e in
    (s, λ h. kid_first ns i o k h ∙ ap (λ t. kid t 0) e ∙ sym (kid_first ns j o l (rw s at h)), λ h. kid_second ns i 0 o k h ∙ ap (λ t. kid t 1) e ∙ sym (kid_second ns j 0 o l (rw s at h)))

pub same_whole : (ns : List Slot) (i j : ℕ) → Ordered ns → i < length ns → j < length ns → (at ns i).shape ≡ (at ns j).shape
    → (0 < (at ns i).shape.kids → tree_at ns 128 (at ns i).first ≡ tree_at ns 128 (at ns j).first) → (1 < (at ns i).shape.kids → tree_at ns 128 (at ns i).second ≡ tree_at ns 128 (at ns j).second)
    → tree_at ns 128 i ≡ tree_at ns 128 j
unfolding tree_at
same_whole ns i j o k l s f g =
    node_alike (at ns i) (at ns j) (tree_at ns 127) s
    (λ h. let h2 : 0 < (at ns j).shape.kids = rw s at h in tree_fuel ns o 127 128 (at ns i).first (o.first i k h) (omega (arith, o.deep i k, first_less ns i o k h)) (omega (arith, o.deep i k, first_less ns i o k h)) ∙ f h
    ∙ tree_fuel ns o 128 127 (at ns j).first (o.first j l h2) (omega (arith, o.deep j l, first_less ns j o l h2)) (omega (arith, o.deep j l, first_less ns j o l h2)))
    (λ h. let h2 : 1 < (at ns j).shape.kids = rw s at h in tree_fuel ns o 127 128 (at ns i).second (o.second i k h) (omega (arith, o.deep i k, second_less ns i o k h)) (omega (arith, o.deep i k, second_less ns i o k h)) ∙ g h
    ∙ tree_fuel ns o 128 127 (at ns j).second (o.second j l h2) (omega (arith, o.deep j l, second_less ns j o l h2)) (omega (arith, o.deep j l, second_less ns j o l h2)))

pub ruleset subtree_facts = (kid_first, kid_second, get_or_default)

pub ruleset same_facts = (first_less, second_less, get_or_default)

-- the depth of a node that is held is that of its tree
pub depth_held : (ns : List Slot) (i : ℕ) → Ordered ns → 0 < (at ns i).holds → (at ns i).depth ≡ depth (tree_at ns 128 i)
depth_held ns i o h = sym (depth_tree ns o 128 i (held_within ns i h) (o.deep i (held_within ns i h)))

pub ruleset node_facts = (depth_held, held_within)

pub second_read : (ns : List Slot) (i w : ℕ) (x : Slot) → Ordered ns → i < length ns → x ≡ get_or ns i x → w < (at ns i).shape.kids → (w ≡ 0 → ⊥) → tree_at ns 128 x.second ≡ kid (tree_at ns 128 i) w
second_read ns i zero x o l e h n = absurd (n refl)
second_read ns i (suc k) x o l e h n = ap (λ (n : Slot). tree_at ns 128 n.second) (e ∙ get_or_default ns i x no_slot l) ∙ kid_second ns i k o l (omega arith)

pub not_shape : (ns : List Slot) (i j : ℕ) → ((at ns i).shape ≡ (at ns j).shape → ⊥) → tree_at ns 128 i ≡ tree_at ns 128 j → ⊥
not_shape ns i j n e = n (same_shape ns i j e)

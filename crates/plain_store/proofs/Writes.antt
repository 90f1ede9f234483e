use Rattle.std.proofs.Common.{ℕ, ◌+◌, ◌*◌, ◌<◌, ◌≤◌, ◌≡◌, ◌≢◌, ◌^◌, ◌++◌, cond, ltb, true, false, List, [], ◌∷◌, length, max, refl, arith, set, ap, sym, subst, ◌∙◌, ◌⊎◌, inl, inr, length-append, eqb}
use Rattle.std.specs.List.{sum_by}
use Rattle.std.proofs.lemmas.Bool.{lt-ltb, cases_lt}
use Rattle.std.proofs.lemmas.Bool.Decides.{eqb_tells}
use Rattle.std.proofs.lemmas.List.{get_or_append_left, get_or-set_other, get_or-set_same, get_or_past, length-set}
use Rattle.std.proofs.lemmas.List.Sums.{get_or-le-sum_by, sum_by-set, sum_by-append}
use Rattle.std.proofs.Math.Seq.{get_or-append_seam}
use Rattle.store_api.specs.Tree.{Tree}
use Rattle.store_api.specs.Bag.{one, one_self, none}
use Rattle.plain_store.specs.declared.slot.Slot.{Slot}
use Rattle.plain_store.specs.Slots.{at, node_tree, tree_at, deepest, Ordered, Sound, Stands, Changes, Recounts, no_slot, names, named, held}
use Rattle.plain_store.proofs.Trees.{tree_frame, tree_fuel, held_within}

-- what stands at each index after a write
pub at_set : (ns : List Slot) (i : ℕ) (v : Slot) → i < length ns → (x : ℕ) → ((x ≡ i) × (at (set ns i v) x ≡ v) × (one i x ≡ 1)) ⊎ ((x ≢ i) × (at (set ns i v) x ≡ at ns x) × (one i x ≡ 0))
unfolding one
at_set ns i v l x =
    elim (eqb_tells i x) [
      | inl h ↦ inl (sym h.1, subst (λ k. at (set ns i v) k ≡ v) h.1 (get_or-set_same ns i v no_slot l), ap (λ b. cond b 1 0) h.0)
      | inr h ↦ inr (λ e. h.1 (sym e), get_or-set_other ns i x v no_slot (λ e. h.1 (sym e)), ap (λ b. cond b 1 0) h.0)
    ]

-- a field that the write leaves
pub field_set : {X : Type 0} (F : Slot → X) (ns : List Slot) (i : ℕ) (v : Slot) → i < length ns → F v ≡ F (at ns i) → (x : ℕ) → F (at (set ns i v) x) ≡ F (at ns x)
field_set F ns i v l e x =
    elim (at_set ns i v l x) [
      | inl h ↦ ap F h.1 ∙ e ∙ sym (ap (λ k. F (at ns k)) h.0)
      | inr h ↦ ap F h.1
    ]

-- a number of a slot that the write changes
pub count_set : (F : Slot → ℕ) (ns : List Slot) (i a b : ℕ) (v : Slot) → i < length ns → F v + a ≡ F (at ns i) + b → (x : ℕ) → F (at (set ns i v) x) + a * one i x ≡ F (at ns x) + b * one i x
count_set F ns i a b v l e x =
    elim (at_set ns i v l x) [
      | inl h ↦ let p : F (at (set ns i v) x) ≡ F v = ap F h.1 in let q : F (at ns x) ≡ F (at ns i) = ap (λ k. F (at ns k)) h.0 in rw h.2 (omega arith)
      | inr h ↦ let p : F (at (set ns i v) x) ≡ F (at ns x) = ap F h.1 in rw h.2 (omega arith)
    ]

pub held_set : (ns : List Slot) (i : ℕ) (v : Slot) → i < length ns → held (set ns i v) + (at ns i).holds ≡ held ns + v.holds
unfolding held
held_set ns i v l = sum_by-set (λ n. n.holds) ns i v no_slot l

pub named_set : (ns : List Slot) (i x : ℕ) (v : Slot) → i < length ns → named (set ns i v) x + names (at ns i) x ≡ named ns x + names v x
unfolding named
named_set ns i x v l = sum_by-set (λ n. names n x) ns i v no_slot l

same_names : (n m : Slot) (x : ℕ) → n.shape ≡ m.shape → n.first ≡ m.first → n.second ≡ m.second → names n x ≡ names m x
unfolding names
same_names n m x a b c = cc

-- a write that leaves a node's shape, subtrees and depth
pub record Leaves (n v : Slot) : Type 0 where
  pub shape : v.shape ≡ n.shape
  pub first : v.first ≡ n.first
  pub second : v.second ≡ n.second
  pub depth : v.depth ≡ n.depth

-- such a write changes no name
pub named_left : (ns : List Slot) (i x : ℕ) (v : Slot) → i < length ns → Leaves (at ns i) v → named (set ns i v) x ≡ named ns x
named_left ns i x v l e = omega (arith, named_set ns i x v l, same_names v (at ns i) x e.shape e.first e.second)

pub ordered_left : (ns : List Slot) (i : ℕ) (v : Slot) → i < length ns → Leaves (at ns i) v → Ordered ns → Ordered (set ns i v)
ordered_left ns i v l e o =
    let n : length (set ns i v) ≡ length ns = length-set ns i v in
    let s = field_set (λ n. n.shape) ns i v l e.shape in let f = field_set (λ n. n.first) ns i v l e.first in
    let g = field_set (λ n. n.second) ns i v l e.second in let d = field_set (λ n. n.depth) ns i v l e.depth in
    record {
      deep = λ j k. omega (arith, d j, o.deep j (omega arith));
      exact = λ j k. cc (s j, f j, g j, d j, d (at ns j).first, d (at ns j).second, o.exact j (omega arith));
      first = λ j k h. let q : 0 < (at ns j).shape.kids = rw (s j) at h in omega (arith, o.first j (omega arith) q, f j);
      second = λ j k h. let q : 1 < (at ns j).shape.kids = rw (s j) at h in omega (arith, o.second j (omega arith) q, g j);
    }

pub trees_left : (ns : List Slot) (i : ℕ) (v : Slot) → i < length ns → Leaves (at ns i) v → (f x : ℕ) → tree_at (set ns i v) f x ≡ tree_at ns f x
trees_left ns i v l e f x =
    tree_frame (λ _. Unit {0}) ns (set ns i v) (λ j _. field_set (λ n. n.shape) ns i v l e.shape j) (λ j _. field_set (λ n. n.first) ns i v l e.first j)
    (λ j _. field_set (λ n. n.second) ns i v l e.second j) (λ _ _ _. tt) (λ _ _ _. tt) f x tt

pub times_one : (i x : ℕ) → 1 * one i x ≡ one i x
times_one i x = omega arith

-- a write that changes the number of holds by one
pub rehold : (ns : List Slot) (i a b : ℕ) (v : Slot) → i < length ns → Leaves (at ns i) v → v.parents ≡ (at ns i).parents → v.holds + a ≡ (at ns i).holds + b → Sound ns
    → Sound (set ns i v) × Changes ns (set ns i v) (λ x. a * one i x) (λ x. b * one i x) × (held (set ns i v) + a ≡ held ns + b)
rehold ns i a b v l e p h o = (
  record { ordered = ordered_left ns i v l e o.ordered; parents = λ x. field_set (λ n. n.parents) ns i v l p x ∙ o.parents x ∙ sym (named_left ns i x v l e) },
  record { counts = count_set (λ n. n.holds) ns i a b v l h; trees = λ x _. trees_left ns i v l e 128 x },
  omega (arith, held_set ns i v l),
)

pub add_hold : (ns : List Slot) (i : ℕ) (v : Slot) → i < length ns → Leaves (at ns i) v → v.parents ≡ (at ns i).parents → v.holds ≡ (at ns i).holds + 1 → Sound ns
    → Sound (set ns i v) × Changes ns (set ns i v) none (one i) × (held (set ns i v) ≡ held ns + 1) × (tree_at (set ns i v) 128 i ≡ tree_at ns 128 i)
add_hold ns i v l e p h o =
    let r = rehold ns i 0 1 v l e p (omega arith) o in
    (r.0, record { counts = λ x. omega (arith, r.1.counts x); trees = λ x _. trees_left ns i v l e 128 x }, omega (arith, r.2), trees_left ns i v l e 128 i)

pub drop_hold : (ns : List Slot) (i : ℕ) (v : Slot) → i < length ns → Leaves (at ns i) v → v.parents ≡ (at ns i).parents → v.holds + 1 ≡ (at ns i).holds → Sound ns
    → Sound (set ns i v) × Changes ns (set ns i v) (one i) none × (held (set ns i v) + 1 ≡ held ns)
drop_hold ns i v l e p h o =
    let r = rehold ns i 1 0 v l e p (omega arith) o in
    (r.0, record { counts = λ x. omega (arith, r.1.counts x); trees = λ x _. trees_left ns i v l e 128 x }, omega (arith, r.2))

-- a write that changes the number of parents by one
pub recount : (ns : List Slot) (i a b : ℕ) (v : Slot) → i < length ns → Leaves (at ns i) v → v.holds ≡ (at ns i).holds → v.parents + a ≡ (at ns i).parents + b
    → Recounts ns (set ns i v) (λ x. a * one i x) (λ x. b * one i x)
recount ns i a b v l e h p = record {
  length = length-set ns i v;
  shape = field_set (λ n. n.shape) ns i v l e.shape;
  first = field_set (λ n. n.first) ns i v l e.first;
  second = field_set (λ n. n.second) ns i v l e.second;
  depth = field_set (λ n. n.depth) ns i v l e.depth;
  holds = field_set (λ n. n.holds) ns i v l h;
  held = omega (arith, held_set ns i v l);
  named = λ x. named_left ns i x v l e;
  parents = count_set (λ n. n.parents) ns i a b v l p;
}

-- two such writes after each other
pub recounts : (ns ms ks : List Slot) (a b c d f g : ℕ → ℕ) → Recounts ns ms a b → Recounts ms ks c d → ((x : ℕ) → f x ≡ a x + c x) → ((x : ℕ) → g x ≡ b x + d x) → Recounts ns ks f g
recounts ns ms ks a b c d f g r s p q = record {
  length = s.length ∙ r.length;
  shape = λ i. s.shape i ∙ r.shape i;
  first = λ i. s.first i ∙ r.first i;
  second = λ i. s.second i ∙ r.second i;
  depth = λ i. s.depth i ∙ r.depth i;
  holds = λ i. s.holds i ∙ r.holds i;
  held = s.held ∙ r.held;
  named = λ x. s.named x ∙ r.named x;
  parents = λ x. omega (arith, r.parents x, s.parents x, p x, q x);
}

pub recounts_none : (ns : List Slot) (f g : ℕ → ℕ) → ((x : ℕ) → f x ≡ 0) → ((x : ℕ) → g x ≡ 0) → Recounts ns ns f g
recounts_none ns f g p q = record {
  length = refl;
  shape = λ i. refl;
  first = λ i. refl;
  second = λ i. refl;
  depth = λ i. refl;
  holds = λ i. refl;
  held = refl;
  named = λ x. refl;
  parents = λ x. omega (arith, p x, q x);
}

pub recount_more : (ns : List Slot) (i : ℕ) (v : Slot) → i < length ns → Leaves (at ns i) v → v.holds ≡ (at ns i).holds → v.parents ≡ (at ns i).parents + 1 → Recounts ns (set ns i v) none (one i)
recount_more ns i v l e h p = recounts ns (set ns i v) (set ns i v) _ _ none none none (one i) (recount ns i 0 1 v l e h (omega arith)) (recounts_none (set ns i v) none none (λ x. refl) (λ x. refl)) (λ x. omega arith) (λ x. omega arith)

pub recount_less : (ns : List Slot) (i : ℕ) (v : Slot) → i < length ns → Leaves (at ns i) v → v.holds ≡ (at ns i).holds → v.parents + 1 ≡ (at ns i).parents → Recounts ns (set ns i v) (one i) none
recount_less ns i v l e h p = recounts ns (set ns i v) (set ns i v) _ _ none none (one i) none (recount ns i 1 0 v l e h (omega arith)) (recounts_none (set ns i v) none none (λ x. refl) (λ x. refl)) (λ x. omega arith) (λ x. omega arith)

-- how often a node names x, by its number of subtrees
pub names_zero : (n : Slot) (x : ℕ) → n.shape.kids ≡ 0 → names n x ≡ 0
unfolding names
names_zero n x e = grind arith

pub names_one : (n : Slot) (x : ℕ) → n.shape.kids ≡ 1 → names n x ≡ one n.first x
unfolding names
names_one n x e = grind arith

pub names_two : (n : Slot) (x : ℕ) → 1 < n.shape.kids → names n x ≡ one n.first x + one n.second x
unfolding names
names_two n x e = grind arith

-- no node is named more often than there are subtrees
pub one_small : (i x : ℕ) → one i x ≤ 1
unfolding one
one_small i x = elim (eqb i x) as (λ b. cond b 1 0 ≤ 1) [ true ↦ omega arith | false ↦ omega arith ]

pub names_small : (n : Slot) (x : ℕ) → names n x ≤ 2
unfolding names
names_small n x =
    elim (ltb 0 n.shape.kids) as (λ b. cond b (one n.first x) 0 + cond (ltb 1 n.shape.kids) (one n.second x) 0 ≤ 2) [
      | true ↦ elim (ltb 1 n.shape.kids) as (λ c. one n.first x + cond c (one n.second x) 0 ≤ 2) [ true ↦ omega (arith, one_small n.first x, one_small n.second x) | false ↦ omega (arith, one_small n.first x) ]
      | false ↦ elim (ltb 1 n.shape.kids) as (λ c. 0 + cond c (one n.second x) 0 ≤ 2) [ true ↦ omega (arith, one_small n.second x) | false ↦ omega arith ]
    ]

-- which leaves room for one count more
sum_small : (ns : List Slot) (x : ℕ) → sum_by (λ n. names n x) ns ≤ 2 * length ns
sum_small [] x = omega arith
sum_small (n ∷ ns) x = omega (arith, sum_by-append (λ n. names n x) (n ∷ []) ns, names_small n x, sum_small ns x)

pub named_small : (ns : List Slot) (x : ℕ) → named ns x ≤ 2 * length ns
unfolding named
named_small ns x = sum_small ns x

-- where nothing names d, no node has it as a subtree
names_first : (n : Slot) → 0 < n.shape.kids → 1 ≤ names n n.first
unfolding names
names_first n h = rw (lt-ltb 0 n.shape.kids h) (omega (arith, one_self n.first))

names_second : (n : Slot) → 1 < n.shape.kids → 1 ≤ names n n.second
unfolding names
names_second n h = rw (lt-ltb 1 n.shape.kids h) (omega (arith, one_self n.second))

names_within : (ns : List Slot) (i x : ℕ) → i < length ns → names (at ns i) x ≤ named ns x
unfolding named
names_within ns i x l = get_or-le-sum_by (λ n. names n x) ns i no_slot l

pub not_first : (ns : List Slot) (i d : ℕ) → i < length ns → named ns d ≡ 0 → 0 < (at ns i).shape.kids → (at ns i).first ≢ d
not_first ns i d l z h e = absurd (let q : 1 ≤ names (at ns i) d = subst (λ k. 1 ≤ names (at ns i) k) e (names_first (at ns i) h) in omega (arith, names_within ns i d l))

pub not_second : (ns : List Slot) (i d : ℕ) → i < length ns → named ns d ≡ 0 → 1 < (at ns i).shape.kids → (at ns i).second ≢ d
not_second ns i d l z h e = absurd (let q : 1 ≤ names (at ns i) d = subst (λ k. 1 ≤ names (at ns i) k) e (names_second (at ns i) h) in omega (arith, names_within ns i d l))

-- a node put where none was named, in the place of the node old
pub record Filled (ns ms : List Slot) (d : ℕ) (v old : Slot) : Type 0 where
  pub longer : length ns ≤ length ms
  pub within : d < length ms
  pub new : at ms d ≡ v
  pub other : (i : ℕ) → i ≢ d → at ms i ≡ at ns i
  pub rest : (i : ℕ) → i ≢ d → i < length ms → i < length ns
  pub unnamed : named ns d ≡ 0
  pub unheld : (at ns d).holds ≡ 0
  pub holds : (x : ℕ) → (at ms x).holds ≡ (at ns x).holds + one d x
  pub parents : (x : ℕ) → (at ms x).parents ≡ (at ns x).parents
  pub named : (x : ℕ) → named ms x + names old x ≡ named ns x + names v x
  pub held : held ms ≡ held ns + 1

tree_other : (ns ms : List Slot) (d : ℕ) (v old : Slot) → Ordered ns → Filled ns ms d v old → (f i : ℕ) → i < length ns → i ≢ d → tree_at ms f i ≡ tree_at ns f i
tree_other ns ms d v old o w f i l n =
    tree_frame (λ j. (j < length ns) × (j ≢ d)) ns ms (λ j k. ap (λ (m : Slot). m.shape) (w.other j k.1)) (λ j k. ap (λ (m : Slot). m.first) (w.other j k.1)) (λ j k. ap (λ (m : Slot). m.second) (w.other j k.1))
    (λ j k h. (o.first j k.0 h, not_first ns j d k.0 w.unnamed h)) (λ j k h. (o.second j k.0 h, not_second ns j d k.0 w.unnamed h)) f i (l, n)

held_not : (ns : List Slot) (i d : ℕ) → (at ns d).holds ≡ 0 → 0 < (at ns i).holds → i ≢ d
held_not ns i d z h e = absurd (let q : (at ns i).holds ≡ (at ns d).holds = ap (λ k. (at ns k).holds) e in omega arith)

depth_other : (ns ms : List Slot) (d : ℕ) (v old : Slot) → Filled ns ms d v old → (i : ℕ) → i ≢ d → (at ms i).depth ≡ (at ns i).depth
depth_other ns ms d v old w i n = ap (λ (m : Slot). m.depth) (w.other i n)

deepest_same : (k d1 d2 e1 e2 : ℕ) → (0 < k → d1 ≡ d2) → (1 < k → e1 ≡ e2) → max (cond (ltb 0 k) d1 0) (cond (ltb 1 k) e1 0) ≡ max (cond (ltb 0 k) d2 0) (cond (ltb 1 k) e2 0)
deepest_same k d1 d2 e1 e2 a b = grind arith

-- what holds of the new node and of each other holds of each
each : (P : ℕ → Slot → Type 0) (ns ms : List Slot) (d : ℕ) (v old : Slot) → Filled ns ms d v old → P d v → ((i : ℕ) → i < length ns → i ≢ d → P i (at ns i)) → (i : ℕ) → i < length ms → P i (at ms i)
each P ns ms d v old w p f i l =
    elim (eqb_tells i d) [
      | inl h ↦ subst (λ k. P k (at ms k)) (sym h.1) (subst (P d) (sym w.new) p)
      | inr h ↦ subst (P i) (sym (w.other i h.1)) (f i (w.rest i h.1 l) h.1)
    ]

pub filled_ordered : (ns ms : List Slot) (d : ℕ) (v old : Slot) → Ordered ns → Stands ns v → Filled ns ms d v old → Ordered ms
filled_ordered ns ms d v old o s w = record {
  deep = each (λ i n. n.depth ≤ 128) ns ms d v old w s.deep (λ i l _. o.deep i l);
  exact = each (λ i n. n.depth ≡ deepest ms n + 1) ns ms d v old w
      (s.exact ∙ ap (λ m. m + 1) (deepest_same v.shape.kids (at ns v.first).depth (at ms v.first).depth (at ns v.second).depth (at ms v.second).depth
      (λ h. sym (depth_other ns ms d v old w v.first (held_not ns v.first d w.unheld (s.first h)))) (λ h. sym (depth_other ns ms d v old w v.second (held_not ns v.second d w.unheld (s.second h))))))
      (λ i l n. o.exact i l ∙ ap (λ m. m + 1) (deepest_same (at ns i).shape.kids (at ns (at ns i).first).depth (at ms (at ns i).first).depth (at ns (at ns i).second).depth (at ms (at ns i).second).depth
      (λ h. sym (depth_other ns ms d v old w (at ns i).first (not_first ns i d l w.unnamed h))) (λ h. sym (depth_other ns ms d v old w (at ns i).second (not_second ns i d l w.unnamed h)))));
  first = each (λ i n. 0 < n.shape.kids → n.first < length ms) ns ms d v old w
      (λ h. omega (arith, held_within ns v.first (s.first h), w.longer)) (λ i l _ h. omega (arith, o.first i l h, w.longer));
  second = each (λ i n. 1 < n.shape.kids → n.second < length ms) ns ms d v old w
      (λ h. omega (arith, held_within ns v.second (s.second h), w.longer)) (λ i l _ h. omega (arith, o.second i l h, w.longer));
}

node_same : (n : Slot) (g h : ℕ → Tree) → (0 < n.shape.kids → g n.first ≡ h n.first) → (1 < n.shape.kids → g n.second ≡ h n.second) → node_tree n g ≡ node_tree n h
node_same n g h a b = grind arith

less_first : (k d e n : ℕ) → n ≡ max (cond (ltb 0 k) d 0) (cond (ltb 1 k) e 0) + 1 → 0 < k → d + 1 ≤ n
less_first k d e n h l = grind arith

less_second : (k d e n : ℕ) → n ≡ max (cond (ltb 0 k) d 0) (cond (ltb 1 k) e 0) + 1 → 1 < k → e + 1 ≤ n
less_second k d e n h l = grind arith

-- the tree of the new node
pub filled_tree : (ns ms : List Slot) (d : ℕ) (v old : Slot) → Ordered ns → Stands ns v → Filled ns ms d v old → tree_at ms 128 d ≡ node_tree v (tree_at ns 128)
unfolding tree_at
filled_tree ns ms d v old o s w =
    ap (λ n. node_tree n (tree_at ms 127)) w.new
    ∙ node_same v (tree_at ms 127) (tree_at ns 128)
    (λ h. let l : v.first < length ns = held_within ns v.first (s.first h) in let q = less_first v.shape.kids (at ns v.first).depth (at ns v.second).depth v.depth s.exact h in
    tree_other ns ms d v old o w 127 v.first l (held_not ns v.first d w.unheld (s.first h)) ∙ tree_fuel ns o 127 128 v.first l (omega (arith, s.deep)) (omega (arith, s.deep)))
    (λ h. let l : v.second < length ns = held_within ns v.second (s.second h) in let q = less_second v.shape.kids (at ns v.first).depth (at ns v.second).depth v.depth s.exact h in
    tree_other ns ms d v old o w 127 v.second l (held_not ns v.second d w.unheld (s.second h)) ∙ tree_fuel ns o 127 128 v.second l (omega (arith, s.deep)) (omega (arith, s.deep)))

pub recounts_ordered : (ns ms : List Slot) (f g : ℕ → ℕ) → Recounts ns ms f g → Ordered ns → Ordered ms
recounts_ordered ns ms f g s o = record {
  deep = λ i l. omega (arith, s.depth i, s.length, o.deep i (omega (arith, s.length)));
  exact = λ i l. cc (s.shape i, s.first i, s.second i, s.depth i, s.depth (at ms i).first, s.depth (at ms i).second, o.exact i (omega (arith, s.length)));
  first = λ i l h. let k : 0 < (at ns i).shape.kids = rw (s.shape i) at h in omega (arith, o.first i (omega (arith, s.length)) k, s.length, s.first i);
  second = λ i l h. let k : 1 < (at ns i).shape.kids = rw (s.shape i) at h in omega (arith, o.second i (omega (arith, s.length)) k, s.length, s.second i);
}

pub recounts_trees : (ns ms : List Slot) (f g : ℕ → ℕ) → Recounts ns ms f g → (levels i : ℕ) → tree_at ms levels i ≡ tree_at ns levels i
recounts_trees ns ms f g s levels i = tree_frame (λ _. Unit {0}) ns ms (λ i _. s.shape i) (λ i _. s.first i) (λ i _. s.second i) (λ _ _ _. tt) (λ _ _ _. tt) levels i tt

-- a node put in, and then the counts of parents brought up to date
pub record Inserted (ns ls : List Slot) (d : ℕ) (v : Slot) : Type 0 where
  pub sound : Sound ls
  pub changes : Changes ns ls none (one d)
  pub tree : tree_at ls 128 d ≡ node_tree v (tree_at ns 128)
  pub held : held ls ≡ held ns + 1

pub inserted : (ns ms ls : List Slot) (d : ℕ) (v old : Slot) → Sound ns → Stands ns v → Filled ns ms d v old → Recounts ms ls (names old) (names v) → Inserted ns ls d v
inserted ns ms ls d v old o s w r = record {
  sound = record { ordered = recounts_ordered ms ls _ _ r (filled_ordered ns ms d v old o.ordered s w); parents = λ x. omega (arith, r.parents x, w.parents x, o.parents x, w.named x, r.named x) };
  changes = record {
    counts = λ x. omega (arith, r.holds x, w.holds x);
    trees = λ x h. recounts_trees ms ls _ _ r 128 x ∙ tree_other ns ms d v old o.ordered w 128 x (held_within ns x h) (held_not ns x d w.unheld h);
  };
  tree = recounts_trees ms ls _ _ r 128 d ∙ filled_tree ns ms d v old o.ordered s w;
  held = omega (arith, r.held, w.held);
}

-- in the place of a free node
pub filled_set : (ns : List Slot) (d : ℕ) (v : Slot) → Sound ns → Stands ns v → d < length ns → (at ns d).holds ≡ 0 → (at ns d).parents ≡ 0 → Filled ns (set ns d v) d v (at ns d)
filled_set ns d v o s l h p = record {
  longer = omega (arith, length-set ns d v);
  within = omega (arith, length-set ns d v);
  new = get_or-set_same ns d v no_slot l;
  other = λ i n. get_or-set_other ns d i v no_slot n;
  rest = λ i n k. omega (arith, length-set ns d v);
  unnamed = omega (arith, o.parents d);
  unheld = h;
  holds = λ x. omega (arith, count_set (λ n. n.holds) ns d 0 1 v l (omega (arith, s.holds)) x);
  parents = λ x. field_set (λ n. n.parents) ns d v l (s.parents ∙ sym p) x;
  named = λ x. named_set ns d x v l;
  held = omega (arith, held_set ns d v l, s.holds);
}

length_push : (ns : List Slot) (v : Slot) → length (ns ++ v ∷ []) ≡ length ns + 1
length_push ns v = length-append ns (v ∷ [])

push_other : (ns : List Slot) (v : Slot) (i : ℕ) → i ≢ length ns → at (ns ++ v ∷ []) i ≡ at ns i
push_other ns v i n =
    elim (cases_lt i (length ns)) [
      | inl l ↦ get_or_append_left ns (v ∷ []) no_slot i l
      | inr g ↦ get_or_past (ns ++ v ∷ []) i no_slot (omega (arith, length_push ns v)) ∙ sym (get_or_past ns i no_slot g)
    ]

one_at : (d x : ℕ) → ((x ≡ d) × (one d x ≡ 1)) ⊎ ((x ≢ d) × (one d x ≡ 0))
unfolding one
one_at d x = elim (eqb_tells d x) [ inl h ↦ inl (sym h.1, ap (λ b. cond b 1 0) h.0) | inr h ↦ inr (λ e. h.1 (sym e), ap (λ b. cond b 1 0) h.0) ]

push_holds : (ns : List Slot) (v : Slot) → v.holds ≡ 1 → (x : ℕ) → (at (ns ++ v ∷ []) x).holds ≡ (at ns x).holds + one (length ns) x
push_holds ns v h x =
    elim (one_at (length ns) x) [
      | inl e ↦ let p : (at (ns ++ v ∷ []) x).holds ≡ v.holds = subst (λ k. (at (ns ++ v ∷ []) k).holds ≡ v.holds) (sym e.0) (ap (λ (n : Slot). n.holds) (get_or-append_seam ns v [] no_slot)) in
          let q : (at ns x).holds ≡ 0 = ap (λ (n : Slot). n.holds) (get_or_past ns x no_slot (omega (arith, e.0))) in omega (arith, e.1)
      | inr e ↦ let p : (at (ns ++ v ∷ []) x).holds ≡ (at ns x).holds = ap (λ (n : Slot). n.holds) (push_other ns v x e.0) in omega (arith, e.1)
    ]

push_parents : (ns : List Slot) (v : Slot) → v.parents ≡ 0 → (x : ℕ) → (at (ns ++ v ∷ []) x).parents ≡ (at ns x).parents
push_parents ns v h x =
    elim (one_at (length ns) x) [
      | inl e ↦ let p : (at (ns ++ v ∷ []) x).parents ≡ v.parents = subst (λ k. (at (ns ++ v ∷ []) k).parents ≡ v.parents) (sym e.0) (ap (λ (n : Slot). n.parents) (get_or-append_seam ns v [] no_slot)) in
          let q : (at ns x).parents ≡ 0 = ap (λ (n : Slot). n.parents) (get_or_past ns x no_slot (omega (arith, e.0))) in omega arith
      | inr e ↦ ap (λ (n : Slot). n.parents) (push_other ns v x e.0)
    ]

pub named_push : (ns : List Slot) (v : Slot) (x : ℕ) → named (ns ++ v ∷ []) x ≡ named ns x + names v x
unfolding named
named_push ns v x = omega (arith, sum_by-append (λ n. names n x) ns (v ∷ []))

held_push : (ns : List Slot) (v : Slot) → held (ns ++ v ∷ []) ≡ held ns + v.holds
unfolding held
held_push ns v = omega (arith, sum_by-append (λ n. n.holds) ns (v ∷ []))

-- behind all others
pub filled_push : (ns : List Slot) (v : Slot) → Sound ns → Stands ns v → Filled ns (ns ++ v ∷ []) (length ns) v no_slot
filled_push ns v o s = record {
  longer = omega (arith, length_push ns v);
  within = omega (arith, length_push ns v);
  new = get_or-append_seam ns v [] no_slot;
  other = push_other ns v;
  rest = λ i n k. let q : i ≢ length ns = n in omega (arith, length_push ns v);
  unnamed = sym (o.parents (length ns)) ∙ ap (λ (n : Slot). n.parents) (get_or_past ns (length ns) no_slot (omega arith));
  unheld = ap (λ (n : Slot). n.holds) (get_or_past ns (length ns) no_slot (omega arith));
  holds = push_holds ns v s.holds;
  parents = push_parents ns v s.parents;
  named = λ x. omega (arith, named_push ns v x, names_zero no_slot x refl);
  held = omega (arith, held_push ns v, s.holds);
}

pub appended : (ns ms ls : List Slot) (d : ℕ) (v : Slot) → Sound ns → Stands ns v → d ≡ length ns → ms ≡ ns ++ v ∷ [] → Recounts ms ls none (names v) → Inserted ns ls d v
appended ns ms ls d v o s e f r =
    rw e (inserted ns (ns ++ v ∷ []) ls (length ns) v no_slot o s (filled_push ns v o s)
    (recounts (ns ++ v ∷ []) ls ls none (names v) none none (names no_slot) (names v) (rw f at r) (recounts_none ls none none (λ x. refl) (λ x. refl)) (λ x. omega (arith, names_zero no_slot x refl)) (λ x. omega arith)))

pub refilled : (ns ks ls : List Slot) (d : ℕ) (v x : Slot) → Sound ns → Stands ns v → d < length ns → (at ns d).holds ≡ 0 → (at ns d).parents ≡ 0 → x ≡ at ns d
    → Recounts (set ns d v) ks (names x) none → Recounts ks ls none (names v) → Inserted ns ls d v
refilled ns ks ls d v x o s l h p e r q =
    inserted ns (set ns d v) ls d v (at ns d) o s (filled_set ns d v o s l h p)
    (recounts (set ns d v) ks ls (names (at ns d)) none none (names v) (names (at ns d)) (names v) (rw e at r) q (λ y. omega arith) (λ y. omega arith))

-- the counts of parents of a node that is put in never come to an end
pub room_appended : (ns ms : List Slot) (v : Slot) → Sound ns → Stands ns v → ms ≡ ns ++ v ∷ [] → length ms < 2 ^ 63 → (x : ℕ) → (at ms x).parents + names v x < 2 ^ 64
room_appended ns ms v o s e b x =
    let p : (at ms x).parents ≡ (at ns x).parents = rw e (push_parents ns v s.parents x) in let n : named ms x ≡ named ns x + names v x = rw e (named_push ns v x) in
    omega (arith, o.parents x, named_small ms x)

pub room_refilled : (ns ks : List Slot) (d : ℕ) (v y : Slot) → Sound ns → Stands ns v → d < length ns → (at ns d).parents ≡ 0 → y ≡ at ns d
    → Recounts (set ns d v) ks (names y) none → length (set ns d v) < 2 ^ 63 → (x : ℕ) → (at ks x).parents + names v x < 2 ^ 64
room_refilled ns ks d v y o s l p e r b x =
    let q : Recounts (set ns d v) ks (names (at ns d)) none = rw e at r in
    omega (arith, q.parents x, field_set (λ n. n.parents) ns d v l (s.parents ∙ sym p) x, o.parents x, named_set ns d x v l, named_small (set ns d v) x)

pub names_left : (ns : List Slot) (d : ℕ) (v y : Slot) → Sound ns → Stands ns v → d < length ns → (at ns d).parents ≡ 0 → y ≡ at ns d → (x : ℕ) → names y x ≤ (at (set ns d v) x).parents
names_left ns d v y o s l p e x = rw e (omega (arith, field_set (λ n. n.parents) ns d v l (s.parents ∙ sym p) x, o.parents x, names_within ns d x l))

pub sound_empty : Sound []
unfolding named
sound_empty = record {
  ordered = record { deep = λ i l. absurd (omega arith); exact = λ i l. absurd (omega arith); first = λ i l _. absurd (omega arith); second = λ i l _. absurd (omega arith) };
  parents = λ x. refl;
}

pub held_empty : held [] ≡ 0
unfolding held
held_empty = refl

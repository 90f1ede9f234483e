use Rattle.std.proofs.Common.{ℕ, ◌+◌, ◌*◌, ◌<◌, ◌≤◌, ◌≡◌, ◌/◌, ◌^◌, cond, eqb, Bool, true, false, IsTrue, ◌↔◌, List, ℤ, Option, Some, None, arith, refl, sym, ◌∙◌, subst, inl, inr, Result, Ok, Err, IfOk}
use Rattle.std.proofs.lemmas.Bool.{cases_lt}
use Rattle.store_api.specs.declared.Shape.{Shape}
use Rattle.store_api.specs.Tree.{Tree, Node, kid, shape_is}
use Rattle.hptmap.specs.declared.order.Blocks.TheVariants.{Around, Apart}
use Rattle.hptmap.specs.Trie.{is_leaf, key_of, level_of, top_of, map_of, Within, IsTrie}
use Rattle.hptmap.specs.Leaves.{LeafMeaning, Idempotent}
use Rattle.hptmap.specs.Merges.{IncludedAt, Includes, Lies, OnSide, TakesAll}
use Rattle.hptmap.proofs.Bits.{shorten}
use Rattle.hptmap.proofs.Tries.{kids_of_trie, below_trie, level_small, branch_of, outside, within_own, prefix_low, prefix_high, not_left, not_right, node_left, node_right, find_leaf}
use Rattle.hptmap.proofs.Canonical as canonical
use Rattle.hptmap.proofs.Changes.{map_leaf}
use Rattle.hptmap.proofs.Merging.{both_nodes, one_node, takes_at, takes_all, takes_leaf, takes_sides, kid_falls, kid_map, on_side_branch, equal_shapes, around, inside}

includes_at : (f : Tree → Tree → Bool) (t u : Tree) → Includes f t u → (x : ℕ) → IncludedAt f (map_of t x) (map_of u x)
unfolding Includes
includes_at f t u c = c

pub includes_all : (f : Tree → Tree → Bool) (t u : Tree) → ((x : ℕ) → IncludedAt f (map_of t x) (map_of u x)) → Includes f t u
unfolding Includes
includes_all f t u c = c

included_none : (f : Tree → Tree → Bool) (o p : Option Tree) → o ≡ None → IncludedAt f o p
included_none f o p e = subst (λ v. IncludedAt f v p) (sym e) tt

included_both : (f : Tree → Tree → Bool) (o p q r : Option Tree) → o ≡ q → p ≡ r → IncludedAt f o p → IncludedAt f q r
included_both f o p q r e d i = subst (λ v. IncludedAt f q v) d (subst (λ v. IncludedAt f v p) e i)

included_same : (f : Tree → Tree → Bool) (o : Option Tree) → ((a : Tree) → o ≡ Some a → IsTrue (f a a)) → IncludedAt f o o
included_same f None h = tt
included_same f (Some a) h = h a refl

pub no_true : IsTrue false → ⊥
no_true y = cc

-- a key alone tells it
pub not_there : (f : Tree → Tree → Bool) (t u : Tree) (x : ℕ) (p : Tree) → map_of t x ≡ Some p → map_of u x ≡ None → Includes f t u → ⊥
not_there f t u x p e d c = included_both f (map_of t x) (map_of u x) (Some p) None e d (includes_at f t u c x)

pub includes_same : (m : LeafMeaning) (about : List ℤ) (t u : Tree) → t ≡ u → Idempotent m → TakesAll (m.takes about) t u → Includes m.included t u
includes_same m about t u e i c =
    let d : TakesAll (m.takes about) t t = subst (λ v. TakesAll (m.takes about) t v) (sym e) c in
    subst (λ v. Includes m.included t v) e (includes_all m.included t t (λ x. included_same m.included (map_of t x) (λ a p. i.included about a (takes_at (m.takes about) t t d x a a p p))))

-- what the payloads of a call below need
pub takes_below : (f : Tree → Tree → Bool) (t u : Tree) (s : Shape) (k : ℕ) → IsTrie u → shape_is u s → is_leaf s ≡ false → TakesAll f t u → TakesAll f t (kid u k)
takes_below f t u s k h i e c = takes_all f t (kid u k) (λ x a b p q. takes_at f t u c x a b p (kid_map u s k x b h i e q))

-- two leaves of one key
included_cond : (t : Bool) (f : Tree → Tree → Bool) (a c : Tree) → IsTrue (f a c) → IncludedAt f (cond t (Some a) None) (cond t (Some c) None)
included_cond true f a c h = h
included_cond false f a c h = tt

node_includes_leaf : (f : Tree → Tree → Bool) (s : Shape) (a b c d : Tree) → is_leaf s ≡ true → IsTrue (f a c) → Includes f (Node s a b) (Node s c d)
node_includes_leaf f s a b c d e h =
    includes_all f (Node s a b) (Node s c d) (λ x. included_both f (cond (eqb (key_of s) x) (Some a) None) (cond (eqb (key_of s) x) (Some c) None) (map_of (Node s a b) x) (map_of (Node s c d) x)
    (sym (map_leaf s a b x e)) (sym (map_leaf s c d x e)) (included_cond (eqb (key_of s) x) f a c h))

pub tells_leaf : (f : Tree → Tree → Bool) (t u : Tree) (s : Shape) (r : Bool) → IsTrie t → IsTrie u → shape_is t s → shape_is u s → is_leaf s ≡ true → r ≡ f (kid t 0) (kid u 0) → IsTrue r ↔ Includes f t u
tells_leaf f t u s r h g i j e q = (
  λ y. both_nodes (λ v w. IsTrue (f (kid v 0) (kid w 0)) → Includes f v w) s s t u i j (λ a b c d. node_includes_leaf f s a b c d e) (subst IsTrue q y),
  λ c. subst IsTrue (sym q) (included_both f (map_of t (key_of s)) (map_of u (key_of s)) (Some (kid t 0)) (Some (kid u 0)) (find_leaf t s (key_of s) h i e refl) (find_leaf u s (key_of s) g j e refl) (includes_at f t u c (key_of s))),
)

-- two branches of one block
node_includes_sides : (f : Tree → Tree → Bool) (s : Shape) (a b c d : Tree) → IsTrie (Node s a b) → IsTrie (Node s c d) → is_leaf s ≡ false → Includes f a c → Includes f b d → Includes f (Node s a b) (Node s c d)
node_includes_sides f s a b c d h g e l r =
    includes_all f (Node s a b) (Node s c d) (λ x. elim (cases_lt x (key_of s)) [
      | inl m ↦ included_both f (map_of a x) (map_of c x) (map_of (Node s a b) x) (map_of (Node s c d) x) (sym (node_left s a b x h e m).1) (sym (node_left s c d x g e m).1) (includes_at f a c l x)
      | inr m ↦ included_both f (map_of b x) (map_of d x) (map_of (Node s a b) x) (map_of (Node s c d) x) (sym (node_right s a b x h e m).1) (sym (node_right s c d x g e m).1) (includes_at f b d r x)
    ])

node_includes_left : (f : Tree → Tree → Bool) (s : Shape) (a b c d : Tree) → IsTrie (Node s a b) → IsTrie (Node s c d) → is_leaf s ≡ false → Includes f (Node s a b) (Node s c d) → Includes f a c
node_includes_left f s a b c d h g e l =
    includes_all f a c (λ x. elim (cases_lt x (key_of s)) [
      | inl m ↦ included_both f (map_of (Node s a b) x) (map_of (Node s c d) x) (map_of a x) (map_of c x) (node_left s a b x h e m).1 (node_left s c d x g e m).1 (includes_at f (Node s a b) (Node s c d) l x)
      | inr m ↦ included_none f (map_of a x) (map_of c x) (node_right s a b x h e m).0
    ])

node_includes_right : (f : Tree → Tree → Bool) (s : Shape) (a b c d : Tree) → IsTrie (Node s a b) → IsTrie (Node s c d) → is_leaf s ≡ false → Includes f (Node s a b) (Node s c d) → Includes f b d
node_includes_right f s a b c d h g e l =
    includes_all f b d (λ x. elim (cases_lt x (key_of s)) [
      | inl m ↦ included_none f (map_of b x) (map_of d x) (node_left s a b x h e m).0
      | inr m ↦ included_both f (map_of (Node s a b) x) (map_of (Node s c d) x) (map_of b x) (map_of d x) (node_right s a b x h e m).1 (node_right s c d x g e m).1 (includes_at f (Node s a b) (Node s c d) l x)
    ])

pub tells_left : (f : Tree → Tree → Bool) (t u : Tree) (s : Shape) (p : Bool) → IsTrie t → IsTrie u → shape_is t s → shape_is u s → is_leaf s ≡ false → (IsTrue p ↔ Includes f (kid t 0) (kid u 0)) → p ≡ false → IsTrue false ↔ Includes f t u
tells_left f t u s p h g i j e l n = (
  λ y. absurd (no_true y),
  λ c. absurd (no_true (subst IsTrue n (l.1 (both_nodes (λ v w. IsTrie v → IsTrie w → Includes f v w → Includes f (kid v 0) (kid w 0)) s s t u i j (λ a b x d y z. node_includes_left f s a b x d y z e) h g c)))),
)

pub tells_both : (f : Tree → Tree → Bool) (t u : Tree) (s : Shape) (p q : Bool) → IsTrie t → IsTrie u → shape_is t s → shape_is u s → is_leaf s ≡ false → (IsTrue p ↔ Includes f (kid t 0) (kid u 0)) → (IsTrue q ↔ Includes f (kid t 1) (kid u 1)) → IsTrue p → IsTrue q ↔ Includes f t u
tells_both f t u s p q h g i j e l r n = (
  λ y. both_nodes (λ v w. IsTrie v → IsTrie w → Includes f (kid v 0) (kid w 0) → Includes f (kid v 1) (kid w 1) → Includes f v w) s s t u i j (λ a b c d x z. node_includes_sides f s a b c d x z e) h g (l.0 n) (r.0 y),
  λ c. r.1 (both_nodes (λ v w. IsTrie v → IsTrie w → Includes f v w → Includes f (kid v 1) (kid w 1)) s s t u i j (λ a b x d y z. node_includes_right f s a b x d y z e) h g c),
)

-- a trie that lies in a branch
node_within_left : (f : Tree → Tree → Bool) (s : Shape) (a b t : Tree) (k : ℕ) → IsTrie t → IsTrie (Node s a b) → OnSide t s k → k < key_of s → (Includes f t a → Includes f t (Node s a b)) × (Includes f t (Node s a b) → Includes f t a)
node_within_left f s a b t k h g o l =
    let e = o.branch in let i = branch_of s a b g e in
    let v : Within t (level_of s) (2 * (key_of s / 2 ^ (level_of s + 1))) = subst (λ (y : ℕ). Within t (level_of s) y) (prefix_low k (key_of s) (level_of s) i.0.split o.prefix l) o.within in (
      λ c. includes_all f t (Node s a b) (λ x. elim (cases_lt x (key_of s)) [
        | inl m ↦ included_both f (map_of t x) (map_of a x) (map_of t x) (map_of (Node s a b) x) refl (sym (node_left s a b x g e m).1) (includes_at f t a c x)
        | inr m ↦ included_none f (map_of t x) (map_of (Node s a b) x) (outside t (level_of s) (2 * (key_of s / 2 ^ (level_of s + 1))) x h v (not_left x (key_of s) (level_of s) i.0.split m))
      ]),
      λ c. includes_all f t a (λ x. elim (cases_lt x (key_of s)) [
        | inl m ↦ included_both f (map_of t x) (map_of (Node s a b) x) (map_of t x) (map_of a x) refl (node_left s a b x g e m).1 (includes_at f t (Node s a b) c x)
        | inr m ↦ included_none f (map_of t x) (map_of a x) (outside t (level_of s) (2 * (key_of s / 2 ^ (level_of s + 1))) x h v (not_left x (key_of s) (level_of s) i.0.split m))
      ]),
    )

node_within_right : (f : Tree → Tree → Bool) (s : Shape) (a b t : Tree) (k : ℕ) → IsTrie t → IsTrie (Node s a b) → OnSide t s k → key_of s ≤ k → (Includes f t b → Includes f t (Node s a b)) × (Includes f t (Node s a b) → Includes f t b)
node_within_right f s a b t k h g o l =
    let e = o.branch in let i = branch_of s a b g e in
    let v : Within t (level_of s) (2 * (key_of s / 2 ^ (level_of s + 1)) + 1) = subst (λ (y : ℕ). Within t (level_of s) y) (prefix_high k (key_of s) (level_of s) i.0.split o.prefix l) o.within in (
      λ c. includes_all f t (Node s a b) (λ x. elim (cases_lt x (key_of s)) [
        | inl m ↦ included_none f (map_of t x) (map_of (Node s a b) x) (outside t (level_of s) (2 * (key_of s / 2 ^ (level_of s + 1)) + 1) x h v (not_right x (key_of s) (level_of s) i.0.split m))
        | inr m ↦ included_both f (map_of t x) (map_of b x) (map_of t x) (map_of (Node s a b) x) refl (sym (node_right s a b x g e m).1) (includes_at f t b c x)
      ]),
      λ c. includes_all f t b (λ x. elim (cases_lt x (key_of s)) [
        | inl m ↦ included_none f (map_of t x) (map_of b x) (outside t (level_of s) (2 * (key_of s / 2 ^ (level_of s + 1)) + 1) x h v (not_right x (key_of s) (level_of s) i.0.split m))
        | inr m ↦ included_both f (map_of t x) (map_of (Node s a b) x) (map_of t x) (map_of b x) refl (node_right s a b x g e m).1 (includes_at f t (Node s a b) c x)
      ]),
    )

pub tells_within_left : (f : Tree → Tree → Bool) (t u : Tree) (s : Shape) (k : ℕ) (r : Bool) → IsTrie t → IsTrie u → shape_is u s → OnSide t s k → k < key_of s → (IsTrue r ↔ Includes f t (kid u 0)) → IsTrue r ↔ Includes f t u
tells_within_left f t u s k r h g i o l c =
    let w = one_node (λ v. IsTrie v → (Includes f t (kid v 0) → Includes f t v) × (Includes f t v → Includes f t (kid v 0))) s u i (λ a b y. node_within_left f s a b t k h y o l) g in
    (λ y. w.0 (c.0 y), λ y. c.1 (w.1 y))

pub tells_within_right : (f : Tree → Tree → Bool) (t u : Tree) (s : Shape) (k : ℕ) (r : Bool) → IsTrie t → IsTrie u → shape_is u s → OnSide t s k → key_of s ≤ k → (IsTrue r ↔ Includes f t (kid u 1)) → IsTrue r ↔ Includes f t u
tells_within_right f t u s k r h g i o l c =
    let w = one_node (λ v. IsTrie v → (Includes f t (kid v 1) → Includes f t v) × (Includes f t v → Includes f t (kid v 1))) s u i (λ a b y. node_within_right f s a b t k h y o l) g in
    (λ y. w.0 (c.0 y), λ y. c.1 (w.1 y))

-- a branch has a key on the other side
node_not_around : (f : Tree → Tree → Bool) (s : Shape) (a b u : Tree) (k : ℕ) → IsTrie (Node s a b) → IsTrie u → OnSide u s k → Includes f (Node s a b) u → ⊥
node_not_around f s a b u k h g o c =
    let e = o.branch in let i = branch_of s a b h e in let p = canonical.apart s a b h e in
    elim (cases_lt k (key_of s)) [
      | inl l ↦
          let v : Within u (level_of s) (2 * (key_of s / 2 ^ (level_of s + 1))) = subst (λ (y : ℕ). Within u (level_of s) y) (prefix_low k (key_of s) (level_of s) i.0.split o.prefix l) o.within in
          not_there f (Node s a b) u p.high p.second p.there_too (outside u (level_of s) (2 * (key_of s / 2 ^ (level_of s + 1))) p.high g v (λ y. absurd (let w = p.right in omega arith))) c
      | inr l ↦
          let v : Within u (level_of s) (2 * (key_of s / 2 ^ (level_of s + 1)) + 1) = subst (λ (y : ℕ). Within u (level_of s) y) (prefix_high k (key_of s) (level_of s) i.0.split o.prefix l) o.within in
          not_there f (Node s a b) u p.low p.first p.there (outside u (level_of s) (2 * (key_of s / 2 ^ (level_of s + 1)) + 1) p.low g v (λ y. absurd (let w = p.left in omega arith))) c
    ]

pub tells_around : (f : Tree → Tree → Bool) (t u : Tree) (s z : Shape) → IsTrie t → IsTrie u → shape_is t s → shape_is u z → Lies Around s z → IsTrue false ↔ Includes f t u
tells_around f t u s z h g i j l = (
  λ y. absurd (no_true y),
  λ c. absurd (one_node (λ v. IsTrie v → Includes f v u → ⊥) s t i (λ a b y. node_not_around f s a b u (key_of z) y g (around u s z j l)) h c),
)

-- blocks that lie apart have no key in common
node_not_apart : (f : Tree → Tree → Bool) (s z : Shape) (a b c d : Tree) → IsTrie (Node s a b) → IsTrie (Node z c d) → Lies Apart s z → Includes f (Node s a b) (Node z c d) → ⊥
node_not_apart f s z a b c d h g l n =
    let k = canonical.some_key (Node s a b) h in
    let i = canonical.inside (Node s a b) (top_of s) (key_of s / 2 ^ top_of s) k.0 k.1.0 h (within_own s a b) k.1.1 in
    not_there f (Node s a b) (Node z c d) k.0 k.1.0 k.1.1 (outside (Node z c d) (top_of z) (key_of z / 2 ^ top_of z) k.0 g (within_own z c d) (elim l [
      | inl p ↦ λ y. p.1 (sym (shorten k.0 (key_of s) (top_of s) (top_of z) p.0 i) ∙ y)
      | inr p ↦ λ y. p.1 (sym (shorten k.0 (key_of z) (top_of z) (top_of s) p.0 y) ∙ i)
    ])) n

pub tells_apart : (f : Tree → Tree → Bool) (t u : Tree) (s z : Shape) → IsTrie t → IsTrie u → shape_is t s → shape_is u z → Lies Apart s z → IsTrue false ↔ Includes f t u
tells_apart f t u s z h g i j l = (
  λ y. absurd (no_true y),
  λ n. absurd (both_nodes (λ v w. IsTrie v → IsTrie w → Includes f v w → ⊥) s z t u i j (λ a b c d y x. node_not_apart f s z a b c d y x l) h g n),
)

pub tells_same : (m : LeafMeaning) (about : List ℤ) (t u : Tree) → t ≡ u → Idempotent m → TakesAll (m.takes about) t u → IsTrue true ↔ Includes m.included t u
tells_same m about t u e i c = (λ y. includes_same m about t u e i c, λ y. refl)

-- the same at an answer
pub both_ok : {E : Type 0} (m k : LeafMeaning) (t u x y : Tree) (s : Shape) (p : Bool) (r : Result Bool E) → IsTrie t → IsTrie u → shape_is t s → shape_is u s → is_leaf s ≡ false → (IsTrue p ↔ Includes m.included (kid t 0) (kid u 0)) → IsTrue p
    → k ≡ m → x ≡ t → y ≡ u → IfOk r (λ q. IsTrue q ↔ Includes k.included (kid x 1) (kid y 1)) → IfOk r (λ q. IsTrue q ↔ Includes m.included t u)
both_ok m k t u x y s p (Ok q) h g i j e l n a b c w =
    tells_both m.included t u s p q h g i j e l
    (subst (λ v. IsTrue q ↔ Includes m.included (kid t 1) (kid v 1)) c (subst (λ v. IsTrue q ↔ Includes m.included (kid v 1) (kid y 1)) b (subst (λ v. IsTrue q ↔ Includes v.included (kid x 1) (kid y 1)) a w))) n
both_ok m k t u x y s p (Err z) h g i j e l n a b c w = tt

pub within_left_ok : {E : Type 0} (f : Tree → Tree → Bool) (t u x y : Tree) (s : Shape) (k : ℕ) (r : Result Bool E) → IsTrie t → IsTrie u → shape_is u s → OnSide t s k → k < key_of s → x ≡ t → y ≡ kid u 0
    → IfOk r (λ q. IsTrue q ↔ Includes f x y) → IfOk r (λ q. IsTrue q ↔ Includes f t u)
within_left_ok f t u x y s k (Ok q) h g i o l b c w = tells_within_left f t u s k q h g i o l (subst (λ v. IsTrue q ↔ Includes f t v) c (subst (λ v. IsTrue q ↔ Includes f v y) b w))
within_left_ok f t u x y s k (Err z) h g i o l b c w = tt

pub within_right_ok : {E : Type 0} (f : Tree → Tree → Bool) (t u x y : Tree) (s : Shape) (k : ℕ) (r : Result Bool E) → IsTrie t → IsTrie u → shape_is u s → OnSide t s k → key_of s ≤ k → x ≡ t → y ≡ kid u 1
    → IfOk r (λ q. IsTrue q ↔ Includes f x y) → IfOk r (λ q. IsTrue q ↔ Includes f t u)
within_right_ok f t u x y s k (Ok q) h g i o l b c w = tells_within_right f t u s k q h g i o l (subst (λ v. IsTrue q ↔ Includes f t v) c (subst (λ v. IsTrue q ↔ Includes f v y) b w))
within_right_ok f t u x y s k (Err z) h g i o l b c w = tt

pub ruleset leaf_facts = (kids_of_trie, takes_leaf, tells_leaf)

pub ruleset side_facts = (kids_of_trie, below_trie, kid_falls, takes_sides)

pub ruleset equal_facts = (kids_of_trie, tells_left, tells_both)

pub ruleset within_facts = (kids_of_trie, below_trie, on_side_branch, takes_below, tells_within_left, tells_within_right)

pub ruleset included_facts = (level_small, tells_same, equal_shapes, inside, tells_around, tells_apart)

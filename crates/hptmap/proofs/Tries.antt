use Rattle.std.proofs.Common.{ℕ, zero, suc, ◌+◌, ◌*◌, ◌<◌, ◌≤◌, ◌≡◌, ◌≢◌, ◌/◌, ◌^◌, cond, eqb, max, Bool, true, false, Option, Some, None, arith, refl, sym, ap, ◌∙◌, subst, inl, inr, ◌⊎◌}
use Rattle.std.proofs.lemmas.Bool.Decides.{nat_tests}
use Rattle.store_api.specs.declared.Shape.{Shape}
use Rattle.store_api.specs.Tree.{Tree, Nil, Node, depth, kid, shape_is}
use Rattle.hptmap.specs.Trie.{is_leaf, key_of, level_of, top_of, either, map_of, Within, split_at, IsLeaf, IsBranch, IsTrie}
use Rattle.hptmap.proofs.Bits.{shorter, shorten, split_prefix, below_split, above_split}

pub leaf_of : (s : Shape) (a b : Tree) → IsTrie (Node s a b) → is_leaf s ≡ true → IsLeaf s a b
unfolding IsTrie
leaf_of s a b h e = subst (λ (c : Bool). cond c (IsLeaf s a b) (IsBranch s a b × IsTrie a × IsTrie b)) e h

pub branch_of : (s : Shape) (a b : Tree) → IsTrie (Node s a b) → is_leaf s ≡ false → IsBranch s a b × IsTrie a × IsTrie b
unfolding IsTrie
branch_of s a b h e = subst (λ (c : Bool). cond c (IsLeaf s a b) (IsBranch s a b × IsTrie a × IsTrie b)) e h

pub trie_leaf : (s : Shape) (a b : Tree) → IsLeaf s a b → is_leaf s ≡ true → IsTrie (Node s a b)
unfolding IsTrie
trie_leaf s a b h e = subst (λ (c : Bool). cond c (IsLeaf s a b) (IsBranch s a b × IsTrie a × IsTrie b)) (sym e) h

pub trie_branch : (s : Shape) (a b : Tree) → IsBranch s a b → IsTrie a → IsTrie b → is_leaf s ≡ false → IsTrie (Node s a b)
unfolding IsTrie
trie_branch s a b h f g e = subst (λ (c : Bool). cond c (IsLeaf s a b) (IsBranch s a b × IsTrie a × IsTrie b)) (sym e) (h, f, g)

pub no_nil : IsTrie Nil → ⊥
unfolding IsTrie
no_nil h = h

-- a shape is a leaf's or a branch's
pub leaf_or : (s : Shape) → (is_leaf s ≡ true) ⊎ (is_leaf s ≡ false)
leaf_or s = elim (is_leaf s) as (λ b. (b ≡ true) ⊎ (b ≡ false)) [ true ↦ inl refl | false ↦ inr refl ]

pub top_leaf : (s : Shape) → is_leaf s ≡ true → top_of s ≡ 0
top_leaf s e = ap (λ c. cond c 0 (level_of s + 1)) e

pub top_branch : (s : Shape) → is_leaf s ≡ false → top_of s ≡ level_of s + 1
top_branch s e = ap (λ c. cond c 0 (level_of s + 1)) e

-- a key outside the block of a trie isn't in it
outside_leaf : (s : Shape) (a b : Tree) (x : ℕ) → is_leaf s ≡ true → key_of s ≢ x → map_of (Node s a b) x ≡ None
outside_leaf s a b x e n = grind (arith, nat_tests)

pub map_branch : (s : Shape) (a b : Tree) (x : ℕ) → is_leaf s ≡ false → map_of (Node s a b) x ≡ either (map_of a x) (map_of b x)
map_branch s a b x e = ap (λ c. cond c (cond (eqb (key_of s) x) (Some a) None) (either (map_of a x) (map_of b x))) e

pub either_none : (o p : Option Tree) → o ≡ None → either o p ≡ p
either_none o p e = ap (λ q. either q p) e

pub none_either : (o p : Option Tree) → p ≡ None → either o p ≡ o
none_either None p e = e
none_either (Some t) p e = refl

pub outside : (t : Tree) (n q x : ℕ) → IsTrie t → Within t n q → x / 2 ^ n ≢ q → map_of t x ≡ None
outside Nil n q x h w d = refl
outside (Node s a b) n q x h w d =
    elim (leaf_or s) [
      | inl e ↦ outside_leaf s a b x e (λ f. d (ap (λ (i : ℕ). i / 2 ^ n) (sym f) ∙ w.1))
      | inr e ↦
          let i = branch_of s a b h e in let l = level_of s in let r = key_of s / 2 ^ (l + 1) in
          let c : x / 2 ^ (l + 1) ≢ r = λ f. d (shorten x (key_of s) (l + 1) n (omega (arith, top_branch s e)) f ∙ w.1) in
          map_branch s a b x e
          ∙ either_none (map_of a x) (map_of b x) (outside a l (2 * r) x i.1 i.0.left (λ f. c (shorter x l ∙ ap (λ (k : ℕ). k / 2) f ∙ (omega arith))))
          ∙ outside b l (2 * r + 1) x i.2 i.0.right (λ f. c (shorter x l ∙ ap (λ (k : ℕ). k / 2) f ∙ (omega arith)))
    ]

-- a trie is within its own block
pub within_own : (s : Shape) (a b : Tree) → Within (Node s a b) (top_of s) (key_of s / 2 ^ top_of s)
within_own s a b = (omega arith, refl)

-- and within every larger one
pub within_more : (t : Tree) (n q m : ℕ) → Within t n q → n ≤ m → (k : ℕ) → k / 2 ^ n ≡ q → Within t m (k / 2 ^ m)
within_more Nil n q m w l k e = w
within_more (Node s a b) n q m w l k e = (omega (arith, w.0), shorten (key_of s) k n m l (w.1 ∙ sym e))

-- the side of a key
pub prefix_low : (k s n : ℕ) → s ≡ split_at s n → k / 2 ^ (n + 1) ≡ s / 2 ^ (n + 1) → k < s → k / 2 ^ n ≡ 2 * (s / 2 ^ (n + 1))
prefix_low k s n e f l =
    let p = below_split k s n e l in let q : s / 2 ^ n ≡ 2 * (s / 2 ^ (n + 1)) + 1 = ap (λ (i : ℕ). i / 2 ^ n) e ∙ split_prefix s n in
    let d = shorter k n in omega arith

pub prefix_high : (k s n : ℕ) → s ≡ split_at s n → k / 2 ^ (n + 1) ≡ s / 2 ^ (n + 1) → s ≤ k → k / 2 ^ n ≡ 2 * (s / 2 ^ (n + 1)) + 1
prefix_high k s n e f l =
    let p = above_split k s n l in let q : s / 2 ^ n ≡ 2 * (s / 2 ^ (n + 1)) + 1 = ap (λ (i : ℕ). i / 2 ^ n) e ∙ split_prefix s n in
    let d = shorter k n in omega arith

pub not_right : (k s n : ℕ) → s ≡ split_at s n → k < s → k / 2 ^ n ≢ 2 * (s / 2 ^ (n + 1)) + 1
not_right k s n e l f = absurd (let p = below_split k s n e l in let q : s / 2 ^ n ≡ 2 * (s / 2 ^ (n + 1)) + 1 = ap (λ (i : ℕ). i / 2 ^ n) e ∙ split_prefix s n in omega arith)

pub not_left : (k s n : ℕ) → s ≡ split_at s n → s ≤ k → k / 2 ^ n ≢ 2 * (s / 2 ^ (n + 1))
not_left k s n e l f = absurd (let p = above_split k s n l in let q : s / 2 ^ n ≡ 2 * (s / 2 ^ (n + 1)) + 1 = ap (λ (i : ℕ). i / 2 ^ n) e ∙ split_prefix s n in omega arith)

-- a key is found at its side
pub node_left : (s : Shape) (a b : Tree) (k : ℕ) → IsTrie (Node s a b) → is_leaf s ≡ false → k < key_of s → (map_of b k ≡ None) × (map_of (Node s a b) k ≡ map_of a k)
node_left s a b k h e l =
    let i = branch_of s a b h e in
    let n : map_of b k ≡ None = outside b (level_of s) (2 * (key_of s / 2 ^ (level_of s + 1)) + 1) k i.2 i.0.right (not_right k (key_of s) (level_of s) i.0.split l) in
    (n, map_branch s a b k e ∙ none_either (map_of a k) (map_of b k) n)

pub node_right : (s : Shape) (a b : Tree) (k : ℕ) → IsTrie (Node s a b) → is_leaf s ≡ false → key_of s ≤ k → (map_of a k ≡ None) × (map_of (Node s a b) k ≡ map_of b k)
node_right s a b k h e l =
    let i = branch_of s a b h e in
    let n : map_of a k ≡ None = outside a (level_of s) (2 * (key_of s / 2 ^ (level_of s + 1))) k i.1 i.0.left (not_left k (key_of s) (level_of s) i.0.split l) in
    (n, map_branch s a b k e ∙ either_none (map_of a k) (map_of b k) n)

pub find_left : (t : Tree) (s : Shape) (k : ℕ) → IsTrie t → shape_is t s → is_leaf s ≡ false → k < key_of s → map_of t k ≡ map_of (kid t 0) k
find_left Nil s k h e l m = absurd e
find_left (Node z a b) s k h e l m = (node_left z a b k h (subst (λ w. is_leaf w ≡ false) e l) (subst (λ w. k < key_of w) e m)).1

pub find_right : (t : Tree) (s : Shape) (k : ℕ) → IsTrie t → shape_is t s → is_leaf s ≡ false → key_of s ≤ k → map_of t k ≡ map_of (kid t 1) k
find_right Nil s k h e l m = absurd e
find_right (Node z a b) s k h e l m = (node_right z a b k h (subst (λ w. is_leaf w ≡ false) e l) (subst (λ w. key_of w ≤ k) e m)).1

-- what a node of a trie has
kids_leaf : (s : Shape) (a b : Tree) → IsLeaf s a b → s.kids ≡ 1
kids_leaf s a b i = ap (λ (w : Shape). w.kids) i.shape

kids_branch : (s : Shape) (a b : Tree) → IsBranch s a b → s.kids ≡ 2
kids_branch s a b i = ap (λ (w : Shape). w.kids) i.shape

node_kids : (s : Shape) (a b : Tree) → IsTrie (Node s a b) → s.kids ≡ cond (is_leaf s) 1 2
node_kids s a b h =
    elim (leaf_or s) [
      | inl e ↦ kids_leaf s a b (leaf_of s a b h e) ∙ sym (ap (λ c. cond c 1 2) e)
      | inr e ↦ kids_branch s a b (branch_of s a b h e).0 ∙ sym (ap (λ c. cond c 1 2) e)
    ]

node_key : (s : Shape) (a b : Tree) → IsTrie (Node s a b) → key_of s < 2 ^ 32
node_key s a b h = elim (leaf_or s) [ inl e ↦ (leaf_of s a b h e).key | inr e ↦ (branch_of s a b h e).0.key ]

pub kids_of_trie : (t : Tree) (s : Shape) → IsTrie t → shape_is t s → s.kids ≡ cond (is_leaf s) 1 2
kids_of_trie Nil s h e = absurd e
kids_of_trie (Node z a b) s h e = subst (λ w. w.kids ≡ cond (is_leaf w) 1 2) (sym e) (node_kids z a b h)

pub below_trie : (t : Tree) (s : Shape) (k : ℕ) → IsTrie t → shape_is t s → is_leaf s ≡ false → IsTrie (kid t k)
below_trie Nil s k h e l = absurd e
below_trie (Node z a b) s zero h e l = (branch_of z a b h (subst (λ w. is_leaf w ≡ false) e l)).1
below_trie (Node z a b) s (suc k) h e l = (branch_of z a b h (subst (λ w. is_leaf w ≡ false) e l)).2

pub key_small : (t : Tree) (s : Shape) → IsTrie t → shape_is t s → key_of s < 2 ^ 32
key_small Nil s h e = absurd e
key_small (Node z a b) s h e = subst (λ w. key_of w < 2 ^ 32) (sym e) (node_key z a b h)

pub level_small : (t : Tree) (s : Shape) → IsTrie t → shape_is t s → is_leaf s ≡ false → level_of s < 32
level_small Nil s h e l = absurd e
level_small (Node z a b) s h e l = subst (λ w. level_of w < 32) (sym e) (branch_of z a b h (subst (λ w. is_leaf w ≡ false) e l)).0.level

-- a trie is at most as deep as its keys have bits, and a payload
deep_two : (d e l : ℕ) → d ≤ 96 + l → e ≤ 96 + l → max d e + 1 ≤ 97 + l
deep_two d e l f g = omega arith

depth_within : (t : Tree) (n q : ℕ) → IsTrie t → Within t n q → depth t ≤ 96 + n
depth_within Nil n q h w = omega arith
depth_within (Node s a b) n q h w =
    elim (leaf_or s) [
      | inl e ↦ let i = leaf_of s a b h e in let d : depth b ≡ 0 = ap depth i.none in let c = i.depth in omega arith
      | inr e ↦
          let i = branch_of s a b h e in
          let d = depth_within a (level_of s) (2 * (key_of s / 2 ^ (level_of s + 1))) i.1 i.0.left in
          let c = depth_within b (level_of s) (2 * (key_of s / 2 ^ (level_of s + 1)) + 1) i.2 i.0.right in
          let m = deep_two (depth a) (depth b) (level_of s) d c in let t = top_branch s e in let u = w.0 in omega arith
    ]

pub depth_trie : (t : Tree) → IsTrie t → depth t ≤ 128
depth_trie Nil h = omega arith
depth_trie (Node s a b) h =
    elim (leaf_or s) [
      | inl e ↦ let d = depth_within (Node s a b) (top_of s) (key_of s / 2 ^ top_of s) h (within_own s a b) in let t = top_leaf s e in omega arith
      | inr e ↦ let d = depth_within (Node s a b) (top_of s) (key_of s / 2 ^ top_of s) h (within_own s a b) in let t = top_branch s e in let l = (branch_of s a b h e).0.level in omega arith
    ]

-- a leaf has its own key alone
node_find_leaf : (s : Shape) (a b : Tree) (k : ℕ) → is_leaf s ≡ true → key_of s ≡ k → map_of (Node s a b) k ≡ Some a
node_find_leaf s a b k e f = grind (arith, nat_tests)

pub find_leaf : (t : Tree) (s : Shape) (k : ℕ) → IsTrie t → shape_is t s → is_leaf s ≡ true → key_of s ≡ k → map_of t k ≡ Some (kid t 0)
find_leaf Nil s k h e = absurd e
find_leaf (Node z a b) s k h e = subst (λ w. is_leaf w ≡ true → key_of w ≡ k → map_of (Node z a b) k ≡ Some a) (sym e) (node_find_leaf z a b k)

pub find_other : (t : Tree) (s : Shape) (k : ℕ) → IsTrie t → shape_is t s → is_leaf s ≡ true → key_of s ≢ k → map_of t k ≡ None
find_other Nil s k h e = absurd e
find_other (Node z a b) s k h e = subst (λ w. is_leaf w ≡ true → key_of w ≢ k → map_of (Node z a b) k ≡ None) (sym e) (outside_leaf z a b k)

pub ruleset find_facts = (kids_of_trie, below_trie, find_left, find_right, find_leaf, find_other)

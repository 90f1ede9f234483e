use Rattle.std.proofs.Common.{ℕ, ◌+◌, ◌-◌, ◌*◌, ◌<◌, ◌≤◌, ◌≡◌, ◌≢◌, ◌/◌, ◌^◌, cond, eqb, Bool, true, false, Option, Some, None, arith, refl, sym, ap, ◌∙◌, subst, inl, inr, Result, Ok, Err, IfOk, IfSome}
use Rattle.std.proofs.lemmas.Bool.{cases_lt}
use Rattle.std.proofs.lemmas.Bool.Decides.{nat_tests}
use Rattle.std.proofs.lemmas.Nat.{pow-add, pow_pos}
use Rattle.std.proofs.Math.Nat.{div-lt_iff_lt-mul}
use Rattle.store_api.specs.declared.Shape.{Shape}
use Rattle.store_api.specs.declared.StoreStop.{StoreStop}
use Rattle.store_api.specs.Tree.{Tree, Nil, Node, depth, kid, shape_is}
use Rattle.store_api.specs.Bag.{Bag, Trades, none, one, one_self}
use Rattle.hptmap.specs.Trie.{leaf_shape, leaf, branch_shape, is_leaf, key_of, level_of, top_of, either, map_of, Within, split_at, IsBranch, IsTrie, IsMap, Adds, Removes, RemovesIn, left_shrunk, MapIn, map_out, right_shrunk}
use Rattle.hptmap.proofs.Bits.{shorter, shorten, split_shorter, split_again, above_split}
use Rattle.hptmap.proofs.Tries.{kids_of_trie, below_trie, key_small, level_small, branch_of, trie_leaf, trie_branch, no_nil, outside, within_own, prefix_low, prefix_high, depth_trie, either_none, none_either, map_branch, node_left, node_right, top_branch}

-- the trie of one key
pub leaf_trie : (k : ℕ) (p : Tree) → k < 2 ^ 32 → depth p ≤ 95 → IsTrie (leaf k p)
leaf_trie k p h d = trie_leaf (leaf_shape k) p Nil (record { shape = refl; key = h; depth = d; none = refl }) refl

leaf_map : (k : ℕ) (p : Tree) (x : ℕ) → map_of (leaf k p) x ≡ cond (eqb x k) (Some p) None
leaf_map k p x = grind (arith, nat_tests)

test_same : (k j x : ℕ) (o p q : Option Tree) → k ≡ j → cond (eqb x j) o (cond (eqb k x) p q) ≡ cond (eqb x j) o q
test_same k j x o p q e = grind (arith, nat_tests)

pub map_leaf : (s : Shape) (a b : Tree) (x : ℕ) → is_leaf s ≡ true → map_of (Node s a b) x ≡ cond (eqb (key_of s) x) (Some a) None
map_leaf s a b x e = ap (λ c. cond c (cond (eqb (key_of s) x) (Some a) None) (either (map_of a x) (map_of b x))) e

node_added_leaf : (s : Shape) (a b : Tree) (k : ℕ) (p : Tree) → IsTrie (Node s a b) → is_leaf s ≡ true → key_of s ≡ k → k < 2 ^ 32 → depth p ≤ 95 → Adds (Node s a b) k p (leaf k p)
node_added_leaf s a b k p h e f l d = record {
  trie = leaf_trie k p l d;
  map = λ x. leaf_map k p x ∙ sym (ap (λ o. cond (eqb x k) (Some p) o) (map_leaf s a b x e) ∙ test_same (key_of s) k x (Some p) (Some a) None f);
  within = λ n q w g. (omega arith, g);
}

-- the left side replaced
pub replaced_left : (s : Shape) (a b r : Tree) → IsBranch s a b → Within r (level_of s) (2 * (key_of s / 2 ^ (level_of s + 1))) → IsBranch s r b
replaced_left s a b r i w = record { shape = i.shape; key = i.key; level = i.level; split = i.split; left = w; right = i.right }

pub replaced_right : (s : Shape) (a b r : Tree) → IsBranch s a b → Within r (level_of s) (2 * (key_of s / 2 ^ (level_of s + 1)) + 1) → IsBranch s a r
replaced_right s a b r i w = record { shape = i.shape; key = i.key; level = i.level; split = i.split; left = i.left; right = w }

either_cond : (c : Bool) (o p q : Option Tree) → (c ≡ true → q ≡ None) → either (cond c o p) q ≡ cond c o (either p q)
either_cond true None p q f = f refl
either_cond true (Some t) p q f = refl
either_cond false o p q f = refl

cond_either : (c : Bool) (o p q : Option Tree) → (c ≡ true → p ≡ None) → either p (cond c o q) ≡ cond c o (either p q)
cond_either true o p q f = either_none p o (f refl)
cond_either false o p q f = refl

at_key : (x k : ℕ) → eqb x k ≡ true → x ≡ k
at_key x k e = grind (arith, nat_tests)

node_added_left : (s : Shape) (a b : Tree) (k : ℕ) (p r : Tree) → IsTrie (Node s a b) → is_leaf s ≡ false → k / 2 ^ (level_of s + 1) ≡ key_of s / 2 ^ (level_of s + 1) → k < key_of s → Adds a k p r → Adds (Node s a b) k p (Node s r b)
node_added_left s a b k p r h e f l g =
    let i = branch_of s a b h e in
    record {
      trie = trie_branch s r b (replaced_left s a b r i.0 (g.within (level_of s) (2 * (key_of s / 2 ^ (level_of s + 1))) i.0.left (prefix_low k (key_of s) (level_of s) i.0.split f l))) g.trie i.2 e;
      map = λ x. map_branch s r b x e ∙ ap (λ o. either o (map_of b x)) (g.map x)
          ∙ either_cond (eqb x k) (Some p) (map_of a x) (map_of b x) (λ t. ap (map_of b) (at_key x k t) ∙ (node_left s a b k h e l).0)
          ∙ sym (ap (λ o. cond (eqb x k) (Some p) o) (map_branch s a b x e));
      within = λ n q w _. w;
    }

node_added_right : (s : Shape) (a b : Tree) (k : ℕ) (p r : Tree) → IsTrie (Node s a b) → is_leaf s ≡ false → k / 2 ^ (level_of s + 1) ≡ key_of s / 2 ^ (level_of s + 1) → key_of s ≤ k → Adds b k p r → Adds (Node s a b) k p (Node s a r)
node_added_right s a b k p r h e f l g =
    let i = branch_of s a b h e in
    record {
      trie = trie_branch s a r (replaced_right s a b r i.0 (g.within (level_of s) (2 * (key_of s / 2 ^ (level_of s + 1)) + 1) i.0.right (prefix_high k (key_of s) (level_of s) i.0.split f l))) i.1 g.trie e;
      map = λ x. map_branch s a r x e ∙ ap (λ o. either (map_of a x) o) (g.map x)
          ∙ cond_either (eqb x k) (Some p) (map_of a x) (map_of b x) (λ t. ap (map_of a) (at_key x k t) ∙ (node_right s a b k h e l).0)
          ∙ sym (ap (λ o. cond (eqb x k) (Some p) o) (map_branch s a b x e));
      within = λ n q w _. w;
    }

-- two tries whose keys a bit tells apart
pub linked_trie : (k n : ℕ) (t u : Tree) → split_at k n < 2 ^ 32 → n < 32 → IsTrie t → IsTrie u → Within t n (2 * (k / 2 ^ (n + 1))) → Within u n (2 * (k / 2 ^ (n + 1)) + 1) → IsTrie (Node (branch_shape (split_at k n) n) t u)
linked_trie k n t u s l h g w v =
    trie_branch (branch_shape (split_at k n) n) t u
    (record { shape = refl; key = s; level = l; split = sym (split_again k n); left = subst (λ (i : ℕ). Within t n (2 * i)) (sym (split_shorter k n)) w; right = subst (λ (i : ℕ). Within u n (2 * i + 1)) (sym (split_shorter k n)) v })
    h g refl

-- a split of a key is a key
pub split_small : (k n : ℕ) → k < 2 ^ 32 → n < 32 → split_at k n < 2 ^ 32
split_small k n h l =
    let w : 2 ^ 32 ≡ 2 ^ (31 - n) * 2 ^ (n + 1) = (let q : 32 ≡ (31 - n) + (n + 1) = omega arith in ap (λ (i : ℕ). 2 ^ i) q) ∙ pow-add 2 (31 - n) (n + 1) in
    let g : k / 2 ^ (n + 1) < 2 ^ (31 - n) = (div-lt_iff_lt-mul {k = 2 ^ (n + 1)} {x = k} {y = 2 ^ (31 - n)} (pow_pos (n + 1))).1 (subst (λ (i : ℕ). k < i) w h) in
    let m : split_at k n / 2 ^ (n + 1) < 2 ^ (31 - n) = subst (λ (i : ℕ). i < 2 ^ (31 - n)) (sym (split_shorter k n)) g in
    subst (λ (i : ℕ). split_at k n < i) (sym w) ((div-lt_iff_lt-mul {k = 2 ^ (n + 1)} {x = split_at k n} {y = 2 ^ (31 - n)} (pow_pos (n + 1))).0 m)

-- the prefixes of two keys that a bit tells apart
pub told_low : (k j n : ℕ) → k < j → k / 2 ^ n ≢ j / 2 ^ n → k / 2 ^ (n + 1) ≡ j / 2 ^ (n + 1) → (k / 2 ^ n ≡ 2 * (k / 2 ^ (n + 1))) × (j / 2 ^ n ≡ 2 * (k / 2 ^ (n + 1)) + 1)
told_low k j n l d e = let p = above_split j k n (omega arith) in let a = shorter k n in let b = shorter j n in (omega arith, omega arith)

-- a node whose block lacks a key is within the bits that tell its key and that one apart
pub below_bit : (s : Shape) (k n : ℕ) → k / 2 ^ top_of s ≢ key_of s / 2 ^ top_of s → k / 2 ^ (n + 1) ≡ key_of s / 2 ^ (n + 1) → top_of s ≤ n
below_bit s k n d e = elim (cases_lt n (top_of s)) [ inl l ↦ absurd (d (shorten k (key_of s) (n + 1) (top_of s) (omega arith) e)) | inr g ↦ g ]

-- and so is the branch over both
pub over_bit : (k j n m q : ℕ) → k / 2 ^ n ≢ j / 2 ^ n → j / 2 ^ m ≡ q → k / 2 ^ m ≡ q → n + 1 ≤ m
over_bit k j n m q d e f = elim (cases_lt n m) [ inl l ↦ omega arith | inr g ↦ absurd (d (shorten k j m n g (f ∙ sym e))) ]

pub absent : (s : Shape) (a b : Tree) (k : ℕ) → IsTrie (Node s a b) → k / 2 ^ top_of s ≢ key_of s / 2 ^ top_of s → map_of (Node s a b) k ≡ None
absent s a b k h d = outside (Node s a b) (top_of s) (key_of s / 2 ^ top_of s) k h (within_own s a b) d

leaf_within : (k n : ℕ) (p : Tree) → Within (leaf k p) n (k / 2 ^ n)
leaf_within k n p = (omega arith, refl)

node_linked_low : (s : Shape) (a b : Tree) (k n : ℕ) (p : Tree) → IsTrie (Node s a b) → k < 2 ^ 32 → depth p ≤ 95 → k / 2 ^ top_of s ≢ key_of s / 2 ^ top_of s
    → n < 32 → k / 2 ^ n ≢ key_of s / 2 ^ n → k / 2 ^ (n + 1) ≡ key_of s / 2 ^ (n + 1) → k < key_of s → Adds (Node s a b) k p (Node (branch_shape (split_at k n) n) (leaf k p) (Node s a b))
node_linked_low s a b k n p h l d f m g e c =
    let w = told_low k (key_of s) n c g e in
    record {
      trie = linked_trie k n (leaf k p) (Node s a b) (split_small k n l m) m (leaf_trie k p l d) h (omega arith, w.0) (below_bit s k n f e, w.1);
      map = λ x. ap (λ o. either o (map_of (Node s a b) x)) (leaf_map k p x)
          ∙ either_cond (eqb x k) (Some p) None (map_of (Node s a b) x) (λ t. ap (map_of (Node s a b)) (at_key x k t) ∙ absent s a b k h f);
      within = λ i q v o. (over_bit k (key_of s) n i q g v.1 o, shorten (split_at k n) k (n + 1) i (over_bit k (key_of s) n i q g v.1 o) (split_shorter k n) ∙ o);
    }

node_linked_high : (s : Shape) (a b : Tree) (k n : ℕ) (p : Tree) → IsTrie (Node s a b) → k < 2 ^ 32 → depth p ≤ 95 → k / 2 ^ top_of s ≢ key_of s / 2 ^ top_of s
    → n < 32 → k / 2 ^ n ≢ key_of s / 2 ^ n → k / 2 ^ (n + 1) ≡ key_of s / 2 ^ (n + 1) → key_of s < k → Adds (Node s a b) k p (Node (branch_shape (split_at k n) n) (Node s a b) (leaf k p))
node_linked_high s a b k n p h l d f m g e c =
    let w = told_low (key_of s) k n c (λ i. g (sym i)) (sym e) in
    record {
      trie = linked_trie k n (Node s a b) (leaf k p) (split_small k n l m) m h (leaf_trie k p l d) (below_bit s k n f e, w.0 ∙ ap (λ i. 2 * i) (sym e)) (omega arith, w.1 ∙ ap (λ i. 2 * i + 1) (sym e));
      map = λ x. ap (λ o. either (map_of (Node s a b) x) o) (leaf_map k p x)
          ∙ cond_either (eqb x k) (Some p) (map_of (Node s a b) x) None (λ t. ap (map_of (Node s a b)) (at_key x k t) ∙ absent s a b k h f)
          ∙ ap (λ o. cond (eqb x k) (Some p) o) (none_either (map_of (Node s a b) x) None refl);
      within = λ i q v o. (over_bit k (key_of s) n i q g v.1 o, shorten (split_at k n) k (n + 1) i (over_bit k (key_of s) n i q g v.1 o) (split_shorter k n) ∙ o);
    }

-- the same at a tree whose shape is known
pub added_leaf : (t : Tree) (s : Shape) (k : ℕ) (p : Tree) → IsTrie t → shape_is t s → is_leaf s ≡ true → key_of s ≡ k → k < 2 ^ 32 → depth p ≤ 95 → Adds t k p (leaf k p)
added_leaf Nil s k p h e = absurd e
added_leaf (Node z a b) s k p h e = subst (λ w. is_leaf w ≡ true → key_of w ≡ k → k < 2 ^ 32 → depth p ≤ 95 → Adds (Node z a b) k p (leaf k p)) (sym e) (node_added_leaf z a b k p h)

pub added_left : (t : Tree) (s : Shape) (k : ℕ) (p r : Tree) → IsTrie t → shape_is t s → is_leaf s ≡ false → k / 2 ^ top_of s ≡ key_of s / 2 ^ top_of s → k < key_of s → Adds (kid t 0) k p r → Adds t k p (Node s r (kid t 1))
added_left Nil s k p r h e = absurd e
added_left (Node z a b) s k p r h e =
    subst (λ w. is_leaf w ≡ false → k / 2 ^ top_of w ≡ key_of w / 2 ^ top_of w → k < key_of w → Adds a k p r → Adds (Node z a b) k p (Node w r b)) (sym e)
    (λ l f. node_added_left z a b k p r h l (subst (λ (i : ℕ). k / 2 ^ i ≡ key_of z / 2 ^ i) (top_branch z l) f))

pub added_right : (t : Tree) (s : Shape) (k : ℕ) (p r : Tree) → IsTrie t → shape_is t s → is_leaf s ≡ false → k / 2 ^ top_of s ≡ key_of s / 2 ^ top_of s → key_of s ≤ k → Adds (kid t 1) k p r → Adds t k p (Node s (kid t 0) r)
added_right Nil s k p r h e = absurd e
added_right (Node z a b) s k p r h e =
    subst (λ w. is_leaf w ≡ false → k / 2 ^ top_of w ≡ key_of w / 2 ^ top_of w → key_of w ≤ k → Adds b k p r → Adds (Node z a b) k p (Node w a r)) (sym e)
    (λ l f. node_added_right z a b k p r h l (subst (λ (i : ℕ). k / 2 ^ i ≡ key_of z / 2 ^ i) (top_branch z l) f))

pub linked_low : (t : Tree) (s : Shape) (k n : ℕ) (p : Tree) → IsTrie t → shape_is t s → k < 2 ^ 32 → depth p ≤ 95 → k / 2 ^ top_of s ≢ key_of s / 2 ^ top_of s
    → n < 32 → k / 2 ^ n ≢ key_of s / 2 ^ n → k / 2 ^ (n + 1) ≡ key_of s / 2 ^ (n + 1) → k < key_of s → Adds t k p (Node (branch_shape (split_at k n) n) (leaf k p) t)
linked_low Nil s k n p h e = absurd e
linked_low (Node z a b) s k n p h e =
    subst (λ w. k < 2 ^ 32 → depth p ≤ 95 → k / 2 ^ top_of w ≢ key_of w / 2 ^ top_of w → n < 32 → k / 2 ^ n ≢ key_of w / 2 ^ n → k / 2 ^ (n + 1) ≡ key_of w / 2 ^ (n + 1) → k < key_of w
    → Adds (Node z a b) k p (Node (branch_shape (split_at k n) n) (leaf k p) (Node z a b))) (sym e) (node_linked_low z a b k n p h)

pub linked_high : (t : Tree) (s : Shape) (k n : ℕ) (p : Tree) → IsTrie t → shape_is t s → k < 2 ^ 32 → depth p ≤ 95 → k / 2 ^ top_of s ≢ key_of s / 2 ^ top_of s
    → n < 32 → k / 2 ^ n ≢ key_of s / 2 ^ n → k / 2 ^ (n + 1) ≡ key_of s / 2 ^ (n + 1) → key_of s < k → Adds t k p (Node (branch_shape (split_at k n) n) t (leaf k p))
linked_high Nil s k n p h e = absurd e
linked_high (Node z a b) s k n p h e =
    subst (λ w. k < 2 ^ 32 → depth p ≤ 95 → k / 2 ^ top_of w ≢ key_of w / 2 ^ top_of w → n < 32 → k / 2 ^ n ≢ key_of w / 2 ^ n → k / 2 ^ (n + 1) ≡ key_of w / 2 ^ (n + 1) → key_of w < k
    → Adds (Node z a b) k p (Node (branch_shape (split_at k n) n) (Node z a b) (leaf k p))) (sym e) (node_linked_high z a b k n p h)

pub added_depth : (t : Tree) (k : ℕ) (p r : Tree) → Adds t k p r → depth r ≤ 128
added_depth t k p r a = depth_trie r a.trie

unchanged : (c : Bool) (o : Option Tree) → (c ≡ true → o ≡ None) → cond c None o ≡ o
unchanged true o f = sym (f refl)
unchanged false o f = refl

-- the key alone
node_removed_leaf : (s : Shape) (a b : Tree) (k : ℕ) → is_leaf s ≡ true → key_of s ≡ k → Removes (Node s a b) k Nil
node_removed_leaf s a b k e f = record {
  map = tt;
  pairs = λ x. sym (ap (λ o. cond (eqb x k) None o) (map_leaf s a b x e) ∙ test_same (key_of s) k x None (Some a) None f ∙ unchanged (eqb x k) None (λ _. refl));
  within = λ n q w d. absurd (d refl);
}

-- a key that isn't there
node_removed_absent : (s : Shape) (a b : Tree) (k : ℕ) → IsTrie (Node s a b) → k / 2 ^ top_of s ≢ key_of s / 2 ^ top_of s → Removes (Node s a b) k (Node s a b)
node_removed_absent s a b k h d = record {
  map = h;
  pairs = λ x. sym (unchanged (eqb x k) (map_of (Node s a b) x) (λ t. ap (map_of (Node s a b)) (at_key x k t) ∙ absent s a b k h d));
  within = λ n q w _. w;
}

map_trie : (t : Tree) → IsMap t → t ≢ Nil → IsTrie t
map_trie Nil h d = absurd (d refl)
map_trie (Node s a b) h d = h

-- the left side without the key
node_removed_left : (s : Shape) (a b : Tree) (k : ℕ) (r : Tree) → IsTrie (Node s a b) → is_leaf s ≡ false → k < key_of s → Removes a k r → r ≢ Nil → Removes (Node s a b) k (Node s r b)
node_removed_left s a b k r h e l g d =
    let i = branch_of s a b h e in
    record {
      map = trie_branch s r b (replaced_left s a b r i.0 (g.within (level_of s) (2 * (key_of s / 2 ^ (level_of s + 1))) i.0.left d)) (map_trie r g.map d) i.2 e;
      pairs = λ x. map_branch s r b x e ∙ ap (λ o. either o (map_of b x)) (g.pairs x)
          ∙ either_cond (eqb x k) None (map_of a x) (map_of b x) (λ t. ap (map_of b) (at_key x k t) ∙ (node_left s a b k h e l).0)
          ∙ sym (ap (λ o. cond (eqb x k) None o) (map_branch s a b x e));
      within = λ n q w _. w;
    }

node_removed_right : (s : Shape) (a b : Tree) (k : ℕ) (r : Tree) → IsTrie (Node s a b) → is_leaf s ≡ false → key_of s ≤ k → Removes b k r → r ≢ Nil → Removes (Node s a b) k (Node s a r)
node_removed_right s a b k r h e l g d =
    let i = branch_of s a b h e in
    record {
      map = trie_branch s a r (replaced_right s a b r i.0 (g.within (level_of s) (2 * (key_of s / 2 ^ (level_of s + 1)) + 1) i.0.right d)) i.1 (map_trie r g.map d) e;
      pairs = λ x. map_branch s a r x e ∙ ap (λ o. either (map_of a x) o) (g.pairs x)
          ∙ cond_either (eqb x k) None (map_of a x) (map_of b x) (λ t. ap (map_of a) (at_key x k t) ∙ (node_right s a b k h e l).0)
          ∙ sym (ap (λ o. cond (eqb x k) None o) (map_branch s a b x e));
      within = λ n q w _. w;
    }

trie_map : (t : Tree) → IsTrie t → IsMap t
trie_map Nil h = tt
trie_map (Node s a b) h = h

half_even : (g : ℕ) → 2 * g / 2 ≡ g
half_even g = omega arith

half_odd : (g : ℕ) → (2 * g + 1) / 2 ≡ g
half_odd g = omega arith

-- a side is within every block of its branch
side_within : (s : Shape) (t : Tree) (p n q : ℕ) → is_leaf s ≡ false → Within t (level_of s) p → p / 2 ≡ key_of s / 2 ^ (level_of s + 1) → top_of s ≤ n → key_of s / 2 ^ n ≡ q → Within t n q
side_within s Nil p n q e w f l g = w
side_within s (Node z a b) p n q e w f l g =
    let u : level_of s + 1 ≤ n = omega (arith, top_branch s e) in (
      omega (arith, w.0),
      shorten (key_of z) (key_of s) (level_of s + 1) n u (shorter (key_of z) (level_of s) ∙ ap (λ (i : ℕ). i / 2) w.1 ∙ f) ∙ g,
    )

-- one side alone is left
node_left_gone : (s : Shape) (a b : Tree) (k : ℕ) → IsTrie (Node s a b) → is_leaf s ≡ false → k < key_of s → Removes a k Nil → Removes (Node s a b) k b
node_left_gone s a b k h e l g =
    let i = branch_of s a b h e in
    record {
      map = trie_map b i.2;
      pairs = λ x. ap (λ o. either o (map_of b x)) (g.pairs x)
          ∙ either_cond (eqb x k) None (map_of a x) (map_of b x) (λ t. ap (map_of b) (at_key x k t) ∙ (node_left s a b k h e l).0)
          ∙ sym (ap (λ o. cond (eqb x k) None o) (map_branch s a b x e));
      within = λ n q w _. side_within s b (2 * (key_of s / 2 ^ (level_of s + 1)) + 1) n q e i.0.right (half_odd (key_of s / 2 ^ (level_of s + 1))) w.0 w.1;
    }

node_right_gone : (s : Shape) (a b : Tree) (k : ℕ) → IsTrie (Node s a b) → is_leaf s ≡ false → key_of s ≤ k → Removes b k Nil → Removes (Node s a b) k a
node_right_gone s a b k h e l g =
    let i = branch_of s a b h e in
    record {
      map = trie_map a i.1;
      pairs = λ x. sym (none_either (map_of a x) None refl) ∙ ap (λ o. either (map_of a x) o) (g.pairs x)
          ∙ cond_either (eqb x k) None (map_of a x) (map_of b x) (λ t. ap (map_of a) (at_key x k t) ∙ (node_right s a b k h e l).0)
          ∙ sym (ap (λ o. cond (eqb x k) None o) (map_branch s a b x e));
      within = λ n q w _. side_within s a (2 * (key_of s / 2 ^ (level_of s + 1))) n q e i.0.left (half_even (key_of s / 2 ^ (level_of s + 1))) w.0 w.1;
    }

pub removed_leaf : (t : Tree) (s : Shape) (k : ℕ) → IsTrie t → shape_is t s → is_leaf s ≡ true → key_of s ≡ k → Removes t k Nil
removed_leaf Nil s k h e = absurd e
removed_leaf (Node z a b) s k h e = subst (λ w. is_leaf w ≡ true → key_of w ≡ k → Removes (Node z a b) k Nil) (sym e) (node_removed_leaf z a b k)

pub removed_absent : (t : Tree) (s : Shape) (k : ℕ) → IsTrie t → shape_is t s → k / 2 ^ top_of s ≢ key_of s / 2 ^ top_of s → Removes t k t
removed_absent Nil s k h e = absurd e
removed_absent (Node z a b) s k h e = subst (λ w. k / 2 ^ top_of w ≢ key_of w / 2 ^ top_of w → Removes (Node z a b) k (Node z a b)) (sym e) (node_removed_absent z a b k h)

pub removed_left : (t : Tree) (s : Shape) (k : ℕ) (r : Tree) → IsTrie t → shape_is t s → is_leaf s ≡ false → k < key_of s → Removes (kid t 0) k r → r ≢ Nil → Removes t k (Node s r (kid t 1))
removed_left Nil s k r h e = absurd e
removed_left (Node z a b) s k r h e = subst (λ w. is_leaf w ≡ false → k < key_of w → Removes a k r → r ≢ Nil → Removes (Node z a b) k (Node w r b)) (sym e) (node_removed_left z a b k r h)

pub removed_right : (t : Tree) (s : Shape) (k : ℕ) (r : Tree) → IsTrie t → shape_is t s → is_leaf s ≡ false → key_of s ≤ k → Removes (kid t 1) k r → r ≢ Nil → Removes t k (Node s (kid t 0) r)
removed_right Nil s k r h e = absurd e
removed_right (Node z a b) s k r h e = subst (λ w. is_leaf w ≡ false → key_of w ≤ k → Removes b k r → r ≢ Nil → Removes (Node z a b) k (Node w a r)) (sym e) (node_removed_right z a b k r h)

pub left_gone : (t : Tree) (s : Shape) (k : ℕ) → IsTrie t → shape_is t s → is_leaf s ≡ false → k < key_of s → Removes (kid t 0) k Nil → Removes t k (kid t 1)
left_gone Nil s k h e = absurd e
left_gone (Node z a b) s k h e = subst (λ w. is_leaf w ≡ false → k < key_of w → Removes a k Nil → Removes (Node z a b) k b) (sym e) (node_left_gone z a b k h)

pub right_gone : (t : Tree) (s : Shape) (k : ℕ) → IsTrie t → shape_is t s → is_leaf s ≡ false → key_of s ≤ k → Removes (kid t 1) k Nil → Removes t k (kid t 0)
right_gone Nil s k h e = absurd e
right_gone (Node z a b) s k h e = subst (λ w. is_leaf w ≡ false → key_of w ≤ k → Removes b k Nil → Removes (Node z a b) k a) (sym e) (node_right_gone z a b k h)

pub low_depth : (t : Tree) (s : Shape) (k n : ℕ) (p : Tree) → IsTrie t → shape_is t s → k < 2 ^ 32 → depth p ≤ 95 → k / 2 ^ top_of s ≢ key_of s / 2 ^ top_of s
    → n < 32 → k / 2 ^ n ≢ key_of s / 2 ^ n → k / 2 ^ (n + 1) ≡ key_of s / 2 ^ (n + 1) → k < key_of s → depth (Node (branch_shape (split_at k n) n) (leaf k p) t) ≤ 128
low_depth t s k n p h e l d f m g o c = depth_trie (Node (branch_shape (split_at k n) n) (leaf k p) t) (linked_low t s k n p h e l d f m g o c).trie

pub high_depth : (t : Tree) (s : Shape) (k n : ℕ) (p : Tree) → IsTrie t → shape_is t s → k < 2 ^ 32 → depth p ≤ 95 → k / 2 ^ top_of s ≢ key_of s / 2 ^ top_of s
    → n < 32 → k / 2 ^ n ≢ key_of s / 2 ^ n → k / 2 ^ (n + 1) ≡ key_of s / 2 ^ (n + 1) → key_of s < k → depth (Node (branch_shape (split_at k n) n) t (leaf k p)) ≤ 128
high_depth t s k n p h e l d f m g o c = depth_trie (Node (branch_shape (split_at k n) n) t (leaf k p)) (linked_high t s k n p h e l d f m g o c).trie

-- keys with other prefixes are other keys
pub not_key : (k j n : ℕ) → k / 2 ^ n ≢ j / 2 ^ n → k ≢ j
not_key k j n d e = d (ap (λ (i : ℕ). i / 2 ^ n) e)

pub ruleset link_facts = (key_small, low_depth, high_depth, linked_low, linked_high, not_key)

pub left_depth : (t : Tree) (s : Shape) (k : ℕ) (p r : Tree) → IsTrie t → shape_is t s → is_leaf s ≡ false → k / 2 ^ top_of s ≡ key_of s / 2 ^ top_of s → k < key_of s → Adds (kid t 0) k p r → depth (Node s r (kid t 1)) ≤ 128
left_depth t s k p r h e l f m a = depth_trie (Node s r (kid t 1)) (added_left t s k p r h e l f m a).trie

pub right_depth : (t : Tree) (s : Shape) (k : ℕ) (p r : Tree) → IsTrie t → shape_is t s → is_leaf s ≡ false → k / 2 ^ top_of s ≡ key_of s / 2 ^ top_of s → key_of s ≤ k → Adds (kid t 1) k p r → depth (Node s (kid t 0) r) ≤ 128
right_depth t s k p r h e l f m a = depth_trie (Node s (kid t 0) r) (added_right t s k p r h e l f m a).trie

pub ruleset add_facts = (kids_of_trie, below_trie, level_small, added_leaf)

not_nil : (t : Tree) → IsTrie t → t ≢ Nil
not_nil t h e = no_nil (subst IsTrie e h)

-- the same at an answer that may be a hold
pub shrunk_left : {H : Type 0} (name : H → ℕ) (b : Bag) (t : Tree) (s : Shape) (k : ℕ) (o : Option H) → IsTrie t → shape_is t s → is_leaf s ≡ false → k < key_of s → RemovesIn name b (kid t 0) k o
    → Removes t k (left_shrunk name b s t o) × IsTrie (left_shrunk name b s t o)
shrunk_left name b t s k None h e l m g = (left_gone t s k h e l m g, below_trie t s 1 h e l)
shrunk_left name b t s k (Some r) h e l m g =
    let d = not_nil (b.tree (name r)) g.1 in let w = removed_left t s k (b.tree (name r)) h e l m g.0 d in (w, w.map)

pub shrunk_right : {H : Type 0} (name : H → ℕ) (b : Bag) (t : Tree) (s : Shape) (k : ℕ) (o : Option H) → IsTrie t → shape_is t s → is_leaf s ≡ false → key_of s ≤ k → RemovesIn name b (kid t 1) k o
    → Removes t k (right_shrunk name b s t o) × IsTrie (right_shrunk name b s t o)
shrunk_right name b t s k None h e l m g = (right_gone t s k h e l m g, below_trie t s 0 h e l)
shrunk_right name b t s k (Some r) h e l m g =
    let d = not_nil (b.tree (name r)) g.1 in let w = removed_right t s k (b.tree (name r)) h e l m g.0 d in (w, w.map)

pub shrunk_left_depth : {H : Type 0} (name : H → ℕ) (b : Bag) (t : Tree) (s : Shape) (k : ℕ) (o : Option H) → IsTrie t → shape_is t s → is_leaf s ≡ false → k < key_of s → RemovesIn name b (kid t 0) k o → depth (left_shrunk name b s t o) ≤ 128
shrunk_left_depth name b t s k o h e l m g = depth_trie (left_shrunk name b s t o) (shrunk_left name b t s k o h e l m g).1

pub shrunk_right_depth : {H : Type 0} (name : H → ℕ) (b : Bag) (t : Tree) (s : Shape) (k : ℕ) (o : Option H) → IsTrie t → shape_is t s → is_leaf s ≡ false → key_of s ≤ k → RemovesIn name b (kid t 1) k o → depth (right_shrunk name b s t o) ≤ 128
shrunk_right_depth name b t s k o h e l m g = depth_trie (right_shrunk name b s t o) (shrunk_right name b t s k o h e l m g).1

pub ruleset remove_facts = (kids_of_trie, below_trie, level_small, removed_absent, removed_leaf)

-- a map of one pair
pub added_first : (k : ℕ) (p : Tree) → k < 2 ^ 32 → depth p ≤ 95 → Adds Nil k p (leaf k p)
added_first k p h d = record { trie = leaf_trie k p h d; map = leaf_map k p; within = λ n q w _. absurd w }

-- an answer stays what it is while another hold goes
pub removes_kept : {H : Type 0} (name : H → ℕ) (b c : Bag) (n : ℕ) (t u : Tree) (k : ℕ) (o : Option H) → t ≡ u → ((x : ℕ) → map_out name o x + one n x ≤ b.count x) → Trades b c (one n) none → RemovesIn name b t k o → RemovesIn name c u k o
removes_kept name b c n t u k None e l w g = subst (λ v. Removes v k Nil) e g
removes_kept name b c n t u k (Some h) e l w g =
    let q : c.tree (name h) ≡ b.tree (name h) = w.trees (name h) (omega (arith, l (name h), one_self (name h))) in
    (subst (λ v. Removes v k (c.tree (name h))) e (subst (λ v. Removes t k v) (sym q) g.0), subst IsTrie (sym q) g.1)

pub root_kept : {H : Type 0} (name : H → ℕ) (a b c : Bag) (n : ℕ) (t : Tree) (k : ℕ) (r : Result (Option H) StoreStop) → ((x : ℕ) → one n x ≤ a.count x) → IfOk r (λ o. Trades a b none (map_out name o)) → Trades b c (one n) none
    → IfOk r (λ o. RemovesIn name b t k o) → IfOk r (λ o. RemovesIn name c t k o)
root_kept name a b c n t k (Ok o) l u w g = removes_kept name b c n t t k o refl (λ x. omega (arith, u.counts x, l x)) w g
root_kept name a b c n t k (Err e) l u w g = tt

-- a map that is held stays one while other holds go and come
pub map_kept : {H : Type 0} (name : H → ℕ) (b c : Bag) (out come : ℕ → ℕ) (o : Option H) → Trades b c out come → ((x : ℕ) → map_out name o x + out x ≤ b.count x) → MapIn name b o → MapIn name c o
map_kept name b c out come None w l g = tt
map_kept name b c out come (Some h) w l g = subst IsTrie (sym (w.trees (name h) (omega (arith, l (name h), one_self (name h))))) g

pub map_held : {H : Type 0} (name : H → ℕ) (b : Bag) (o : Option H) → ((x : ℕ) → map_out name o x ≤ b.count x) → IfSome o (λ h. 0 < b.count (name h))
map_held name b None l = tt
map_held name b (Some h) l = omega (arith, l (name h), one_self (name h))

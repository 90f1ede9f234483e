use Rattle.std.specs.Prelude.{ℕ, ◌+◌, ◌*◌, ◌<◌, ◌≤◌, ◌≡◌, ◌≢◌, ◌/◌, ◌^◌, eqb, cond, Bool, Option, Some, None, slice_index, List, [], ◌∷◌, ◌++◌}
use Rattle.store_api.specs.declared.Shape.{Shape}
use Rattle.store_api.specs.Tree.{Tree, Nil, Node, depth, kid}
use Rattle.store_api.specs.Bag.{Bag, none, one}

-- a leaf has head 1, its key, and its payload as its one subtree
abbrev pub leaf_shape : ℕ → Shape
leaf_shape k = record { head = 1; body = k ∷ 0 ∷ 0 ∷ 0 ∷ 0 ∷ 0 ∷ 0 ∷ 0 ∷ []; kids = 1 }

abbrev pub leaf : ℕ → Tree → Tree
leaf k p = Node (leaf_shape k) p Nil

-- a branch has head 2, the least key that its right side may have, and the number of the bit that tells the sides apart
abbrev pub branch_shape : ℕ → ℕ → Shape
branch_shape split level = record { head = 2; body = split ∷ level ∷ 0 ∷ 0 ∷ 0 ∷ 0 ∷ 0 ∷ 0 ∷ []; kids = 2 }

abbrev pub is_leaf : Shape → Bool
is_leaf s = eqb s.head 1

-- the key of a leaf, the split of a branch
abbrev pub key_of : Shape → ℕ
key_of s = slice_index s.body 0

abbrev pub level_of : Shape → ℕ
level_of s = slice_index s.body 1

-- all keys of a node agree from this bit on
abbrev pub top_of : Shape → ℕ
top_of s = cond (is_leaf s) 0 (level_of s + 1)

-- the first that is there
abbrev pub either : Option Tree → Option Tree → Option Tree
either (Some t) o = Some t
either None o = o

-- the finite map of a trie: the key of each leaf, with its payload
abbrev pub map_of : Tree → ℕ → Option Tree
map_of Nil k = None
map_of (Node s a b) k = cond (is_leaf s) (cond (eqb (key_of s) k) (Some a) None) (either (map_of a k) (map_of b k))

-- its pairs, by rising key where it is canonical
abbrev pub entries : Tree → List (ℕ × Tree)
entries Nil = []
entries (Node s a b) = cond (is_leaf s) ((key_of s, a) ∷ []) (entries a ++ entries b)

-- all keys have the prefix q: their bits from number n on, as a number
abbrev pub Within : Tree → ℕ → ℕ → Type 0
Within Nil n q = ⊥
Within (Node s a b) n q = (top_of s ≤ n) × (key_of s / 2 ^ n ≡ q)

-- where the block of a key is split at a level: the prefix behind the bit, then 1, then zeros
unfoldable pub split_at : ℕ → ℕ → ℕ
split_at k n = (2 * (k / 2 ^ (n + 1)) + 1) * 2 ^ n

pub record IsLeaf (s : Shape) (a b : Tree) : Type 0 where
  pub shape : s ≡ leaf_shape (key_of s)
  pub key : key_of s < 2 ^ 32
  pub depth : depth a ≤ 95
  pub none : b ≡ Nil

-- the sides have the two prefixes that a bit tells apart, so the branch has the longest prefix of its keys
pub record IsBranch (s : Shape) (a b : Tree) : Type 0 where
  pub shape : s ≡ branch_shape (key_of s) (level_of s)
  pub key : key_of s < 2 ^ 32
  pub level : level_of s < 32
  pub split : key_of s ≡ split_at (key_of s) (level_of s)
  pub left : Within a (level_of s) (2 * (key_of s / 2 ^ (level_of s + 1)))
  pub right : Within b (level_of s) (2 * (key_of s / 2 ^ (level_of s + 1)) + 1)

-- a canonical trie that isn't empty, after Okasaki and Gill
unfoldable pub IsTrie : Tree → Type 0
IsTrie Nil = ⊥
IsTrie (Node s a b) = cond (is_leaf s) (IsLeaf s a b) (IsBranch s a b × IsTrie a × IsTrie b)

-- a canonical trie, or none
abbrev pub IsMap : Tree → Type 0
IsMap Nil = Unit {0}
IsMap (Node s a b) = IsTrie (Node s a b)

-- the trie of a map, and Nil where it is empty
abbrev pub map_tree : {H : Type 0} → (H → ℕ) → Bag → Option H → Tree
map_tree name b None = Nil
map_tree name b (Some h) = b.tree (name h)

-- the hold of a map
abbrev pub map_out : {H : Type 0} → (H → ℕ) → Option H → ℕ → ℕ
map_out name None = none
map_out name (Some h) = one (name h)

-- r is t with the pair k, p
pub record Adds (t : Tree) (k : ℕ) (p r : Tree) : Type 0 where
  pub trie : IsTrie r
  pub map : (x : ℕ) → map_of r x ≡ cond (eqb x k) (Some p) (map_of t x)
  pub within : (n q : ℕ) → Within t n q → k / 2 ^ n ≡ q → Within r n q

-- r is t without the key k, or no trie
pub record Removes (t : Tree) (k : ℕ) (r : Tree) : Type 0 where
  pub map : IsMap r
  pub pairs : (x : ℕ) → map_of r x ≡ cond (eqb x k) None (map_of t x)
  pub within : (n q : ℕ) → Within t n q → r ≢ Nil → Within r n q

-- a map that is a trie where it isn't empty
abbrev pub MapIn : {H : Type 0} → (H → ℕ) → Bag → Option H → Type 0
MapIn name b None = Unit {0}
MapIn name b (Some h) = IsTrie (b.tree (name h))

-- what is left of a trie without a key
abbrev pub RemovesIn : {H : Type 0} → (H → ℕ) → Bag → Tree → ℕ → Option H → Type 0
RemovesIn name b t k None = Removes t k Nil
RemovesIn name b t k (Some h) = Removes t k (b.tree (name h)) × IsTrie (b.tree (name h))

-- a branch with what is left of its left side, or its right side alone
abbrev pub left_shrunk : {H : Type 0} → (H → ℕ) → Bag → Shape → Tree → Option H → Tree
left_shrunk name b s t None = kid t 1
left_shrunk name b s t (Some h) = Node s (b.tree (name h)) (kid t 1)

-- the same for the right side
abbrev pub right_shrunk : {H : Type 0} → (H → ℕ) → Bag → Shape → Tree → Option H → Tree
right_shrunk name b s t None = kid t 0
right_shrunk name b s t (Some h) = Node s (kid t 0) (b.tree (name h))

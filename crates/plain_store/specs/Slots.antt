use Rattle.std.specs.Prelude.{ℕ, zero, suc, ◌+◌, ◌<◌, ◌≤◌, ◌≡◌, cond, ltb, List, [], length, max, None, ℤ}
use Rattle.std.specs.List.{sum_by}
use Rattle.std.proofs.Common.{get_or}
use Rattle.store_api.specs.Tree.{Tree, Nil, Node}
use Rattle.store_api.specs.Bag.{Bag, one}
use Rattle.plain_store.specs.declared.slot.Slot.{Slot}

-- what stands past the end of the list
abbrev pub no_slot : Slot
no_slot = record { shape = record { head = 0; body = []; kids = 0 }; first = 0; second = 0; depth = 0; holds = 0; parents = 0; next = None }

abbrev pub at : List Slot → ℕ → Slot
at ns i = get_or ns i no_slot

-- the tree of a node, given what its indexes stand for
abbrev pub node_tree : Slot → (ℕ → Tree) → Tree
node_tree n below = Node n.shape (cond (ltb 0 n.shape.kids) (below n.first) Nil) (cond (ltb 1 n.shape.kids) (below n.second) Nil)

-- the tree at an index, so many levels of it
unfoldable pub tree_at : List Slot → ℕ → ℕ → Tree
tree_at ns zero i = Nil
tree_at ns (suc levels) i = node_tree (at ns i) (tree_at ns levels)

-- what a list of slots means, with what else the store keeps
abbrev pub bag_of : List Slot → List ℤ → ℕ → ℕ → Bag
bag_of ns about looks misses = record { count = λ i. (at ns i).holds; tree = λ i. tree_at ns 128 i; about = about; home = []; stops = 0; looks = looks; misses = misses }

abbrev pub deepest : List Slot → Slot → ℕ
deepest ns n = max (cond (ltb 0 n.shape.kids) (at ns n.first).depth 0) (cond (ltb 1 n.shape.kids) (at ns n.second).depth 0)

-- how often a node names x as a subtree
unfoldable pub names : Slot → ℕ → ℕ
names n x = cond (ltb 0 n.shape.kids) (one n.first x) 0 + cond (ltb 1 n.shape.kids) (one n.second x) 0

-- how often any node names x
unfoldable pub named : List Slot → ℕ → ℕ
named ns x = sum_by (λ n. names n x) ns

-- all holds
unfoldable pub held : List Slot → ℕ
held ns = sum_by (λ n. n.holds) ns

-- the subtrees of each node are there and less deep
pub record Ordered (ns : List Slot) : Type 0 where
  pub deep : (i : ℕ) → i < length ns → (at ns i).depth ≤ 128
  pub exact : (i : ℕ) → i < length ns → (at ns i).depth ≡ deepest ns (at ns i) + 1
  pub first : (i : ℕ) → i < length ns → 0 < (at ns i).shape.kids → (at ns i).first < length ns
  pub second : (i : ℕ) → i < length ns → 1 < (at ns i).shape.kids → (at ns i).second < length ns

-- and each node knows how many name it as a subtree
pub record Sound (ns : List Slot) : Type 0 where
  pub ordered : Ordered ns
  pub parents : (x : ℕ) → (at ns x).parents ≡ named ns x

-- what a new node needs: its subtrees are held, and it is held once
pub record Stands (ns : List Slot) (n : Slot) : Type 0 where
  pub deep : n.depth ≤ 128
  pub exact : n.depth ≡ deepest ns n + 1
  pub first : 0 < n.shape.kids → 0 < (at ns n.first).holds
  pub second : 1 < n.shape.kids → 0 < (at ns n.second).holds
  pub holds : n.holds ≡ 1
  pub parents : n.parents ≡ 0

-- the holds of out went and those of come came; what stays held keeps its tree
pub record Changes (ns ms : List Slot) (out come : ℕ → ℕ) : Type 0 where
  pub counts : (x : ℕ) → (at ms x).holds + out x ≡ (at ns x).holds + come x
  pub trees : (x : ℕ) → out x < (at ns x).holds → tree_at ms 128 x ≡ tree_at ns 128 x

-- lists that differ in their links and in how many parents their nodes have
pub record Recounts (ns ms : List Slot) (less more : ℕ → ℕ) : Type 0 where
  pub length : length ms ≡ length ns
  pub shape : (i : ℕ) → (at ms i).shape ≡ (at ns i).shape
  pub first : (i : ℕ) → (at ms i).first ≡ (at ns i).first
  pub second : (i : ℕ) → (at ms i).second ≡ (at ns i).second
  pub depth : (i : ℕ) → (at ms i).depth ≡ (at ns i).depth
  pub holds : (i : ℕ) → (at ms i).holds ≡ (at ns i).holds
  pub held : held ms ≡ held ns
  pub named : (x : ℕ) → named ms x ≡ named ns x
  pub parents : (x : ℕ) → (at ms x).parents + less x ≡ (at ns x).parents + more x

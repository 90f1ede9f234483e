use Rattle.std.specs.Prelude.{ℕ, ◌+◌, ◌<◌, ◌≤◌, ◌≡◌, ◌≢◌, ◌/◌, ◌^◌, ◌⊎◌, Bool, IsTrue, Option, Some, None, List, ℤ, false}
use Rattle.store_api.specs.declared.Shape.{Shape}
use Rattle.store_api.specs.Tree.{Tree}
use Rattle.hptmap.specs.Trie.{IsTrie, Within, is_leaf, key_of, level_of, map_of, top_of}
use Rattle.hptmap.specs.Leaves.{LeafMeaning}
use Rattle.hptmap.specs.declared.way.Way.{Way}
use Rattle.hptmap.specs.declared.way.Way.TheVariants.{Join, Widen, JoinBack, WidenBack}
use Rattle.hptmap.specs.declared.order.Blocks.{Blocks}
use Rattle.hptmap.specs.declared.order.Blocks.TheVariants.{Equal, Around, Inside, Apart}

-- what is made of two payloads
abbrev pub merged : LeafMeaning → Way → Tree → Tree → Tree
merged m Join = m.join
merged m Widen = m.widen
merged m JoinBack = λ a b. m.join b a
merged m WidenBack = λ a b. m.widen b a

abbrev pub takes_in : LeafMeaning → List ℤ → Way → Tree → Tree → Bool
takes_in m about Join = m.takes about
takes_in m about Widen = m.takes about
takes_in m about JoinBack = λ a b. m.takes about b a
takes_in m about WidenBack = λ a b. m.takes about b a

-- the same with the sides swapped
abbrev pub back : Way → Way
back Join = JoinBack
back Widen = WidenBack
back JoinBack = Join
back WidenBack = Widen

-- the payload of a key in a union: what both sides have is merged
abbrev pub united : (Tree → Tree → Tree) → Option Tree → Option Tree → Option Tree
united f None o = o
united f (Some a) None = Some a
united f (Some a) (Some b) = Some (f a b)

-- the payloads of each common key are taken
unfoldable pub TakesAll : (Tree → Tree → Bool) → Tree → Tree → Type 0
TakesAll takes t u = (x : ℕ) (a b : Tree) → map_of t x ≡ Some a → map_of u x ≡ Some b → IsTrue (takes a b)

-- r is the union of t and u
pub record Merges (f : Tree → Tree → Tree) (t u r : Tree) : Type 0 where
  pub trie : IsTrie r
  pub map : (x : ℕ) → map_of r x ≡ united f (map_of t x) (map_of u x)
  pub within : (n q : ℕ) → Within t n q → Within u n q → Within r n q

-- how the blocks of two nodes lie
abbrev pub Lies : Blocks → Shape → Shape → Type 0
Lies Equal s z = (top_of s ≡ top_of z) × (key_of z / 2 ^ top_of s ≡ key_of s / 2 ^ top_of s)
Lies Around s z = (top_of z < top_of s) × (key_of z / 2 ^ top_of s ≡ key_of s / 2 ^ top_of s)
Lies Inside s z = (top_of s < top_of z) × (key_of s / 2 ^ top_of z ≡ key_of z / 2 ^ top_of z)
Lies Apart s z = ((top_of s ≤ top_of z) × (key_of s / 2 ^ top_of z ≢ key_of z / 2 ^ top_of z)) ⊎ ((top_of z ≤ top_of s) × (key_of z / 2 ^ top_of s ≢ key_of s / 2 ^ top_of s))

-- u lies within the side of the branch s where the key k belongs
pub record OnSide (u : Tree) (s : Shape) (k : ℕ) : Type 0 where
  pub branch : is_leaf s ≡ false
  pub within : Within u (level_of s) (k / 2 ^ level_of s)
  pub prefix : k / 2 ^ (level_of s + 1) ≡ key_of s / 2 ^ (level_of s + 1)

-- whether the payload of a key is included
abbrev pub IncludedAt : (Tree → Tree → Bool) → Option Tree → Option Tree → Type 0
IncludedAt f None p = Unit {0}
IncludedAt f (Some a) None = ⊥
IncludedAt f (Some a) (Some b) = IsTrue (f a b)

-- each key of t is in u, with included payload
unfoldable pub Includes : (Tree → Tree → Bool) → Tree → Tree → Type 0
Includes f t u = (x : ℕ) → IncludedAt f (map_of t x) (map_of u x)

use Rattle.std.specs.Prelude.{ℕ, ◌+◌, ◌-◌, ◌^◌, ◌<◌, ◌≡◌, Bool, IsTrue, List, ℤ}
use Rattle.store_api.specs.Tree.{Tree}
use Rattle.store_api.specs.Bag.{Bag}

-- what a rule makes of the two payloads of a common key: whether it takes them in a store about this list, their
-- join, their widening, and whether the first is included in the second
pub record LeafMeaning : Type 0 where
  pub takes : List ℤ → Tree → Tree → Bool
  pub join : Tree → Tree → Tree
  pub widen : Tree → Tree → Tree
  pub included : Tree → Tree → Bool

-- join and widening of a tree with itself give that tree, which is included in itself
pub record Idempotent (m : LeafMeaning) : Type 0 where
  pub join : (about : List ℤ) (t : Tree) → IsTrue (m.takes about t t) → m.join t t ≡ t
  pub widen : (about : List ℤ) (t : Tree) → IsTrue (m.takes about t t) → m.widen t t ≡ t
  pub included : (about : List ℤ) (t : Tree) → IsTrue (m.takes about t t) → IsTrue (m.included t t)

-- a count rose by as much as the store's looks, where neither is at its end
unfoldable pub RisesWith : ℕ → ℕ → Bag → Bag → Type 0
RisesWith before now old new = now < 2 ^ 64 - 1 → new.looks < 2 ^ 64 - 1 → now + old.looks ≡ before + new.looks

-- what a map does with each pair: whether it takes the key and the payload, and the new payload
pub record PairMeaning : Type 0 where
  pub takes : ℕ → Tree → Bool
  pub replace : ℕ → Tree → Tree

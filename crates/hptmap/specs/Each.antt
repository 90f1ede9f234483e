use Rattle.std.specs.Prelude.{ℕ, ◌≡◌, Bool, IsTrue, Option, Some, None}
use Rattle.store_api.specs.Tree.{Tree}
use Rattle.hptmap.specs.Trie.{IsTrie, Within, map_of}

-- the payload of a key after its replacement
abbrev pub replaced_at : (Tree → Tree) → Option Tree → Option Tree
replaced_at f None = None
replaced_at f (Some a) = Some (f a)

-- each pair of a trie is taken
unfoldable pub TakesPairs : (ℕ → Tree → Bool) → Tree → Type 0
TakesPairs takes t = (x : ℕ) (a : Tree) → map_of t x ≡ Some a → IsTrue (takes x a)

-- r is t with each payload replaced
pub record Replaces (f : ℕ → Tree → Tree) (t r : Tree) : Type 0 where
  pub trie : IsTrie r
  pub map : (x : ℕ) → map_of r x ≡ replaced_at (f x) (map_of t x)
  pub within : (n q : ℕ) → Within t n q → Within r n q

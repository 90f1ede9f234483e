-- Pointers as tries.
use Rattle.std.specs.Prelude.{ℕ, ◌≡◌, List, Option, Some, None, eqb}
use Rattle.std.specs.List.{All}
use Rattle.std.specs.Map.{lookup}
use Rattle.store_api.specs.Tree.{Tree}
use Rattle.hptmap.specs.Trie.{entries, map_of}
use Rattle.ival.specs.declared.forms.Ival.{Ival}
use Rattle.avalue.specs.Pointers.{Pointer}
use Rattle.memory_trees.specs.Values.{IsIvalTree, ival_tree}

abbrev pub offsets_tree : Option Ival → Option Tree
offsets_tree None = None
offsets_tree (Some x) = Some (ival_tree x)

-- the trie has the tree of the offsets of each base
unfoldable pub Spells : List Pointer → Tree → Type 0
Spells ps t = (x : ℕ) → map_of t x ≡ offsets_tree (lookup (λ k. eqb k x) ps)

-- all payloads of a trie are trees of integer sets
unfoldable pub HasOffsets : Tree → Type 0
HasOffsets t = All (λ e. IsIvalTree e.1) (entries t)

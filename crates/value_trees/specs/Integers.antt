-- Integer sets as the nodes of their trees say them.
use Rattle.std.specs.Prelude.{ℕ, ◌-◌, ◌<◌, ◌≤◌, ◌≡◌, ◌++◌, take}
use Rattle.store_api.specs.declared.Shape.{Shape}
use Rattle.store_api.specs.Tree.{Tree, kid, shape_is}
use Rattle.ival.specs.declared.forms.Ival.{Ival}
use Rattle.ival.specs.declared.forms.Ival.TheVariants.{Range, Set}
use Rattle.memory_trees.specs.Values.{ival_of, number_at, numbers_at}

-- the range of a node's numbers
unfoldable pub range_in : Shape → Ival
range_in s = Range (number_at s 0) (number_at s 1) (number_at s 2) (number_at s 3)

-- the set of the first n numbers of a node, and of two nodes
unfoldable pub small_set : Shape → ℕ → Ival
small_set s n = Set (take n (numbers_at s))

unfoldable pub large_set : Shape → Shape → ℕ → Ival
large_set s z n = Set (take n (numbers_at s ++ numbers_at z))

-- s is the node of the tree of a set of numbers
pub record SpellsSet (t : Tree) (s : Shape) : Type 0 where
  pub above : 20 < s.head
  pub below : s.head ≤ 28
  pub small : s.head ≤ 24 → small_set s (s.head - 20) ≡ ival_of t
  pub large : 24 < s.head → (z : Shape) → shape_is (kid t 0) z → large_set s z (s.head - 20) ≡ ival_of t
  pub kids : 24 < s.head → s.kids ≡ 1

use Rattle.std.proofs.Common.{◌≤◌, length, drop}
use Rattle.store_api.specs.Bag.{Trades, none}
use Rattle.hptmap.specs.Trie.{MapIn, map_out, map_tree}
use Rattle.value_trees.specs.Pointers.{Spells}
use Rattle.value_trees.proofs.pointers.put_pointers.Given as goal

abbrev pub decreases-loop-i : goal.decreases-loop-i
decreases-loop-i g l = l.i

abbrev pub invariant-loop-i : goal.invariant-loop-i
invariant-loop-i g l = record {
  bag : Trades (g.S.Store.bag l.fn.s) (g.S.Store.bag l.s) none (map_out g.S.Store.name l.m.root);
  map : MapIn g.S.Store.name (g.S.Store.bag l.s) l.m.root;
  bound : l.i ≤ length l.ptrs;
  pairs : Spells (drop l.i l.ptrs) (map_tree g.S.Store.name (g.S.Store.bag l.s) l.m.root);
}

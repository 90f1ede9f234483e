use Rattle.std.proofs.Common.{◌≡◌, ℕ, Some, cond, eqb}
use Rattle.store_api.specs.Bag.{one}
use Rattle.hptmap.specs.Trie.{map_of, map_tree}
use Rattle.memory_trees.specs.Values.{ival_tree}
use Rattle.value_trees.proofs.Maps.{map_kept, ok_pairs, pairs_put}
use Rattle.value_trees.proofs.pointers.put_pointer.Goals as goal

pub add-requires-clause-map : goal.add-requires-clause-map
add-requires-clause-map g c =
    map_kept g.S.Store.name (g.S.Store.bag c.args.s.now) (g.S.Store.bag c.put_ival.new.s) (one (g.S.Store.name c.in-Ok.payload)) c.args.m.root c.in-Ok.ensures.ok.trades c.requires.owned c.requires.map

pub returns-in-Ok-clause-pairs : goal.returns-in-Ok-clause-pairs
returns-in-Ok-clause-pairs g c =
    ok_pairs c.add.result _ _
    (λ r h. pairs_put g.S.Store.name (g.S.Store.bag c.args.s.now) (g.S.Store.bag c.put_ival.new.s) (g.S.Store.bag c.add.new.s) (one (g.S.Store.name c.in-Ok.payload)) c.args.m.root r.root c.args.base
    ((g.S.Store.bag c.put_ival.new.s).tree (g.S.Store.name c.in-Ok.payload)) (ival_tree c.args.offsets.now) c.in-Ok.ensures.ok.trades c.requires.owned c.in-Ok.ensures.ok.tree h)
    c.add.ensures.pairs

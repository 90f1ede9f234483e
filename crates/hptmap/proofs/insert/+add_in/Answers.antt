use Rattle.std.proofs.Common.{arith}
use Rattle.store_api.specs.Bag.{one_self}
use Rattle.hptmap.proofs.Changes.{added_left, added_right, left_depth, right_depth}
use Rattle.hptmap.proofs.insert.+add_in.Goals as goal

pub with_left-requires-clause-depth : goal.with_left-requires-clause-depth
with_left-requires-clause-depth g t c = grind (arith, one_self, left_depth ((g.S.Store.bag c.args.s.now).tree (g.S.Store.name c.args.at.now)) c.look-node.result c.args.key ((g.S.Store.bag c.args.s.now).tree (g.S.Store.name c.args.payload.now)) ((g.S.Store.bag c.give_back-then-from-node.new.self).tree (g.S.Store.name c.in_ok-grown.field-0)))

pub returns-then-from-node-clause-adds : goal.returns-then-from-node-clause-adds
returns-then-from-node-clause-adds g t c = grind (arith, one_self, added_left ((g.S.Store.bag c.args.s.now).tree (g.S.Store.name c.args.at.now)) c.look-node.result c.args.key ((g.S.Store.bag c.args.s.now).tree (g.S.Store.name c.args.payload.now)) ((g.S.Store.bag c.give_back-then-from-node.new.self).tree (g.S.Store.name c.in_ok-grown.field-0)))

pub with_right-requires-clause-depth : goal.with_right-requires-clause-depth
with_right-requires-clause-depth g t c = grind (arith, one_self, right_depth ((g.S.Store.bag c.args.s.now).tree (g.S.Store.name c.args.at.now)) c.look-node.result c.args.key ((g.S.Store.bag c.args.s.now).tree (g.S.Store.name c.args.payload.now)) ((g.S.Store.bag c.give_back-2.new.self).tree (g.S.Store.name c.in_ok-grown-2.field-0)))

pub returns-clause-adds : goal.returns-clause-adds
returns-clause-adds g t c = grind (arith, one_self, added_right ((g.S.Store.bag c.args.s.now).tree (g.S.Store.name c.args.at.now)) c.look-node.result c.args.key ((g.S.Store.bag c.args.s.now).tree (g.S.Store.name c.args.payload.now)) ((g.S.Store.bag c.give_back-2.new.self).tree (g.S.Store.name c.in_ok-grown-2.field-0)))

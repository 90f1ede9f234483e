use Rattle.std.proofs.Common.{refl, arith}
use Rattle.store_api.specs.Counts.{Looked}
use Rattle.plain_store.proofs.Trees.{shape_read}
use Rattle.plain_store.proofs.store.PlainStoreStore.look.Goals as goal

pub returns-clause-shape : goal.returns-clause-shape
returns-clause-shape g c = shape_read c.args.self.now.slots.items c.args.h.now.at c.index.result.now c.requires c.index.ensures

pub returns-clause-counts : goal.returns-clause-counts
unfolding Looked
returns-clause-counts g c = record { stops = refl; looks = omega arith; misses = refl }

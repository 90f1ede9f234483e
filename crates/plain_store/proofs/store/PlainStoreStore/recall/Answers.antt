use Rattle.std.proofs.Common.{refl, arith}
use Rattle.store_api.specs.Counts.{Recalled}
use Rattle.plain_store.proofs.store.PlainStoreStore.recall.Goals as goal

pub returns-clause-counts : goal.returns-clause-counts
unfolding Recalled
returns-clause-counts g c = record { stops = refl; looks = refl; misses = omega arith }

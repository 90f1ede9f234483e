use Rattle.std.proofs.Common.{refl}
use Rattle.store_api.specs.Counts.{Quiet}
use Rattle.plain_store.proofs.store.PlainStoreStore.note.Goals as goal

pub returns-clause-counts : goal.returns-clause-counts
unfolding Quiet
returns-clause-counts g c = record { stops = refl; looks = refl; misses = refl }

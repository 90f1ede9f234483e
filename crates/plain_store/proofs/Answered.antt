use Rattle.std.proofs.Common.{ℕ, ◌≡◌, List, ℤ, refl, Result, Ok, Err, IfErr}
use Rattle.store_api.specs.declared.StoreStop.{StoreStop}
use Rattle.store_api.specs.declared.StoreStop.TheVariants.{Memory}
use Rattle.store_api.specs.Counts.{Answered, HoldStop}
use Rattle.plain_store.specs.declared.slot.Slot.{Slot}
use Rattle.plain_store.specs.declared.store.Hold.{Hold}
use Rattle.plain_store.specs.Slots.{bag_of}

-- the one stop is want of memory, which no count tells
pub answered : (r : Result Hold StoreStop) (ns ms : List Slot) (about : List ℤ) (looks misses : ℕ) → IfErr r (λ e. (e ≡ Memory) × (ms ≡ ns)) → Answered (bag_of ns about looks misses) (bag_of ms about looks misses) r
unfolding Answered
answered (Ok h) ns ms about looks misses p = record { stops = refl; looks = refl; misses = refl }
answered (Err e) ns ms about looks misses p = rw p.0 (record { stops = refl; looks = refl; misses = refl })

pub hold_stop : (r : Result Hold StoreStop) (ns ms : List Slot) → IfErr r (λ e. (e ≡ Memory) × (ms ≡ ns)) → IfErr r HoldStop
unfolding HoldStop
hold_stop (Ok h) ns ms p = tt
hold_stop (Err e) ns ms p = rw p.0 tt

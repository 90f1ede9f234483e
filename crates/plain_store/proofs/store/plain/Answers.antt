use Rattle.plain_store.proofs.Writes.{sound_empty, held_empty}
use Rattle.plain_store.proofs.store.plain.Goals as goal

pub invariant_of-result : goal.invariant_of-result
invariant_of-result g c = record { sound = rw c.new.ensures.items sound_empty; marked = rw (c.new.ensures.items, c.new-2.ensures.items) held_empty }

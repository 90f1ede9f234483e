use Rattle.plain_store.proofs.Answered.{answered}
use Rattle.plain_store.proofs.store.PlainStoreStore.intern.Goals as goal

pub returns-clause-counts : goal.returns-clause-counts
returns-clause-counts g c = answered c.insert.result c.args.self.now.slots.items c.insert.new.slots.items _ _ _ c.insert.ensures.err

use Rattle.plain_store.proofs.Answered.{answered, hold_stop}
use Rattle.plain_store.proofs.store.PlainStoreStore.again.Goals as goal

pub returns-clause-counts : goal.returns-clause-counts
returns-clause-counts g c = answered c.take_hold.result c.args.self.now.slots.items c.take_hold.new.slots.items _ _ _ c.take_hold.ensures.err

pub returns-clause-stop : goal.returns-clause-stop
returns-clause-stop g c = hold_stop c.take_hold.result c.args.self.now.slots.items c.take_hold.new.slots.items c.take_hold.ensures.err

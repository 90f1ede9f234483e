use Rattle.object_laws.proofs.Equal.{widening_is_idempotent}
use Rattle.object_laws.proofs.same.widening_is_idempotent.Goals as goal

pub returns : goal.returns
returns c = widening_is_idempotent

use Rattle.object_laws.proofs.Equal.{join_is_idempotent}
use Rattle.object_laws.proofs.same.join_is_idempotent.Goals as goal

pub returns : goal.returns
returns c = join_is_idempotent

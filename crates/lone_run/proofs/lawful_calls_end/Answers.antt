use Rattle.lone_run.proofs.Lawfulness.{lawful_calls}
use Rattle.lone_run.proofs.lawful_calls_end.Goals as goal

pub returns : goal.returns
returns c = lawful_calls

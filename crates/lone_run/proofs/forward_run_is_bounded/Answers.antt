use Rattle.lone_run.proofs.Bounds.{forward_run_is_bounded}
use Rattle.lone_run.proofs.forward_run_is_bounded.Goals as goal

pub returns : goal.returns
returns c c' = forward_run_is_bounded _

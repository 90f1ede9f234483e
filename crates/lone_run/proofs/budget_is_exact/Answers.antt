use Rattle.lone_run.proofs.Budget.{budget_is_exact}
use Rattle.lone_run.proofs.budget_is_exact.Goals as goal

pub returns : goal.returns
returns c c' = budget_is_exact _

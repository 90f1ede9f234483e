use Rattle.lone_run.proofs.Lawfulness.{lawful_edges}
use Rattle.lone_run.proofs.lawful_edges_are_good.Goals as goal

pub returns : goal.returns
returns c = lawful_edges

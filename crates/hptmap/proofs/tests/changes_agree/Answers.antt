use Rattle.hptmap.proofs.Payloads.{all_numbered}
use Rattle.hptmap.proofs.tests.changes_agree.Goals as goal

pub map_leaves-requires-clause-takes : goal.map_leaves-requires-clause-takes
map_leaves-requires-clause-takes g c = all_numbered _

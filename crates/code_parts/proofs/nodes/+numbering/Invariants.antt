use Rattle.std.proofs.Common.{◌≡◌, ◌++◌, drop}
use Rattle.code_parts.specs.Numbering.{list_nodes}
use Rattle.code_parts.proofs.nodes.+numbering.Given as goal

abbrev pub invariant-list_nodes-loop-i : goal.invariant-list_nodes-loop-i
invariant-list_nodes-loop-i l = l.nodes ++ list_nodes l.labels (drop l.i l.parts) l.here l.ends ≡ l.fn.nodes ++ list_nodes l.labels l.parts l.at l.ends

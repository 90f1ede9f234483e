use Rattle.std.proofs.Common.{◌≡◌, ◌++◌, drop}
use Rattle.code_parts.specs.Labels.{list_labels}
use Rattle.code_parts.proofs.labels.+labelling.Given as goal

abbrev pub invariant-list_labels-loop-p : goal.invariant-list_labels-loop-p
invariant-list_labels-loop-p l = l.found ++ list_labels (drop l.p-index l.parts) l.here ≡ l.fn.found ++ list_labels l.parts l.at

use Rattle.std.proofs.Common.{◌≡◌, ◌++◌, length}
use Rattle.c_input.proofs.scope.Scope.declare_all.Given as goal

abbrev pub invariant-loop-name : goal.invariant-loop-name
invariant-loop-name l = l.left ++ l.self ≡ l.fn.names ++ l.fn.self

abbrev pub decreases-loop-name : goal.decreases-loop-name
decreases-loop-name l = length l.left

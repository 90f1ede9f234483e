use Rattle.c_expressions.proofs.levels.+node.Given as goal

abbrev pub decreases-node : goal.decreases-node
decreases-node l = l.room

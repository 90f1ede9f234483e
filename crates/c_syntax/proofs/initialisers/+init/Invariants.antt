use Rattle.c_syntax.proofs.initialisers.+init.Given as goal

abbrev pub decreases-init : goal.decreases-init
decreases-init l = l.room

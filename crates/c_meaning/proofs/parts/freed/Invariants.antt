use Rattle.std.proofs.Common.{◌≡◌, ◌++◌, length}
use Rattle.c_meaning.specs.Begin.{freed}
use Rattle.c_meaning.proofs.parts.freed.Given as goal

abbrev pub invariant-loop-parts : goal.invariant-loop-parts
invariant-loop-parts l = l.found ++ freed l.parts l.targets ≡ freed l.initial.parts l.initial.targets

abbrev pub decreases-loop-parts : goal.decreases-loop-parts
decreases-loop-parts l = length l.parts

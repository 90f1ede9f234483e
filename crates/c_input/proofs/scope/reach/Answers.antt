use Rattle.std.proofs.Common.{arith}
use Rattle.std.proofs.lemmas.Grind.{common_steps}
use Rattle.c_input.proofs.Scopes.{pushed}
use Rattle.c_input.proofs.scope.reach.Goals as goal

pub loop-more-preserved : goal.loop-more-preserved
loop-more-preserved c = record {
  same = λ n. grind (arith, common_steps, pushed, c.loop-more.invariant.same n);
  longer = grind (arith, common_steps);
  count = grind (arith, common_steps);
}

use Rattle.std.proofs.Common.{arith}
use Rattle.std.proofs.lemmas.Grind.{common_steps}
use Rattle.c_input.proofs.Scopes.{older, all_kept}
use Rattle.c_input.proofs.scope.Scope.leave.Goals as goal

pub returns : goal.returns
returns c = let e = all_kept c.args.kept c.loop-self.self in grind (arith, common_steps)

pub loop-self-preserved : goal.loop-self-preserved
loop-self-preserved c = let e = older c.args.kept c.loop-self.self in grind (arith, common_steps)

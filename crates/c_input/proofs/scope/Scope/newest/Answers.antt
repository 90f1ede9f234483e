use Rattle.std.proofs.Common.{arith}
use Rattle.std.proofs.lemmas.Grind.{common_steps}
use Rattle.c_input.proofs.Scopes.{newest_of}
use Rattle.c_input.proofs.scope.Scope.newest.Goals as goal

pub returns : goal.returns
returns c = let e = newest_of c.args.kept c.self.inside.declared in grind (arith, common_steps)

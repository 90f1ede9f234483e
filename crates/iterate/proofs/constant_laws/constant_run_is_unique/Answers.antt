use Rattle.std.proofs.Common.{None}
use Rattle.iterate.proofs.ConstantRuns.{unique}
use Rattle.iterate.proofs.constant_laws.constant_run_is_unique.Goals as goal

pub returns : goal.returns
returns c = λ fun f r s. unique fun f f.entry None r s

use Rattle.std.proofs.Common.{arith}
use Rattle.c_arithmetic.proofs.Products.{power_is, power_low, power_high}
use Rattle.c_arithmetic.proofs.integers.power.Goals as goal

pub returns-clause-value : goal.returns-clause-value
returns-clause-value c = power_is c.args.n c.requires

pub returns-clause-low : goal.returns-clause-low
returns-clause-low c = power_low c.args.n c.requires

pub returns-clause-high : goal.returns-clause-high
returns-clause-high c = power_high c.args.n 64 c.requires (omega arith)

pub returns-clause-half : goal.returns-clause-half
returns-clause-half c = λ h. power_high c.args.n 63 (omega arith) (omega arith)

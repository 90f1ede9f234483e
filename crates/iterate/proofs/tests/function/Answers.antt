use Rattle.std.proofs.Common.{◌+◌, ◌^◌, ◌<◌, sym, subst, arith}
use Rattle.program.specs.Numbers.{count_expr}
use Rattle.constant_meaning.specs.ConstantExecution.{IsResultFunction}
use Rattle.iterate.proofs.tests.function.Goals as goal

pub returns : goal.returns
returns c =
    let n = c.requires.count in
    let few : 1 + count_expr c.args.value < 2 ^ 32 = omega (arith, n) in
    subst IsResultFunction (sym c.in_ok-f.ensures) (c.constant_norm_is_taken.ensures _ c.requires.constant few)

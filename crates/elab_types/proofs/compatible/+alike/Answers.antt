use Rattle.std.proofs.Common.{sym}
use Rattle.elab_types.proofs.Equations.{alike_function_function}
use Rattle.elab_types.proofs.compatible.+alike.Goals as goal

pub alike-returns-in-Function-b : goal.alike-returns-in-Function-b
alike-returns-in-Function-b t c = rw (c.all.ensures, c.alike-results.ensures, c.all_alike-params.ensures, c.same.ensures, c.as_slice.ensures, c.as_slice-in-Function-b.ensures, c.get-in-Function-b.ensures, c.get-in-Function-b-2.ensures, c.in-Function.is, c.in-Function-b.is) (sym (alike_function_function c.args.likeness c.in-Function.t c.in-Function.xs c.in-Function.v c.in-Function-b.u c.in-Function-b.ys c.in-Function-b.w))

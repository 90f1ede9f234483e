use Rattle.std.proofs.Common.{sym}
use Rattle.elab_types.proofs.CompositeEquations.{composite_function_function}
use Rattle.elab_types.proofs.composition.+composing.Goals as goal

pub composite-returns-in_ok-params-in-Function-u : goal.composite-returns-in_ok-params-in-Function-u
composite-returns-in_ok-params-in-Function-u t c = rw (c.in_ok-params-in-Function-u.ensures, c.in_ok-result-in-Function-u.ensures, c.in_ok-composite-in-Function-u.ensures, c.as_slice.ensures, c.as_slice-in-Function-u.ensures, c.get-in-Function-u.ensures, c.get-in-Function-u-2.ensures, c.in-Function.is, c.in-Function-u.is) (sym (composite_function_function c.in-Function.t c.in-Function.xs c.in-Function.field-2 c.in-Function-u.u c.in-Function-u.ys c.in-Function-u.variadic))

use Rattle.std.proofs.Common.{◌≡◌, drop}
use Rattle.normal_form.specs.ConstantForm.{names_differ}
use Rattle.normal_form.proofs.form.names_differ.Given as goal

abbrev pub invariant-loop-i : goal.invariant-loop-i
invariant-loop-i l = names_differ (drop l.i l.definitions) ≡ names_differ l.definitions

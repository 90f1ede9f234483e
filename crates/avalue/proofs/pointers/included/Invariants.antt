use Rattle.std.proofs.Common.{◌≡◌}
use Rattle.std.specs.Prelude.{drop}
use Rattle.avalue.specs.Pointers.{pointers_included}
use Rattle.avalue.proofs.pointers.included.Given as goal

abbrev pub invariant-loop-p : goal.invariant-loop-p
invariant-loop-p l = pointers_included (drop l.p-index l.a) l.b ≡ pointers_included l.a l.b

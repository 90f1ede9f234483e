use Rattle.std.proofs.Common.{◌≡◌}
use Rattle.std.specs.Prelude.{not, take}
use Rattle.std.specs.List.{filter}
use Rattle.avalue.specs.Pointers.{is_listed}
use Rattle.avalue.proofs.pointers.without.Given as goal

abbrev pub invariant-loop-p : goal.invariant-loop-p
invariant-loop-p l = l.kept ≡ filter (λ p. not (is_listed l.bases p)) (take l.p-index l.ptrs)

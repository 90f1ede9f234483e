use Rattle.std.proofs.Common.{◌≡◌, ◌+◌, drop}
use Rattle.temporary_code.specs.Temporaries.{place_of_pool}
use Rattle.temporary_code.proofs.temporaries.place_of_pool.Given as goal

abbrev pub invariant-loop-i : goal.invariant-loop-i
invariant-loop-i l = l.i + place_of_pool l.ty (drop l.i l.pools) ≡ place_of_pool l.ty l.pools

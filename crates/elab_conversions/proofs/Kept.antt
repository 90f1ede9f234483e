-- A size that isn't above the limit is kept as it is.
use Rattle.std.specs.Prelude.{◌≡◌, ◌≤◌, ℕ}
use Rattle.std.proofs.Common.{arith}
use Rattle.c_types.specs.Sizes.{kept}

pub kept_small : (n : ℕ) → kept n ≤ 16777216 → n ≡ kept n
kept_small n h = omega arith

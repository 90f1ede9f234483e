-- Sizes of scalars.
use Rattle.std.proofs.Common.{◌≤◌, arith}
use Rattle.std.specs.Prelude.{IsTrue}
use Rattle.c_types.specs.declared.types.IntKind.{IntKind}
use Rattle.c_types.specs.declared.types.CType.{CType}
use Rattle.c_types.specs.declared.types.CType.TheVariants.{Void, Int, Ptr', Array', Struct, Unusable}
use Rattle.c_types.specs.declared.types.Layout.{Layout}
use Rattle.c_types.specs.Integers.{width}
use Rattle.c_types.specs.Sizes.{kept, size_of}
use Rattle.c_types.proofs.IntKindLaws.{every}
use Rattle.program.specs.Typing.{is_scalar}

pub width_is_small : (k : IntKind) → width k ≤ 64
width_is_small = every (λ k. width k ≤ 64) (omega arith) (omega arith) (omega arith) (omega arith) (omega arith) (omega arith) (omega arith) (omega arith) (omega arith) (omega arith) (omega arith) (omega arith)

pub scalar_is_small : (l : Layout) (t : CType) → IsTrue (is_scalar t) → kept (size_of l t) ≤ 64
unfolding size_of
scalar_is_small l (Int k volatile) h = omega (arith, width_is_small k)
scalar_is_small l (Ptr' _ _) h = omega arith
scalar_is_small l Void h = absurd (cc)
scalar_is_small l (Array' _ _ n) h = absurd (cc)
scalar_is_small l (Struct id) h = absurd (cc)
scalar_is_small l Unusable h = absurd (cc)

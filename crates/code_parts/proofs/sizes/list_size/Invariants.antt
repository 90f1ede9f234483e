use Rattle.std.proofs.Common.{◌≡◌, ◌+◌, drop}
use Rattle.code_parts.specs.Sizes.{list_size}
use Rattle.code_parts.proofs.sizes.list_size.Given as goal

abbrev pub invariant-loop-p : goal.invariant-loop-p
invariant-loop-p l = l.size + list_size (drop l.p-index l.parts) ≡ list_size l.parts

use Rattle.std.proofs.Common.{◌≡◌}
use Rattle.std.specs.List.{fold, range_with_len}
use Rattle.ival.specs.Forms.{IsWellFormed}
use Rattle.ival.specs.Meet.{meet_of}
use Rattle.ival.specs.declared.forms.Ival.TheVariants.{All as Every}
use Rattle.avalue.specs.Pointers.{offsets_at}
use Rattle.gathered_values.specs.Bits.{bit}
use Rattle.gathered_values.proofs.gather.shared_offsets.Given as goal

abbrev pub invariant-loop-j : goal.invariant-loop-j
invariant-loop-j l = record {
  shared : l.shared ≡ fold (λ shared j. meet_of shared (offsets_at (bit l.bits j).ptrs l.base)) Every (range_with_len 0 l.j);
  formed : IsWellFormed l.shared;
}

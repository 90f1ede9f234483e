use Rattle.std.proofs.Common.{◌∙◌, ap}
use Rattle.std.specs.List.{filter}
use Rattle.std.specs.Prelude.{not}
use Rattle.avalue.specs.Pointers.{is_listed}
use Rattle.avalue.proofs.Filters.{filter_pointers}
use Rattle.avalue.proofs.value.Value.escape.Goals as goal

pub returns-clause-formed : goal.returns-clause-formed
returns-clause-formed c = record {
  ints = c.requires.ints;
  ptrs = filter_pointers (λ p. not (is_listed c.args.bases.now p)) c.args.self.now.ptrs c.in_ok-without.field-0 c.requires.ptrs
      (c.in_ok-without.ensures ∙ ap (filter (λ p. not (is_listed c.args.bases.now p))) c.as_slice-ptrs.ensures);
}

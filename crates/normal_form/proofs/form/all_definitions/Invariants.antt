use Rattle.std.proofs.Common.{◌≡◌, ◌++◌, drop, All}
use Rattle.std.specs.Option.{option_map}
use Rattle.normal_form.specs.ConstantForm.{all_definitions, IsReturning}
use Rattle.normal_form.proofs.form.all_definitions.Given as goal

abbrev pub invariant-loop-item : goal.invariant-loop-item
invariant-loop-item l = record {
  same : option_map (λ ds. l.found ++ ds) (all_definitions l.file l.tokens (drop l.item-index l.items)) ≡ all_definitions l.file l.tokens l.items;
  lawful : All IsReturning l.found;
}

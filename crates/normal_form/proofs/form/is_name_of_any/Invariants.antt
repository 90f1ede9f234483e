use Rattle.std.proofs.Common.{◌≡◌, drop}
use Rattle.std.specs.List.{list_any}
use Rattle.std.specs.Str.{bytes_eq}
use Rattle.normal_form.proofs.form.is_name_of_any.Given as goal

abbrev pub invariant-loop-definition : goal.invariant-loop-definition
invariant-loop-definition l = list_any (λ d. bytes_eq l.name d.name) (drop l.definition-index l.definitions) ≡ list_any (λ d. bytes_eq l.name d.name) l.definitions

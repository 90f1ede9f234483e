use Rattle.std.proofs.Common.{◌≡◌, List, position, Some, None, sym, ◌∙◌, subst}
use Rattle.std.specs.Prelude.{bytes_eq}
use Rattle.normal_form.specs.declared.constant.Returning.{Returning}
use Rattle.eva_front.proofs.Entries.{named_at, none_named}
use Rattle.eva_front.proofs.run.find_entry.Goals as goal

pub returns-in_err-number : goal.returns-in_err-number
returns-in_err-number c =
    let h = sym c.number_of.ensures ∙ c.in_err-number.was in
    rw c.from_residual.ensures (none_named c.args.name.now c.args.definitions
    (subst (λ (x : List Returning). position (λ d. bytes_eq d.name c.args.name.now) x ≡ None) c.as_slice.ensures h))

pub returns : goal.returns
returns c =
    let h = sym c.in_ok-number.ensures in (
      c.remove.ensures.item,
      named_at c.args.name.now c.args.definitions c.in_ok-number.number c.remove.result
          (subst (λ (x : List Returning). position (λ d. bytes_eq d.name c.args.name.now) x ≡ Some c.in_ok-number.number) c.as_slice.ensures h) c.remove.ensures.item,
    )

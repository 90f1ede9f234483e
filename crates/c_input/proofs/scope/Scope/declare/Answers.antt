use Rattle.std.proofs.Common.{sym, ap, ◌∙◌}
use Rattle.c_input.specs.Scope.{Names, is_type}
use Rattle.c_input.proofs.Scopes.{reached, declared_last, popped}
use Rattle.c_input.proofs.scope.Scope.declare.Goals as goal

pub invariant_of-self : goal.invariant_of-self
invariant_of-self c = reached _ _ _ _ c.self.invariant c.reach.ensures.same c.reach.ensures.longer

pub invariant_of-self-in_err-push : goal.invariant_of-self-in_err-push
invariant_of-self-in_err-push c = rw c.in_err-push.ensures.err (reached _ _ _ _ c.self.invariant c.reach.ensures.same c.reach.ensures.longer)

pub invariant_of-self-in-Ok : goal.invariant_of-self-in-Ok
invariant_of-self-in-Ok c =
    let reaches = reached _ _ _ _ c.self.invariant c.reach.ensures.same c.reach.ensures.longer in
    let was = c.is_type-hidden.ensures ∙ ap (λ (names : Names). is_type names c.args.name) (sym c.self.view_is) in
    declared_last c.self.inside.declared c.self.inside.hidden c.reach.new.types c.args.name c.args.is_type c.is_type-hidden.result _ _ _
    reaches c.in_ok-reach.ensures.reaches was c.in-Ok.ensures.ok c.in_ok-push.ensures.ok c.set.ensures

pub invariant_of-self-in-Err : goal.invariant_of-self-in-Err
invariant_of-self-in-Err c =
    let reaches = reached _ _ _ _ c.self.invariant c.reach.ensures.same c.reach.ensures.longer in
    let same = popped c.pop.result c.self.inside.hidden c.push.new.self c.pop.new.self c.is_type-hidden.result c.in_ok-push.ensures.ok c.pop.ensures in
    rw (c.in-Err.ensures.err, same) reaches

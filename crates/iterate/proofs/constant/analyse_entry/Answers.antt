use Rattle.std.proofs.Common.{ap, length, arith, rules}
use Rattle.std.proofs.lemmas.Int.{to_z-of_z}
use Rattle.std.specs.Int.{w32}
use Rattle.std.specs.Int.RustNames.{FitsSigned}
use Rattle.iterate.proofs.ConstantRuns.{lone_run_is_sound}
use Rattle.iterate.proofs.ConstantSteps.{as_set, going_on, stopped, ended, one_next}
use Rattle.iterate.proofs.constant.analyse_entry.Goals as goal

pub evaluate-requires : goal.evaluate-requires
evaluate-requires c =
    let s = as_set _ _ _ _ _ c.in-Set.is (c.requires.nodes c.loop-value.at _ c.node_at-node.ensures) in
    let h = s.numbered in
    record { constant = s.constant; numbers = omega (arith, h) }

pub next_of-at-requires : goal.next_of-at-requires
next_of-at-requires c =
    let s = as_set _ _ _ _ _ c.in-Set.is (c.requires.nodes c.loop-value.at _ c.node_at-node.ensures) in
    ap length s.edge

pub overflow_add-taken : goal.overflow_add-taken
overflow_add-taken c = let g = c.loop-value.invariant.going.few in omega arith

pub loop-value-smaller : goal.loop-value-smaller
loop-value-smaller c =
    let s = as_set _ _ _ _ _ c.in-Set.is (c.requires.nodes c.loop-value.at _ c.node_at-node.ensures) in
    let l = one_next _ _ _ _ _ s c.next_of-at.ensures in
    omega (arith, l.0, l.1)

pub loop-value-preserved : goal.loop-value-preserved
loop-value-preserved c =
    let s = as_set _ _ _ _ _ c.in-Set.is (c.requires.nodes c.loop-value.at _ c.node_at-node.ensures) in
    let l = one_next _ _ _ _ _ s c.next_of-at.ensures in
    record {
      none = c.loop-value.invariant.none;
      small = c.next_of-at.type_inv;
      going =
          let fits : FitsSigned w32 c.in-Ok.v = search rules in
          let same = to_z-of_z w32 c.in-Ok.v fits in
          let on = going_on c.args.fun c.args.f.now c.loop-value.at c.loop-value.outcome c.loop-value.taken c.loop-value.invariant.going _ c.node_at-node.ensures
          c.in-Set.value c.in-Ok.v c.next_of-at.result s.sets c.in-Ok.ensures c.next_of-at.ensures l.0 l.1 in
          rw same on;
    }

pub overflow_add-result : goal.overflow_add-result
overflow_add-result c = let g = c.loop-value.invariant.going.few in omega arith

pub overflow_add-result-in-Return : goal.overflow_add-result-in-Return
overflow_add-result-in-Return c = let g = c.loop-value.invariant.going.few in omega arith

pub returns-in-Err-clause-run : goal.returns-in-Err-clause-run
returns-in-Err-clause-run c =
    let s = as_set _ _ _ _ _ c.in-Set.is (c.requires.nodes c.loop-value.at _ c.node_at-node.ensures) in
    let stop = stopped c.args.fun c.args.f.now c.loop-value.at c.loop-value.outcome c.loop-value.taken c.loop-value.invariant.going _ c.node_at-node.ensures
    c.in-Set.value c.in-Err.field-0 s.sets c.in-Err.ensures in
    rw (c.in_ok-push-in-Err.ensures.ok, c.loop-value.invariant.none) stop

pub returns-in-Err-clause-sound : goal.returns-in-Err-clause-sound
returns-in-Err-clause-sound c = lone_run_is_sound _ _ _ (returns-in-Err-clause-run c)

pub returns-in-Return-clause-run : goal.returns-in-Return-clause-run
returns-in-Return-clause-run c =
    let end = ended c.args.fun c.args.f.now c.loop-value.at c.loop-value.outcome c.loop-value.taken c.loop-value.invariant.going _ c.node_at-node.ensures c.in-Return.is in
    rw c.loop-value.invariant.none end

pub returns-in-Return-clause-sound : goal.returns-in-Return-clause-sound
returns-in-Return-clause-sound c = lone_run_is_sound _ _ _ (returns-in-Return-clause-run c)

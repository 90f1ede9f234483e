use Rattle.std.proofs.Common.{rules, ◌≡◌, ◌+◌, [], ◌∷◌, drop, arith}
use Rattle.std.proofs.lemmas.Grind.{common_steps}
use Rattle.c_types.proofs.Places.{begun, more, done}
use Rattle.c_types.proofs.structs.place.Goals as goal

pub loop-member-init : goal.loop-member-init
loop-member-init c = rw c.new-members.ensures (begun c.args.layout.now c.args.declared.now)

pub loop-member-preserved : goal.loop-member-preserved
loop-member-preserved c =
    let m = c.member-item.result in
    let rest = drop (c.loop-member.member-index + 1) c.args.declared.now in
    let left_is : drop c.loop-member.member-index c.args.declared.now ≡ m ∷ rest = grind (arith, common_steps) in
    more c.args.layout.now c.loop-member.members c.push_named.new.members c.loop-member.end c.beginning-at.result c.saturating_add-end.result m (drop c.loop-member.member-index c.args.declared.now) rest c.args.declared.now
    left_is c.loop-member.invariant c.beginning-at.ensures (cc) (search rules)

pub returns-clause-end : goal.returns-clause-end
returns-clause-end c =
    let left_is : drop c.loop-member.member-index c.args.declared.now ≡ [] = grind (arith, common_steps) in
    let whole = done c.args.layout.now c.loop-member.members c.loop-member.end (drop c.loop-member.member-index c.args.declared.now) c.args.declared.now left_is c.loop-member.invariant in
    whole.1

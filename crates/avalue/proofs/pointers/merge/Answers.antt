use Rattle.std.proofs.Common.{rules, refl, ◌∙◌, ap, ◌++◌, [], ◌∷◌, arith}
use Rattle.avalue.proofs.Merging.{turn_left, turn_right, turn_both, pointer_at, all_pushed, ended, with_rests}
use Rattle.avalue.proofs.pointers.merge.Goals as goal

pub heads-preserved-then-p-q : goal.heads-preserved-then-p-q
heads-preserved-then-p-q g c = (
  turn_left _ c.args.a.now c.args.b.now _ _ c.heads.i c.heads.j c.index-a-i.result c.index-b-j.result c.heads-test.true c.if-j-b.true c.index-a-i.is c.index-b-j.is
      c.heads.invariant.0 c.if-p-q.true c.in_ok-push.ensures.items,
  all_pushed c.heads.both.items c.push.new.self.items c.index-a-i.result c.heads.invariant.1
      (pointer_at c.args.a.now c.heads.i c.index-a-i.result c.requires.left.each c.heads-test.true c.index-a-i.is) c.in_ok-push.ensures.items,
  omega (arith, c.heads-test.true),
  c.heads.invariant.3,
)

pub heads-preserved-then-q-p : goal.heads-preserved-then-q-p
heads-preserved-then-q-p g c = (
  turn_right _ c.args.a.now c.args.b.now _ _ c.heads.i c.heads.j c.index-a-i.result c.index-b-j.result c.heads-test.true c.if-j-b.true c.index-a-i.is c.index-b-j.is
      c.heads.invariant.0 c.if-q-p.true c.in_ok-push-2.ensures.items,
  all_pushed c.heads.both.items c.push-then-q-p.new.self.items c.index-b-j.result c.heads.invariant.1
      (pointer_at c.args.b.now c.heads.j c.index-b-j.result c.requires.right.each c.if-j-b.true c.index-b-j.is) c.in_ok-push-2.ensures.items,
  c.heads.invariant.2,
  omega (arith, c.if-j-b.true),
)

pub heads-preserved : goal.heads-preserved
heads-preserved g c = (
  turn_both _ c.args.a.now c.args.b.now _ _ c.heads.i c.heads.j c.index-a-i.result c.index-b-j.result c.heads-test.true c.if-j-b.true c.index-a-i.is c.index-b-j.is
      c.heads.invariant.0 (omega (arith, c.if-p-q.false, c.if-q-p.false))
      (c.in_ok-push-3.ensures.items ∙ ap (λ x. c.heads.both.items ++ (c.index-a-i.result.0, x) ∷ []) c.apply.ensures.value),
  all_pushed c.heads.both.items c.push-else-q-p.new.self.items (c.index-a-i.result.0, c.apply.result) c.heads.invariant.1
      c.apply.ensures.ends c.in_ok-push-3.ensures.items,
  omega (arith, c.heads-test.true),
  omega (arith, c.if-j-b.true),
)

pub returns : goal.returns
returns g c = record {
  combined = ended _ c.args.a.now c.args.b.now c.heads.both.items c.from_vec.result c.heads.i c.heads.j c.requires.left c.requires.right c.heads.invariant.1
      (search rules) c.heads.invariant.0
      (c.from_vec.ensures ∙ with_rests c.heads.both.items c.extend_from_slice.new.self.items c.extend_from_slice-2.new.self.items c.args.a.now c.args.b.now c.heads.i c.heads.j _ _
      c.in_ok-extend_from_slice.ensures.items c.in_ok-extend_from_slice-2.ensures.items refl refl);
}

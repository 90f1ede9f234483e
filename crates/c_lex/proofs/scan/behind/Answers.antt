use Rattle.std.proofs.Common.{◌≡◌, ◌<◌, length, sym, ◌∙◌, arith}
use Rattle.std.proofs.lemmas.Grind.{common_steps}
use Rattle.c_lex.proofs.Runs.{behind_stops, behind_goes, behind_end}
use Rattle.c_lex.proofs.scan.behind.Goals as goal

pub returns-then-len-eq0 : goal.returns-then-len-eq0
returns-then-len-eq0 c = sym (behind_stops c.skip.fresh c.skip.text.now (sym c.skipped_len-len.ensures.value ∙ c.if-len-eq0.true)) ∙ c.skip.invariant

pub skip-preserved : goal.skip-preserved
skip-preserved c =
    let some : 0 < c.skipped_len-len.result = grind arith in
    let goes = behind_goes c.skip.fresh c.skip.text.now c.skipped_len-len.result (sym c.skipped_len-len.ensures.value) some c.skipped_len-len.ensures.within in
    rw (c.split_at.ensures.back, c.fresh_past-fresh.ensures, c.split_at.ensures.front) (sym goes ∙ c.skip.invariant)

pub returns : goal.returns
returns c = let e : length c.skip.text.now ≡ 0 = grind (arith, common_steps) in sym (behind_end c.skip.fresh c.skip.text.now e) ∙ c.skip.invariant

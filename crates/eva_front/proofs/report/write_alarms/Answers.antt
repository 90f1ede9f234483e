use Rattle.std.proofs.Common.{◌∙◌}
use Rattle.eva_front.specs.Report.{alarm_line}
use Rattle.eva_front.proofs.Texts.{alarms_more}
use Rattle.eva_front.proofs.report.write_alarms.Goals as goal

pub loop-site-preserved : goal.loop-site-preserved
loop-site-preserved c =
    alarms_more (alarm_line c.args.on.now.file.now c.args.on.now.word.now c.args.on.now.function.now) c.args.alarms.now c.loop-site.site-index _ _ _ _
    c.loop-site-test.true c.loop-site.invariant c.in_ok-push_str.ensures.bytes (c.as_str.ensures.value ∙ c.in_ok-line.ensures)

use Rattle.std.proofs.Common.{◌∙◌, append_assoc}
use Rattle.eva_front.specs.Report.{value_text}
use Rattle.eva_front.proofs.Texts.{live_text}
use Rattle.eva_front.proofs.report.write_end.Goals as goal

pub returns-in_ok-text-in-Bottom : goal.returns-in_ok-text-in-Bottom
returns-in_ok-text-in-Bottom c = c.in_ok-text-in-Bottom.ensures.ok ∙ rw c.in-Bottom.is (simp append_assoc)

pub returns-in_ok-text-in-Live : goal.returns-in_ok-text-in-Live
returns-in_ok-text-in-Live c =
    c.in_ok-text-in-Live.ensures.ok ∙ rw (c.in_ok-value-in-Live.ensures, c.in-Live.is) (live_text c.args.name.now (value_text c.in-Live.outcome))

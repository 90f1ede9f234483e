use Rattle.std.proofs.Common.{◌∙◌}
use Rattle.std.specs.Fmt.{decimal}
use Rattle.eva_front.proofs.Texts.{last_text}
use Rattle.eva_front.proofs.report.write_last.Goals as goal

pub returns : goal.returns
returns c = c.in_ok-text.ensures.ok ∙ last_text (decimal c.args.alarms) (decimal c.args.turns)

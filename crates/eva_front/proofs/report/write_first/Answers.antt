use Rattle.std.proofs.Common.{◌∙◌}
use Rattle.std.specs.Fmt.{decimal}
use Rattle.eva_front.proofs.Texts.{first_text}
use Rattle.eva_front.proofs.report.write_first.Goals as goal

pub returns : goal.returns
returns c = c.in_ok-text.ensures.ok ∙ first_text c.args.name.now (decimal c.args.turns)

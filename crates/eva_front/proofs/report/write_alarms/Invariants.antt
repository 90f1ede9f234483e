use Rattle.std.proofs.Common.{◌≡◌, take, map}
use Rattle.std.specs.Prelude.{string_bytes}
use Rattle.eva_front.specs.Report.{alarm_line, text_of_lines}
use Rattle.eva_front.proofs.report.write_alarms.Given as goal

abbrev pub invariant-loop-site : goal.invariant-loop-site
invariant-loop-site l = string_bytes l.text ≡ text_of_lines (map (alarm_line l.fn.on.file.now l.fn.on.word.now l.fn.on.function.now) (take l.site-index l.alarms))

use Rattle.std.proofs.Common.{List, ℕ, ◌∙◌, ap, map}
use Rattle.program.specs.declared.sites.Site.{Site}
use Rattle.eva_front.specs.Report.{alarm_line, end_lines, ended, first_line, last_line, text_of_lines}
use Rattle.eva_front.proofs.Texts.{report_of}
use Rattle.eva_front.proofs.report.write_report.Goals as goal

pub returns : goal.returns
returns c =
    let alarms = ap (λ (xs : List Site). text_of_lines (map (alarm_line c.args.on.now.file.now c.args.on.now.word.now c.args.on.now.function.now) xs)) c.as_slice.ensures in
    report_of c.args.on.now.file.now c.args.on.now.word.now c.args.on.now.function.now c.args.r.now _ _ _ _ _ _ _
    (c.in_ok-text.ensures ∙ ap (λ (n : List ℕ). ended (first_line n c.args.r.now.turns)) c.requires)
    (c.as_str.ensures.value ∙ c.in_ok-alarms.ensures ∙ alarms)
    c.in_ok-push_str.ensures.bytes
    (c.as_str-2.ensures.value ∙ c.in_ok-end.ensures ∙ ap (λ (n : List ℕ). text_of_lines (end_lines n c.args.r.now.end)) c.requires)
    c.in_ok-push_str-2.ensures.bytes
    (c.as_str-3.ensures.value ∙ c.in_ok-last.ensures ∙ ap (λ (n : ℕ). ended (last_line n c.args.r.now.turns)) c.len.ensures)
    c.in_ok-push_str-3.ensures.bytes

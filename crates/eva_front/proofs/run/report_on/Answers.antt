use Rattle.std.proofs.Common.{◌≡◌, ◌∙◌, ap, subst}
use Rattle.std.specs.Prelude.{string_bytes}
use Rattle.program.specs.declared.graph.Function.{Function}
use Rattle.iterate.specs.ConstantRun.{LoneRun}
use Rattle.iterate.proofs.ConstantNorms.{norm_fits}
use Rattle.eva_front.specs.Answer.{reported, verdict}
use Rattle.eva_front.specs.Report.{report_text}
use Rattle.eva_front.proofs.run.report_on.Goals as goal

pub analyse_entry-requires : goal.analyse_entry-requires
analyse_entry-requires c =
    rw c.in_ok-function.ensures (norm_fits c.args.entry.definition c.requires.lawful.constant c.requires.lawful.numbered)

pub returns : goal.returns
returns c =
    let same = c.in_ok-function.ensures in
    reported c.args.entry.number c.args.entry.definition c.in_ok-result.result c.requires.found
    (subst (λ (f : Function). LoneRun c.args.entry.number f c.in_ok-result.result) same c.in_ok-result.ensures.run)
    (c.status_of.ensures ∙ ap verdict c.as_slice.ensures)
    (subst (λ (f : Function). string_bytes c.in_ok-write_report.field-0 ≡ report_text c.args.bytes.now c.args.command.file.now f c.in_ok-result.result) same
    c.in_ok-write_report.ensures)

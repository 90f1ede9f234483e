use Rattle.std.proofs.Common.{◌∙◌}
use Rattle.std.specs.Fmt.{decimal}
use Rattle.std.specs.Prelude.{slice_get}
use Rattle.eva_front.specs.FileNames.{shown_name}
use Rattle.eva_front.specs.Report.{kind_text, name_of, node_place}
use Rattle.eva_front.proofs.Texts.{alarm_text}
use Rattle.eva_front.proofs.report.write_alarm.Goals as goal

pub returns : goal.returns
returns c =
    c.in_ok-text.ensures.ok ∙ rw (c.in_ok-file.ensures, c.file_name-named.ensures, c.kind_name-kind.ensures, c.place_at-place.ensures, c.requires)
    (alarm_text (shown_name (name_of c.args.on.now.file.now c.args.on.now.word.now (node_place (slice_get c.args.on.now.function.now.nodes c.args.site.now.node))))
    (decimal (node_place (slice_get c.args.on.now.function.now.nodes c.args.site.now.node)).line) (kind_text c.args.site.now.kind) c.args.on.now.function.now.name
    (decimal c.args.site.now.node) (decimal c.args.site.now.sub))

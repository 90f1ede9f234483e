use Rattle.std.proofs.Common.{◌∙◌, sym, ap}
use Rattle.std.specs.Option.{option_copied}
use Rattle.c_meaning.proofs.Executable.{executable}
use Rattle.c_meaning.proofs.execution.asked.Goals as goal

pub asked_by-requires-clause-ready : goal.asked_by-requires-clause-ready
asked_by-requires-clause-ready c =
    executable c.args.p.now c.requires.program _ _ c.in-Some.f.now c.in-Some-get.node.now
    (sym c.get.ensures.value ∙ ap option_copied c.in-Some.is) (sym c.get-in-Some.ensures.value ∙ ap option_copied c.in-Some-get.is)

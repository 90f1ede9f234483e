use Rattle.std.proofs.Common.{◌∙◌, sym, ap}
use Rattle.std.specs.Option.{option_copied}
use Rattle.c_meaning.proofs.Executable.{executable}
use Rattle.c_meaning.proofs.execution.step.Goals as goal

pub executed-requires-clause-ready : goal.executed-requires-clause-ready
executed-requires-clause-ready c =
    executable c.args.p.now c.requires.program _ _ c.in-Some.f.now c.in-Some-get.node.now
    (sym c.get.ensures.value ∙ ap option_copied c.in-Some.is) (sym c.get-in-Some.ensures.value ∙ ap option_copied c.in-Some-get.is)

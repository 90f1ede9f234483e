-- What the runs ask of graphs holds of each lawful program.
use Rattle.std.specs.Prelude.{ℕ}
use Rattle.program.specs.declared.graph.Program.{Program}
use Rattle.program.specs.Lawful.{Lawful}
use Rattle.lone_run.specs.Soundness.{HasGoodEdges}
use Rattle.lone_run.specs.Bounds.{CallsEnd}

-- edges and entries are nodes of their function, and a return is its exit
abbrev pub LawfulEdgesAreGood : Type 0
LawfulEdgesAreGood = (p : Program) → Lawful p → HasGoodEdges p.functions

-- calls go to defined functions of a lesser height
abbrev pub LawfulCallsEnd : Type 0
LawfulCallsEnd = (p : Program) (l : Lawful p) → CallsEnd p.functions l.height

-- Described initial states and the picks that make them.
use Rattle.std.specs.Prelude.{◌≡◌, ℕ, ℤ, List, Ok}
use Rattle.program.specs.declared.graph.Program.{Program}
use Rattle.program.specs.Lawful.{Lawful}
use Rattle.c_meaning.specs.declared.config.Config.{Config}
use Rattle.c_meaning.specs.declared.initial.Begun.{Begun}
use Rattle.c_meaning.specs.Begin.{begun}
use Rattle.c_meaning.specs.Described.{IsDescribed}
use Rattle.c_meaning.specs.Lawful.{LawfulConfig}

-- each described state of a function is the one that some picks make
abbrev pub PicksMakeEach : Type 0
PicksMakeEach = (p : Program) (fun : ℕ) (c : Config) → Lawful p → IsDescribed p fun c → (picks : List ℤ) × (used : ℕ) × (begun p fun picks ≡ Ok (record { config = c; used = used }))

-- the states with which executions begin are lawful
abbrev pub BeginningsAreLawful : Type 0
BeginningsAreLawful = (p : Program) (fun : ℕ) (picks : List ℤ) (b : Begun) → Lawful p → begun p fun picks ≡ Ok b → LawfulConfig p b.config

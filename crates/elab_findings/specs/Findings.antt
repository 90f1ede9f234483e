-- What is found against a file, and the first of it that counts.
use Rattle.std.specs.Prelude.{◌≡◌, [], Option, Some, None, Contains}
use Rattle.elab_findings.specs.declared.fault.Fault.{Fault}
use Rattle.elab_findings.specs.declared.findings.Held.{Held}
use Rattle.elab_findings.specs.declared.findings.Findings.{Findings}
use Rattle.elab_findings.specs.Uses.{Used}
use Rattle.elab_findings.specs.Faults.{NotAfter}

abbrev pub nothing_found : Findings
nothing_found = record { faults = []; held = []; roots = []; uses = [] }

-- 1 to 3 count in every declaration, the others in used ones
pub data Counts (s : Findings) (f : Fault) : Type 0 where
  everywhere : Contains s.faults f → Counts s f
  where_used : (h : Held) → Contains s.held h → h.fault ≡ f → Used s.roots s.uses h.declaration → Counts s f

pub record IsFirst (s : Findings) (f : Fault) : Type 0 where
  pub counts : Counts s f
  pub first : (g : Fault) → Counts s g → NotAfter f g

-- the answer for a file: none where nothing counts
abbrev pub Answers : Findings → Option Fault → Type 0
Answers s None = (f : Fault) → Counts s f → ⊥
Answers s (Some f) = IsFirst s f

use Rattle.std.proofs.Common.{◌≡◌, take}
use Rattle.std.specs.Prelude.{string_bytes}
use Rattle.eva_front.specs.FileNames.{shown_name}
use Rattle.eva_front.proofs.report.show_name.Given as goal

abbrev pub invariant-loop-byte : goal.invariant-loop-byte
invariant-loop-byte l = string_bytes l.shown ≡ shown_name (take l.byte-index l.name)

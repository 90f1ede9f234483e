use Rattle.std.proofs.Common.{◌≡◌, ◌≤◌, ◌-◌, length, vec_len}
use Rattle.eva_front.proofs.Reading.{ReadSoFar}
use Rattle.eva_front.proofs.streams.read_rest.Given as goal

abbrev pub invariant-reading : goal.invariant-reading
invariant-reading g l = record {
  within : length l.file.items ≤ 1048577;
  counted : vec_len l.file ≡ length l.file.items;
  room : length l.buffer ≡ 4096;
  bytes : ReadSoFar (g.S.Source.left l.initial.source) (g.S.Source.left l.source) l.file.items;
  opened : g.S.Source.is_open l.source;
  later : g.S.Source.faults l.initial.source ≤ g.S.Source.faults l.source;
}

abbrev pub decreases-reading : goal.decreases-reading
decreases-reading g l = 1048577 - length l.file.items

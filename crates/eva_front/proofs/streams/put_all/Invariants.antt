use Rattle.std.proofs.Common.{◌≤◌, ◌-◌, length, take}
use Rattle.eva_front.specs.Outside.{Appends}
use Rattle.eva_front.proofs.streams.put_all.Given as goal

abbrev pub invariant-writing : goal.invariant-writing
invariant-writing g l = record {
  within : l.done ≤ length l.text;
  written : Appends (g.K.Sink.written l.initial.sink) (g.K.Sink.written l.sink) (take l.done l.text);
  later : g.K.Sink.faults l.initial.sink ≤ g.K.Sink.faults l.sink;
}

abbrev pub decreases-writing : goal.decreases-writing
decreases-writing g l = length l.text - l.done

-- Up to here a prefix was written, and no fault was met.
use Rattle.std.proofs.Common.{◌≡◌, ◌-◌, ◌≤◌, length, take}
use Rattle.cox_outside.specs.Outlet.{Writes}
use Rattle.cox_outside.proofs.writing.write_all.Given as goal

abbrev pub invariant-rest : goal.invariant-rest
invariant-rest g l = record {
  within : l.at ≤ length l.bytes;
  puts : Writes (take l.at l.bytes) (g.K.Sink.seen l.initial.sink) (g.K.Sink.seen l.sink);
  still : l.at ≡ 0 → l.sink ≡ l.initial.sink;
  faults : (g.K.Sink.seen l.sink).faults ≡ (g.K.Sink.seen l.initial.sink).faults;
}

abbrev pub decreases-rest : goal.decreases-rest
decreases-rest g l = length l.initial.bytes - l.at

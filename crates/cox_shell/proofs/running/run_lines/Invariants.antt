-- Up to here the lines that were taken are answered, and no fault was met.
use Rattle.std.proofs.Common.{◌≡◌}
use Rattle.cox_shell.specs.Run.{stand}
use Rattle.cox_shell.proofs.Progress.{Progress}
use Rattle.cox_shell.proofs.running.run_lines.Given as goal

abbrev pub invariant-lines : goal.invariant-lines
invariant-lines g l = record {
  progress : Progress l.refused
      (stand l.initial.session l.initial.reader (g.S.Source.seen l.initial.source) (g.K.Sink.seen l.initial.sink))
      (stand l.session l.reader (g.S.Source.seen l.source) (g.K.Sink.seen l.sink));
  source_faults : (g.S.Source.seen l.source).faults ≡ (g.S.Source.seen l.initial.source).faults;
  same_sure : (g.S.Source.seen l.source).sure ≡ (g.S.Source.seen l.initial.source).sure;
  sink_faults : (g.K.Sink.seen l.sink).faults ≡ (g.K.Sink.seen l.initial.sink).faults;
}

abbrev pub decreases-lines : goal.decreases-lines
decreases-lines g l = l.reader.feed.budget

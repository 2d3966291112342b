-- Up to here lines of a certificate were taken, and no fault was met.
use Rattle.std.proofs.Common.{◌≡◌, ◌+◌, cond, is_some}
use Rattle.cox_outside.specs.Ahead.{ahead}
use Rattle.cox_cert.proofs.Collections.{Progress}
use Rattle.cox_cert.proofs.collecting.collect.Given as goal

abbrev pub invariant-lines : goal.invariant-lines
invariant-lines g l = record {
  progress : Progress l.form l.reader.stop (ahead l.initial.reader.feed (g.S.Source.seen l.initial.source).left)
      (ahead l.reader.feed (g.S.Source.seen l.source).left);
  source_faults : (g.S.Source.seen l.source).faults ≡ (g.S.Source.seen l.initial.source).faults;
  same_sure : (g.S.Source.seen l.source).sure ≡ (g.S.Source.seen l.initial.source).sure;
}

abbrev pub decreases-lines : goal.decreases-lines
decreases-lines g l = l.reader.feed.budget + cond (is_some l.reader.stop) 0 1

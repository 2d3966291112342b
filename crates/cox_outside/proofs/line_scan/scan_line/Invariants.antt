-- Up to here the beginning of one line was taken and kept, and no fault was met.
use Rattle.std.proofs.Common.{◌≡◌, ℕ, ◌+◌, ◌≤◌, List, length}
use Rattle.cox_tokens.specs.declared.limits.TheConstants.{LINE_LIMIT}
use Rattle.cox_outside.specs.declared.limits.TheConstants.{INPUT_LIMIT}
use Rattle.cox_outside.specs.Ahead.{ahead, TakesPart}
use Rattle.cox_outside.specs.Scan.{KeepsLine}
use Rattle.cox_outside.proofs.line_scan.scan_line.Given as goal

abbrev pub invariant-scan : goal.invariant-scan
invariant-scan g l = record {
  begun : List ℕ;
  part : TakesPart begun (ahead l.initial.feed (g.S.Source.seen l.initial.source).left) (ahead l.feed (g.S.Source.seen l.source).left);
  keeps : KeepsLine begun l.count l.by_cr l.line;
  size : length l.line ≡ LINE_LIMIT + 1;
  room : l.count + l.feed.budget ≤ INPUT_LIMIT;
  spent : l.feed.budget ≤ l.initial.feed.budget;
  faults : (g.S.Source.seen l.source).faults ≡ (g.S.Source.seen l.initial.source).faults;
  same_sure : (g.S.Source.seen l.source).sure ≡ (g.S.Source.seen l.initial.source).sure;
}

abbrev pub decreases-scan : goal.decreases-scan
decreases-scan g l = l.feed.budget

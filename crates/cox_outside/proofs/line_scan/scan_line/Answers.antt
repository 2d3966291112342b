-- One more byte belongs to the line that has begun.
use Rattle.std.proofs.Common.{arith, ◌∙◌}
use Rattle.cox_outside.proofs.Taking.{TakesPart-push}
use Rattle.cox_outside.proofs.LineKeeping.{KeepsLine-push}
use Rattle.cox_outside.proofs.line_scan.scan_line.Goals as goal

pub scan-preserved : goal.scan-preserved
scan-preserved g c = record {
  begun = _;
  part = TakesPart-push _ _ _ _ _ c.scan.invariant.part c.in-Byte.byte-test.1
      (record { bytes = c.in-Byte.ensures.bytes; cost = c.in-Byte.ensures.budget });
  keeps = KeepsLine-push _ _ _ _ _ _ c.scan.invariant.size c.scan.invariant.keeps c.keep_byte.ensures.kept c.keep_byte.ensures.full;
  size = c.keep_byte.ensures.size;
  room = omega (arith, c.in-Byte.ensures.budget);
  spent = omega (arith, c.in-Byte.ensures.budget);
  faults = c.in-Byte.ensures.cause.faults ∙ c.scan.invariant.faults;
  same_sure = c.in-Byte.ensures.cause.same_sure ∙ c.scan.invariant.same_sure;
}

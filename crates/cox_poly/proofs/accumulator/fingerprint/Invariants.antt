-- The fingerprint is that of the sums from the place at hand on.
use Rattle.std.proofs.Common.{◌≡◌, ◌≤◌, length, drop}
use Rattle.cox_poly.specs.Fingerprint.{fingerprint}
use Rattle.cox_poly.proofs.accumulator.fingerprint.Given as goal

abbrev pub invariant-loop-k : goal.invariant-loop-k
invariant-loop-k l = record {
  within : l.k ≤ length l.sums;
  so_far : l.h ≡ fingerprint (drop l.k l.sums);
}

abbrev pub decreases-loop-k : goal.decreases-loop-k
decreases-loop-k l = l.k

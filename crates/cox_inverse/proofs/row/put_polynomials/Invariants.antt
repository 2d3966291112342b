-- The polynomials so far.
use Rattle.std.proofs.Common.{◌≡◌, length}
use Rattle.cox_inverse.specs.NumberedInverses.{AreInverses}
use Rattle.cox_inverse.proofs.row.put_polynomials.Given as goal

abbrev pub invariant-loop-done : goal.invariant-loop-done
invariant-loop-done g l = record {
  size : length l.polynomials.items ≡ l.done;
  inverses : AreInverses l.ctx l.interval.top l.limit l.interval.members.items l.polynomials.items;
}

-- The members so far, from the last on, are taken off.
use Rattle.std.proofs.Common.{ℕ, ◌*◌, ◌^◌, ◌≤◌}
use Rattle.std.specs.Prelude.{unsigned_abs}
use Rattle.cox_poly.specs.Polynomial.{coefficient}
use Rattle.cox_context.specs.Numbers.{word_at}
use Rattle.cox_inverse.proofs.RecursionSums.{AreLastOff}
use Rattle.cox_inverse.proofs.sums.sum_up.Given as goal

abbrev pub invariant-loop-j : goal.invariant-loop-j
invariant-loop-j g l = record {
  off : AreLastOff l.ctx l.interval.members.items (word_at l.ctx.members l.interval.top) (word_at l.ctx.members l.x) l.j l.sums;
  size : (k : ℕ) → unsigned_abs (coefficient l.sums k) ≤ l.j * 2 ^ 101;
}

-- What the loop of `coefficient_sum` keeps.
use Rattle.std.proofs.Common.{◌≡◌, ◌*◌, ◌^◌, ◌≤◌, map, unsigned_abs}
use Rattle.std.specs.List.{range_with_len}
use Rattle.cox_poly.specs.Polynomial.{coefficient}
use Rattle.cox_replies.specs.Totals.{sum_of}
use Rattle.cox_answers.proofs.totals.coefficient_sum.Given as goal

abbrev pub invariant-loop-k : goal.invariant-loop-k
invariant-loop-k l = record {
  sum : l.sum ≡ sum_of (map (coefficient l.polynomial) (range_with_len 0 l.k));
  small : unsigned_abs l.sum ≤ l.k * 2 ^ 63;
}

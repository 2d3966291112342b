-- The list has the sums so far.
use Rattle.std.proofs.Common.{◌≡◌, take}
use Rattle.cox_poly.proofs.accumulator.narrowed_list.Given as goal

abbrev pub invariant-loop-sum : goal.invariant-loop-sum
invariant-loop-sum l = l.items.items ≡ take l.sum-index l.sums

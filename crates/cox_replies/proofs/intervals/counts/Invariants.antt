-- What the loop of `counts` keeps.
use Rattle.std.proofs.Common.{◌≡◌, ℕ, ◌+◌, ◌<◌, pos, length, take, slice_index_or}
use Rattle.cox_base.specs.declared.limits.TheConstants.{MAX_LETTERS}
use Rattle.cox_base.specs.Interval.{count_of_length}
use Rattle.cox_replies.proofs.intervals.counts.Given as goal

abbrev pub invariant-loop-i : goal.invariant-loop-i
invariant-loop-i l = record {
  long : length l.counts ≡ MAX_LETTERS + 1;
  values : (k : ℕ) → k < MAX_LETTERS + 1 → slice_index_or l.counts k (pos 0) ≡ pos (count_of_length (take l.i l.context.members) k);
}

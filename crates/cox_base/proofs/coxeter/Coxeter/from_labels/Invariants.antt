-- What the loop of `Coxeter::from_labels` keeps.
use Rattle.std.proofs.Common.{◌≡◌, ℕ, ◌+◌, ◌*◌, ◌/◌, ◌%◌, ◌<◌, length, slice_index_or, pos}
use Rattle.cox_base.specs.declared.limits.TheConstants.{MAX_RANK}
use Rattle.cox_base.specs.IntegerMatrix.{entry_of}
use Rattle.cox_base.proofs.coxeter.Coxeter.from_labels.Given as goal

abbrev pub invariant-loop-k : goal.invariant-loop-k
invariant-loop-k l =
    (length l.entries ≡ MAX_RANK * MAX_RANK)
    × ((k : ℕ) → k < l.k
    → slice_index_or l.entries k (pos 0) ≡ entry_of (record { rank = l.rank; labels = l.labels.items }) (k / MAX_RANK + 1)
    (k % MAX_RANK + 1))

-- The least of the rows so far that are not known.
use Rattle.std.proofs.Common.{◌≡◌, false, not, filter, take, slice_index_or}
use Rattle.cox_fill_core.specs.Fill.{least}
use Rattle.cox_fill_core.proofs.lists.least_of.Given as goal

abbrev pub invariant-loop-row : goal.invariant-loop-row
invariant-loop-row l = l.least ≡ least (filter (λ j. not (slice_index_or l.known j false)) (take l.row-index l.needs))

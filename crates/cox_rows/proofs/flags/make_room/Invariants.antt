-- The flags that are appended are not set.
use Rattle.std.proofs.Common.{◌≡◌, ℕ, ◌+◌, ◌-◌, length, false, slice_index_or}
use Rattle.cox_rows.proofs.flags.make_room.Given as goal

abbrev pub invariant-places : goal.invariant-places
invariant-places l = (j : ℕ) → slice_index_or l.flags.items j false ≡ slice_index_or l.initial.flags.items j false

abbrev pub decreases-places : goal.decreases-places
decreases-places l = l.i + 1 - length l.flags.items

-- The weight of the coordinates so far.
use Rattle.std.proofs.Common.{◌≡◌, ◌-◌, ◌*◌, ◌≤◌, slice_index, nat_abs}
use Rattle.cox_base.specs.IntegerMatrix.{integer_matrix}
use Rattle.cox_minroots.specs.Coordinates.{matrix_of_kind, nat_sum_to}
use Rattle.cox_minroots.proofs.root.weight.Given as goal

abbrev pub invariant-loop-t : goal.invariant-loop-t
invariant-loop-t l =
    (l.sum ≡ nat_sum_to (l.t - 1) (λ t. nat_abs ((matrix_of_kind l.fn.kind (integer_matrix l.g)).entry l.s t) * slice_index l.x (t - 1)))
    × (l.sum ≤ (l.t - 1) * 196605)

-- The entries of the letters before t.
use Rattle.std.proofs.Common.{◌∷◌}
use Rattle.cox_base.specs.IntegerMatrix.{integer_matrix}
use Rattle.cox_context.specs.Numbers.{word_at}
use Rattle.cox_context.specs.Shifts.{IsLower}
use Rattle.cox_context.proofs.ShiftRows.{AreEntriesBefore}
use Rattle.cox_context.proofs.lower.lower_members.Given as goal

abbrev pub invariant-loop-t : goal.invariant-loop-t
invariant-loop-t l = AreEntriesBefore l.shifts.matrix.rank
    (λ q x. IsLower (integer_matrix l.shifts.matrix) l.shifts.members (l.s ∷ word_at l.shifts.members l.i) q x) l.t l.lower

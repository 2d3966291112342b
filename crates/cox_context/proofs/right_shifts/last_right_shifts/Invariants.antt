-- The entries of the letters before s.
use Rattle.std.proofs.Common.{◌++◌, ◌∷◌, []}
use Rattle.cox_base.specs.IntegerMatrix.{integer_matrix}
use Rattle.cox_base.specs.ShortLex.{normal_form}
use Rattle.cox_context.specs.Numbers.{word_at}
use Rattle.cox_context.specs.Numbering.{IsNumberOf}
use Rattle.cox_context.proofs.ShiftRows.{AreEntriesBefore}
use Rattle.cox_context.proofs.right_shifts.last_right_shifts.Given as goal

abbrev pub invariant-loop-s : goal.invariant-loop-s
invariant-loop-s l = AreEntriesBefore l.shifts.matrix.rank
    (λ q x. IsNumberOf l.shifts.members (normal_form (integer_matrix l.shifts.matrix) (word_at l.shifts.members l.i ++ q ∷ [])) x) l.s l.row

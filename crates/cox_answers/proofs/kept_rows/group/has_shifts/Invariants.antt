-- What the loop of `has_shifts` keeps.
use Rattle.std.proofs.Common.{ℕ, ◌≤◌, ◌<◌, ◌∷◌, Contains}
use Rattle.cox_base.specs.IntegerMatrix.{integer_matrix}
use Rattle.cox_base.specs.ShortLex.{normal_form}
use Rattle.cox_context.specs.Numbers.{word_at}
use Rattle.cox_answers.proofs.kept_rows.group.has_shifts.Given as goal

abbrev pub invariant-loop-s : goal.invariant-loop-s
invariant-loop-s l = (t : ℕ) → 1 ≤ t → t < l.s
    → Contains l.context.members (normal_form (integer_matrix l.context.matrix) (t ∷ word_at l.context.members l.i))

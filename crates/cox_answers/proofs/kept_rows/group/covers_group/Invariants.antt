-- What the loop of `covers_group` keeps.
use Rattle.std.proofs.Common.{ℕ, ◌<◌, ◌∷◌, Contains}
use Rattle.cox_base.specs.Matrix.{IsLetter}
use Rattle.cox_base.specs.IntegerMatrix.{integer_matrix}
use Rattle.cox_base.specs.ShortLex.{normal_form}
use Rattle.cox_context.specs.Numbers.{word_at}
use Rattle.cox_answers.proofs.kept_rows.group.covers_group.Given as goal

abbrev pub invariant-loop-i : goal.invariant-loop-i
invariant-loop-i l = (k : ℕ) → k < l.i → (s : ℕ) → IsLetter l.context.matrix.rank s
    → Contains l.context.members (normal_form (integer_matrix l.context.matrix) (s ∷ word_at l.context.members k))

-- The rows of the corrections so far are there.
use Rattle.std.proofs.Common.{ℕ, ◌<◌}
use Rattle.cox_base.specs.IntegerMatrix.{integer_matrix}
use Rattle.cox_base.specs.SideDescents.{IsDescent}
use Rattle.cox_context.specs.Numbers.{word_at}
use Rattle.cox_row.specs.Rising.{number_at}
use Rattle.cox_klstep.proofs.choice.has_corrections.Given as goal

abbrev pub invariant-loop-u : goal.invariant-loop-u
invariant-loop-u g l = (k : ℕ) → k < l.u-index
    → IsDescent l.side (integer_matrix l.ctx.matrix) (word_at l.ctx.members (number_at l.u-items k)) l.descent.letter
    → g.L.LowerRows.holds l.lower (number_at l.u-items k)

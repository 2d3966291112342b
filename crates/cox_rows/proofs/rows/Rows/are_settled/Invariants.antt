-- The neighbours so far are settled, as far as the letter shortens them.
use Rattle.std.proofs.Common.{ℕ, ◌<◌}
use Rattle.cox_base.specs.declared.side.Side.TheVariants.{Left}
use Rattle.cox_base.specs.IntegerMatrix.{integer_matrix}
use Rattle.cox_base.specs.SideDescents.{IsDescent}
use Rattle.cox_context.specs.Numbers.{word_at}
use Rattle.cox_row.specs.Rising.{number_at}
use Rattle.cox_rows.specs.Ensured.{IsSettled}
use Rattle.cox_rows.proofs.rows.Rows.are_settled.Given as goal

abbrev pub invariant-loop-u : goal.invariant-loop-u
invariant-loop-u l = (k : ℕ) → k < l.u-index
    → IsDescent Left (integer_matrix l.self.elements.matrix) (word_at l.self.elements.members (number_at l.u-items k)) l.descent.letter
    → IsSettled l.self (number_at l.u-items k)

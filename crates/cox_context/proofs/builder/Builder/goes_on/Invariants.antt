-- Each letter is a left descent of the members from low to i.
use Rattle.std.proofs.Common.{ℕ, ◌≤◌, ◌<◌}
use Rattle.cox_base.specs.Matrix.{IsLetter}
use Rattle.cox_base.specs.IntegerMatrix.{integer_matrix}
use Rattle.cox_base.specs.Descents.{IsLeftDescent}
use Rattle.cox_context.specs.Numbers.{word_at}
use Rattle.cox_context.proofs.builder.Builder.goes_on.Given as goal

abbrev pub invariant-loop-i : goal.invariant-loop-i
invariant-loop-i l = (i s : ℕ) → l.low ≤ i → i < l.i → IsLetter l.self.search.matrix.rank s
    → IsLeftDescent (integer_matrix l.self.search.matrix) (word_at l.self.members i) s

-- The words without one of the first letters are done, and s x is no member yet.
use Rattle.std.proofs.Common.{◌≡◌, ℕ, ◌≤◌, ◌<◌, ◌∷◌, length, Contains}
use Rattle.cox_base.specs.IntegerMatrix.{integer_matrix}
use Rattle.cox_base.specs.ShortLex.{normal_form}
use Rattle.cox_context.specs.Appending.{without_letter}
use Rattle.cox_context.specs.Numbers.{word_at}
use Rattle.cox_context.specs.Spread.{AreAppended}
use Rattle.cox_context.proofs.exchange.+append_shift.Given as goal

abbrev pub decreases-append_shift : goal.decreases-append_shift
decreases-append_shift l = l.i

abbrev pub invariant-loop-at : goal.invariant-loop-at
invariant-loop-at l = record {
  matrix : l.context.matrix ≡ l.initial.context.matrix;
  appended : AreAppended (integer_matrix l.initial.context.matrix) (l.s ∷ word_at l.initial.context.members l.i)
      l.initial.context.members l.context.members;
  few : length l.context.members ≤ l.limit;
  none : Contains l.context.members (normal_form (integer_matrix l.initial.context.matrix)
      (l.s ∷ word_at l.initial.context.members l.i)) → ⊥;
  done : (k : ℕ) → k < l.at → Contains l.context.members (normal_form (integer_matrix l.initial.context.matrix)
      (l.s ∷ without_letter k (word_at l.initial.context.members l.i)));
}

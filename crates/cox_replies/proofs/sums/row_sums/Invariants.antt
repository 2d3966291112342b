-- What the loop of `row_sums` keeps.
use Rattle.std.proofs.Common.{◌≡◌, ℕ, ◌*◌, ◌^◌, ◌≤◌, take}
use Rattle.std.specs.Prelude.{unsigned_abs}
use Rattle.cox_base.specs.IntegerMatrix.{integer_matrix}
use Rattle.cox_base.specs.Length.{word_length}
use Rattle.cox_poly.specs.Polynomial.{coefficient}
use Rattle.cox_poly.specs.Products.{times_q_power}
use Rattle.cox_hecke.specs.Family.{Family}
use Rattle.cox_hecke.specs.Sums.{sum_over}
use Rattle.cox_hecke.specs.Row.{IsRow}
use Rattle.cox_context.specs.Numbers.{word_at}
use Rattle.cox_replies.proofs.sums.row_sums.Given as goal

abbrev pub invariant-loop-x : goal.invariant-loop-x
invariant-loop-x l = record {
  sum : (p : Family) → IsRow (integer_matrix l.rows.elements.matrix) (word_at l.rows.elements.members l.i) p → (k : ℕ)
      → coefficient l.sums k ≡ sum_over (take l.x l.rows.elements.members)
      (λ x. times_q_power (word_length (integer_matrix l.rows.elements.matrix) x) (p x)) k;
  small : (k : ℕ) → unsigned_abs (coefficient l.sums k) ≤ l.x * 2 ^ 94;
}

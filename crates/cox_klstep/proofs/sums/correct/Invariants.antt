-- The corrections before the one at hand are taken off.
use Rattle.std.proofs.Common.{◌≡◌, ℕ, ◌+◌, ◌*◌, ◌^◌, ◌≤◌, take}
use Rattle.std.specs.Prelude.{unsigned_abs}
use Rattle.cox_base.specs.IntegerMatrix.{integer_matrix}
use Rattle.cox_poly.specs.Coefficients.{Coefficients}
use Rattle.cox_poly.specs.Multiples.{minus}
use Rattle.cox_poly.specs.Polynomial.{coefficient}
use Rattle.cox_context.specs.Numbers.{word_at}
use Rattle.cox_klstep.specs.CorrectionSums.{GivesAt, numbered_sum}
use Rattle.cox_klstep.proofs.sums.correct.Given as goal

abbrev pub invariant-loop-k : goal.invariant-loop-k
invariant-loop-k l = record {
  sum : (P : ℕ → Coefficients) → GivesAt (integer_matrix l.ctx.matrix) l.ctx.members (word_at l.ctx.members l.x) P
      → (d : ℕ) → coefficient l.sums d ≡ minus (coefficient l.initial.sums) (numbered_sum P (take l.k l.correction-items)) d;
  size : (d : ℕ) → unsigned_abs (coefficient l.sums d) ≤ (l.k + 2) * 2 ^ 94;
  steps : l.steps ≤ l.initial.steps + l.k;
  kept : l.initial.steps ≤ l.steps;
}

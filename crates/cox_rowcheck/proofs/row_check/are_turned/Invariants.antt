-- The sums of the members so far are right.
use Rattle.std.proofs.Common.{◌≡◌, ℕ, ◌-◌, ◌<◌, length}
use Rattle.cox_poly.specs.Polynomial.{coefficient}
use Rattle.cox_poly.specs.Products.{flip}
use Rattle.cox_rpoly.specs.Terms.{numbered}
use Rattle.cox_context.specs.Numbers.{word_at}
use Rattle.cox_rowcheck.proofs.row_check.are_turned.Given as goal

abbrev pub invariant-loop-i : goal.invariant-loop-i
invariant-loop-i l = (j : ℕ) → j < l.i → (k : ℕ)
    → flip (length (word_at l.ctx.members l.w) - length (word_at l.ctx.members j)) (coefficient (numbered l.polynomials j)) k
    ≡ coefficient (numbered l.sums j) k

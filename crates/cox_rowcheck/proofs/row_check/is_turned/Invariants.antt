-- The coefficients so far agree.
use Rattle.std.proofs.Common.{◌≡◌, ℕ, ◌<◌}
use Rattle.cox_poly.specs.Polynomial.{coefficient}
use Rattle.cox_poly.specs.Products.{flip}
use Rattle.cox_rowcheck.proofs.row_check.is_turned.Given as goal

abbrev pub invariant-loop-k : goal.invariant-loop-k
invariant-loop-k l = (m : ℕ) → m < l.k → flip l.d (coefficient l.p) m ≡ coefficient l.fn.sum m

-- A check takes the coefficients so far.
use Rattle.std.proofs.Common.{ℕ, ◌<◌}
use Rattle.cox_poly.specs.Limit.{IsWithin}
use Rattle.cox_poly.specs.Polynomial.{coefficient}
use Rattle.cox_certtext.specs.declared.limits.TheConstants.{MAX_CHECKED_COEFFICIENT}
use Rattle.cox_rowcheck.proofs.checkable.is_checkable.Given as goal

abbrev pub invariant-loop-k : goal.invariant-loop-k
invariant-loop-k l = (j : ℕ) → j < l.k → IsWithin MAX_CHECKED_COEFFICIENT (coefficient l.p j)

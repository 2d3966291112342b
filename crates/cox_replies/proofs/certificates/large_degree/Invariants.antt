-- None of the coefficients so far is large.
use Rattle.std.proofs.Common.{ℕ, ◌<◌}
use Rattle.cox_poly.specs.Polynomial.{coefficient}
use Rattle.cox_poly.specs.Limit.{IsWithin}
use Rattle.cox_certtext.specs.declared.limits.TheConstants.{MAX_CHECKED_COEFFICIENT}
use Rattle.cox_replies.proofs.certificates.large_degree.Given as goal

abbrev pub invariant-loop-d : goal.invariant-loop-d
invariant-loop-d l = (k : ℕ) → k < l.d → IsWithin MAX_CHECKED_COEFFICIENT (coefficient l.p k)

-- The polynomials so far are within the limit.
use Rattle.std.proofs.Common.{ℕ, ◌<◌}
use Rattle.cox_poly.specs.Limit.{AllWithin}
use Rattle.cox_row.specs.Polynomials.{polynomial_at}
use Rattle.cox_row.specs.RowOf.{pool_of}
use Rattle.cox_certtext.specs.declared.limits.TheConstants.{MAX_CHECKED_COEFFICIENT}
use Rattle.cox_replies.proofs.certificates.has_large.Given as goal

abbrev pub invariant-loop-k : goal.invariant-loop-k
invariant-loop-k l = (j : ℕ) → j < l.k → AllWithin MAX_CHECKED_COEFFICIENT (polynomial_at (pool_of l.row) j)

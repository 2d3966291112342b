-- The polynomials that a check takes: their sums of products do not overflow.
use Rattle.std.specs.Prelude.{◌+◌, List, ℤ}
use Rattle.cox_poly.specs.Polynomial.{HasDegreeBelow}
use Rattle.cox_poly.specs.Limit.{AllWithin}
use Rattle.cox_certtext.specs.declared.limits.TheConstants.{MAX_DEGREE, MAX_CHECKED_COEFFICIENT}

-- no degree is above MAX_DEGREE, and no coefficient above MAX_CHECKED_COEFFICIENT in absolute value
pub record IsCheckable (p : List ℤ) : Type 0 where
  pub degree : HasDegreeBelow p (MAX_DEGREE + 1)
  pub coefficients : AllWithin MAX_CHECKED_COEFFICIENT p

-- Coefficients and values of mu beyond a limit.
use Rattle.std.specs.Prelude.{◌≡◌, ℕ, List, ℤ, pos, ◌<ℤ◌, unsigned_abs}
use Rattle.cox_base.specs.IntegerMatrix.{IntegerMatrix}
use Rattle.cox_poly.specs.Coefficients.{Coefficients}
use Rattle.cox_hecke.specs.Row.{IsKazhdanLusztig, IsMu}

-- the coefficient of q^k in P(x,w) is c, which is above the limit in absolute value
pub record IsLargeCoefficient (A : IntegerMatrix) (limit : ℤ) (x w : List ℕ) (k : ℕ) (c : ℤ) : Type 0 where
  pub polynomial : Coefficients
  pub is : IsKazhdanLusztig A x w polynomial
  pub value : polynomial k ≡ c
  pub above : limit <ℤ pos (unsigned_abs c)

-- mu(x,w) is m, which is above the limit in absolute value
pub record IsLargeMu (A : IntegerMatrix) (limit : ℤ) (x w : List ℕ) (m : ℤ) : Type 0 where
  pub is : IsMu A x w m
  pub above : limit <ℤ pos (unsigned_abs m)

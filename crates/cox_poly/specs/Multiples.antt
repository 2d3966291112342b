-- Differences and multiples of polynomials, as functions from degrees to coefficients.
use Rattle.std.specs.Prelude.{ℤ, ◌-ℤ◌, ◌*ℤ◌, neg_ℤ}
use Rattle.cox_poly.specs.Coefficients.{Coefficients}

-- f - g, -f and c f
abbrev pub minus : Coefficients → Coefficients → Coefficients
minus f g k = f k -ℤ g k

abbrev pub negated : Coefficients → Coefficients
negated f k = neg_ℤ (f k)

abbrev pub scaled : ℤ → Coefficients → Coefficients
scaled c f k = c *ℤ f k

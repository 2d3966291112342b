-- Signs of polynomials.
use Rattle.std.specs.Prelude.{ℕ, zero, suc}
use Rattle.cox_poly.specs.Coefficients.{Coefficients}
use Rattle.cox_poly.specs.Multiples.{negated}

-- (-1)^d f
abbrev pub times_sign : ℕ → Coefficients → Coefficients
times_sign zero f = f
times_sign (suc d) f = negated (times_sign d f)

-- R-polynomials (Kazhdan and Lusztig 1979, section 2; Humphreys, "Reflection Groups and Coxeter Groups", 7.4), as functions from degrees to
-- coefficients.
use Rattle.std.specs.Prelude.{ℕ, ◌-◌, List}
use Rattle.cox_base.specs.IntegerMatrix.{IntegerMatrix}
use Rattle.cox_base.specs.ShortLex.{normal_form}
use Rattle.cox_base.specs.Length.{word_length}
use Rattle.cox_poly.specs.Coefficients.{Coefficients}
use Rattle.cox_rpoly.specs.InverseOperators.{left_inverse_word, unit}
use Rattle.cox_rpoly.specs.Sign.{times_sign}

-- R(x,w): q^l(w) T(w^-1)^-1 is the sum of the (-1)^(l(w)-l(x)) R(x,w) T(x). If s1 s2 .. sk is the normal form of w, then T(w^-1)^-1 is
-- T(s1)^-1 T(s2)^-1 .. T(sk)^-1. Where x is longer than w the coefficient is 0, so that the cut-off difference does not matter.
unfoldable pub r_polynomial : IntegerMatrix → List ℕ → List ℕ → Coefficients
r_polynomial A x w = times_sign (word_length A w - word_length A x) (left_inverse_word A (normal_form A w) (unit A) x)

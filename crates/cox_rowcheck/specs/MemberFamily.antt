-- A family of polynomials that is given at some elements, and is 0 elsewhere.
use Rattle.std.specs.Prelude.{ℕ, if◌then◌else◌, List, [], ◌∷◌, ℤ}
use Rattle.std.specs.Str.{bytes_eq}
use Rattle.cox_base.specs.IntegerMatrix.{IntegerMatrix}
use Rattle.cox_base.specs.ShortLex.{normal_form}
use Rattle.cox_poly.specs.Coefficients.{Coefficients, zero_polynomial}
use Rattle.cox_poly.specs.Polynomial.{coefficient}
use Rattle.cox_hecke.specs.Family.{Family}

-- the polynomial at the place of the word, or 0
abbrev pub polynomial_of : List (List ℕ) → List (List ℤ) → List ℕ → Coefficients
polynomial_of [] polynomials word = zero_polynomial
polynomial_of (x ∷ words) [] word = zero_polynomial
polynomial_of (x ∷ words) (p ∷ polynomials) word = if bytes_eq x word then coefficient p else polynomial_of words polynomials word

-- for each element the polynomial at the place of its normal form, or 0
abbrev pub family_of : IntegerMatrix → List (List ℕ) → List (List ℤ) → Family
family_of A words polynomials x = polynomial_of words polynomials (normal_form A x)

-- Sums over finitely many elements, which are listed by words.
use Rattle.std.specs.Prelude.{ℕ, List, [], ◌∷◌}
use Rattle.cox_base.specs.IntegerMatrix.{IntegerMatrix}
use Rattle.cox_poly.specs.Coefficients.{Coefficients, zero_polynomial, plus}
use Rattle.cox_poly.specs.Products.{product}
use Rattle.cox_rpoly.specs.RPolynomial.{r_polynomial}
use Rattle.cox_hecke.specs.Family.{Family}

-- the sum of f(y) over the words y
abbrev pub sum_over : List (List ℕ) → Family → Coefficients
sum_over [] f = zero_polynomial
sum_over (y ∷ words) f = plus (f y) (sum_over words f)

-- The sum of R(x,y) h(y). For a combination h of the T(y) over these words, q^-l(x) times bar of this sum is the coefficient of T(x) in bar
-- of h (Humphreys 7.4): `bar` says what that is.
abbrev pub bar_sum : IntegerMatrix → List (List ℕ) → Family → Family
bar_sum A words h x = sum_over words (λ y. product (r_polynomial A x y) (h y))

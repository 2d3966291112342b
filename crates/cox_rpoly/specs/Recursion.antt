-- For code: R-polynomials by their recursion (Humphreys 7.5). Along the normal form of w it gives R(x,w).
use Rattle.std.specs.Prelude.{ℕ, if◌then◌else◌, List, [], ◌∷◌}
use Rattle.cox_base.specs.IntegerMatrix.{IntegerMatrix}
use Rattle.cox_poly.specs.Coefficients.{Coefficients, plus, times_q, times_q_less_one}
use Rattle.cox_rpoly.specs.InverseOperators.{shortens_left, unit}

-- R(x,w), w being a word in which each letter shortens what follows it and itself, from the left. For w = e it is 1
-- where x is the identity, else 0. For w = s v, R(x, s v) = R(sx, v) where sx < x, else (q-1) R(x, v) + q R(sx, v).
unfoldable pub r_along : IntegerMatrix → List ℕ → List ℕ → Coefficients
r_along A x [] = unit A x
r_along A x (s ∷ v) =
    if shortens_left A s x then r_along A (s ∷ x) v else plus (times_q_less_one (r_along A x v)) (times_q (r_along A (s ∷ x) v))

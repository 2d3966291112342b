-- For code: columns of R-polynomials.
use Rattle.std.specs.Prelude.{◌≡◌, ℕ, ◌<◌, ◌≤◌, List, length, ℤ}
use Rattle.cox_base.specs.IntegerMatrix.{IntegerMatrix}
use Rattle.cox_poly.specs.Polynomial.{coefficient}
use Rattle.cox_rpoly.specs.Terms.{numbered}
use Rattle.cox_rpoly.specs.RPolynomial.{r_polynomial}
use Rattle.cox_context.specs.Numbers.{word_at}

-- the column of v: R(x,v) for each member x; what is behind the end of the list is 0
pub record IsColumn (A : IntegerMatrix) (members : List (List ℕ)) (v : List ℕ) (column : List (List ℤ)) : Type 0 where
  pub size : length column ≤ length members
  pub value : (i k : ℕ) → i < length members → coefficient (numbered column i) k ≡ r_polynomial A (word_at members i) v k

-- Inverse Kazhdan-Lusztig polynomials (Kazhdan and Lusztig 1979, section 3; Björner and Brenti, 5.6).
use Rattle.std.specs.Prelude.{◌≡◌, ℕ, ◌-◌, List, pos}
use Rattle.cox_base.specs.IntegerMatrix.{IntegerMatrix}
use Rattle.cox_base.specs.Length.{word_length}
use Rattle.cox_base.specs.Bruhat.{IsBelow}
use Rattle.cox_base.specs.SortedList.{IsListOf}
use Rattle.cox_base.specs.Interval.{IsBetween}
use Rattle.cox_poly.specs.Coefficients.{Coefficients}
use Rattle.cox_poly.specs.Products.{product}
use Rattle.cox_rpoly.specs.Sign.{times_sign}
use Rattle.cox_hecke.specs.Family.{Family, RespectsElements}
use Rattle.cox_hecke.specs.Operators.{basis}
use Rattle.cox_hecke.specs.Sums.{sum_over}
use Rattle.cox_hecke.specs.Row.{IsRow}

-- (-1)^(l(z)-l(x)) P(x,z) q(z), where `rows z` is the row of z
abbrev pub signed_term : IntegerMatrix → (List ℕ → Family) → Family → List ℕ → Family
signed_term A rows q x z = times_sign (word_length A z - word_length A x) (product (rows z x) (q z))

-- q is the inverse row of w: q(x) = 0 unless x ≤ w; and for each x ≤ w the sum of (-1)^(l(z)-l(x)) P(x,z) q(z) over the z with
-- x ≤ z ≤ w is 1 where x = w, else 0.
pub record IsInverseRow (A : IntegerMatrix) (w : List ℕ) (q : Family) : Type 0 where
  pub element : RespectsElements A q
  pub outside : (x : List ℕ) → ¬ IsBelow A x w → (k : ℕ) → q x k ≡ pos 0
  pub sum : (rows : List ℕ → Family) → ((z : List ℕ) → IsRow A z (rows z))
      → (x : List ℕ) (between : List (List ℕ)) → IsBelow A x w → IsListOf (IsBetween A x w) between
      → (k : ℕ) → sum_over between (signed_term A rows q x) k ≡ basis A w x k

-- f is Q(x,w): what the inverse row of w has at x
pub record IsInverse (A : IntegerMatrix) (x w : List ℕ) (f : Coefficients) : Type 0 where
  pub row : Family
  pub is : IsInverseRow A w row
  pub at : (k : ℕ) → f k ≡ row x k

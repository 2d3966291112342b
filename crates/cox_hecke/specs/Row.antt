-- Rows of Kazhdan-Lusztig polynomials (Kazhdan and Lusztig 1979, 1.1; Humphreys 7.9, 7.10).
use Rattle.std.specs.Prelude.{◌≡◌, ℕ, ◌+◌, ◌-◌, ◌*◌, ◌/◌, ◌%◌, ◌==◌, ◌<◌, ◌≤◌, if◌then◌else◌, List, ℤ, pos}
use Rattle.cox_base.specs.IntegerMatrix.{IntegerMatrix}
use Rattle.cox_base.specs.Length.{word_length}
use Rattle.cox_base.specs.Bruhat.{IsBelow}
use Rattle.cox_base.specs.SortedList.{IsListOf}
use Rattle.cox_base.specs.Interval.{IsBetween}
use Rattle.cox_poly.specs.Coefficients.{Coefficients, one_polynomial}
use Rattle.cox_poly.specs.Products.{flip}
use Rattle.cox_hecke.specs.Family.{Family, RespectsElements}
use Rattle.cox_hecke.specs.Sums.{bar_sum}

-- p is the row of w: p(w) = 1; 2 deg p(x) + 1 ≤ l(w) - l(x) where x is shorter than w; p(x) = 0 unless x ≤ w; and for each x ≤ w,
-- with d = l(w) - l(x), q^d p(x)(1/q) is the sum of R(x,y) p(y) over the y with x ≤ y ≤ w.
-- The last says that q^(-l(w)/2) times the sum of the p(x) T(x) is its own image under bar: the law `bar_invariance`.
pub record IsRow (A : IntegerMatrix) (w : List ℕ) (p : Family) : Type 0 where
  pub element : RespectsElements A p
  pub outside : (x : List ℕ) → ¬ IsBelow A x w → (k : ℕ) → p x k ≡ pos 0
  pub top : (k : ℕ) → p w k ≡ one_polynomial k
  pub degree : (x : List ℕ) (k : ℕ) → word_length A x < word_length A w → word_length A w ≤ word_length A x + 2 * k → p x k ≡ pos 0
  pub bar : (x : List ℕ) (between : List (List ℕ)) → IsBelow A x w → IsListOf (IsBetween A x w) between
      → (k : ℕ) → flip (word_length A w - word_length A x) (p x) k ≡ bar_sum A between p x k

-- f is P(x,w): what the row of w has at x
pub record IsKazhdanLusztig (A : IntegerMatrix) (x w : List ℕ) (f : Coefficients) : Type 0 where
  pub row : Family
  pub is : IsRow A w row
  pub at : (k : ℕ) → f k ≡ row x k

-- the coefficient of q^((d-1)/2) where d is odd, else 0
abbrev pub middle_coefficient : ℕ → Coefficients → ℤ
middle_coefficient d f = if d % 2 == 1 then f (d / 2) else pos 0

-- m is mu(x,w): the coefficient of q^((d-1)/2) in P(x,w) where d = l(w) - l(x) is odd, else 0. Where x is not shorter than w the cut-off
-- difference is 0, which is even.
pub record IsMu (A : IntegerMatrix) (x w : List ℕ) (m : ℤ) : Type 0 where
  pub row : Family
  pub is : IsRow A w row
  pub value : m ≡ middle_coefficient (word_length A w - word_length A x) (row x)

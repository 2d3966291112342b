-- The conditions of a row, with sums over one list of elements.
use Rattle.std.specs.Prelude.{◌≡◌, ℕ, ◌+◌, ◌-◌, ◌*◌, ◌<◌, ◌≤◌, List, pos}
use Rattle.cox_base.specs.IntegerMatrix.{IntegerMatrix}
use Rattle.cox_base.specs.Length.{word_length}
use Rattle.cox_base.specs.Bruhat.{IsBelow}
use Rattle.cox_poly.specs.Coefficients.{one_polynomial}
use Rattle.cox_poly.specs.Products.{flip}
use Rattle.cox_hecke.specs.Family.{Family}
use Rattle.cox_hecke.specs.Sums.{bar_sum}

-- p(w) = 1; 2 deg p(x) + 1 ≤ l(w) - l(x) where x is shorter than w; and for each x ≤ w, with d = l(w) - l(x), q^d p(x)(1/q) is the sum of
-- R(x,y) p(y) over all y of the list. R(x,y) is 0 unless x ≤ y.
pub record IsBalanced (A : IntegerMatrix) (w : List ℕ) (p : Family) (words : List (List ℕ)) : Type 0 where
  pub top : (k : ℕ) → p w k ≡ one_polynomial k
  pub degree : (x : List ℕ) (k : ℕ) → word_length A x < word_length A w → word_length A w ≤ word_length A x + 2 * k → p x k ≡ pos 0
  pub turned : (x : List ℕ) → IsBelow A x w → (k : ℕ) → flip (word_length A w - word_length A x) (p x) k ≡ bar_sum A words p x k

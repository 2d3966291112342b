-- For code: the sums that the check of a row compares.
use Rattle.std.specs.Prelude.{◌≡◌, ℕ, ◌+◌, ◌^◌, ◌<◌, ◌≤◌, List, length, ℤ, pos, unsigned_abs}
use Rattle.cox_base.specs.IntegerMatrix.{IntegerMatrix}
use Rattle.cox_poly.specs.Coefficients.{plus}
use Rattle.cox_poly.specs.Polynomial.{coefficient}
use Rattle.cox_poly.specs.Products.{product}
use Rattle.cox_rpoly.specs.Terms.{numbered}
use Rattle.cox_hecke.specs.Sums.{bar_sum}
use Rattle.cox_context.specs.Numbers.{word_at}
use Rattle.cox_rowcheck.specs.MemberFamily.{family_of}

-- r p was added, and no coefficient grew by more than 2^100
pub record HasAdded (old new r p : List ℤ) : Type 0 where
  pub value : (k : ℕ) → coefficient new k ≡ plus (coefficient old) (product (coefficient r) (coefficient p)) k
  pub grown : (k : ℕ) → unsigned_abs (coefficient new k) ≤ unsigned_abs (coefficient old k) + 2 ^ 100

-- so many sums of 0
pub record AreZeros (n : ℕ) (sums : List (List ℤ)) : Type 0 where
  pub size : length sums ≡ n
  pub zero : (i k : ℕ) → coefficient (numbered sums i) k ≡ pos 0

-- for each member x the sum of R(x,y) p(y) over the words y
pub record AreSums (A : IntegerMatrix) (members : List (List ℕ)) (polynomials : List (List ℤ)) (words : List (List ℕ))
    (sums : List (List ℤ)) : Type 0 where
  pub size : length sums ≡ length members
  pub value : (i k : ℕ) → i < length members
      → coefficient (numbered sums i) k ≡ bar_sum A words (family_of A members polynomials) (word_at members i) k

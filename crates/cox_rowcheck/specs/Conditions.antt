-- For code: the conditions of a row, by the numbers of members.
use Rattle.std.specs.Prelude.{◌≡◌, ◌≢◌, ℕ, ◌+◌, ◌-◌, ◌*◌, ◌<◌, ◌≤◌, List, length, ℤ, pos}
use Rattle.cox_poly.specs.Coefficients.{one_polynomial}
use Rattle.cox_poly.specs.Polynomial.{coefficient}
use Rattle.cox_poly.specs.Products.{flip}
use Rattle.cox_rpoly.specs.Terms.{numbered}
use Rattle.cox_context.specs.Numbers.{word_at}

-- p may be p(x) for the i-th member x: it is 1 where x is w, and else 2 deg p + 1 ≤ l(w) - l(x)
pub record MeetsBound (members : List (List ℕ)) (w i : ℕ) (p : List ℤ) : Type 0 where
  pub top : i ≡ w → (k : ℕ) → coefficient p k ≡ one_polynomial k
  pub degree : i ≢ w → (k : ℕ) → length (word_at members w) ≤ length (word_at members i) + 2 * k → coefficient p k ≡ pos 0

abbrev pub AreBounded : List (List ℕ) → ℕ → List (List ℤ) → Type 0
AreBounded members w polynomials = (i : ℕ) → i < length members → MeetsBound members w i (numbered polynomials i)

-- the sum of each member x is q^d p(x)(1/q), with d = l(w) - l(x)
abbrev pub AreTurned : List (List ℕ) → ℕ → List (List ℤ) → List (List ℤ) → Type 0
AreTurned members w polynomials sums = (i : ℕ) → i < length members → (k : ℕ)
    → flip (length (word_at members w) - length (word_at members i)) (coefficient (numbered polynomials i)) k
    ≡ coefficient (numbered sums i) k

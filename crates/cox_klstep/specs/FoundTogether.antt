-- Polynomials of a row that are found before it is made.
use Rattle.std.specs.Prelude.{ℕ, List, ℤ, All}
use Rattle.cox_base.specs.IntegerMatrix.{integer_matrix}
use Rattle.cox_base.specs.Bruhat.{IsBelow}
use Rattle.cox_poly.specs.Polynomial.{coefficient}
use Rattle.cox_hecke.specs.Row.{IsKazhdanLusztig}
use Rattle.cox_context.specs.Closed.{Elements}
use Rattle.cox_context.specs.Numbers.{word_at}
use Rattle.cox_klstep.specs.declared.parallel.FoundPolynomial.{FoundPolynomial}

-- x ≤ w, and the polynomial is P(x,w), for the members w and x with the numbers i and x
pub record IsFoundFor (e : Elements) (i x : ℕ) (polynomial : List ℤ) : Type 0 where
  pub below : IsBelow (integer_matrix e.matrix) (word_at e.members x) (word_at e.members i)
  pub value : IsKazhdanLusztig (integer_matrix e.matrix) (word_at e.members x) (word_at e.members i) (coefficient polynomial)

-- each is P(x,w) for its member x ≤ w, where w is the member i
abbrev pub AreFound : Elements → ℕ → List FoundPolynomial → Type 0
AreFound e i = All (λ found. IsFoundFor e i found.member found.polynomial)

-- Inverse rows as they are kept: the polynomial of a member has the place that is told from the end.
use Rattle.std.proofs.Common.{◌≡◌, ℕ, suc, ◌-◌, ◌<◌, List, length, ℤ, ap, ◌∙◌, arith}
use Rattle.cox_base.specs.IntegerMatrix.{integer_matrix}
use Rattle.cox_poly.specs.Polynomial.{coefficient}
use Rattle.cox_context.specs.Closed.{Elements}
use Rattle.cox_context.specs.Numbers.{word_at}
use Rattle.cox_row.specs.Rising.{number_at}
use Rattle.cox_row.specs.Polynomials.{polynomial_at}
use Rattle.cox_inverse.specs.InverseRow.{IsInverse}
use Rattle.cox_inverse.specs.NumberedInverses.{number_before, AreInverses}

pub row-value : (e : Elements) (w : ℕ) (limit : ℤ) (numbers : List ℕ) (polynomials : List (List ℤ)) → length polynomials ≡ length numbers
    → AreInverses e w limit numbers polynomials → (k x : ℕ) → k < length numbers → number_at numbers k ≡ x
    → IsInverse (integer_matrix e.matrix) (word_at e.members x) (word_at e.members w)
    (coefficient (polynomial_at polynomials (length numbers - 1 - k)))
row-value e w limit numbers polynomials size are k x l is =
    let place : length numbers - suc (length numbers - 1 - k) ≡ k = omega (arith, l)
    in let at : number_before numbers (length numbers - 1 - k) ≡ x = ap (number_at numbers) place ∙ is
    in rw at at (are.value (length numbers - 1 - k) (omega (arith, l, size)))

-- Inverse rows by the numbers of members: the members between two, and the polynomials Q(x,w) at some of them.
use Rattle.std.specs.Prelude.{◌≡◌, ℕ, suc, ◌-◌, ◌<◌, ◌≤◌, List, length, ℤ}
use Rattle.cox_base.specs.IntegerMatrix.{integer_matrix}
use Rattle.cox_base.specs.Bruhat.{IsBelow}
use Rattle.cox_poly.specs.Polynomial.{coefficient, IsPolynomial}
use Rattle.cox_poly.specs.Limit.{AllWithin}
use Rattle.cox_context.specs.Closed.{Elements}
use Rattle.cox_context.specs.Numbers.{word_at}
use Rattle.cox_row.specs.Rising.{number_at, AreRising, AreWithin}
use Rattle.cox_row.specs.Polynomials.{polynomial_at}
use Rattle.cox_inverse.specs.InverseRow.{IsInverse}

-- the numbers of the members z with y ≤ z ≤ w, rising
pub record AreBetween (e : Elements) (y w : ℕ) (numbers : List ℕ) : Type 0 where
  pub rising : AreRising numbers
  pub within : AreWithin (length e.members) numbers
  pub above : (k : ℕ) → k < length numbers
      → IsBelow (integer_matrix e.matrix) (word_at e.members y) (word_at e.members (number_at numbers k))
  pub below : (k : ℕ) → k < length numbers
      → IsBelow (integer_matrix e.matrix) (word_at e.members (number_at numbers k)) (word_at e.members w)
  pub whole : (z : ℕ) → z < length e.members → IsBelow (integer_matrix e.matrix) (word_at e.members y) (word_at e.members z)
      → IsBelow (integer_matrix e.matrix) (word_at e.members z) (word_at e.members w)
      → (k : ℕ) × (k < length numbers) × (number_at numbers k ≡ z)

-- the number that has j others behind it
abbrev pub number_before : List ℕ → ℕ → ℕ
number_before numbers j = number_at numbers (length numbers - suc j)

-- For the last of the numbers, from the last one on, the polynomials Q(z,w): the one at the place j is that of the number with j others
-- behind it. No coefficient is above the limit in absolute value.
pub record AreInverses (e : Elements) (w : ℕ) (limit : ℤ) (numbers : List ℕ) (polynomials : List (List ℤ)) : Type 0 where
  pub few : length polynomials ≤ length numbers
  pub trimmed : (j : ℕ) → j < length polynomials → IsPolynomial (polynomial_at polynomials j)
  pub value : (j : ℕ) → j < length polynomials → IsInverse (integer_matrix e.matrix) (word_at e.members (number_before numbers j))
      (word_at e.members w) (coefficient (polynomial_at polynomials j))
  pub within : (j : ℕ) → j < length polynomials → AllWithin limit (polynomial_at polynomials j)

-- what contracts see of an inverse row of w: numbers of members x, and the polynomials Q(x,w), from the last x on
pub record NumberedInverses : Type 0 where
  pub numbers : List ℕ
  pub polynomials : List (List ℤ)

-- the numbers rise, and there is one polynomial for each
pub record AreAligned (row : NumberedInverses) : Type 0 where
  pub rising : AreRising row.numbers
  pub size : length row.polynomials ≡ length row.numbers

-- the inverse row of w from w down to y
pub record IsInverseRowDown (e : Elements) (y w : ℕ) (limit : ℤ) (row : NumberedInverses) : Type 0 where
  pub between : AreBetween e y w row.numbers
  pub inverses : AreInverses e w limit row.numbers row.polynomials

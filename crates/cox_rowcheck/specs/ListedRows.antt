-- Rows as lists: the polynomials of a row, in the order of a list of elements.
use Rattle.std.specs.Prelude.{◌≡◌, ℕ, ◌<◌, List, length, ℤ}
use Rattle.cox_base.specs.IntegerMatrix.{IntegerMatrix}
use Rattle.cox_poly.specs.Polynomial.{coefficient}
use Rattle.cox_rpoly.specs.Terms.{numbered}
use Rattle.cox_hecke.specs.Row.{IsKazhdanLusztig}
use Rattle.cox_context.specs.Numbers.{word_at}

-- the polynomials are the row of w at these words: P(x,w) stands at the place of each x
pub record AreRow (A : IntegerMatrix) (w : List ℕ) (words : List (List ℕ)) (polynomials : List (List ℤ)) : Type 0 where
  pub count : length polynomials ≡ length words
  pub each : (i : ℕ) → i < length words → IsKazhdanLusztig A (word_at words i) w (coefficient (numbered polynomials i))

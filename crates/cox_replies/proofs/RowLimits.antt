-- Whether a row has a coefficient above a limit, by the polynomials that are kept of it.
use Rattle.std.proofs.Common.{ℕ, ◌<◌, length, ℤ, pos}
use Rattle.std.specs.Prelude.{unsigned_abs, ◌<ℤ◌, ◌≤ℤ◌}
use Rattle.cox_base.specs.IntegerMatrix.{integer_matrix}
use Rattle.cox_base.specs.Admissible.{IsAdmissible}
use Rattle.cox_context.specs.Closed.{Elements, IsClosed}
use Rattle.cox_context.specs.Numbers.{word_at}
use Rattle.cox_poly.specs.Polynomial.{coefficient}
use Rattle.cox_poly.specs.Limit.{AllWithin}
use Rattle.cox_row.specs.declared.row.Row.{Row}
use Rattle.cox_row.specs.Polynomials.{polynomial_at}
use Rattle.cox_row.specs.RowOf.{pool_of}
use Rattle.cox_row.proofs.ViewedPolynomials.{row-polynomials}
use Rattle.cox_rows.specs.Beyond.{IsBeyond, coefficient as large_coefficient}
use Rattle.cox_rows.specs.Holding.{IsHeldRow}
use Rattle.cox_rows.proofs.RowBeyond.{not_beyond}

module _ (e : Elements) (g : IsAdmissible (integer_matrix e.matrix)) (closed : IsClosed (integer_matrix e.matrix) e.members)
    (limit : ℤ) (i : ℕ) (row : Row) (held : IsHeldRow e limit i row) (most : ℤ) (least : pos 0 ≤ℤ most) where
  -- a polynomial with a large coefficient is one of the row
  pub large-beyond : (j k : ℕ) → j < length (pool_of row) → most <ℤ pos (unsigned_abs (coefficient (polynomial_at (pool_of row) j) k))
      → IsBeyond (integer_matrix e.matrix) most (word_at e.members i)
  large-beyond j k l large =
      let one = (row-polynomials (integer_matrix e.matrix) g e.members closed i held.member row held.is).each j l in
      large_coefficient {row = one.is.row} one.x k one.is.is (rw (one.is.at k) at large)

  -- where there is none, the row is not beyond the limit; its values of mu have their own
  pub within-not_beyond : ((j : ℕ) → j < length (pool_of row) → AllWithin most (polynomial_at (pool_of row) j))
      → IsBeyond (integer_matrix e.matrix) most (word_at e.members i) → ⊥
  within-not_beyond small = not_beyond (integer_matrix e.matrix) g e.members closed i held.member most least row held.is
      (record { coefficients = small; mu = held.within.mu })

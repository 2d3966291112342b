-- Elements whose rows are beyond the limits, and elements whose recursion asks for such a row.
use Rattle.std.specs.Prelude.{ℕ, List, ℤ, pos, ◌<ℤ◌, unsigned_abs}
use Rattle.cox_base.specs.IntegerMatrix.{IntegerMatrix}
use Rattle.cox_hecke.specs.Family.{Family}
use Rattle.cox_hecke.specs.Row.{IsRow, IsMu}
use Rattle.cox_hecke.specs.Needs.{IsNeeded}
use Rattle.cox_row.specs.declared.row.TheConstants.{MU_LIMIT}

-- some P(x,w) has a coefficient above the limit in absolute value, or some mu(x,w) is above MU_LIMIT
pub data IsBeyond (A : IntegerMatrix) (limit : ℤ) (w : List ℕ) : Type 0 where
  coefficient : {row : Family} (x : List ℕ) (k : ℕ) → IsRow A w row → limit <ℤ pos (unsigned_abs (row x k)) → IsBeyond A limit w
  mu : {x : List ℕ} {m : ℤ} → IsMu A x w m → pos MU_LIMIT <ℤ pos (unsigned_abs m) → IsBeyond A limit w

-- some element of Need(w) is such
pub record NeedsBeyond (A : IntegerMatrix) (limit : ℤ) (w : List ℕ) : Type 0 where
  pub element : List ℕ
  pub needed : IsNeeded A w element
  pub beyond : IsBeyond A limit element

-- Extremal elements: the polynomials at these determine those of the whole row.
use Rattle.std.specs.Prelude.{ℕ, List}
use Rattle.cox_base.specs.declared.side.Side.TheVariants.{Left, Right}
use Rattle.cox_base.specs.IntegerMatrix.{IntegerMatrix}
use Rattle.cox_base.specs.SideDescents.{IsDescent}

-- x is extremal for w: each left descent of w is one of x, and each right descent of w is one of x
pub record IsExtremal (A : IntegerMatrix) (w x : List ℕ) : Type 0 where
  pub left : (s : ℕ) → IsDescent Left A w s → IsDescent Left A x s
  pub right : (s : ℕ) → IsDescent Right A w s → IsDescent Right A x s

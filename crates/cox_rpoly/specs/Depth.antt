-- When R(y,w) is not computed.
use Rattle.std.specs.Prelude.{◌≡◌, ℕ, ◌+◌, ◌<◌, List}
use Rattle.cox_base.specs.IntegerMatrix.{IntegerMatrix}
use Rattle.cox_base.specs.Length.{word_length}
use Rattle.cox_base.specs.Bruhat.{IsBelow}
use Rattle.cox_rpoly.specs.declared.TheConstants.{MAX_DIFFERENCE}

-- y ≤ w, and d is l(w) - l(y), which is more than R is computed at
pub record IsDeep (A : IntegerMatrix) (y w : List ℕ) (d : ℕ) : Type 0 where
  pub below : IsBelow A y w
  pub difference : word_length A w ≡ word_length A y + d
  pub above : MAX_DIFFERENCE < d

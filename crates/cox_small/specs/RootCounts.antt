-- How many small roots there are at most.
use Rattle.std.specs.Prelude.{◌≡◌, ℕ, ◌<◌}
use Rattle.cox_base.specs.IntegerMatrix.{IntegerMatrix}
use Rattle.cox_reflect.specs.Action.{Vector}
use Rattle.cox_small.specs.SmallRoots.{IsSmallRoot}

-- there are at most max small roots: each is one of root 0 to root (max - 1)
pub record HasFewSmallRoots (A : IntegerMatrix) (max : ℕ) : Type 0 where
  pub root : ℕ → Vector
  pub all : {b : Vector} → IsSmallRoot A b → (i : ℕ) × (i < max) × (root i ≡ b)

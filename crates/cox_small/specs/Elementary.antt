-- Domination of roots, and elementary roots (Brink and Howlett 1993, section 2).
use Rattle.std.specs.Prelude.{◌≡◌, ℕ, List}
use Rattle.cox_base.specs.Matrix.{IsLetter}
use Rattle.cox_base.specs.IntegerMatrix.{IntegerMatrix}
use Rattle.cox_reflect.specs.Action.{Vector, simple_root}
use Rattle.cox_reflect.specs.WordAction.{act, IsNonnegative, IsNonpositive}

-- b is the image of a simple root
pub record IsRoot (A : IntegerMatrix) (b : Vector) : Type 0 where
  pub word : List ℕ
  pub letter : ℕ
  pub inside : IsLetter A.rank letter
  pub image : act A word (simple_root letter) ≡ b

-- b dominates d: each element that makes b negative makes d negative
pub record Dominates (A : IntegerMatrix) (b d : Vector) : Type 0 where
  pub follows : (w : List ℕ) → IsNonpositive (act A w b) → IsNonpositive (act A w d)

-- b is a positive root that dominates no other positive root
pub record IsElementary (A : IntegerMatrix) (b : Vector) : Type 0 where
  pub root : IsRoot A b
  pub positive : IsNonnegative b
  pub alone : (d : Vector) → IsRoot A d → IsNonnegative d → Dominates A b d → b ≡ d

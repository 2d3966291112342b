-- What a context keeps.
use Rattle.std.specs.Prelude.{◌≡◌, ℕ, ◌*◌, List, [], ◌∷◌, ◌++◌, length}
use Rattle.cox_base.specs.IntegerMatrix.{IntegerMatrix}
use Rattle.cox_base.specs.Descents.{IsLeftDescent, IsRightDescent}
use Rattle.cox_context.specs.Closed.{IsClosed}
use Rattle.cox_context.specs.Inverses.{AreKeptInverses}
use Rattle.cox_context.specs.Shifts.{AreLeftShifts, AreRightShifts, AreNarrow, AreSets}

-- the tables of right shifts, the sets of descents, and the table of inverses
pub record AreTables (A : IntegerMatrix) (members : List (List ℕ)) (right left_sets right_sets inverses : List ℕ) : Type 0 where
  pub right_size : length right ≡ length members * A.rank
  pub right_shifts : AreRightShifts A members right
  pub left_bits : AreSets (IsLeftDescent A) members left_sets
  pub right_bits : AreSets (IsRightDescent A) members right_sets
  pub kept_inverses : AreKeptInverses A members inverses

-- the same of each word but the last one, as if there were no others
pub record AreTablesOfOthers (A : IntegerMatrix) (words : List (List ℕ)) (right left_sets right_sets inverses : List ℕ) : Type 0 where
  pub others : List (List ℕ)
  pub last : List ℕ
  pub is : words ≡ others ++ last ∷ []
  pub tables : AreTables A others right left_sets right_sets inverses

-- its members, the tables of their shifts, the sets of their descents, the narrow tables of shifts, and the table of inverses
pub record IsContext (A : IntegerMatrix) (members : List (List ℕ))
    (left right left_sets right_sets narrow_left narrow_right inverses : List ℕ) : Type 0 where
  pub closed : IsClosed A members
  pub left_shifts : AreLeftShifts A members left
  pub tables : AreTables A members right left_sets right_sets inverses
  pub left_narrow : AreNarrow left narrow_left
  pub right_narrow : AreNarrow right narrow_right

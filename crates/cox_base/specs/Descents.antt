-- Left descents and right descents (Humphreys 5.2, 5.4): descents on a side, with the side in the name.
use Rattle.std.specs.Prelude.{ℕ, ◌<◌, List, [], ◌∷◌, ◌++◌}
use Rattle.cox_base.specs.declared.side.Side.TheVariants.{Left, Right}
use Rattle.cox_base.specs.IntegerMatrix.{IntegerMatrix}
use Rattle.cox_base.specs.Length.{word_length}
use Rattle.cox_base.specs.SideDescents.{descent_set}

-- l(su) < l(u)
abbrev pub IsLeftDescent : IntegerMatrix → List ℕ → ℕ → Type 0
IsLeftDescent A u s = word_length A (s ∷ u) < word_length A u

-- l(us) < l(u)
abbrev pub IsRightDescent : IntegerMatrix → List ℕ → ℕ → Type 0
IsRightDescent A u s = word_length A (u ++ s ∷ []) < word_length A u

-- L(u)
abbrev pub left_descents : IntegerMatrix → List ℕ → List ℕ
left_descents A u = descent_set Left A u

-- R(u)
abbrev pub right_descents : IntegerMatrix → List ℕ → List ℕ
right_descents A u = descent_set Right A u

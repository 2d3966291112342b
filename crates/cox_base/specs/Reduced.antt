-- Reduced words (Humphreys 5.2).
use Rattle.std.specs.Prelude.{◌≡◌, ℕ, List, length}
use Rattle.cox_base.specs.IntegerMatrix.{IntegerMatrix}
use Rattle.cox_base.specs.Length.{word_length}

-- no word of the element is shorter
abbrev pub IsReduced : IntegerMatrix → List ℕ → Type 0
IsReduced A u = word_length A u ≡ length u

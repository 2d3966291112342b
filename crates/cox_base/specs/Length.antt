-- The length of an element (Humphreys 5.2).
use Rattle.std.specs.Prelude.{ℕ, List, length}
use Rattle.cox_base.specs.IntegerMatrix.{IntegerMatrix}
use Rattle.cox_base.specs.ShortLex.{normal_form}

-- l(u): the number of letters of the normal form
unfoldable pub word_length : IntegerMatrix → List ℕ → ℕ
word_length A u = length (normal_form A u)

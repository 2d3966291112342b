-- Words by the side of their descents.
use Rattle.std.specs.Prelude.{ℕ, List, reverse}
use Rattle.cox_base.specs.declared.side.Side.{Side}
use Rattle.cox_base.specs.declared.side.Side.TheVariants.{Left, Right}

-- the word whose left descents are the descents of u on that side
abbrev pub word_on_side : Side → List ℕ → List ℕ
word_on_side Left u = u
word_on_side Right u = reverse u

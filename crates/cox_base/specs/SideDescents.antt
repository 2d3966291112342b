-- Shifts and descents on a side (Humphreys 5.2, 5.4).
use Rattle.std.specs.Prelude.{ℕ, ◌<◌, nat_lt, List, [], ◌∷◌, ◌++◌, filter}
use Rattle.cox_base.specs.declared.side.Side.{Side}
use Rattle.cox_base.specs.declared.side.Side.TheVariants.{Left, Right}
use Rattle.cox_base.specs.IntegerMatrix.{IntegerMatrix}
use Rattle.cox_base.specs.ShortLex.{letters}
use Rattle.cox_base.specs.Length.{word_length}

-- s u or u s
abbrev pub times_letter : Side → ℕ → List ℕ → List ℕ
times_letter Left s u = s ∷ u
times_letter Right s u = u ++ s ∷ []

-- s shortens u on the side: l(su) < l(u), or l(us) < l(u)
abbrev pub IsDescent : Side → IntegerMatrix → List ℕ → ℕ → Type 0
IsDescent side A u s = word_length A (times_letter side s u) < word_length A u

-- L(u) or R(u): the letters that shorten u on the side, rising
unfoldable pub descent_set : Side → IntegerMatrix → List ℕ → List ℕ
descent_set side A u = filter (λ s. nat_lt (word_length A (times_letter side s u)) (word_length A u)) (letters A.rank)

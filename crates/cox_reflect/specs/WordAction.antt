-- How a word acts on integer vectors: by its letters, the last one first. And the signs and the size of a vector.
use Rattle.std.specs.Prelude.{ℕ, zero, suc, ◌+◌, nat_abs, List, [], ◌∷◌, pos, ◌≤ℤ◌}
use Rattle.cox_base.specs.IntegerMatrix.{IntegerMatrix}
use Rattle.cox_reflect.specs.Action.{Vector, reflect}

-- the image of v under a word
unfoldable pub act : IntegerMatrix → List ℕ → Vector → Vector
act A [] v = v
act A (s ∷ u) v = reflect A s (act A u v)

-- each coordinate is at least 0
abbrev pub IsNonnegative : Vector → Type 0
IsNonnegative v = (i : ℕ) → pos 0 ≤ℤ v i

-- each coordinate is at most 0
abbrev pub IsNonpositive : Vector → Type 0
IsNonpositive v = (i : ℕ) → v i ≤ℤ pos 0

-- |v(1)| + .. + |v(n)|
unfoldable pub size : ℕ → Vector → ℕ
size zero v = 0
size (suc n) v = size n v + nat_abs (v (suc n))

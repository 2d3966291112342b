-- For code: the nodes of the labels of a Coxeter matrix, in the order of the labels.
use Rattle.std.specs.Prelude.{◌≡◌, ℕ, ◌+◌, ◌<◌}

-- the nodes u < v belong to the label behind that of s < t
pub record IsNextPair (n s t u v : ℕ) : Type 0 where
  pub same : t < n → u ≡ s
  pub more : t < n → v ≡ t + 1
  pub after : t ≡ n → u ≡ s + 1
  pub behind : t ≡ n → v ≡ s + 2

-- The edges of the W-graph of a Coxeter group (Kazhdan and Lusztig 1979, section 1 and theorem 1.3). Elements are given by their words.
use Rattle.std.specs.Prelude.{◌≡◌, ◌≢◌, ℕ, List, ℤ, pos, ◌+ℤ◌}
use Rattle.cox_base.specs.IntegerMatrix.{IntegerMatrix}
use Rattle.cox_hecke.specs.Row.{IsMu}

-- m is mu(x,y) or mu(y,x), whichever is not 0, else 0: since at least one of them is 0, m is their sum
abbrev pub IsEdgeValue : IntegerMatrix → List ℕ → List ℕ → ℤ → Type 0
IsEdgeValue A x y m = record { up : ℤ; down : ℤ; is_up : IsMu A x y up; is_down : IsMu A y x down; value : m ≡ up +ℤ down }

-- x and y are joined by an edge, and m is its value
abbrev pub IsEdge : IntegerMatrix → List ℕ → List ℕ → ℤ → Type 0
IsEdge A x y m = record { value : IsEdgeValue A x y m; some : m ≢ pos 0 }

-- x and y are joined
abbrev pub IsJoined : IntegerMatrix → List ℕ → List ℕ → Type 0
IsJoined A x y = (m : ℤ) × IsEdge A x y m

-- Polynomials that stand one behind another in one list of coefficients; for each of them another list has where it ends.
use Rattle.std.specs.Prelude.{ℕ, zero, suc, ◌-◌, ◌<◌, ◌≤◌, List, length, map, take, drop, slice_index_or, ℤ}
use Rattle.std.specs.List.{range_with_len}
use Rattle.cox_poly.specs.Polynomial.{IsStorable}

-- where the polynomial at a place ends, and where it begins
abbrev pub end_at : List ℕ → ℕ → ℕ
end_at ends k = slice_index_or ends k 0

abbrev pub start_at : List ℕ → ℕ → ℕ
start_at ends zero = 0
start_at ends (suc k) = end_at ends k

-- the polynomial at a place
abbrev pub piece : List ℤ → List ℕ → ℕ → List ℤ
piece coefficients ends k = take (end_at ends k - start_at ends k) (drop (start_at ends k) coefficients)

-- all of them
abbrev pub pieces : List ℤ → List ℕ → List (List ℤ)
pieces coefficients ends = map (piece coefficients ends) (range_with_len 0 (length ends))

-- each is a polynomial, and the last one ends within the coefficients
pub record AreStored (coefficients : List ℤ) (ends : List ℕ) : Type 0 where
  pub order : (k : ℕ) → k < length ends → start_at ends k ≤ end_at ends k
  pub before : (k : ℕ) → k < length ends → end_at ends k ≤ start_at ends (length ends)
  pub within : start_at ends (length ends) ≤ length coefficients
  pub each : (k : ℕ) → k < length ends → IsStorable (piece coefficients ends k)

-- Sums with coefficients within a limit, and the first coefficient that is beyond it.
use Rattle.std.specs.Prelude.{◌≡◌, ℕ, ◌<◌, List, ℤ, pos, ◌<ℤ◌, ◌≤ℤ◌, unsigned_abs}
use Rattle.cox_poly.specs.Polynomial.{coefficient}

-- the limit bounds the absolute value
abbrev pub IsWithin : ℤ → ℤ → Type 0
IsWithin limit v = pos (unsigned_abs v) ≤ℤ limit

-- the limit bounds each coefficient
abbrev pub AllWithin : ℤ → List ℤ → Type 0
AllWithin limit p = (k : ℕ) → IsWithin limit (coefficient p k)

-- v is the coefficient at degree d, its absolute value is above the limit, and no coefficient of lower degree has this
pub record IsFirstAbove (limit : ℤ) (p : List ℤ) (d : ℕ) (v : ℤ) : Type 0 where
  pub value : v ≡ coefficient p d
  pub above : limit <ℤ pos (unsigned_abs v)
  pub least : (k : ℕ) → k < d → IsWithin limit (coefficient p k)

-- Fingerprints of the polynomials of a pool.
use Rattle.std.specs.Prelude.{◌≡◌, ℕ, ◌/◌, ◌^◌, ◌<◌, ◌≤◌, List, length, ℤ}
use Rattle.cox_poly.specs.Fingerprint.{fingerprint}
use Rattle.cox_row.specs.Rising.{number_at}
use Rattle.cox_row.specs.Polynomials.{polynomial_at}

-- the upper half of the fingerprint
abbrev pub print_of : List ℤ → ℕ
print_of p = fingerprint p / 2 ^ 32

-- for each polynomial its own, and maybe some more
pub record ArePrints (pool : List (List ℤ)) (prints : List ℕ) : Type 0 where
  pub size : length pool ≤ length prints
  pub each : (j : ℕ) → j < length pool → number_at prints j ≡ print_of (polynomial_at pool j)

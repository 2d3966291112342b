-- A search for the last coefficient that is not 0.
use Rattle.std.proofs.Common.{◌≡◌, ◌≢◌, ℕ, ◌-◌, ◌^◌, ◌<◌, ◌≤◌, List}
use Rattle.std.proofs.Common.{ℤ, pos, unsigned_abs}
use Rattle.cox_poly.specs.Polynomial.{coefficient}
use Rattle.cox_poly.specs.Limit.{IsWithin}

-- of the first k coefficients n are left without trailing zeros
pub record Trimmed (p : List ℤ) (k n : ℕ) : Type 0 where
  pub in_front : n ≤ k
  pub last : 0 < n → coefficient p (n - 1) ≢ pos 0
  pub zeros : (j : ℕ) → n ≤ j → j < k → coefficient p j ≡ pos 0

-- and each of them has 64 bits
pub record TrimmedSmall (p : List ℤ) (k n : ℕ) : Type 0 where
  pub trimmed : Trimmed p k n
  pub small : (j : ℕ) → j < k → unsigned_abs (coefficient p j) ≤ 2 ^ 63

-- and each of them is within the limit
pub record TrimmedWithin (limit : ℤ) (p : List ℤ) (k n : ℕ) : Type 0 where
  pub trimmed : Trimmed p k n
  pub within : (j : ℕ) → j < k → IsWithin limit (coefficient p j)

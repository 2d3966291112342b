-- Small roots (Brink and Howlett, "A finiteness property and an automatic structure for Coxeter groups", 1993), each with its coroot.
-- The coroots are the roots of the transposed matrix. For a root b with the coroot c, let p = a(s,1) b(1) + .. + a(s,n) b(n) and
-- r = a(1,s) c(1) + .. + a(n,s) c(n). The letter s takes b to b - p e(s) and c to c - r e(s), and p r is 4 times the square of the inner
-- product of b and e(s), both taken of length 1. So the last three clauses of IsShortStep say that this inner product is above -1 and
-- below 0.
use Rattle.std.specs.Prelude.{◌≡◌, ℕ, ◌<◌, ◌≤◌, pos, ◌*ℤ◌, ◌≤ℤ◌, ◌<ℤ◌}
use Rattle.cox_base.specs.Matrix.{IsLetter}
use Rattle.cox_base.specs.IntegerMatrix.{IntegerMatrix}
use Rattle.cox_reflect.specs.Action.{Vector, simple_root, pairing, reflect}
use Rattle.cox_reflect.specs.Transpose.{transposed}

-- p is negative, and p r is 1, 2 or 3
abbrev pub IsShortStep : IntegerMatrix → ℕ → Vector → Vector → Type 0
IsShortStep A s b c = let p = pairing A s b in let r = pairing (transposed A) s c in
    record { letter : IsLetter A.rank s; negative : p <ℤ pos 0; at_least_one : pos 1 ≤ℤ (p *ℤ r); at_most_three : (p *ℤ r) ≤ℤ pos 3 }

-- b is small, with the coroot c: the simple roots are small, and so is what a short step makes of a small root; no other root is
pub data IsSmall (A : IntegerMatrix) : Vector → Vector → Type 0 where
  simple : {s : ℕ} → IsLetter A.rank s → IsSmall A (simple_root s) (simple_root s)
  step : {s : ℕ} {b c : Vector} → IsShortStep A s b c → IsSmall A b c → IsSmall A (reflect A s b) (reflect (transposed A) s c)

-- a small root, whatever its coroot
abbrev pub IsSmallRoot : IntegerMatrix → Vector → Type 0
IsSmallRoot A b = record { coroot : Vector; small : IsSmall A b coroot }

-- there are more than max small roots: max + 1 different ones are given, root 0 to root max
pub record HasMoreSmallRoots (A : IntegerMatrix) (max : ℕ) : Type 0 where
  pub root : ℕ → Vector
  pub small : (i : ℕ) → i ≤ max → IsSmallRoot A (root i)
  pub different : (i j : ℕ) → i < j → j ≤ max → root i ≡ root j → ⊥

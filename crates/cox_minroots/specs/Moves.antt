-- The table of small roots: where each letter takes each of them.
use Rattle.std.specs.Prelude.{◌≡◌, ℕ, ◌+◌, ◌-◌, ◌*◌, ◌<◌, ◌≤◌, List, length, slice_index, pos, ◌*ℤ◌, ◌≤ℤ◌, ◌<ℤ◌}
use Rattle.cox_base.specs.declared.limits.TheConstants.{MAX_RANK}
use Rattle.cox_minroots.specs.declared.closure.TheConstants.{MAX_SMALL_ROOTS}
use Rattle.cox_base.specs.Matrix.{IsLetter}
use Rattle.cox_base.specs.IntegerMatrix.{IntegerMatrix}
use Rattle.cox_reflect.specs.Action.{Vector, simple_root, pairing, reflect}
use Rattle.cox_reflect.specs.Transpose.{transposed}
use Rattle.cox_small.specs.SmallRoots.{IsSmall, IsSmallRoot}
use Rattle.cox_minroots.specs.declared.moves.TheConstants.{NEGATIVE, OUT}

-- what the table says at the root i and the letter s, of n small roots
pub record IsMove (A : IntegerMatrix) (n : ℕ) (root coroot : ℕ → Vector) (i s move : ℕ) : Type 0 where
  -- the root is e(s), so s makes it negative
  pub negative : move ≡ NEGATIVE → root i ≡ simple_root s
  -- the image is positive and not small: p is negative, and p r at least 4
  pub out : move ≡ OUT → (pairing A s (root i) <ℤ pos 0) × (pos 4 ≤ℤ (pairing A s (root i) *ℤ pairing (transposed A) s (coroot i)))
  -- else the image is the small root with this number
  pub goes : move < NEGATIVE → (move < n) × (root move ≡ reflect A s (root i))

-- The n small roots are numbered, e(s) with s - 1, and the table says where they go: at the root i and the letter s by its entry
-- MAX_RANK * i + s - 1.
pub record IsMoveTable (A : IntegerMatrix) (n : ℕ) (moves : List ℕ) : Type 0 where
  pub root : ℕ → Vector
  pub coroot : ℕ → Vector
  pub small : (i : ℕ) → i < n → IsSmall A (root i) (coroot i)
  pub different : (i j : ℕ) → i < j → j < n → root i ≡ root j → ⊥
  pub all : {b : Vector} → IsSmallRoot A b → (i : ℕ) × (i < n) × (root i ≡ b)
  pub simple : (s : ℕ) → IsLetter A.rank s → (s - 1 < n) × (root (s - 1) ≡ simple_root s)
  pub move : (i s : ℕ) → i < n → IsLetter A.rank s → IsMove A n root coroot i s (slice_index moves (MAX_RANK * i + (s - 1)))

-- what the type of tables keeps
pub record IsRootTable (A : IntegerMatrix) (count : ℕ) (moves : List ℕ) : Type 0 where
  pub few : count ≤ MAX_SMALL_ROOTS
  pub size : length moves ≡ MAX_RANK * count
  pub table : ∥ IsMoveTable A count moves ∥₁

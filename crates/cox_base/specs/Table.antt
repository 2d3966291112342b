-- What the type `Coxeter` keeps.
use Rattle.std.specs.Prelude.{◌≡◌, ℕ, ◌+◌, ◌-◌, ◌*◌, ◌<◌, ◌≤◌, ◌/◌, ◌%◌, List, ℤ, pos, not, Some, slice_index, slice_index_or, position}
use Rattle.std.specs.Prelude.{option_map}
use Rattle.cox_base.specs.declared.limits.TheConstants.{MAX_RANK}
use Rattle.cox_base.specs.Matrix.{CoxeterMatrix, is_label}
use Rattle.cox_base.specs.Admissible.{IsCoxeterMatrix}
use Rattle.cox_base.specs.IntegerMatrix.{entry_of}

-- a Coxeter matrix of an admitted rank, with the table of its entries a(s,t), row by row of the greatest rank
pub record IsTable (g : CoxeterMatrix) (entries : List ℤ) : Type 0 where
  pub matrix : IsCoxeterMatrix g
  pub limit : g.rank ≤ MAX_RANK
  pub entries_are : (k : ℕ) → k < MAX_RANK * MAX_RANK → slice_index_or entries k (pos 0) ≡ entry_of g (k / MAX_RANK + 1) (k % MAX_RANK + 1)

-- the first label that is not admitted: its place, from 1, and its value
pub record IsFirstBad (labels : List ℕ) (at value : ℕ) : Type 0 where
  pub first : option_map (λ k. k + 1) (position (λ m. not (is_label m)) labels) ≡ Some at
  pub label_there : slice_index labels (at - 1) ≡ value

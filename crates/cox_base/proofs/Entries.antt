-- The labels and the entries of a Coxeter matrix, case by case.
use Rattle.std.proofs.Common.{◌≡◌, ℕ, ◌<◌, ◌≤◌, false, pos, nat_abs, slice_index, min, max, ◌⊎◌, arith}
use Rattle.std.proofs.lemmas.Bool.Decides.{nat_tests}
use Rattle.cox_base.specs.Matrix.{CoxeterMatrix, is_between, place, label}
use Rattle.cox_base.specs.IntegerMatrix.{entry_of, entry_above, entry_below}

-- a label above the diagonal, as it stands in the list
pub label-above : (g : CoxeterMatrix) (s t : ℕ) → s < t → label g s t ≡ slice_index g.labels (place g.rank s t)
unfolding label
label-above g s t rising = grind (arith, nat_tests)

-- two letters that differ
pub label-apart : (g : CoxeterMatrix) (s t : ℕ) → (s ≡ t → ⊥) → label g s t ≡ slice_index g.labels (place g.rank (min s t) (max s t))
unfolding label
label-apart g s t apart = grind (arith, nat_tests)

-- beyond the rank
pub entry_of-beyond : (g : CoxeterMatrix) (s t : ℕ) → (g.rank < s) ⊎ (g.rank < t) → entry_of g s t ≡ pos 0
unfolding entry_of
entry_of-beyond g s t beyond = grind (arith, nat_tests)

-- the diagonal
pub entry_of-diagonal : (g : CoxeterMatrix) (s : ℕ) → 1 ≤ s → s ≤ g.rank → entry_of g s s ≡ pos 2
unfolding entry_of
entry_of-diagonal g s from_one to_rank = grind (arith, nat_tests)

-- above the diagonal
pub entry_of-above : (g : CoxeterMatrix) (s t : ℕ) → 1 ≤ s → s < t → t ≤ g.rank
    → entry_of g s t ≡ entry_above (slice_index g.labels (place g.rank s t))
unfolding entry_of
entry_of-above g s t from_one rising to_rank = rw (← label-above g s t rising) (grind (arith, nat_tests))

-- below the diagonal
pub entry_of-below : (g : CoxeterMatrix) (s t : ℕ) → 1 ≤ t → t < s → s ≤ g.rank
    → entry_of g s t ≡ entry_below (slice_index g.labels (place g.rank t s))
unfolding entry_of
entry_of-below g s t from_one falling to_rank = rw (← label-above g t s falling) (grind (arith, nat_tests))

-- outside the rank
pub entry_of-row_outside : (g : CoxeterMatrix) (s t : ℕ) → is_between 1 g.rank s ≡ false → entry_of g s t ≡ pos 0
unfolding entry_of
entry_of-row_outside g s t outside = rw outside

pub entry_of-column_outside : (g : CoxeterMatrix) (s t : ℕ) → is_between 1 g.rank t ≡ false → entry_of g s t ≡ pos 0
unfolding entry_of
entry_of-column_outside g s t outside = grind (arith, nat_tests)

-- no entry is beyond 3
pub entry_of-small : (g : CoxeterMatrix) (s t : ℕ) → nat_abs (entry_of g s t) ≤ 3
unfolding entry_of
entry_of-small g s t = grind (arith, nat_tests)

-- a Coxeter matrix is symmetric
pub label-symmetric : (g : CoxeterMatrix) (s t : ℕ) → label g s t ≡ label g t s
unfolding label
label-symmetric g s t = grind (arith, nat_tests)

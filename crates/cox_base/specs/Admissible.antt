-- Which matrices are admitted: Coxeter matrices with the labels 2, 3, 4, 6 and infinity, and their integer matrices.
use Rattle.std.specs.Prelude.{◌≡◌, ℕ, ◌-◌, ◌*◌, ◌/◌, ◌<◌, ◌≤◌, IsTrue, length, All, ℤ, pos, negsuc}
use Rattle.cox_base.specs.Matrix.{CoxeterMatrix, IsLetter, is_label}
use Rattle.cox_base.specs.IntegerMatrix.{IntegerMatrix}

-- a Coxeter matrix of rank at least 1 with admitted labels, one for each pair of nodes
pub record IsCoxeterMatrix (g : CoxeterMatrix) : Type 0 where
  pub some : 1 ≤ g.rank
  pub count : length g.labels ≡ g.rank * (g.rank - 1) / 2
  pub admitted : All (λ m. IsTrue (is_label m)) g.labels

-- The pairs a(s,t), a(t,s) that are admitted, in either order. The last word of each name is the label.
pub data IsAdmissiblePair : ℤ → ℤ → Type 0 where
  two : IsAdmissiblePair (pos 0) (pos 0)
  three : IsAdmissiblePair (negsuc 0) (negsuc 0)
  four : IsAdmissiblePair (negsuc 0) (negsuc 1)
  back_four : IsAdmissiblePair (negsuc 1) (negsuc 0)
  six : IsAdmissiblePair (negsuc 0) (negsuc 2)
  back_six : IsAdmissiblePair (negsuc 2) (negsuc 0)
  infinity : IsAdmissiblePair (negsuc 1) (negsuc 1)

-- The order m of the product of the reflections s and t, by that pair, where it is finite.
pub data HasOrder : ℤ → ℤ → ℕ → Type 0 where
  order_two : HasOrder (pos 0) (pos 0) 2
  order_three : HasOrder (negsuc 0) (negsuc 0) 3
  order_four : HasOrder (negsuc 0) (negsuc 1) 4
  order_back_four : HasOrder (negsuc 1) (negsuc 0) 4
  order_six : HasOrder (negsuc 0) (negsuc 2) 6
  order_back_six : HasOrder (negsuc 2) (negsuc 0) 6

-- Admissible integer matrices: 2 on the diagonal, an admitted pair for each two letters, and 0 outside the rank.
-- The integer matrix of each Coxeter matrix with admitted labels is one, and so is its transpose.
pub record IsAdmissible (A : IntegerMatrix) : Type 0 where
  pub diagonal : (s : ℕ) → IsLetter A.rank s → A.entry s s ≡ pos 2
  pub pairs : (s t : ℕ) → IsLetter A.rank s → IsLetter A.rank t → s < t → IsAdmissiblePair (A.entry s t) (A.entry t s)
  pub row_outside : (s t : ℕ) → (IsLetter A.rank s → ⊥) → A.entry s t ≡ pos 0
  pub column_outside : (s t : ℕ) → (IsLetter A.rank t → ⊥) → A.entry s t ≡ pos 0

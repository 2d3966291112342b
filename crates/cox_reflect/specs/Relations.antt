-- The Coxeter relations (Humphreys 5.1): s s = e for each letter s, and s t s .. = t s t .., m letters each, for letters s and t
-- with a finite m.
use Rattle.std.specs.Prelude.{ℕ, zero, suc, List, [], ◌∷◌, ◌++◌}
use Rattle.cox_base.specs.Matrix.{IsLetter}
use Rattle.cox_base.specs.IntegerMatrix.{IntegerMatrix}
use Rattle.cox_base.specs.Admissible.{HasOrder}

-- s t s .., of k letters
unfoldable pub alternating_from : ℕ → ℕ → ℕ → List ℕ
alternating_from zero s t = []
alternating_from (suc k) s t = s ∷ alternating_from k t s

-- the relations lead from u to v: the smallest congruence with them
pub data AreRelated (A : IntegerMatrix) : List ℕ → List ℕ → Type 0 where
  itself : (u : List ℕ) → AreRelated A u u
  turned : {u v : List ℕ} → AreRelated A u v → AreRelated A v u
  chained : {u v w : List ℕ} → AreRelated A u v → AreRelated A v w → AreRelated A u w
  joined : {u u' v v' : List ℕ} → AreRelated A u u' → AreRelated A v v' → AreRelated A (u ++ v) (u' ++ v')
  square : {s : ℕ} → IsLetter A.rank s → AreRelated A (s ∷ s ∷ []) []
  braided : {s t m : ℕ} → IsLetter A.rank s → IsLetter A.rank t → HasOrder (A.entry s t) (A.entry t s) m
      → AreRelated A (alternating_from m s t) (alternating_from m t s)

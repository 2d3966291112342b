-- A row is beyond the limits exactly where that of the element to which a symmetry takes its own is, with inversion or without.
use Rattle.std.proofs.Common.{◌↔◌, ℕ, Bool, List, ℤ, pos, ⊎_elim}
use Rattle.cox_base.specs.Matrix.{IsWord}
use Rattle.cox_base.specs.IntegerMatrix.{IntegerMatrix}
use Rattle.cox_base.specs.Admissible.{IsAdmissible}
use Rattle.cox_base.specs.ShortLex.{normal_form}
use Rattle.cox_reflect.proofs.Elements.{same-refl, same-sym}
use Rattle.cox_reflect.proofs.Search.{normal_form-same, IsWord-normal_form}
use Rattle.cox_hecke.proofs.PolynomialValues.{kazhdan_lusztig-same}
use Rattle.cox_symmetry.specs.Symmetry.{IsSymmetry}
use Rattle.cox_symmetry.specs.Turns.{turn}
use Rattle.cox_symmetry.proofs.SymmetryGroup.{inverse_symmetry}
use Rattle.cox_symmetry.proofs.Turned.{turn-word, turn-back, kazhdan_lusztig_turned, mu_turned}
use Rattle.cox_row.specs.declared.row.TheConstants.{MU_LIMIT}
use Rattle.cox_row.proofs.MuOfElements.{mu-words}
use Rattle.cox_row_builder.specs.Limits.{IsLargeCoefficient, IsLargeMu}
use Rattle.cox_rows.specs.Beyond.{IsBeyond}
use Rattle.cox_rows.proofs.LargeRows.{coefficient-beyond, mu-beyond, beyond-cases}

module _ (A : IntegerMatrix) (g : IsAdmissible A) (p : ℕ → ℕ) (h : IsSymmetry A p) (b : Bool) (limit : ℤ) (w : List ℕ)
    (word : IsWord A.rank w) where
  -- where an element x is taken; x may be any word
  abbrev image : List ℕ → List ℕ
  image x = turn p b (normal_form A x)

  -- a coefficient of P(x,w) is one of P(p(x),p(w))
  pub large_coefficient-turned : (x : List ℕ) (k : ℕ) (c : ℤ) → IsLargeCoefficient A limit x w k c
      → IsLargeCoefficient A limit (image x) (turn p b w) k c
  large_coefficient-turned x k c large = record {
    polynomial = large.polynomial;
    is = (kazhdan_lusztig_turned A g p h b (normal_form A x) w large.polynomial (IsWord-normal_form A g x) word).1
        (kazhdan_lusztig-same A g x (normal_form A x) w w large.polynomial (same-sym A g (normal_form-same A g x)) (same-refl A g w)
        large.is);
    value = large.value;
    above = large.above;
  }

  -- and mu(x,w) is mu(p(x),p(w))
  large_mu-turned : (x : List ℕ) (m : ℤ) → IsLargeMu A (pos MU_LIMIT) x w m → IsLargeMu A (pos MU_LIMIT) (image x) (turn p b w) m
  large_mu-turned x m large = record {
    is = (mu_turned A g p h b (normal_form A x) w m (IsWord-normal_form A g x) word).1
        (mu-words A g m (same-sym A g (normal_form-same A g x)) (same-refl A g w) large.is);
    above = large.above;
  }

  beyond-turned : IsBeyond A limit w → IsBeyond A limit (turn p b w)
  beyond-turned beyond = ⊎_elim
      (λ (found : (x : List ℕ) × (k : ℕ) × (c : ℤ) × IsLargeCoefficient A limit x w k c).
      coefficient-beyond A limit (turn p b w) (image found.0) found.1 found.2
      (large_coefficient-turned found.0 found.1 found.2 found.3))
      (λ (found : (x : List ℕ) × (m : ℤ) × IsLargeMu A (pos MU_LIMIT) x w m).
      mu-beyond A limit (turn p b w) (image found.0) found.1 (large_mu-turned found.0 found.1 found.2))
      (beyond-cases A limit w beyond)

-- the inverse symmetry leads back
pub beyond_turned : (A : IntegerMatrix) → IsAdmissible A → (p : ℕ → ℕ) → IsSymmetry A p → (b : Bool) (limit : ℤ) (w : List ℕ)
    → IsWord A.rank w → IsBeyond A limit (turn p b w) ↔ IsBeyond A limit w
beyond_turned A g p h b limit w word =
    let q = inverse_symmetry A p h
    in (
      λ beyond. rw (turn-back A g p q.0 q.1 b w word) at
          (beyond-turned A g q.0 q.1.back b limit (turn p b w) (turn-word A g p h b w word) beyond),
      beyond-turned A g p h b limit w word,
    )

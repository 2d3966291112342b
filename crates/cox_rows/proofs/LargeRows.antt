-- A row is beyond the limits exactly where one of its coefficients or values of mu is above its own.
use Rattle.std.proofs.Common.{◌≡◌, ℕ, List, ℤ, pos, ◌⊎◌, inl, inr, refl, sym, ◌∙◌}
use Rattle.cox_base.specs.IntegerMatrix.{IntegerMatrix}
use Rattle.cox_row.specs.declared.row.TheConstants.{MU_LIMIT}
use Rattle.cox_row_builder.specs.Limits.{IsLargeCoefficient, IsLargeMu}
use Rattle.cox_rows.specs.Beyond.{IsBeyond, coefficient, mu}

module _ (A : IntegerMatrix) (limit : ℤ) (w : List ℕ) where
  pub coefficient-beyond : (x : List ℕ) (k : ℕ) (c : ℤ) → IsLargeCoefficient A limit x w k c → IsBeyond A limit w
  coefficient-beyond x k c h =
      let same : h.is.row x k ≡ c = sym (h.is.at k) ∙ h.value
      in coefficient x k h.is.is (rw same h.above)

  pub mu-beyond : (x : List ℕ) (m : ℤ) → IsLargeMu A (pos MU_LIMIT) x w m → IsBeyond A limit w
  mu-beyond x m h = mu h.is h.above

  pub beyond-cases : IsBeyond A limit w
      → ((x : List ℕ) × (k : ℕ) × (c : ℤ) × IsLargeCoefficient A limit x w k c)
      ⊎ ((x : List ℕ) × (m : ℤ) × IsLargeMu A (pos MU_LIMIT) x w m)
  beyond-cases (coefficient {row} x k is above) = inl (
    x,
    k,
    row x k,
    record { polynomial = row x; is = record { row = row; is = is; at = λ j. refl }; value = refl; above = above },
  )
  beyond-cases (mu {x} {m} is above) = inr (x, m, record { is = is; above = above })

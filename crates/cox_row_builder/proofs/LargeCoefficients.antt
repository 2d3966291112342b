-- Coefficients above the limit: read off sums, and moved to other words and from an element to one that stands for it.
use Rattle.std.proofs.Common.{ℕ, List, ℤ, pos, sym, ◌∙◌, arith}
use Rattle.std.specs.Prelude.{◌≤ℤ◌}
use Rattle.std.proofs.lemmas.Int.{ints}
use Rattle.cox_base.specs.IntegerMatrix.{IntegerMatrix}
use Rattle.cox_base.specs.Admissible.{IsAdmissible}
use Rattle.cox_base.specs.Element.{SameElement}
use Rattle.cox_base.specs.Bruhat.{IsBelow}
use Rattle.cox_poly.specs.Polynomial.{coefficient}
use Rattle.cox_poly.specs.Limit.{IsWithin, AllWithin, IsFirstAbove}
use Rattle.cox_poly.proofs.Limits.{within-not_above}
use Rattle.cox_hecke.specs.Row.{IsKazhdanLusztig}
use Rattle.cox_hecke.proofs.PolynomialValues.{kazhdan_lusztig-exists, kazhdan_lusztig-unique, kazhdan_lusztig-outside}
use Rattle.cox_hecke.proofs.PolynomialValues.{kazhdan_lusztig-same}
use Rattle.cox_row.specs.Raised.{StandsFor}
use Rattle.cox_row_builder.specs.Limits.{IsLargeCoefficient}
use Rattle.cox_row_builder.specs.LargeMembers.{IsWithinLimit, IsLeastLarge}

-- a smaller limit
pub within-more : (A : IntegerMatrix) (x w : List ℕ) (limit most : ℤ) → limit ≤ℤ most → IsWithinLimit A limit x w → IsWithinLimit A most x w
within-more A x w limit most l small k c large = small k c (record {
  polynomial = large.polynomial;
  is = large.is;
  value = large.value;
  above = omega (arith, ints, l, large.above);
})

-- other words of the elements
module _ (A : IntegerMatrix) (g : IsAdmissible A) (limit : ℤ) (x u z v : List ℕ) (same : SameElement A x u)
    (other : SameElement A z v) where
  pub large-words : (k : ℕ) (c : ℤ) → IsLargeCoefficient A limit x z k c → IsLargeCoefficient A limit u v k c
  large-words k c h = record {
    polynomial = h.polynomial;
    is = kazhdan_lusztig-same A g x u z v h.polynomial same other h.is;
    value = h.value;
    above = h.above;
  }

  pub within-same : IsWithinLimit A limit u v → IsWithinLimit A limit x z
  within-same small k c h = small k c (large-words k c h)

module _ (A : IntegerMatrix) (g : IsAdmissible A) (limit : ℤ) (x w : List ℕ) where
  pub outside-none : pos 0 ≤ℤ limit → (IsBelow A x w → ⊥) → IsWithinLimit A limit x w
  outside-none l none k c h =
      within-not_above limit (pos 0) c (sym (kazhdan_lusztig-outside A g x w h.polynomial none h.is k) ∙ h.value) l h.above

  module _ (sums : List ℤ) (is : IsKazhdanLusztig A x w (coefficient sums)) where
    small_not_large : (k : ℕ) (c : ℤ) → IsWithin limit (coefficient sums k) → IsLargeCoefficient A limit x w k c → ⊥
    small_not_large k c l h =
        within-not_above limit (coefficient sums k) c
        (kazhdan_lusztig-unique A g x w (coefficient sums) h.polynomial is h.is k ∙ h.value) l h.above

    pub within-none : AllWithin limit sums → IsWithinLimit A limit x w
    within-none l k c h = small_not_large k c (l k) h

    pub least-large : (d : ℕ) (v : ℤ) → IsFirstAbove limit sums d v → IsLeastLarge A limit x w d v
    least-large d v first = record {
      large = record { polynomial = coefficient sums; is = is; value = sym first.value; above = first.above };
      least = λ k c l h. small_not_large k c (first.least k l) h;
    }

  -- y stands for x
  module _ (y : List ℕ) (stands : StandsFor A w x y) where
    pub large-to : (k : ℕ) (c : ℤ) → IsLargeCoefficient A limit x w k c → IsLargeCoefficient A limit y w k c
    large-to k c h =
        let f = kazhdan_lusztig-exists A g y w
        in record {
          polynomial = f.0;
          is = f.1;
          value = kazhdan_lusztig-unique A g x w f.0 h.polynomial (stands.same f.0 f.1) h.is k ∙ h.value;
          above = h.above;
        }

    pub least-from : (d : ℕ) (v : ℤ) → IsLeastLarge A limit y w d v → IsLeastLarge A limit x w d v
    least-from d v h = record {
      large = record {
        polynomial = h.large.polynomial;
        is = stands.same h.large.polynomial h.large.is;
        value = h.large.value;
        above = h.large.above;
      };
      least = λ k c l large. h.least k c l (large-to k c large);
    }

-- Coefficients beyond limits, and what a fault tells of an inverse row.
use Rattle.std.specs.Prelude.{◌≡◌, ℕ, ◌<◌, List, length, ℤ, pos, ◌<ℤ◌, unsigned_abs}
use Rattle.cox_base.specs.IntegerMatrix.{IntegerMatrix, integer_matrix}
use Rattle.cox_base.specs.Bruhat.{IsBelow}
use Rattle.cox_poly.specs.Coefficients.{Coefficients}
use Rattle.cox_context.specs.Closed.{Elements}
use Rattle.cox_context.specs.Numbers.{word_at}
use Rattle.cox_row_builder.specs.LargeMembers.{IsWithinLimit, IsLeastLarge}
use Rattle.cox_inverse.specs.InverseRow.{IsInverse}
use Rattle.cox_inverse.specs.declared.fault.TheConstants.{MAX_COEFFICIENT}
use Rattle.cox_inverse.specs.declared.fault.InverseFault.{InverseFault}
use Rattle.cox_inverse.specs.declared.fault.InverseFault.TheVariants.{Coefficient, Inverse, NoMemory}

-- the coefficient of q^k in Q(x,w) is c, which is above the limit in absolute value
pub record IsLargeInverse (A : IntegerMatrix) (limit : ℤ) (x w : List ℕ) (k : ℕ) (c : ℤ) : Type 0 where
  pub polynomial : Coefficients
  pub is : IsInverse A x w polynomial
  pub value : polynomial k ≡ c
  pub above : limit <ℤ pos (unsigned_abs c)

-- no coefficient of Q(x,w) is above the limit
abbrev pub IsInverseWithin : IntegerMatrix → ℤ → List ℕ → List ℕ → Type 0
IsInverseWithin A limit x w = (k : ℕ) (c : ℤ) → ¬ IsLargeInverse A limit x w k c

-- the coefficient of q^degree in Q(x,w) is the value, which is above the limit, and none of a lower degree is
pub record IsLeastLargeInverse (A : IntegerMatrix) (limit : ℤ) (x w : List ℕ) (degree : ℕ) (value : ℤ) : Type 0 where
  pub large : IsLargeInverse A limit x w degree value
  pub least : (k : ℕ) (c : ℤ) → k < degree → ¬ IsLargeInverse A limit x w k c

-- no P(x,z) with y ≤ x ≤ z ≤ w has a coefficient above MAX_COEFFICIENT, and no Q(x,w) with y ≤ x ≤ w has one above the limit
pub record AreWithinLimits (A : IntegerMatrix) (limit : ℤ) (y w : List ℕ) : Type 0 where
  pub polynomials : (x z : List ℕ) → IsBelow A y x → IsBelow A x z → IsBelow A z w → IsWithinLimit A MAX_COEFFICIENT x z
  pub inverses : (x : List ℕ) → IsBelow A y x → IsBelow A x w → IsInverseWithin A limit x w

-- x and z are members with y ≤ x ≤ z ≤ w, all by number
pub record IsPair (e : Elements) (y w x z : ℕ) : Type 0 where
  pub x_member : x < length e.members
  pub z_member : z < length e.members
  pub above : IsBelow (integer_matrix e.matrix) (word_at e.members y) (word_at e.members x)
  pub order : IsBelow (integer_matrix e.matrix) (word_at e.members x) (word_at e.members z)
  pub below : IsBelow (integer_matrix e.matrix) (word_at e.members z) (word_at e.members w)

-- y ≤ x ≤ z ≤ w, and P(x,z) has a coefficient above MAX_COEFFICIENT, the first one as told. No z before has such an x, and no x before
-- has one with this z.
pub record IsFirstPair (e : Elements) (y w x z degree : ℕ) (value : ℤ) : Type 0 where
  pub pair : IsPair e y w x z
  pub least : IsLeastLarge (integer_matrix e.matrix) MAX_COEFFICIENT (word_at e.members x) (word_at e.members z) degree value
  pub before_x : (u : ℕ) → u < x → IsPair e y w u z
      → IsWithinLimit (integer_matrix e.matrix) MAX_COEFFICIENT (word_at e.members u) (word_at e.members z)
  pub before_z : (u v : ℕ) → v < z → IsPair e y w u v
      → IsWithinLimit (integer_matrix e.matrix) MAX_COEFFICIENT (word_at e.members u) (word_at e.members v)

-- No P(x,z) has a coefficient above MAX_COEFFICIENT; y ≤ x ≤ w, and Q(x,w) has one above the limit, the first one as told. No x behind
-- has one.
pub record IsLastInverse (e : Elements) (y w : ℕ) (limit : ℤ) (x degree : ℕ) (value : ℤ) : Type 0 where
  pub small : (u v : ℕ) → IsPair e y w u v
      → IsWithinLimit (integer_matrix e.matrix) MAX_COEFFICIENT (word_at e.members u) (word_at e.members v)
  pub pair : IsPair e y w x w
  pub least : IsLeastLargeInverse (integer_matrix e.matrix) limit (word_at e.members x) (word_at e.members w) degree value
  pub behind : (u : ℕ) → x < u → IsPair e y w u w
      → IsInverseWithin (integer_matrix e.matrix) limit (word_at e.members u) (word_at e.members w)

-- what a fault tells of the inverse row of w from w down to y, all by number; out of memory tells nothing
abbrev pub IsInverseFault : Elements → ℕ → ℕ → ℤ → InverseFault → Type 0
IsInverseFault e y w limit (Coefficient x z degree value) = IsFirstPair e y w x z degree value
IsInverseFault e y w limit (Inverse x degree value) = IsLastInverse e y w limit x degree value
IsInverseFault e y w limit NoMemory = Unit {0}

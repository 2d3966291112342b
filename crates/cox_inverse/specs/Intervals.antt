-- The interval of an inverse row, by number.
use Rattle.std.specs.Prelude.{◌≡◌, ℕ, ◌-◌, ◌<◌, List, length, ℤ}
use Rattle.cox_base.specs.IntegerMatrix.{integer_matrix}
use Rattle.cox_base.specs.Bruhat.{IsBelow}
use Rattle.cox_poly.specs.Multiples.{minus}
use Rattle.cox_poly.specs.Polynomial.{coefficient}
use Rattle.cox_poly.specs.Products.{product}
use Rattle.cox_rpoly.specs.Sign.{times_sign}
use Rattle.cox_hecke.specs.Row.{IsKazhdanLusztig}
use Rattle.cox_context.specs.Closed.{Elements}
use Rattle.cox_context.specs.Numbers.{word_at}
use Rattle.cox_row.specs.Rising.{number_at}
use Rattle.cox_row_builder.specs.LargeMembers.{IsWithinLimit}
use Rattle.cox_poly.specs.Limit.{AllWithin, IsFirstAbove}
use Rattle.cox_inverse.specs.declared.fault.TheConstants.{MAX_COEFFICIENT}
use Rattle.cox_inverse.specs.declared.fault.InverseFault.{InverseFault}
use Rattle.cox_inverse.specs.declared.fault.InverseFault.TheVariants.{Coefficient, Inverse, NoMemory}
use Rattle.cox_inverse.specs.declared.interval.Interval.{Interval}
use Rattle.cox_inverse.specs.NumberedInverses.{AreBetween}
use Rattle.cox_inverse.specs.InverseFaults.{IsPair}

-- the members from a bottom to a top
pub record IsInterval (e : Elements) (interval : Interval) : Type 0 where
  pub bottom_member : interval.bottom < length e.members
  pub top_member : interval.top < length e.members
  pub between : AreBetween e interval.bottom interval.top interval.members.items

-- the row of each of its members is there
abbrev pub AreRowsThere : (ℕ → Type 0) → Interval → Type 0
AreRowsThere holds interval = (k : ℕ) → k < length interval.members.items → holds (number_at interval.members.items k)

-- no P(x,z) with y ≤ x ≤ z ≤ w has a coefficient above MAX_COEFFICIENT
abbrev pub ArePairsSmall : Elements → ℕ → ℕ → Type 0
ArePairsSmall e y w = (x z : ℕ) → IsPair e y w x z
    → IsWithinLimit (integer_matrix e.matrix) MAX_COEFFICIENT (word_at e.members x) (word_at e.members z)

-- (-1)^(l(z)-l(x)) P(x,z) r is taken off the sums, for members x ≤ z by number, and nothing for others
pub record IsMemberOff (e : Elements) (x z : ℕ) (r old new : List ℤ) : Type 0 where
  pub taken : IsBelow (integer_matrix e.matrix) (word_at e.members x) (word_at e.members z)
      → (p : List ℤ) × IsKazhdanLusztig (integer_matrix e.matrix) (word_at e.members x) (word_at e.members z) (coefficient p)
      × ((k : ℕ) → coefficient new k ≡ minus (coefficient old)
      (times_sign (length (word_at e.members z) - length (word_at e.members x)) (product (coefficient p) (coefficient r))) k)
  pub passed : ¬ IsBelow (integer_matrix e.matrix) (word_at e.members x) (word_at e.members z) → new ≡ old

-- what a fault of the sums for the member x says of them; memory runs out only where no coefficient is above the limit
abbrev pub IsSumFault : ℕ → ℤ → List ℤ → InverseFault → Type 0
IsSumFault x limit sums (Coefficient u z degree value) = ⊥
IsSumFault x limit sums (Inverse u degree value) = (u ≡ x) × IsFirstAbove limit sums degree value
IsSumFault x limit sums NoMemory = AllWithin limit sums

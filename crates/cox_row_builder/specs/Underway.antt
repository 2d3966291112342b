-- A row that is being made: what it has of the members before one.
use Rattle.std.specs.Prelude.{◌≡◌, ◌≢◌, ◌⊎◌, ℕ, ◌+◌, ◌<◌, ◌≤◌, List, length, ℤ, pos}
use Rattle.cox_base.specs.IntegerMatrix.{IntegerMatrix, integer_matrix}
use Rattle.cox_base.specs.Bruhat.{IsBelow}
use Rattle.cox_poly.specs.Polynomial.{IsPolynomial, SameCoefficients}
use Rattle.cox_poly.specs.Limit.{AllWithin}
use Rattle.cox_hecke.specs.Row.{IsMu}
use Rattle.cox_context.specs.Closed.{Elements}
use Rattle.cox_context.specs.Numbers.{word_at}
use Rattle.cox_row.specs.Rising.{number_at, AreRising, AreWithin}
use Rattle.cox_row.specs.Extremal.{IsExtremal}
use Rattle.cox_row.specs.Polynomials.{polynomial_at, HavePolynomials}
use Rattle.cox_row.specs.Mus.{value_at}
use Rattle.cox_row_builder.specs.LargeMembers.{IsWithinLimit, AreLarge}
use Rattle.cox_row_builder.specs.TargetOf.{IsLeastShift}
use Rattle.cox_row_builder.specs.declared.builder.RowBuilder.{RowBuilder}

-- The polynomial with these sums is in the pool at the place: it was there before, or is behind the others now.
pub record IsPooled (limit : ℤ) (sums : List ℤ) (old new : List (List ℤ)) (place : ℕ) : Type 0 where
  pub within : place < length new
  pub trimmed : IsPolynomial (polynomial_at new place)
  pub same : SameCoefficients (polynomial_at new place) sums
  pub small : AllWithin limit (polynomial_at new place)
  pub kept : (j : ℕ) → j < length old → polynomial_at new j ≡ polynomial_at old j
  pub size : (length new ≡ length old) ⊎ ((length new ≡ length old + 1) × (place ≡ length old)
      × ((j : ℕ) → j < length old → polynomial_at old j ≢ polynomial_at new place))

-- the extremal x ≤ w with a number before end for which P(x,w) has no coefficient above the limit, with their polynomials
pub record AreBegun (A : IntegerMatrix) (members : List (List ℕ)) (w : List ℕ) (limit : ℤ) (end : ℕ) (numbers places : List ℕ)
    (pool : List (List ℤ)) : Type 0 where
  pub rising : AreRising numbers
  pub before : AreWithin end numbers
  pub extremal : (k : ℕ) → k < length numbers → IsExtremal A w (word_at members (number_at numbers k))
  pub below : (k : ℕ) → k < length numbers → IsBelow A (word_at members (number_at numbers k)) w
  pub whole : (x : ℕ) → x < end → IsExtremal A w (word_at members x) → IsBelow A (word_at members x) w
      → IsWithinLimit A limit (word_at members x) w → (k : ℕ) × (k < length numbers) × (number_at numbers k ≡ x)
  pub polynomials : HavePolynomials A members w numbers places pool
  pub small : (j : ℕ) → j < length pool → AllWithin limit (polynomial_at pool j)

-- the u with a number before end for which mu(u,w) is not 0 and P(u,w) has no coefficient above the limit, with the values
pub record AreNoted (A : IntegerMatrix) (members : List (List ℕ)) (w : List ℕ) (limit : ℤ) (end : ℕ) (numbers : List ℕ) (values : List ℤ)
    : Type 0 where
  pub size : length values ≡ length numbers
  pub rising : AreRising numbers
  pub before : AreWithin end numbers
  pub value : (k : ℕ) → k < length numbers → IsMu A (word_at members (number_at numbers k)) w (value_at values k)
  pub some : (k : ℕ) → k < length numbers → value_at values k ≢ pos 0
  pub whole : (u : ℕ) (m : ℤ) → u < end → IsMu A (word_at members u) w m → m ≢ pos 0
      → IsWithinLimit A limit (word_at members u) w → (k : ℕ) × (k < length numbers) × (number_at numbers k ≡ u)

-- what the builder of the row of the member i has of the members done
pub record IsUnderway (e : Elements) (i : ℕ) (limit : ℤ) (builder : RowBuilder) : Type 0 where
  pub begun : AreBegun (integer_matrix e.matrix) e.members (word_at e.members i) limit builder.done builder.values.extremal.items
      builder.values.places builder.values.pool
  pub noted : AreNoted (integer_matrix e.matrix) e.members (word_at e.members i) limit builder.done builder.mus.numbers.items
      builder.mus.values.items
  pub large : AreLarge (integer_matrix e.matrix) e.members (word_at e.members i) limit builder.done builder.large.numbers.items
      builder.large.coefficients.items
  pub next : IsLeastShift (integer_matrix e.matrix) e.members i builder.done builder.next

-- no member from one to another is both extremal for the member i and below it
abbrev pub AreBare : Elements → ℕ → ℕ → ℕ → Type 0
AreBare e i start end = (x : ℕ) → start ≤ x → x < end → IsExtremal (integer_matrix e.matrix) (word_at e.members i) (word_at e.members x)
    → ¬ IsBelow (integer_matrix e.matrix) (word_at e.members x) (word_at e.members i)

-- When each member up to w is done, the row is that of w: what comes after w is not below w.
use Rattle.std.proofs.Common.{ℕ, ◌+◌, ◌<◌, ◌≤◌, List, [], length, ⊎_elim, ap, arith, ◌≡◌}
use Rattle.std.proofs.lemmas.Bool.{cases_lt}
use Rattle.cox_base.specs.IntegerMatrix.{IntegerMatrix, integer_matrix}
use Rattle.cox_base.specs.Admissible.{IsAdmissible}
use Rattle.std.specs.Prelude.{ℤ, pos, unsigned_abs, ◌<ℤ◌, ◌≤ℤ◌}
use Rattle.std.proofs.lemmas.Int.{ints}
use Rattle.cox_base.specs.Bruhat.{IsBelow}
use Rattle.cox_hecke.proofs.AllRows.{mu-unique}
use Rattle.cox_hecke.proofs.Descended.{mu-below}
use Rattle.cox_hecke.proofs.ElementLists.{below_or_not}
use Rattle.cox_context.specs.Closed.{Elements, IsClosed}
use Rattle.cox_context.specs.Numbers.{word_at}
use Rattle.cox_context.proofs.Shifting.{later-not_below}
use Rattle.cox_row.specs.Extremal.{IsExtremal}
use Rattle.cox_row.specs.ExtremalNumbers.{AreExtremal}
use Rattle.cox_row.specs.Mus.{AreMus}
use Rattle.cox_row_builder.specs.declared.builder.RowBuilder.{RowBuilder}
use Rattle.cox_row_builder.specs.Underway.{AreBegun, AreNoted, IsUnderway}
use Rattle.cox_row.specs.Polynomials.{polynomial_at, HavePolynomials}
use Rattle.cox_row.specs.Rising.{number_at}
use Rattle.cox_row.specs.Mus.{value_at}
use Rattle.cox_row.proofs.PoolOfRow.{kept}
use Rattle.cox_poly.specs.Limit.{AllWithin}
use Rattle.cox_row.specs.declared.row.TheConstants.{MU_LIMIT}
use Rattle.cox_row_builder.specs.Limits.{IsLargeMu}
use Rattle.cox_row_builder.specs.LargeMembers.{IsWithinLimit}
use Rattle.cox_row_builder.specs.Faults.{IsFault, IsNarrowFault, IsFirstLargeMu, IsAboveAt}
use Rattle.cox_row_builder.proofs.LargeCoefficients.{outside-none, within-none}
use Rattle.cox_row_builder.proofs.LargeFound.{large-none}
use Rattle.cox_row_builder.specs.declared.fault.StepFault.{StepFault}
use Rattle.cox_row_builder.specs.declared.fault.StepFault.TheVariants.{Coefficient, Mu, NoMemory}

module _ (A : IntegerMatrix) (g : IsAdmissible A) (members : List (List ℕ)) (closed : IsClosed A members) (i : ℕ)
    (inside : i < length members)
    (end : ℕ) (all : i < end) (last : end ≤ i + 1) where
  pub finished-extremal : (limit : ℤ) (numbers places : List ℕ) (pool : List (List ℤ))
      → ((x : ℕ) → x < end → IsExtremal A (word_at members i) (word_at members x)
      → IsBelow A (word_at members x) (word_at members i) → IsWithinLimit A limit (word_at members x) (word_at members i))
      → AreBegun A members (word_at members i) limit end numbers places pool → AreExtremal A members (word_at members i) numbers
  finished-extremal limit numbers places pool small h = record {
    rising = h.rising;
    within = λ k l. omega (arith, h.before k l, last, inside);
    extremal = h.extremal;
    below = h.below;
    whole = λ x l e b. ⊎_elim (λ (less : x < end). h.whole x less e b (small x less e b))
        (λ (more : end ≤ x). absurd (later-not_below A g members closed x i l inside (omega (arith, more, all)) b)) (cases_lt x end);
  }

  pub finished-mus : (limit : ℤ) (numbers : List ℕ) (values : List ℤ)
      → ((x : List ℕ) → IsWithinLimit A limit x (word_at members i))
      → AreNoted A members (word_at members i) limit end numbers values → AreMus A members (word_at members i) numbers values
  finished-mus limit numbers values small h = record {
    size = h.size;
    rising = h.rising;
    within = λ k l. omega (arith, h.before k l, last, inside);
    value = h.value;
    some = h.some;
    whole = λ u m l mu some. ⊎_elim (λ (less : u < end). h.whole u m less mu some (small (word_at members u)))
        (λ (more : end ≤ u). absurd (later-not_below A g members closed u i l inside (omega (arith, more, all))
        (mu-below A g (word_at members u) (word_at members i) m mu some))) (cases_lt u end);
  }

-- where the polynomials of the row are within the limit, no coefficient is above it
module _ (A : IntegerMatrix) (g : IsAdmissible A) (members : List (List ℕ)) (closed : IsClosed A members) (i : ℕ)
    (inside : i < length members)
    (limit : ℤ) (least : pos 0 ≤ℤ limit) (numbers places : List ℕ) (pool : List (List ℤ))
    (extremal : AreExtremal A members (word_at members i) numbers)
    (have : HavePolynomials A members (word_at members i) numbers places pool)
    (small : (j : ℕ) → j < length pool → AllWithin limit (polynomial_at pool j)) where
  pub none-large : (x : List ℕ) → IsWithinLimit A limit x (word_at members i)
  none-large x k c = ⊎_elim
      (λ (b : IsBelow A x (word_at members i)).
      let there = kept A g members closed i inside numbers places pool extremal have x b
      in let l : there.k < length places = omega (arith, there.within, have.size)
      in within-none A g limit x (word_at members i) (polynomial_at pool (number_at places there.k))
      (there.stands.same _ (have.value there.k there.within)) (small (number_at places there.k) (have.placed there.k l)) k c)
      (λ (n : IsBelow A x (word_at members i) → ⊥). outside-none A g limit x (word_at members i) least n k c)
      (below_or_not A g x (word_at members i))

-- when each member up to w is done, and no coefficient above the limit was found: the extremal members are all there, and each P(x,w)
-- is within the limit
pub record IsFinished (e : Elements) (i : ℕ) (limit : ℤ) (builder : RowBuilder) : Type 0 where
  pub done : i < builder.done
  pub extremal : AreExtremal (integer_matrix e.matrix) e.members (word_at e.members i) builder.values.extremal.items
  pub within : (x : List ℕ) → IsWithinLimit (integer_matrix e.matrix) limit x (word_at e.members i)

module _ (e : Elements) (g : IsAdmissible (integer_matrix e.matrix)) (closed : IsClosed (integer_matrix e.matrix) e.members)
    (i : ℕ) (inside : i < length e.members) (limit : ℤ) (least : pos 0 ≤ℤ limit) (builder : RowBuilder) where
  pub finished : i < builder.done → builder.done ≤ i + 1 → builder.large.numbers.items ≡ [] → IsUnderway e i limit builder
      → IsFinished e i limit builder
  finished done last none underway =
      let A = integer_matrix e.matrix in
      let extremal = finished-extremal A g e.members closed i inside builder.done done last limit builder.values.extremal.items
      builder.values.places builder.values.pool
      (λ x. large-none A e.members (word_at e.members i) limit builder.large.numbers.items builder.large.coefficients.items builder.done x
      (ap length none) underway.large) underway.begun
      in record {
        done = done;
        extremal = extremal;
        within = none-large A g e.members closed i inside limit least builder.values.extremal.items builder.values.places
            builder.values.pool extremal underway.begun.polynomials underway.begun.small;
      }

-- the first value of mu that is too large
first-above : (A : IntegerMatrix) (g : IsAdmissible A) (members : List (List ℕ)) (w : List ℕ) (limit : ℤ) (end : ℕ)
    (numbers : List ℕ) (values : List ℤ) (x : ℕ) (value : ℤ) (k : ℕ) → AreNoted A members w limit end numbers values
    → ((u : List ℕ) → IsWithinLimit A limit u w) → IsAboveAt numbers values x value k
    → IsFirstLargeMu A members w limit x value
first-above A g members w limit end numbers values x value k h none at = record {
  large = record {
    is = rw (at.number, at.is) (h.value k (omega (arith, at.within, h.size)));
    above = at.above;
  };
  before = λ y m l large. first y m l large (h.whole y m (omega (arith, l, at.number, h.before k inside)) large.is
      (not_zero m large.above) (none (word_at members y)));
  small = λ y j c l. none (word_at members y) j c;
}
  where
    inside : k < length numbers
    inside = omega (arith, at.within, h.size)

    not_zero : (m : ℤ) → pos MU_LIMIT <ℤ pos (unsigned_abs m) → m ≡ pos 0 → ⊥
    not_zero m l e = let zero : pos MU_LIMIT <ℤ pos 0 = rw e at l in omega (arith, ints, zero)

    first : (y : ℕ) (m : ℤ) → y < x → IsLargeMu A (pos MU_LIMIT) (word_at members y) w m
        → ((j : ℕ) × (j < length numbers) × (number_at numbers j ≡ y)) → ⊥
    first y m l large (j, there, is) = ⊎_elim
        (λ (less : j < k).
        let value : m ≡ value_at values j = mu-unique A g (word_at members y) w m (value_at values j) large.is
        (rw is at (h.value j there))
        in let above : pos MU_LIMIT <ℤ pos (unsigned_abs (value_at values j)) = rw value at large.above
        in let within = at.before j less in omega (arith, ints, above, within))
        (λ (more : k ≤ j). ⊎_elim
        (λ (after : k < j). let rises = h.rising k j after there in omega (arith, rises, is, l, at.number))
        (λ (same : j ≤ k). let e : j ≡ k = omega arith
        in let n : number_at numbers k ≡ y = rw e at is in omega (arith, n, l, at.number)) (cases_lt k j))
        (cases_lt j k)

-- what a fault of the values of mu says of the row of the member i
pub noted-fault : (A : IntegerMatrix) (g : IsAdmissible A) (members : List (List ℕ)) (i : ℕ) (limit : ℤ) (end : ℕ)
    (numbers : List ℕ) (values : List ℤ)
    (fault : StepFault) → AreNoted A members (word_at members i) limit end numbers values
    → ((x : List ℕ) → IsWithinLimit A limit x (word_at members i)) → IsNarrowFault i numbers values fault
    → IsFault A members limit (λ w. w ≡ i) fault
noted-fault A g members i limit end numbers values (Coefficient x u degree value) h none never = absurd never
noted-fault A g members i limit end numbers values (Mu x u value) h none (is, (k, at)) = (
  is,
  rw is
      (first-above A g members (word_at members i) limit end numbers values x value k h none at),
)
noted-fault A g members i limit end numbers values NoMemory h none nothing = tt

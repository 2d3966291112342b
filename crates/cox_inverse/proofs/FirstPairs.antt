-- Polynomials P(x,z) with a coefficient above the limit: the first one that is found, by rising z and then by rising x, is the first of
-- all.
use Rattle.std.proofs.Common.{◌≡◌, ℕ, ◌+◌, ◌<◌, ◌≤◌, List, length, Option, None, Some, ℤ, pos, refl, ⊎_elim, arith}
use Rattle.std.specs.Prelude.{◌≤ℤ◌, true}
use Rattle.std.specs.Arc.{arc_value}
use lib.Signed.{le_z}
use Rattle.std.proofs.lemmas.Bool.{cases_lt}
use Rattle.std.proofs.lemmas.Int.{ints}
use Rattle.cox_base.specs.IntegerMatrix.{IntegerMatrix, integer_matrix}
use Rattle.cox_base.specs.Admissible.{IsAdmissible}
use Rattle.cox_base.specs.ShortLex.{normal_form}
use Rattle.cox_base.specs.Bruhat.{IsBelow}
use Rattle.cox_reflect.proofs.Elements.{same-refl, same-sym}
use Rattle.cox_reflect.proofs.Search.{normal_form-same, IsWord-normal_form}
use Rattle.cox_reflect.proofs.NormalElements.{element-word}
use Rattle.cox_reflect.proofs.Bruhat.{below-trans}
use Rattle.cox_poly.specs.Polynomial.{coefficient}
use Rattle.cox_poly.specs.Limit.{AllWithin, IsFirstAbove}
use Rattle.cox_hecke.specs.Row.{IsKazhdanLusztig}
use Rattle.cox_hecke.proofs.PolynomialValues.{kazhdan_lusztig-same}
use Rattle.cox_symmetry.specs.Turns.{turn}
use Rattle.cox_symmetry.proofs.Turned.{kazhdan_lusztig_turned}
use Rattle.cox_context.specs.Closed.{Elements, IsClosed}
use Rattle.cox_context.specs.Numbers.{word_at}
use Rattle.cox_context.proofs.Shifting.{element-at, later-not_below}
use Rattle.cox_row.specs.Rising.{number_at, AreRising}
use Rattle.cox_row.specs.declared.row.Row.{Row}
use Rattle.cox_row.specs.declared.row.Values.{Values}
use Rattle.cox_row.specs.declared.row.SharedPolynomials.{SharedPolynomials}
use Rattle.cox_row.specs.Views.{IsViewOf, ServesFor}
use Rattle.cox_row.specs.RowOf.{AreValuesOf, IsRowAt, pool_of}
use Rattle.cox_row.specs.Polynomials.{polynomial_at}
use Rattle.cox_row.specs.Within.{IsRowWithin}
use Rattle.cox_row_builder.specs.LargeMembers.{IsWithinLimit}
use Rattle.cox_row_builder.proofs.LargeCoefficients.{least-large}
use Rattle.cox_row_builder.proofs.Finished.{none-large}
use Rattle.cox_inverse.specs.declared.fault.TheConstants.{MAX_COEFFICIENT}
use Rattle.cox_inverse.specs.NumberedInverses.{AreBetween}
use Rattle.cox_inverse.specs.InverseFaults.{IsPair, IsFirstPair}
use Rattle.cox_inverse.specs.Intervals.{ArePairsSmall}

-- of two numbers that rise the lesser one has the lesser place
pub place-less : (numbers : List ℕ) → AreRising numbers → (i j : ℕ) → i < length numbers → j < length numbers
    → number_at numbers i < number_at numbers j → i < j
place-less numbers rising i j l m less = ⊎_elim (λ (before : i < j). before)
    (λ (from : j ≤ i). ⊎_elim
    (λ (after : j < i). let h = rising j i after l in absurd (omega (arith, h, less)))
    (λ (here : i ≤ j). let same : i ≡ j = omega (arith, from, here)
    in let below : number_at numbers j < number_at numbers j = rw same at less in absurd (omega (arith, below)))
    (cases_lt j i))
    (cases_lt i j)

-- what a test of two limits says
pub at_most : (a b : ℤ) → le_z a b ≡ true → a ≤ℤ b
at_most a b e = grind (arith, ints)

-- where the polynomials of a row are within a limit, no P(x,w) of it has a coefficient above it
module _ (A : IntegerMatrix) (g : IsAdmissible A) (members : List (List ℕ)) (closed : IsClosed A members) (i : ℕ)
    (inside : i < length members)
    (limit : ℤ) (least : pos 0 ≤ℤ limit) where
  -- P(x,w) is P(g(x),g(w)), and g(w) is the element whose polynomials are kept
  view-small : (view : SharedPolynomials) → IsViewOf A members (word_at members i) view
      → ((y : List ℕ) → IsWithinLimit A limit y (word_at members view.member))
      → (x : List ℕ) → IsWithinLimit A limit x (word_at members i)
  view-small view is small x k c h =
      let image = turn is.p is.inverted (normal_form A x)
      in let letters = element-word A g (word_at members i) (element-at A g members closed i inside)
      in let there = (kazhdan_lusztig_turned A g is.p is.symmetry is.inverted (normal_form A x) (word_at members i) h.polynomial
      (IsWord-normal_form A g x) letters).1 (kazhdan_lusztig-same A g x (normal_form A x) (word_at members i) (word_at members i)
      h.polynomial (same-sym A g (normal_form-same A g x)) (same-refl A g (word_at members i)) h.is)
      in small image k c (record {
        polynomial = h.polynomial;
        is = kazhdan_lusztig-same A g image image (turn is.p is.inverted (word_at members i)) (word_at members view.member) h.polynomial
            (same-refl A g image) (same-sym A g is.element) there;
        value = h.value;
        above = h.above;
      })

  module _ (values : Values) (small : (j : ℕ) → j < length values.pool → AllWithin limit (polynomial_at values.pool j)) where
    own-small : (m : ℕ) → m < length members → AreValuesOf A members (word_at members m) values
        → (x : List ℕ) → IsWithinLimit A limit x (word_at members m)
    own-small m l are = none-large A g members closed m l limit least values.extremal.items values.places values.pool are.extremal
        are.polynomials small

    values-small : (view : Option SharedPolynomials) (v : List ℕ) → ServesFor A members (word_at members i) view v
        → AreValuesOf A members v values → (x : List ℕ) → IsWithinLimit A limit x (word_at members i)
    values-small None v e are = own-small i inside (rw e at are)
    values-small (Some view) v (is, e) are = view-small view is (own-small view.member is.within (rw e at are))

-- the same of the member i of a context
pub row-small : (e : Elements) → IsAdmissible (integer_matrix e.matrix) → IsClosed (integer_matrix e.matrix) e.members → (i : ℕ)
    → i < length e.members → (limit : ℤ) → pos 0 ≤ℤ limit → (row : Row) → IsRowAt e i row
    → ((j : ℕ) → j < length (pool_of row) → AllWithin limit (polynomial_at (pool_of row) j))
    → (x : List ℕ) → IsWithinLimit (integer_matrix e.matrix) limit x (word_at e.members i)
row-small e g closed i inside limit least row is within =
    values-small (integer_matrix e.matrix) g e.members closed i inside limit least (arc_value row.values) within row.view is.kept is.serves
    is.values

pub row-within : (e : Elements) → IsAdmissible (integer_matrix e.matrix) → IsClosed (integer_matrix e.matrix) e.members → (i : ℕ)
    → i < length e.members → (limit : ℤ) → pos 0 ≤ℤ limit → (row : Row) → IsRowAt e i row → IsRowWithin limit row
    → (x : List ℕ) → IsWithinLimit (integer_matrix e.matrix) limit x (word_at e.members i)
row-within e g closed i inside limit least row is within x = row-small e g closed i inside limit least row is within.coefficients x

-- none of the x at the first n places has a P(x,z) with a large coefficient
abbrev pub AreSmallTo : Elements → List ℕ → ℕ → ℕ → Type 0
AreSmallTo e numbers z n = (i : ℕ) → i < n → i < length numbers
    → IsWithinLimit (integer_matrix e.matrix) MAX_COEFFICIENT (word_at e.members (number_at numbers i)) (word_at e.members z)

-- none of the z at the first n places has one
abbrev pub AreSmallRows : Elements → ℕ → ℕ → List ℕ → ℕ → Type 0
AreSmallRows e y w numbers n = (i : ℕ) → i < n → i < length numbers → (u : ℕ) → IsPair e y w u (number_at numbers i)
    → IsWithinLimit (integer_matrix e.matrix) MAX_COEFFICIENT (word_at e.members u) (word_at e.members (number_at numbers i))

module _ (e : Elements) (g : IsAdmissible (integer_matrix e.matrix)) (closed : IsClosed (integer_matrix e.matrix) e.members)
    (y w : ℕ) (numbers : List ℕ) (are : AreBetween e y w numbers) where
  abbrev A : IntegerMatrix
  A = integer_matrix e.matrix

  pub lower-place : (u v : ℕ) → IsPair e y w u v → (i : ℕ) × (i < length numbers) × (number_at numbers i ≡ u)
  lower-place u v p = are.whole u p.x_member p.above (below-trans A g p.order p.below)

  pub upper-place : (u v : ℕ) → IsPair e y w u v → (i : ℕ) × (i < length numbers) × (number_at numbers i ≡ v)
  upper-place u v p = are.whole v p.z_member (below-trans A g p.above p.order) p.below

  pub small-before : (z n x : ℕ) → AreSmallTo e numbers z n → n < length numbers → x ≡ number_at numbers n →
      (u : ℕ) → u < x → IsPair e y w u z
      → IsWithinLimit A MAX_COEFFICIENT (word_at e.members u) (word_at e.members z)
  small-before z n x small l is u less p =
      let place = lower-place u z p
      in rw place.2 at (small place.0 (place-less numbers are.rising place.0 n place.1 l (omega (arith, place.2, is, less))) place.1)

  pub small-row : (k : ℕ) → k < length numbers → AreSmallTo e numbers (number_at numbers k) (k + 1) → (u : ℕ) → IsPair e y w u
      (number_at numbers k)
      → IsWithinLimit A MAX_COEFFICIENT (word_at e.members u) (word_at e.members (number_at numbers k))
  small-row k l small u p =
      let place = lower-place u (number_at numbers k) p
      in rw place.2 at (small place.0
      (⊎_elim (λ (before : place.0 < k + 1). before)
      (λ (after : k + 1 ≤ place.0). absurd (later-not_below A g e.members closed u (number_at numbers k) p.x_member p.z_member
      (let rises = are.rising k place.0 (omega (arith, after)) place.1 in omega (arith, rises, place.2)) p.order))
      (cases_lt place.0 (k + 1)))
      place.1)

  pub first-pair : (j k degree : ℕ) (value : ℤ) (p : List ℤ) → j < length numbers → k < length numbers
      → IsBelow A (word_at e.members (number_at numbers j)) (word_at e.members (number_at numbers k))
      → IsKazhdanLusztig A (word_at e.members (number_at numbers j)) (word_at e.members (number_at numbers k)) (coefficient p)
      → IsFirstAbove MAX_COEFFICIENT p degree value → AreSmallTo e numbers (number_at numbers k) j
      → ((u v : ℕ) → v < number_at numbers k → IsPair e y w u v → IsWithinLimit A MAX_COEFFICIENT (word_at e.members u)
      (word_at e.members v))
      → IsFirstPair e y w (number_at numbers j) (number_at numbers k) degree value
  first-pair j k degree value p l m order is first small before = record {
    pair = record {
      x_member = are.within j l;
      z_member = are.within k m;
      above = are.above j l;
      order = order;
      below = are.below k m;
    };
    least = least-large A g MAX_COEFFICIENT (word_at e.members (number_at numbers j)) (word_at e.members (number_at numbers k)) p is degree
        value first;
    before_x = small-before (number_at numbers k) j (number_at numbers j) small l refl;
    before_z = before;
  }

  -- the same of x and z that stand at these places
  pub first-pair_at : (x z j k degree : ℕ) (value : ℤ) (p : List ℤ) → j < length numbers → k < length numbers → x ≡ number_at numbers j
      → z ≡ number_at numbers k → IsBelow A (word_at e.members x) (word_at e.members z)
      → IsKazhdanLusztig A (word_at e.members x) (word_at e.members z) (coefficient p)
      → IsFirstAbove MAX_COEFFICIENT p degree value → AreSmallTo e numbers z j
      → ((u v : ℕ) → v < number_at numbers k → IsPair e y w u v → IsWithinLimit A MAX_COEFFICIENT (word_at e.members u)
      (word_at e.members v))
      → IsFirstPair e y w x z degree value
  first-pair_at x z j k degree value p l m at_x at_z order is first small before =
      rw (at_x, at_z) (first-pair j k degree value p l m (rw (at_x, at_z) at order) (rw (at_x, at_z) at is) first
      (λ i less within. rw at_z at (small i less within)) before)

  pub rows-before : (n : ℕ) → n < length numbers → AreSmallRows e y w numbers n → (u v : ℕ) → v < number_at numbers n → IsPair e y w u v
      → IsWithinLimit A MAX_COEFFICIENT (word_at e.members u) (word_at e.members v)
  rows-before n l small u v less p =
      let place = upper-place u v p
      in rw place.2 at (small place.0 (place-less numbers are.rising place.0 n place.1 l (omega (arith, place.2, less))) place.1 u
      (rw place.2 p))

  pub rows-all : (n : ℕ) → length numbers ≤ n → AreSmallRows e y w numbers n → ArePairsSmall e y w
  rows-all n all small u v p =
      let place = upper-place u v p
      in rw place.2 at (small place.0 (omega (arith, all, place.1)) place.1 u (rw place.2 p))

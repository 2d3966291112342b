-- What a row has at a place, and what it tells where it has none.
use Rattle.std.proofs.Common.{◌≡◌, ℕ, ◌<◌, ◌↔◌, List, length, Option, None, Some, ℤ, pos, refl}
use Rattle.std.specs.Prelude.{IfSome, IfNone, IsSome}
use Rattle.cox_base.specs.IntegerMatrix.{IntegerMatrix}
use Rattle.cox_base.specs.Admissible.{IsAdmissible}
use Rattle.cox_base.specs.Bruhat.{IsBelow}
use Rattle.cox_poly.specs.Polynomial.{coefficient}
use Rattle.cox_hecke.specs.Row.{IsKazhdanLusztig, IsMu}
use Rattle.cox_context.specs.Numbers.{word_at}
use Rattle.cox_row.specs.Rising.{number_at}
use Rattle.cox_row.specs.ExtremalNumbers.{AreExtremal}
use Rattle.cox_row.specs.Polynomials.{polynomial_at, HavePolynomials}
use Rattle.cox_row.specs.Mus.{AreMus}
use Rattle.cox_row.specs.Extremal.{IsExtremal}
use Rattle.cox_row.specs.Raised.{StandsFor}
use Rattle.cox_row.proofs.MuOfElements.{mu-zero}

module _ (A : IntegerMatrix) (members : List (List ℕ)) (w : List ℕ) where
  -- the polynomial at a place is that of all elements for which the element there stands
  pub value-raised : (x : List ℕ) (top k : ℕ) (numbers places : List ℕ) (pool : List (List ℤ))
      → HavePolynomials A members w numbers places pool
      → StandsFor A w x (word_at members top) → k < length numbers → number_at numbers k ≡ top
      → IsKazhdanLusztig A x w (coefficient (polynomial_at pool (number_at places k)))
  value-raised x top k numbers places pool h stands l e = stands.same _ (rw e at (h.value k l))

  pub below-at : (x : List ℕ) (top k : ℕ) (numbers : List ℕ) → AreExtremal A members w numbers → StandsFor A w x (word_at members top)
      → k < length numbers → number_at numbers k ≡ top → IsBelow A x w
  below-at x top k numbers h stands l e = stands.from (rw e at (h.below k l))

  -- the same for a place that was looked for
  pub value-found : (x : List ℕ) (top : ℕ) (numbers places : List ℕ) (pool : List (List ℤ))
      → HavePolynomials A members w numbers places pool → StandsFor A w x (word_at members top) → (found : Option ℕ)
      → IfSome found (λ k. k < length numbers) → IfSome found (λ k. number_at numbers k ≡ top)
      → IfSome found (λ k. IsKazhdanLusztig A x w (coefficient (polynomial_at pool (number_at places k))))
  value-found x top numbers places pool h stands None l e = tt
  value-found x top numbers places pool h stands (Some k) l e = value-raised x top k numbers places pool h stands l e

  pub below-found : (x : List ℕ) (top : ℕ) (numbers : List ℕ) → AreExtremal A members w numbers → top < length members
      → IsExtremal A w (word_at members top) → StandsFor A w x (word_at members top) → (found : Option ℕ)
      → IfSome found (λ k. k < length numbers) → IfSome found (λ k. number_at numbers k ≡ top)
      → IfNone found ((k : ℕ) → k < length numbers → number_at numbers k ≡ top → ⊥) → IsSome found ↔ IsBelow A x w
  below-found x top numbers h within extremal stands None l e none = (
    λ s. absurd (cc),
    λ b. let k = h.whole top within extremal (stands.to b) in absurd (none k.0 k.1 k.2),
  )
  below-found x top numbers h within extremal stands (Some k) l e none = (λ _. below-at x top k numbers h stands l e, λ _. refl)

  -- a member that the list of mu does not have has 0
  pub mu-absent : (g : IsAdmissible A) (u : ℕ) (numbers : List ℕ) (values : List ℤ) → AreMus A members w numbers values → u < length members
      → ((k : ℕ) → k < length numbers → number_at numbers k ≡ u → ⊥) → IsMu A (word_at members u) w (pos 0)
  mu-absent g u numbers values h l none =
      mu-zero A g (word_at members u) w (λ m mu some. let there = h.whole u m l mu some in none there.0 there.1 there.2)

-- The extremal members with a coefficient above the limit as they are found, and the first of all members that has one.
use Rattle.std.proofs.Common.{◌≡◌, ℕ, ◌+◌, ◌<◌, ◌≤◌, List, [], ◌∷◌, ◌++◌, length, ℤ, pos, refl, ◌∙◌, ⊎_elim, arith}
use Rattle.std.specs.Prelude.{◌≤ℤ◌}
use Rattle.std.proofs.lemmas.Bool.{cases_lt}
use Rattle.cox_base.specs.IntegerMatrix.{IntegerMatrix}
use Rattle.cox_base.specs.Admissible.{IsAdmissible}
use Rattle.cox_base.specs.Bruhat.{IsBelow}
use Rattle.cox_hecke.proofs.ElementLists.{below_or_not}
use Rattle.cox_context.specs.Closed.{IsClosed}
use Rattle.cox_context.specs.Numbers.{word_at}
use Rattle.cox_context.proofs.Shifting.{later-not_below}
use Rattle.cox_row.specs.Rising.{number_at}
use Rattle.cox_row.specs.Extremal.{IsExtremal}
use Rattle.cox_row.specs.Raised.{StandsFor}
use Rattle.cox_row_builder.specs.declared.large.LargeCoefficient.{LargeCoefficient}
use Rattle.cox_row_builder.specs.Limits.{IsLargeCoefficient}
use Rattle.cox_row_builder.specs.LargeMembers.{IsWithinLimit, IsLeastLarge, coefficient_at, fault_by, AreLarge}
use Rattle.cox_row_builder.specs.Faults.{IsFault}
use Rattle.cox_row_builder.proofs.LargeCoefficients.{outside-none, large-to, least-from}
use Rattle.cox_lemmas.proofs.PushedItems.{push-length, push-old, push-new, push_cases}

pub large-start : (A : IntegerMatrix) (members : List (List ℕ)) (w : List ℕ) (limit : ℤ) → AreLarge A members w limit 0 [] []
large-start A members w limit = record {
  size = refl;
  rising = λ j k l m. absurd (omega (arith, m));
  before = λ k l. absurd (omega (arith, l));
  least = λ k l. absurd (omega (arith, l));
  whole = λ x k c l e b large. absurd (omega (arith, l));
}

module _ (A : IntegerMatrix) (members : List (List ℕ)) (w : List ℕ) (limit : ℤ) (numbers : List ℕ) (coefficients : List LargeCoefficient)
  where
    -- no member from one to another is extremal and below w
    pub large-pass : (q p : ℕ) → q ≤ p
        → ((x : ℕ) → q ≤ x → x < p → IsExtremal A w (word_at members x) → IsBelow A (word_at members x) w → ⊥)
        → AreLarge A members w limit q numbers coefficients → AreLarge A members w limit p numbers coefficients
    large-pass q p l bare h = record {
      size = h.size;
      rising = h.rising;
      before = λ k m. omega (arith, h.before k m, l);
      least = h.least;
      whole = λ x k c m e b large. ⊎_elim (λ (less : x < q). h.whole x k c less e b large)
          (λ (more : q ≤ x). absurd (bare x more m e b)) (cases_lt x q);
    }

    -- the next member is not below w, or has no coefficient above the limit
    pub large-skip : (x : ℕ) → (IsBelow A (word_at members x) w → IsWithinLimit A limit (word_at members x) w)
        → AreLarge A members w limit x numbers coefficients → AreLarge A members w limit (x + 1) numbers coefficients
    large-skip x small h = record {
      size = h.size;
      rising = h.rising;
      before = λ k m. omega (arith, h.before k m);
      least = h.least;
      whole = λ y k c m e b large. ⊎_elim (λ (less : y < x). h.whole y k c less e b large)
          (λ (more : x ≤ y). let is : y ≡ x = omega (arith, m, more) in absurd (small (rw is at b) k c (rw is at large))) (cases_lt y x);
    }

    -- it has one
    pub large-push : (x : ℕ) (coefficient : LargeCoefficient)
        → IsLeastLarge A limit (word_at members x) w coefficient.degree coefficient.value
        → AreLarge A members w limit x numbers coefficients
        → AreLarge A members w limit (x + 1) (numbers ++ x ∷ []) (coefficients ++ coefficient ∷ [])
    large-push x coefficient is h = record {
      size = omega (arith, h.size, push-length numbers x, push-length coefficients coefficient);
      rising = λ j k less l. ⊎_elim
          (λ (old : k < length numbers). rw (push-old numbers x 0 j (omega (arith, less, old)), push-old numbers x 0 k old)
          (h.rising j k less old))
          (λ (last : k ≡ length numbers). rw (push-old numbers x 0 j (omega (arith, less, last)), push-new numbers x 0 k last)
          (h.before j (omega (arith, less, last))))
          (push_cases numbers x k l);
      before = λ k l. ⊎_elim
          (λ (old : k < length numbers). rw (push-old numbers x 0 k old) (omega (arith, h.before k old)))
          (λ (last : k ≡ length numbers). rw (push-new numbers x 0 k last) (omega arith))
          (push_cases numbers x k l);
      least = λ k l. ⊎_elim
          (λ (old : k < length numbers). rw (
            push-old numbers x 0 k old,
            push-old coefficients coefficient
                (record { degree = 0; value = pos 0 }) k (omega (arith, old, h.size)),
          ) (h.least k old))
          (λ (last : k ≡ length numbers). rw (
            push-new numbers x 0 k last,
            push-new coefficients coefficient
                (record { degree = 0; value = pos 0 }) k (omega (arith, last, h.size)),
          ) is)
          (push_cases numbers x k l);
      whole = λ y k c l e b large. ⊎_elim
          (λ (less : y < x). let j = h.whole y k c less e b large
          in (j.0, omega (arith, j.1, push-length numbers x), push-old numbers x 0 j.0 j.1 ∙ j.2))
          (λ (more : x ≤ y). (
            length numbers,
            omega (arith, push-length numbers x),
            push-new numbers x 0 (length numbers) refl ∙ omega (arith, l, more),
          ))
          (cases_lt y x);
    }

    -- there is none
    pub large-none : (end x : ℕ) → length numbers ≡ 0 → AreLarge A members w limit end numbers coefficients → x < end
        → IsExtremal A w (word_at members x) → IsBelow A (word_at members x) w → IsWithinLimit A limit (word_at members x) w
    large-none end x none h l e b k c large = let j = h.whole x k c l e b large in omega (arith, j.1, none)

module _ (A : IntegerMatrix) (g : IsAdmissible A) (members : List (List ℕ)) (closed : IsClosed A members) (i : ℕ)
    (inside : i < length members) (limit : ℤ) (least : pos 0 ≤ℤ limit) (numbers : List ℕ) (coefficients : List LargeCoefficient)
    (are : AreLarge A members (word_at members i) limit (i + 1) numbers coefficients) (x : ℕ) where
  -- x has the polynomial of the member at the place k, and no member before x has a coefficient above the limit
  pub fault-first : (k : ℕ) → k < length numbers
      → StandsFor A (word_at members i) (word_at members x) (word_at members (number_at numbers k))
      → ((y j : ℕ) (c : ℤ) → y < x → IsLargeCoefficient A limit (word_at members y) (word_at members i) j c → ⊥)
      → IsFault A members limit (λ w. w ≡ i) (fault_by x i (coefficient_at coefficients k))
  fault-first k l stands before =
      let first = least-from A g limit (word_at members x) (word_at members i) (word_at members (number_at numbers k)) stands _ _
      (are.least k l)
      in (refl, record { large = first.large; least = first.least; before = before })

  -- x has the polynomial of an extremal member that is not among the numbers
  pub fault-none : (top : ℕ) → top < length members → IsExtremal A (word_at members i) (word_at members top)
      → StandsFor A (word_at members i) (word_at members x) (word_at members top)
      → ((k : ℕ) → k < length numbers → number_at numbers k ≡ top → ⊥) → IsWithinLimit A limit (word_at members x) (word_at members i)
  fault-none top l e stands none k c large = ⊎_elim
      (λ (below : IsBelow A (word_at members x) (word_at members i)). ⊎_elim
      (λ (less : top < i + 1).
      let j = are.whole top k c less e (stands.to below)
      (large-to A g limit (word_at members x) (word_at members i) (word_at members top) stands k c large)
      in none j.0 j.1 j.2)
      (λ (more : i + 1 ≤ top). later-not_below A g members closed top i l inside (omega (arith, more)) (stands.to below))
      (cases_lt top (i + 1)))
      (λ (outside : IsBelow A (word_at members x) (word_at members i) → ⊥).
      outside-none A g limit (word_at members x) (word_at members i) least outside k c large)
      (below_or_not A g (word_at members x) (word_at members i))

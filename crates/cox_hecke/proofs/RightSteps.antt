-- The step family of w by any right descent is its row: at inverses it is that of w^-1 by a left descent.
use Rattle.std.proofs.Common.{◌≡◌, ℕ, ◌-◌, ◌/◌, Bool, if◌then◌else◌, List, [], ◌∷◌, ◌++◌, reverse, map, ℤ, ◌-ℤ◌, refl, ap, sym, ◌∙◌, subst}
use Rattle.std.proofs.Common.{arith}
use Rattle.std.specs.Prelude.{All}
use Rattle.std.proofs.lemmas.Int.{ints}
use Rattle.std.proofs.lemmas.List.{reverse-reverse}
use Rattle.std.proofs.lemmas.List.Elements.{All-map, All-weaker}
use Rattle.cox_base.specs.declared.side.Side.{Side}
use Rattle.cox_base.specs.declared.side.Side.TheVariants.{Left, Right}
use Rattle.cox_base.specs.IntegerMatrix.{IntegerMatrix}
use Rattle.cox_base.specs.Admissible.{IsAdmissible}
use Rattle.cox_base.specs.Length.{word_length}
use Rattle.cox_base.specs.Descents.{IsRightDescent}
use Rattle.cox_reflect.proofs.Lengths.{word_length-reverse}
use Rattle.cox_reflect.proofs.WordsAndSubwords.{reverse-push}
use Rattle.cox_reflect.proofs.Roots.{descent-reverse, reverse-descent}
use Rattle.cox_poly.specs.Coefficients.{Coefficients, plus, times_q}
use Rattle.cox_poly.specs.Products.{times_q_power}
use Rattle.cox_poly.specs.Multiples.{minus, scaled}
use Rattle.cox_rpoly.specs.InverseOperators.{shortens_left}
use Rattle.cox_hecke.specs.Family.{Family}
use Rattle.cox_hecke.specs.Operators.{shortens_right}
use Rattle.cox_hecke.specs.Row.{IsRow, IsMu}
use Rattle.cox_hecke.specs.ListedElements.{occurrences}
use Rattle.cox_hecke.specs.Step.{IsCorrection}
use Rattle.cox_hecke.specs.StepFamily.{step, Correction, corrected_elements, AreCorrections, correction_sum}
use Rattle.cox_hecke.proofs.Descents.{reverse-back, shortens-reverse}
use Rattle.cox_hecke.proofs.Signed.{at_inverses}
use Rattle.cox_hecke.proofs.Inverses.{occurrences-reverse, row-reverse}
use Rattle.cox_hecke.proofs.AllRows.{row_of, row_of-is, mu-value, mu-by_row}
use Rattle.cox_hecke.proofs.LeftSteps.{left-recursion, left-corrections_exist}

-- the correction at the inverse
abbrev mirrored : Correction → Correction
mirrored c = record { element = reverse c.element; mu = c.mu }

elements-mirrored : (list : List Correction) → corrected_elements (map mirrored list) ≡ map reverse (corrected_elements list)
elements-mirrored [] = refl
elements-mirrored (c ∷ list) = ap (λ (ys : List (List ℕ)). reverse c.element ∷ ys) (elements-mirrored list)

module _ (A : IntegerMatrix) (g : IsAdmissible A) where
  pub mu-reverse : (x w : List ℕ) (m : ℤ) → IsMu A x w m → IsMu A (reverse x) (reverse w) m
  mu-reverse x w m c =
      mu-by_row A g (reverse x) (reverse w) m (at_inverses (row_of A g w)) (row-reverse A g w (row_of A g w) (row_of-is A g w))
      (mu-value A g x w m (row_of A g w) c (row_of-is A g w)
      ∙ rw (word_length-reverse A g w, word_length-reverse A g x, reverse-reverse x) refl)

  module _ (w : List ℕ) (s : ℕ) where
    right_to_left : (u : List ℕ) (m : ℤ) → IsCorrection Right A s (w ++ s ∷ []) u m → IsCorrection Left A s (s ∷ reverse w) (reverse u) m
    right_to_left u m is = record {
      shortens = descent-reverse A g u s is.shortens;
      is_mu = subst (λ (v : List ℕ). IsMu A (reverse u) v m) (reverse-push w s) (mu-reverse u (w ++ s ∷ []) m is.is_mu);
      some = is.some;
    }

    left_to_right : (u : List ℕ) (m : ℤ) → IsCorrection Left A s (s ∷ reverse w) u m → IsCorrection Right A s (w ++ s ∷ []) (reverse u) m
    left_to_right u m is = record {
      shortens = reverse-descent A g (reverse u) s (rw (reverse-reverse u) is.shortens);
      is_mu = subst (λ (v : List ℕ). IsMu A (reverse u) v m) (reverse-back w s) (mu-reverse u (s ∷ reverse w) m is.is_mu);
      some = is.some;
    }

  are-mirrored : (side other : Side) (s : ℕ) (v v' : List ℕ)
      → ((u : List ℕ) (m : ℤ) → IsCorrection side A s v u m → IsCorrection other A s v' (reverse u) m)
      → ((u : List ℕ) (m : ℤ) → IsCorrection other A s v' u m → IsCorrection side A s v (reverse u) m)
      → (list : List Correction) → AreCorrections side A s v list → AreCorrections other A s v' (map mirrored list)
  are-mirrored side other s v v' there back list are = record {
    each = All-map (λ c. IsCorrection other A s v' c.element c.mu) mirrored list
        (All-weaker (λ c. IsCorrection side A s v c.element c.mu) (λ c. IsCorrection other A s v' (reverse c.element) c.mu)
        (λ c is. there c.element c.mu is) list are.each);
    once = λ u m is. ap (occurrences A u) (elements-mirrored list) ∙ occurrences-reverse A g u (corrected_elements list)
        ∙ are.once (reverse u) m (back u m is);
  }

  -- ---- the recursion

  correction_sum-mirrored : (w : List ℕ) (rows : List ℕ → Family) (list : List Correction) (x : List ℕ) (k : ℕ)
      → correction_sum A (reverse w) (λ u. at_inverses (rows (reverse u))) (map mirrored list) (reverse x) k
      ≡ correction_sum A w rows list x k
  correction_sum-mirrored w rows [] x k = refl
  correction_sum-mirrored w rows (c ∷ list) x k = omega (arith, ints, one, correction_sum-mirrored w rows list x k)
    where
      one : scaled c.mu (times_q_power ((word_length A (reverse w) - word_length A (reverse c.element)) / 2)
          (rows (reverse (reverse c.element)) (reverse (reverse x)))) k
          ≡ scaled c.mu (times_q_power ((word_length A w - word_length A c.element) / 2) (rows c.element x)) k
      one = rw (word_length-reverse A g w, word_length-reverse A g c.element, reverse-reverse c.element, reverse-reverse x) refl

  step-mirrored : (s : ℕ) (p : Family) (x : List ℕ) → step Left A s (at_inverses p) (reverse x) ≡ step Right A s p x
  step-mirrored s p x = go (shortens_left A s (reverse x)) (shortens_right A s x) (shortens-reverse A g s x)
    where
      go : (a b : Bool) → a ≡ b
          → (if a then plus (p (reverse (s ∷ reverse x))) (times_q (p (reverse (reverse x)))) else plus
          (times_q (p (reverse (s ∷ reverse x)))) (p (reverse (reverse x))))
          ≡ (if b then plus (p (x ++ s ∷ [])) (times_q (p x)) else plus (times_q (p (x ++ s ∷ []))) (p x))
      go a b e = rw (e, reverse-back x s, reverse-reverse x) refl

  pub right-recursion : (w : List ℕ) (s : ℕ) → IsRightDescent A w s → (p : Family) → IsRow A (w ++ s ∷ []) p → (list : List Correction)
      → AreCorrections Right A s (w ++ s ∷ []) list → (rows : List ℕ → Family) → All (λ c. IsRow A c.element (rows c.element)) list
      → (r : Family) → IsRow A w r → (x : List ℕ) (k : ℕ) → r x k ≡ minus (step Right A s p x) (correction_sum A w rows list x) k
  right-recursion w s d p row list are rows are_rows r is_row x k =
      ap (λ (u : List ℕ). r u k) (sym (reverse-reverse x))
      ∙ left-recursion A g (reverse w) s (descent-reverse A g w s d) (at_inverses p)
      (subst (λ (v : List ℕ). IsRow A v (at_inverses p)) (reverse-push w s) (row-reverse A g (w ++ s ∷ []) p row))
      (map mirrored list)
      (are-mirrored Right Left s (w ++ s ∷ []) (s ∷ reverse w) (right_to_left w s) (left_to_right w s) list are)
      (λ u. at_inverses (rows (reverse u)))
      (All-map (λ c. IsRow A c.element (at_inverses (rows (reverse c.element)))) mirrored list
      (All-weaker (λ c. IsRow A c.element (rows c.element))
      (λ c. IsRow A (reverse c.element) (at_inverses (rows (reverse (reverse c.element))))) mirrored_row list are_rows))
      (at_inverses r) (row-reverse A g w r is_row) (reverse x) k
      ∙ ap (λ (f : Coefficients). f k -ℤ correction_sum A (reverse w) (λ u. at_inverses (rows (reverse u))) (map mirrored list)
      (reverse x) k)
      (step-mirrored s p x)
      ∙ ap (λ (z : ℤ). step Right A s p x k -ℤ z) (correction_sum-mirrored w rows list x k)
    where
      mirrored_row : (c : Correction) → IsRow A c.element (rows c.element)
          → IsRow A (reverse c.element) (at_inverses (rows (reverse (reverse c.element))))
      mirrored_row c is =
          subst (λ (u : List ℕ). IsRow A (reverse c.element) (at_inverses (rows u))) (sym (reverse-reverse c.element))
          (row-reverse A g c.element (rows c.element) is)

  pub right-corrections_exist : (w : List ℕ) (s : ℕ) → IsRightDescent A w s
      → (list : List Correction) × AreCorrections Right A s (w ++ s ∷ []) list
  right-corrections_exist w s d =
      let left = left-corrections_exist A g (reverse w) s (descent-reverse A g w s d) (row_of A g (s ∷ reverse w))
      (row_of-is A g (s ∷ reverse w))
      in (
        map mirrored left.0,
        are-mirrored Left Right s (s ∷ reverse w) (w ++ s ∷ []) (left_to_right w s) (right_to_left w s) left.0 left.1,
      )

-- Each element has a row, by induction on its length: that of e is 1 at e, and a left descent s of w makes the row of w from that of sw.
use Rattle.std.proofs.Common.{◌≡◌, ℕ, zero, suc, ◌≤◌, ◌<◌, false, not, List, [], ◌∷◌, ◌⊎◌, inl, inr, ⊎_elim}
use Rattle.std.proofs.Common.{pos, refl, ap, ◌∙◌, arith}
use Rattle.std.proofs.lemmas.Int.{ints}
use Rattle.std.proofs.lemmas.Bool.{cases_lt, cases_eq}
use Rattle.cox_base.specs.Matrix.{IsLetter}
use Rattle.cox_base.specs.IntegerMatrix.{IntegerMatrix}
use Rattle.cox_base.specs.Admissible.{IsAdmissible}
use Rattle.cox_base.specs.Element.{SameElement}
use Rattle.cox_base.specs.ShortLex.{normal_form}
use Rattle.cox_base.specs.Length.{word_length}
use Rattle.cox_base.specs.Descents.{IsLeftDescent}
use Rattle.cox_base.specs.Bruhat.{IsBelow}
use Rattle.cox_reflect.proofs.Elements.{same-sym, same-trans, same-square}
use Rattle.cox_reflect.proofs.Search.{normal_form-same, normal_form-equal, word_length-equal, word_length-length}
use Rattle.cox_reflect.proofs.Roots.{left_descent-letter}
use Rattle.cox_reflect.proofs.Bruhat.{below-refl, below-length}
use Rattle.cox_reflect.proofs.Lengths.{empty_same}
use Rattle.cox_poly.specs.Coefficients.{Coefficients, zero_polynomial, one_polynomial}
use Rattle.cox_poly.specs.Products.{flip, product}
use Rattle.cox_poly.specs.Size.{HasDegreeAtMost}
use Rattle.cox_poly.proofs.Coefficients.{flip-one}
use Rattle.cox_poly.proofs.Products.{one-product}
use Rattle.cox_rpoly.specs.RPolynomial.{r_polynomial}
use Rattle.cox_rpoly.specs.InverseOperators.{shortens_left, unit}
use Rattle.cox_rpoly.proofs.PolynomialsOfElements.{r_polynomial-equal}
use Rattle.cox_rpoly.proofs.Expansion.{unit-one, unit-other}
use Rattle.cox_hecke.specs.Family.{Family}
use Rattle.cox_hecke.specs.Sums.{bar_sum}
use Rattle.cox_hecke.specs.Row.{IsRow}
use Rattle.cox_hecke.proofs.Descents.{nat_lt-yes, shortens_left-back, some_left_descent}
use Rattle.cox_hecke.proofs.RPolynomials.{unit-respects}
use Rattle.cox_hecke.proofs.ListSums.{same-is_same}
use Rattle.cox_hecke.proofs.ElementLists.{below_list}
use Rattle.cox_hecke.proofs.Balance.{Balanced}
use Rattle.cox_hecke.proofs.OneRow.{bar_sum-none, row-from, row-same, one_above}
use Rattle.cox_hecke.proofs.StepRow.{step_row}
use Rattle.cox_hecke.proofs.StepIsRow.{step_row-is}

module _ (A : IntegerMatrix) (g : IsAdmissible A) where
  -- ---- e

  module _ (w : List ℕ) (z : word_length A w ≡ 0) where
    below_e : (x : List ℕ) → IsBelow A x w → word_length A x ≡ 0
    below_e x b = omega (arith, z, below-length A g b)

    outside : (x : List ℕ) → (IsBelow A x w → ⊥) → (k : ℕ) → unit A x k ≡ pos 0
    outside x n k =
        ap (λ (f : Coefficients). f k) (unit-other A x
        (λ e. n (below-refl A g (same-trans A g (empty_same A g x e) (same-sym A g (empty_same A g w z))))))

    unit-balanced : Balanced A (word_length A w) (unit A) (bar_sum A ([] ∷ []) (unit A))
    unit-balanced = record {
      none = λ x l. unit-other A x (λ e. omega (arith, e, l));
      none_sum = λ x l. bar_sum-none A g w (unit A) outside ([] ∷ []) x (λ b. omega (arith, l, below-length A g b));
      low = λ x d e. low x d (cases_eq (word_length A x) 0);
      turned = λ x d e. turned x d (omega (arith, e, z)) (omega (arith, e, z));
    }
      where
        low : (x : List ℕ) (d : ℕ) → (word_length A x ≡ 0) ⊎ (word_length A x ≡ 0 → ⊥) → HasDegreeAtMost (unit A x) d
        low x d (inl e) k above = ap (λ (f : Coefficients). f k) (unit-one A x e) ∙ one_above k (omega (arith, above))
        low x d (inr n) k above = ap (λ (f : Coefficients). f k) (unit-other A x n)

        turned : (x : List ℕ) (d : ℕ) → d ≡ 0 → word_length A x ≡ 0 → flip d (unit A x) ≡ bar_sum A ([] ∷ []) (unit A) x
        turned x d e here = rw (e, unit-one A x here) (λ i k. at k i)
          where
            one : product (r_polynomial A x []) (unit A []) ≡ one_polynomial
            one =
                rw (r_polynomial-equal A g (empty_same A g x here), unit-one A [] (omega (arith, word_length-length A g [])))
                (λ i k. one-product one_polynomial k i)

            at : (k : ℕ) → flip 0 one_polynomial k ≡ bar_sum A ([] ∷ []) (unit A) x k
            at k = omega (arith, ints, ap (λ (f : Coefficients). f k) flip-one, ap (λ (f : Coefficients). f k) one)

    row_of_identity : IsRow A w (unit A)
    row_of_identity =
        row-from A g w (unit A) ([] ∷ []) (unit-respects A g) outside (λ k. ap (λ (f : Coefficients). f k) (unit-one A w z))
        (λ x k l. absurd (omega (arith, l, z)))
        (λ y b. rw (same-is_same A g (empty_same A g y (below_e y b))) refl) unit-balanced

  -- ---- longer elements

  -- the rows of shorter elements, each by its normal form
  abbrev Shorter : ℕ → Type 0
  Shorter n = (z : List ℕ) → word_length A z < n → (p : Family) × IsRow A z p

  picked : (n : ℕ) → Shorter n → (u : List ℕ) → (word_length A u < n) ⊎ (n ≤ word_length A u) → Family
  picked n lower u (inl l) = (lower u l).0
  picked n lower u (inr l) = λ x. zero_polynomial

  picked-row : (n : ℕ) (lower : Shorter n) (u : List ℕ) (c : (word_length A u < n) ⊎ (n ≤ word_length A u)) → word_length A u < n
      → IsRow A u (picked n lower u c)
  unfolding picked
  picked-row n lower u (inl l) m = (lower u l).1
  picked-row n lower u (inr l) m = absurd (omega (arith, l, m))

  chosen : (n : ℕ) → Shorter n → List ℕ → Family
  chosen n lower z = picked n lower (normal_form A z) (cases_lt (word_length A (normal_form A z)) n)

  chosen-row : (n : ℕ) (lower : Shorter n) (z : List ℕ) → word_length A z < n → IsRow A z (chosen n lower z)
  unfolding chosen
  chosen-row n lower z l =
      row-same A g (normal_form A z) z (picked n lower (normal_form A z) (cases_lt (word_length A (normal_form A z)) n))
      (normal_form-same A g z)
      (picked-row n lower (normal_form A z) (cases_lt (word_length A (normal_form A z)) n)
      (omega (arith, l, word_length-equal A g (normal_form-same A g z))))

  chosen-same : (n : ℕ) (lower : Shorter n) (y z : List ℕ) → SameElement A y z → chosen n lower y ≡ chosen n lower z
  unfolding chosen
  chosen-same n lower y z e =
      ap (λ (u : List ℕ). picked n lower u (cases_lt (word_length A u) n)) (normal_form-equal A g e)

  row_by : (n : ℕ) → Shorter n → (w : List ℕ) → word_length A w < suc n → (p : Family) × IsRow A w p
  row_by n lower w l = ⊎_elim (λ (z : word_length A w ≡ 0). (unit A, row_of_identity w z))
      (λ (some : word_length A w ≡ 0 → ⊥). step (some_left_descent A g w (omega (arith, some)))) (cases_eq (word_length A w) 0)
    where
      step : (s : ℕ) × IsLeftDescent A w s → (p : Family) × IsRow A w p
      step (s, d) =
          let letter : IsLetter A.rank s = left_descent-letter A g w s d
          in let rising : shortens_left A s (s ∷ w) ≡ false = shortens_left-back A g s w letter ∙ ap not (nat_lt-yes d)
          in let list = below_list A g (s ∷ w)
          in let next = lower (s ∷ w) (omega (arith, l, d))
          in (
            step_row A (s ∷ w) s next.0 (chosen n lower) list.0,
            row-same A g (s ∷ s ∷ w) w (step_row A (s ∷ w) s next.0 (chosen n lower) list.0) (same-square A g s w)
                (step_row-is A (s ∷ w) s next.0 (chosen n lower) g letter rising next.1
                (λ z b. chosen-row n lower z (omega (arith, l, d, below-length A g b))) (chosen-same n lower) list.0 list.1),
          )

  rows_below : (n : ℕ) (w : List ℕ) → word_length A w < n → (p : Family) × IsRow A w p
  rows_below zero w l = absurd (omega (arith, l))
  rows_below (suc n) w l = row_by n (λ z m. rows_below n z m) w l

  pub row-exists : (w : List ℕ) → (p : Family) × IsRow A w p
  row-exists w = rows_below (suc (word_length A w)) w (omega arith)

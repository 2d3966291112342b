-- P(x,w) as a value: it is what every row of w has at x.
use Rattle.std.proofs.Common.{◌≡◌, ℕ, ◌*◌, ◌≤◌, ◌<◌, List, ◌∷◌, ◌++◌, [], reverse, pos, refl, ap, sym, ◌∙◌, ⊎_elim, arith}
use Rattle.std.proofs.lemmas.Bool.{cases_lt}
use Rattle.std.proofs.lemmas.List.{reverse-reverse}
use Rattle.cox_base.specs.IntegerMatrix.{IntegerMatrix}
use Rattle.cox_base.specs.Admissible.{IsAdmissible}
use Rattle.cox_base.specs.Element.{SameElement}
use Rattle.cox_base.specs.Length.{word_length}
use Rattle.cox_base.specs.Descents.{IsLeftDescent, IsRightDescent}
use Rattle.cox_base.specs.Bruhat.{IsBelow}
use Rattle.cox_poly.specs.Coefficients.{Coefficients}
use Rattle.cox_hecke.specs.Family.{Family}
use Rattle.cox_hecke.specs.Row.{IsRow, IsKazhdanLusztig}
use Rattle.cox_hecke.proofs.Signed.{at_inverses}
use Rattle.cox_hecke.proofs.Inverses.{row-reverse}
use Rattle.cox_hecke.proofs.OneRow.{row-long}
use Rattle.cox_hecke.proofs.AllRows.{row_of, row_of-is, row_of-same, row_of-value, kazhdan_lusztig-value}
use Rattle.cox_hecke.proofs.Descended.{row-left, row-right}

module _ (A : IntegerMatrix) (g : IsAdmissible A) where
  pub kl_polynomial : List ℕ → List ℕ → Coefficients
  kl_polynomial x w = row_of A g w x

  pub kl_polynomial-is : (x w : List ℕ) → IsKazhdanLusztig A x w (kl_polynomial x w)
  unfolding kl_polynomial
  kl_polynomial-is x w = record { row = row_of A g w; is = row_of-is A g w; at = λ k. refl }

  pub kl_polynomial-is_row : (w : List ℕ) → IsRow A w (λ x. kl_polynomial x w)
  unfolding kl_polynomial
  kl_polynomial-is_row w = row_of-is A g w

  pub kl_polynomial-row : (x w : List ℕ) (p : Family) → IsRow A w p → kl_polynomial x w ≡ p x
  unfolding kl_polynomial
  kl_polynomial-row x w p row = row_of-value A g w p row x

  pub kl_polynomial-value : (x w : List ℕ) (f : Coefficients) → IsKazhdanLusztig A x w f → f ≡ kl_polynomial x w
  unfolding kl_polynomial
  kl_polynomial-value x w f c = kazhdan_lusztig-value A g x w f c

  pub kl_polynomial-by : (x w : List ℕ) (f : Coefficients) → ((k : ℕ) → f k ≡ kl_polynomial x w k) → IsKazhdanLusztig A x w f
  unfolding kl_polynomial
  kl_polynomial-by x w f e = record { row = row_of A g w; is = row_of-is A g w; at = e }

  pub kazhdan_lusztig-unique : (x w : List ℕ) (f h : Coefficients) → IsKazhdanLusztig A x w f → IsKazhdanLusztig A x w h
      → (k : ℕ) → f k ≡ h k
  kazhdan_lusztig-unique x w f h c d k = ap (λ (j : Coefficients). j k) (kl_polynomial-value x w f c ∙ sym (kl_polynomial-value x w h d))

  pub kl_polynomial-same : {x y v w : List ℕ} → SameElement A x y → SameElement A v w → kl_polynomial x v ≡ kl_polynomial y w
  unfolding kl_polynomial
  kl_polynomial-same {x} {y} {v} {w} e f =
      (λ i k. (row_of-is A g v).element x y e k i) ∙ ap (λ (p : Family). p y) (row_of-same A g v w f)

  pub kl_polynomial-outside : (x w : List ℕ) → (IsBelow A x w → ⊥) → (k : ℕ) → kl_polynomial x w k ≡ pos 0
  unfolding kl_polynomial
  kl_polynomial-outside x w n k = (row_of-is A g w).outside x n k

  -- no coefficient from half the length of w on
  pub kl_polynomial-low : (x w : List ℕ) (k : ℕ) → 0 < k → word_length A w ≤ 2 * k → kl_polynomial x w k ≡ pos 0
  unfolding kl_polynomial
  kl_polynomial-low x w k some l = ⊎_elim
      (λ (less : word_length A x < word_length A w). (row_of-is A g w).degree x k less (omega (arith, l)))
      (λ (more : word_length A w ≤ word_length A x). row-long A g w (row_of A g w) (row_of-is A g w) x more k some)
      (cases_lt (word_length A x) (word_length A w))

  pub kl_polynomial-left : (x w : List ℕ) (s : ℕ) → IsLeftDescent A w s → kl_polynomial (s ∷ x) w ≡ kl_polynomial x w
  unfolding kl_polynomial
  kl_polynomial-left x w s d = λ i k. row-left A g w x s (row_of A g w) (row_of-is A g w) d k i

  pub kl_polynomial-right : (x w : List ℕ) (s : ℕ) → IsRightDescent A w s → kl_polynomial (x ++ s ∷ []) w ≡ kl_polynomial x w
  unfolding kl_polynomial
  kl_polynomial-right x w s d = λ i k. row-right A g w x s (row_of A g w) (row_of-is A g w) d k i

  -- ---- the same of the relation

  pub kazhdan_lusztig-exists : (x w : List ℕ) → (f : Coefficients) × IsKazhdanLusztig A x w f
  kazhdan_lusztig-exists x w = (kl_polynomial x w, kl_polynomial-is x w)

  pub kazhdan_lusztig-same : (x y v w : List ℕ) (f : Coefficients) → SameElement A x y → SameElement A v w → IsKazhdanLusztig A x v f
      → IsKazhdanLusztig A y w f
  kazhdan_lusztig-same x y v w f e e' c =
      kl_polynomial-by y w f (λ k. ap (λ (h : Coefficients). h k) (kl_polynomial-value x v f c ∙ kl_polynomial-same e e'))

  pub kazhdan_lusztig-outside : (x w : List ℕ) (f : Coefficients) → (IsBelow A x w → ⊥) → IsKazhdanLusztig A x w f → (k : ℕ) → f k ≡ pos 0
  kazhdan_lusztig-outside x w f n c k =
      ap (λ (h : Coefficients). h k) (kl_polynomial-value x w f c) ∙ kl_polynomial-outside x w n k

  pub kazhdan_lusztig-left : (x w : List ℕ) (s : ℕ) (f : Coefficients) → IsLeftDescent A w s → IsKazhdanLusztig A x w f
      → IsKazhdanLusztig A (s ∷ x) w f
  kazhdan_lusztig-left x w s f d c =
      kl_polynomial-by (s ∷ x) w f (λ k. ap (λ (h : Coefficients). h k) (kl_polynomial-value x w f c ∙ sym (kl_polynomial-left x w s d)))

  pub kazhdan_lusztig-right : (x w : List ℕ) (s : ℕ) (f : Coefficients) → IsRightDescent A w s → IsKazhdanLusztig A x w f
      → IsKazhdanLusztig A (x ++ s ∷ []) w f
  kazhdan_lusztig-right x w s f d c =
      kl_polynomial-by (x ++ s ∷ []) w f
      (λ k. ap (λ (h : Coefficients). h k) (kl_polynomial-value x w f c ∙ sym (kl_polynomial-right x w s d)))

  pub kazhdan_lusztig-reverse : (x w : List ℕ) (f : Coefficients) → IsKazhdanLusztig A x w f → IsKazhdanLusztig A (reverse x) (reverse w) f
  kazhdan_lusztig-reverse x w f c = record {
    row = at_inverses c.row;
    is = row-reverse A g w c.row c.is;
    at = λ k. c.at k ∙ sym (ap (λ (u : List ℕ). c.row u k) (reverse-reverse x));
  }

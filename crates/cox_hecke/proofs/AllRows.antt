-- A row for each element, one for all its words; P(x,w) and mu(x,w) as values.
use Rattle.std.proofs.Common.{◌≡◌, ℕ, ◌-◌, List, ℤ, refl, ap, sym, ◌∙◌}
use Rattle.cox_base.specs.IntegerMatrix.{IntegerMatrix}
use Rattle.cox_base.specs.Admissible.{IsAdmissible}
use Rattle.cox_base.specs.Element.{SameElement}
use Rattle.cox_base.specs.ShortLex.{normal_form}
use Rattle.cox_base.specs.Length.{word_length}
use Rattle.cox_reflect.proofs.Search.{normal_form-same, normal_form-equal, word_length-equal}
use Rattle.cox_poly.specs.Coefficients.{Coefficients}
use Rattle.cox_hecke.specs.Family.{Family}
use Rattle.cox_hecke.specs.Row.{IsRow, IsKazhdanLusztig, IsMu, middle_coefficient}
use Rattle.cox_hecke.proofs.Signed.{respected}
use Rattle.cox_hecke.proofs.OneRow.{row-same, row-unique}
use Rattle.cox_hecke.proofs.RowsExist.{row-exists}

module _ (A : IntegerMatrix) (g : IsAdmissible A) where
  pub row_of : List ℕ → Family
  row_of w = (row-exists A g (normal_form A w)).0

  pub row_of-is : (w : List ℕ) → IsRow A w (row_of w)
  unfolding row_of
  row_of-is w = row-same A g (normal_form A w) w (row-exists A g (normal_form A w)).0 (normal_form-same A g w)
      (row-exists A g (normal_form A w)).1

  pub row_of-same : (v w : List ℕ) → SameElement A v w → row_of v ≡ row_of w
  unfolding row_of
  row_of-same v w e = ap (λ (u : List ℕ). (row-exists A g u).0) (normal_form-equal A g e)

  -- what any row has, this one has
  pub row_of-value : (w : List ℕ) (p : Family) → IsRow A w p → (x : List ℕ) → row_of w x ≡ p x
  row_of-value w p row x = λ i k. row-unique A g w (row_of w) p (row_of-is w) row x k i

  pub kazhdan_lusztig-value : (x w : List ℕ) (f : Coefficients) → IsKazhdanLusztig A x w f → f ≡ row_of w x
  kazhdan_lusztig-value x w f c = (λ i k. c.at k i) ∙ sym (row_of-value w c.row c.is x)

  -- ---- mu

  -- by any row
  pub mu-value : (x w : List ℕ) (m : ℤ) (p : Family) → IsMu A x w m → IsRow A w p
      → m ≡ middle_coefficient (word_length A w - word_length A x) (p x)
  mu-value x w m p c row =
      c.value
      ∙ ap (λ (f : Coefficients). middle_coefficient (word_length A w - word_length A x) f)
      (λ i k. row-unique A g w c.row p c.is row x k i)

  pub mu-by_row : (x w : List ℕ) (m : ℤ) (p : Family) → IsRow A w p → m ≡ middle_coefficient (word_length A w - word_length A x) (p x)
      → IsMu A x w m
  mu-by_row x w m p row e = record { row = p; is = row; value = e }

  -- by P(x,w)
  pub mu-by_polynomial : (x w : List ℕ) (m : ℤ) (f : Coefficients) → IsKazhdanLusztig A x w f
      → m ≡ middle_coefficient (word_length A w - word_length A x) f → IsMu A x w m
  mu-by_polynomial x w m f c e =
      mu-by_row x w m c.row c.is
      (e ∙ ap (λ (h : Coefficients). middle_coefficient (word_length A w - word_length A x) h) (λ i k. c.at k i))

  pub mu-unique : (x w : List ℕ) (m n : ℤ) → IsMu A x w m → IsMu A x w n → m ≡ n
  mu-unique x w m n c d = mu-value x w m (row_of w) c (row_of-is w) ∙ sym (mu-value x w n (row_of w) d (row_of-is w))

  pub mu-exists : (x w : List ℕ) → (m : ℤ) × IsMu A x w m
  mu-exists x w = (
    middle_coefficient (word_length A w - word_length A x) (row_of w x),
    mu-by_row x w (middle_coefficient (word_length A w - word_length A x) (row_of w x)) (row_of w) (row_of-is w) refl,
  )

  -- by any word of x
  pub mu-same : (x y w : List ℕ) (m : ℤ) → SameElement A x y → IsMu A x w m → IsMu A y w m
  mu-same x y w m e c =
      mu-by_row y w m (row_of w) (row_of-is w)
      (mu-value x w m (row_of w) c (row_of-is w) ∙ rw (word_length-equal A g e, respected A g (row_of-is w).element e) refl)

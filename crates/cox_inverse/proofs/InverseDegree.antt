-- Where x is shorter than w, 2 deg Q(x,w) + 1 ≤ l(w) - l(x): from the longest x down, as P(x,z) meets such a bound.
use Rattle.std.proofs.Common.{◌≡◌, ℕ, zero, suc, ◌+◌, ◌-◌, ◌*◌, ◌/◌, ◌<◌, ◌≤◌, List, pos, neg_ℤ, ⊎_elim}
use Rattle.std.proofs.Common.{ap, ◌∙◌, arith}
use Rattle.std.proofs.lemmas.Int.{ints}
use Rattle.std.proofs.lemmas.Bool.{cases_lt}
use Rattle.cox_base.specs.IntegerMatrix.{IntegerMatrix}
use Rattle.cox_base.specs.Admissible.{IsAdmissible}
use Rattle.cox_base.specs.Element.{SameElement}
use Rattle.cox_base.specs.Length.{word_length}
use Rattle.cox_base.specs.Bruhat.{IsBelow}
use Rattle.cox_reflect.proofs.Search.{word_length-equal}
use Rattle.cox_reflect.proofs.Bruhat.{below-length, below-equal_length}
use Rattle.cox_poly.specs.Coefficients.{Coefficients, one_polynomial}
use Rattle.cox_poly.specs.Products.{product}
use Rattle.cox_poly.proofs.Products.{product-one, HasDegreeAtMost-product}
use Rattle.cox_rpoly.specs.Sign.{times_sign}
use Rattle.cox_hecke.specs.Family.{Family}
use Rattle.cox_hecke.specs.Sums.{sum_over}
use Rattle.cox_hecke.specs.ListedElements.{ListsEach}
use Rattle.cox_hecke.proofs.ElementLists.{Tells-ListsEach, below_list, below_or_not}
use Rattle.cox_hecke.proofs.AllRows.{row_of, row_of-is}
use Rattle.cox_inverse.specs.InverseRow.{IsInverseRow, IsInverse}
use Rattle.cox_inverse.proofs.InverseSums.{term, other_term, other_terms-none, term_sum-split}
use Rattle.cox_inverse.proofs.OneInverseRow.{inverse_row-any_list}
use Rattle.cox_hecke.proofs.BasisElements.{basis-other}
use Rattle.cox_inverse.proofs.InverseRowExists.{inverse_row-top}

-- a product of polynomials of degrees below d/2 and e/2 has, unless d or e is 0, a degree below (d+e-1)/2
product-low : (f h : Coefficients) (d e : ℕ) → 0 < d → 0 < e → ((k : ℕ) → d ≤ 2 * k → f k ≡ pos 0) → ((k : ℕ) → e ≤ 2 * k → h k ≡ pos 0)
    → (k : ℕ) → d + e ≤ 2 * k → product f h k ≡ pos 0
product-low f h d e some_d some_e low_f low_h k l =
    HasDegreeAtMost-product f h ((d - 1) / 2) ((e - 1) / 2) (λ j m. low_f j (omega (arith, some_d, m)))
    (λ j m. low_h j (omega (arith, some_e, m))) k (omega (arith, some_d, some_e, l))

times_sign-none_at : (d : ℕ) (f : Coefficients) (k : ℕ) → f k ≡ pos 0 → times_sign d f k ≡ pos 0
times_sign-none_at zero f k none = none
times_sign-none_at (suc d) f k none = ap neg_ℤ (times_sign-none_at d f k none)

module _ (A : IntegerMatrix) (g : IsAdmissible A) where
  module _ (w : List ℕ) (q : Family) (is : IsInverseRow A w q) where
    -- the term of a z above x, where q meets the bound at z
    term-low : (x z : List ℕ) → word_length A x < word_length A z → IsBelow A z w
        → ((k : ℕ) → word_length A z < word_length A w → word_length A w ≤ word_length A z + 2 * k → q z k ≡ pos 0)
        → (k : ℕ) → word_length A w ≤ word_length A x + 2 * k → term A g q x z k ≡ pos 0
    term-low x z longer below low k l =
        times_sign-none_at (word_length A z - word_length A x) (product (row_of A g z x) (q z)) k
        (⊎_elim (λ (shorter : word_length A z < word_length A w).
        product-low (row_of A g z x) (q z) (word_length A z - word_length A x) (word_length A w - word_length A z)
        (omega (arith, longer)) (omega (arith, shorter)) (λ j m. row-low j (omega (arith, m))) (λ j m. low j shorter (omega (arith, m))) k
        (omega (arith, longer, shorter, l)))
        (λ (long : word_length A w ≤ word_length A z). at_top (below-equal_length A g below (omega (arith, long, below-length A g below))))
        (cases_lt (word_length A z) (word_length A w)))
      where
        row-low : (j : ℕ) → word_length A z ≤ word_length A x + 2 * j → row_of A g z x j ≡ pos 0
        row-low j m = (row_of-is A g z).degree x j longer m

        at_top : SameElement A z w → product (row_of A g z x) (q z) k ≡ pos 0
        at_top e =
            let one : q z ≡ one_polynomial = λ i j. (is.element z w e j ∙ inverse_row-top A g w q is j) i
            in rw one (product-one (row_of A g z x) k ∙ row-low k (omega (arith, l, word_length-equal A g e)))

    -- the bound, for all of the row
    pub inverse_row-degree : (x : List ℕ) (k : ℕ) → word_length A x < word_length A w → word_length A w ≤ word_length A x + 2 * k
        → q x k ≡ pos 0
    inverse_row-degree x k = by (suc (word_length A w)) x (omega arith) k
      where
        words : List (List ℕ)
        words = (below_list A g w).0

        each : ListsEach A (λ z. IsBelow A z w) words
        each = Tells-ListsEach A (λ z. IsBelow A z w) (below_list A g w).0 (below_list A g w).1

        inside : (x : List ℕ) → IsBelow A x w → word_length A x < word_length A w
            → (k : ℕ) → sum_over words (other_term A g q x) k ≡ pos 0 → q x k ≡ pos 0
        inside x b shorter k rest =
            omega (
              arith,
              ints,
              rest,
              term_sum-split A g words q is.element x (each.once x b) k,
              inverse_row-any_list A g w q is (row_of A g) (row_of-is A g) x words b (λ z c. each.once z c.below) k,
              ap (λ (f : Coefficients). f k) (basis-other A g w x (λ e. omega (arith, shorter, word_length-equal A g e))),
            )

        by : (m : ℕ) (x : List ℕ) → word_length A w < word_length A x + m
            → (k : ℕ) → word_length A x < word_length A w → word_length A w ≤ word_length A x + 2 * k → q x k ≡ pos 0
        by zero x l k shorter low = absurd (omega (arith, l, shorter))
        by (suc m) x l k shorter low = ⊎_elim
            (λ (b : IsBelow A x w). inside x b shorter k
            (other_terms-none A g w words each q x k
            (λ z c above longer. term-low x z longer c (by m z (omega (arith, l, longer))) k low)))
            (λ (n : IsBelow A x w → ⊥). is.outside x n k)
            (below_or_not A g x w)

  -- the bound of Q(x,w)
  pub inverse-degree : (x w : List ℕ) (f : Coefficients) → IsInverse A x w f
      → (k : ℕ) → word_length A x < word_length A w → word_length A w ≤ word_length A x + 2 * k → f k ≡ pos 0
  inverse-degree x w f c k shorter low = c.at k ∙ inverse_row-degree w c.row c.is x k shorter low

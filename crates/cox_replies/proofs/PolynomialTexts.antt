-- The text of an R-polynomial, by the list of its coefficients up to a degree.
use Rattle.std.proofs.Common.{◌≡◌, ℕ, zero, suc, ◌+◌, ◌<◌, ◌≤◌, List, [], ◌∷◌, map, ℤ, pos, refl, ap, sym, ◌∙◌}
use Rattle.std.proofs.Common.{arith}
use Rattle.std.specs.List.{range_with_len}
use Rattle.cox_base.specs.IntegerMatrix.{IntegerMatrix}
use Rattle.cox_base.specs.Admissible.{IsAdmissible}
use Rattle.cox_base.specs.Length.{word_length}
use Rattle.cox_poly.specs.Coefficients.{Coefficients}
use Rattle.cox_poly.specs.Polynomial.{coefficient, SameCoefficients}
use Rattle.cox_poly.specs.PolynomialText.{terms_text, polynomial_text}
use Rattle.cox_poly.proofs.Terms.{terms_from}
use Rattle.cox_rpoly.specs.RPolynomial.{r_polynomial}
use Rattle.cox_rpoly.proofs.PolynomialsOfElements.{r_polynomial-degree}
use Rattle.cox_replies.specs.RowReply.{coefficients_to}
use Rattle.cox_replies.specs.InquiryQuestion.{r_text}

-- zeros have no terms
no_terms : (k : ℕ) (p : List ℤ) → ((i : ℕ) → coefficient p i ≡ pos 0) → terms_from k p ≡ []
no_terms k [] zeros = refl
no_terms k (c ∷ p) zeros = let first : c ≡ pos 0 = zeros 0 in rw first (no_terms (k + 1) p (λ i. zeros (suc i)))

-- lists with the same coefficients have the same terms
same_terms : (k : ℕ) (p r : List ℤ) → SameCoefficients p r → terms_from k p ≡ terms_from k r
same_terms k [] r same = sym (no_terms k r (λ i. sym (same i)))
same_terms k (c ∷ p) [] same = no_terms k (c ∷ p) same
same_terms k (c ∷ p) (d ∷ r) same =
    let first : c ≡ d = same 0 in rw (first, same_terms (k + 1) p r (λ i. same (suc i))) refl

-- and so the same text
pub same_text : (p r : List ℤ) → SameCoefficients p r → polynomial_text p ≡ polynomial_text r
same_text p r same = ap terms_text (same_terms 0 p r same)

-- the list of the first values of a function that is 0 beyond
pub listed : (f : Coefficients) (a n k : ℕ) → ((i : ℕ) → n ≤ i → f (a + i) ≡ pos 0) → coefficient (map f (range_with_len a n)) k ≡ f (a + k)
listed f a zero k beyond = sym (beyond k (omega arith))
listed f a (suc n) zero beyond = let e : a + 0 ≡ a = omega arith in rw e refl
listed f a (suc n) (suc k) beyond =
    let next : (i : ℕ) → n ≤ i → f (a + 1 + i) ≡ pos 0 = λ i h. let e : a + 1 + i
    ≡ a + suc i = omega arith in rw e (beyond (suc i) (omega arith)) in
    let e : a + suc k ≡ a + 1 + k = omega arith in rw e (listed f (a + 1) n k next)

-- R of two words has no higher degree than the length of the second
degree : (A : IntegerMatrix) → IsAdmissible A → (x w : List ℕ) (k : ℕ) → word_length A w < k → r_polynomial A x w k ≡ pos 0
degree A g x w k above = r_polynomial-degree A g x w (word_length A w) (omega arith) k above

-- the text of a polynomial with these coefficients
pub is-r_text : (A : IntegerMatrix) → IsAdmissible A → (y w : List ℕ) (p : List ℤ) → ((k : ℕ) → coefficient p k ≡ r_polynomial A y w k)
    → polynomial_text p ≡ r_text A y w
is-r_text A g y w p is = same_text p (coefficients_to (word_length A w) (r_polynomial A y w))
    (λ k. is k ∙ sym (let e : 0 + k ≡ k = omega arith in rw e at (listed (r_polynomial A y w) 0 (word_length A w + 1) k
    (λ i above. let f : 0 + i ≡ i = omega arith in rw f (degree A g y w i (omega arith))))))

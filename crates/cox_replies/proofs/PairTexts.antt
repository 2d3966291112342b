-- The text of a list of members with their polynomials in a row.
use Rattle.std.proofs.Common.{◌≡◌, ℕ, ◌+◌, ◌<◌, ◌≤◌, List, ◌∷◌, ◌++◌, length, map, codes, decimal, ℤ, pos, ap, sym, ◌∙◌, ⊎_elim, arith}
use Rattle.std.specs.List.{flat_map}
use Rattle.std.proofs.lemmas.Bool.{cases_lt}
use Rattle.std.proofs.lemmas.List.{length-map}
use Rattle.std.proofs.lemmas.List.Folds.{flat_map-map}
use Rattle.cox_base.specs.IntegerMatrix.{IntegerMatrix}
use Rattle.cox_base.specs.Admissible.{IsAdmissible}
use Rattle.cox_base.specs.Element.{SameElement}
use Rattle.cox_base.specs.Length.{word_length}
use Rattle.cox_reflect.proofs.Elements.{same-refl}
use Rattle.cox_poly.specs.Coefficients.{Coefficients}
use Rattle.cox_poly.specs.Polynomial.{coefficient}
use Rattle.cox_poly.specs.PolynomialText.{polynomial_text}
use Rattle.cox_hecke.specs.Family.{Family}
use Rattle.cox_hecke.specs.Row.{IsRow, IsKazhdanLusztig}
use Rattle.cox_hecke.proofs.OneRow.{row-long}
use Rattle.cox_hecke.proofs.PolynomialValues.{kl_polynomial-value, kl_polynomial-row, kazhdan_lusztig-same}
use Rattle.cox_context.specs.Numbers.{word_at}
use Rattle.cox_print.specs.AnswerText.{element_text, pair_text}
use Rattle.cox_replies.specs.RowReply.{coefficients_to, pairs_text}
use Rattle.cox_replies.specs.Putting.{words_at}
use Rattle.cox_replies.proofs.PolynomialTexts.{same_text, listed}

-- the line of a member, behind the end of the line before
abbrev pub pair_line : ℕ → ℕ → List (List ℕ) → Family → ℕ → List ℕ
pair_line rank n members p k = 10 ∷ pair_text rank (word_at members k) (coefficients_to n (p (word_at members k)))

-- the number of items, and the items
pub pairs_text-lines : (A : IntegerMatrix) (w : List ℕ) (p : Family) (members : List (List ℕ)) (numbers : List ℕ)
    → pairs_text A w p (words_at members numbers)
    ≡ decimal (length numbers) ++ flat_map (pair_line A.rank (word_length A w) members p) numbers
pairs_text-lines A w p members numbers =
    let words = words_at members numbers in
    let pair : List ℕ → List ℕ = λ x. pair_text A.rank x (coefficients_to (word_length A w) (p x)) in
    let count : length (map pair words) ≡ length numbers = length-map words pair ∙ length-map numbers (λ k. word_at members k) in
    let items = flat_map-map (λ item. 10 ∷ item) pair words ∙ flat_map-map (λ word. 10 ∷ pair word) (λ k. word_at members k) numbers in
    ap (λ n. decimal n ++ flat_map (λ item. 10 ∷ item) (map pair words)) count ∙ ap (λ t. decimal (length numbers) ++ t) items

module _ (A : IntegerMatrix) (g : IsAdmissible A) (w : List ℕ) (p : Family) (row : IsRow A w p) where
  -- q^l(x) P(x,w) has no degree above that of w, and is 1 at most where x is no shorter
  pub row-high : (x : List ℕ) (k : ℕ) → 0 < k → word_length A w ≤ word_length A x + k → p x k ≡ pos 0
  row-high x k some above = ⊎_elim
      (λ (less : word_length A x < word_length A w). row.degree x k less (omega (arith, above)))
      (λ (more : word_length A w ≤ word_length A x). row-long A g w p row x more k some)
      (cases_lt (word_length A x) (word_length A w))

  -- what is P(x,v) for an element v is in the row of w, where both are one element
  pub row-value : (x v : List ℕ) (f : Coefficients) → SameElement A v w → IsKazhdanLusztig A x v f → f ≡ p x
  row-value x v f same is =
      kl_polynomial-value A g x w f (kazhdan_lusztig-same A g x x v w f (same-refl A g x) same is) ∙ kl_polynomial-row A g x w p row

  -- and so is its text
  pub row-text : (x v : List ℕ) (q : List ℤ) → SameElement A v w → IsKazhdanLusztig A x v (coefficient q)
      → polynomial_text q ≡ polynomial_text (coefficients_to (word_length A w) (p x))
  row-text x v q same is = same_text q (coefficients_to (word_length A w) (p x))
      (λ k. ap (λ (f : Coefficients). f k) (row-value x v (coefficient q) same is)
      ∙ sym (let e : 0 + k ≡ k = omega arith in rw e at (listed (p x) 0 (word_length A w + 1) k
      (λ i above. let f : 0 + i ≡ i = omega arith in rw f (row-high x i (omega (arith, above)) (omega (arith, above)))))))

  -- the line of a member
  pub pair_text-line : (rank : ℕ) (members : List (List ℕ)) (k : ℕ) (v : List ℕ) (q : List ℤ) → SameElement A v w
      → IsKazhdanLusztig A (word_at members k) v (coefficient q)
      → 10 ∷ pair_text rank (word_at members k) q ≡ pair_line rank (word_length A w) members p k
  pair_text-line rank members k v q same is = ap (λ t. 10 ∷ ((element_text rank (word_at members k) ++ codes ":") ++ t))
      (row-text (word_at members k) v q same is)

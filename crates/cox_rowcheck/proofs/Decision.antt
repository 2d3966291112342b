-- What the conditions on members decide: they are those on all elements.
use Rattle.std.proofs.Common.{◌≡◌, ℕ, ◌-◌, ◌<◌, ◌≤◌, List, length, ℤ, refl, ap, sym, ◌∙◌, arith, ⊎_elim}
use Rattle.std.proofs.lemmas.Bool.{cases_lt}
use Rattle.cox_base.specs.IntegerMatrix.{IntegerMatrix}
use Rattle.cox_base.specs.Admissible.{IsAdmissible}
use Rattle.cox_base.specs.Element.{SameElement}
use Rattle.cox_base.specs.Length.{word_length}
use Rattle.cox_base.specs.Bruhat.{IsBelow}
use Rattle.cox_base.specs.Members.{IsInInterval}
use Rattle.cox_base.specs.SortedList.{IsListOf}
use Rattle.cox_reflect.proofs.Elements.{same-refl, same-sym}
use Rattle.cox_reflect.proofs.Search.{normal_form-same, word_length-equal}
use Rattle.cox_reflect.proofs.Bruhat.{below-length, below-equal_length}
use Rattle.cox_reflect.proofs.NormalElements.{element-unique}
use Rattle.cox_poly.specs.Coefficients.{Coefficients}
use Rattle.cox_poly.specs.Polynomial.{coefficient}
use Rattle.cox_poly.specs.Products.{product, flip}
use Rattle.cox_rpoly.specs.RPolynomial.{r_polynomial}
use Rattle.cox_rpoly.specs.Terms.{numbered}
use Rattle.cox_rpoly.proofs.PolynomialsOfElements.{r_polynomial-same}
use Rattle.cox_hecke.specs.Family.{Family}
use Rattle.cox_hecke.specs.Sums.{bar_sum}
use Rattle.cox_hecke.proofs.ListSums.{sum_over-equal}
use Rattle.cox_hecke.proofs.ElementLists.{below_or_not}
use Rattle.cox_context.specs.Numbers.{word_at}
use Rattle.cox_rowcheck.specs.MemberFamily.{family_of}
use Rattle.cox_rowcheck.specs.OneList.{IsBalanced}
use Rattle.cox_rowcheck.specs.Conditions.{AreBounded, AreTurned}
use Rattle.cox_rowcheck.specs.MemberSums.{AreSums}
use Rattle.cox_rowcheck.proofs.PlacedPolynomials.{family-respects}
use Rattle.cox_rowcheck.proofs.IntervalRows.{interval-at, interval-length, interval-apart, interval-place, family-member, family-outside}

module _ (A : IntegerMatrix) (g : IsAdmissible A) (members : List (List ℕ)) (w : ℕ) (w_in : w < length members)
    (list : IsListOf (IsInInterval A (word_at members w)) members) (polynomials : List (List ℤ))
    (count : length polynomials ≡ length members) where
  abbrev p : Family
  p = family_of A members polynomials

  at : (i : ℕ) → i < length members → p (word_at members i) ≡ coefficient (numbered polynomials i)
  at i l = family-member A g (word_at members w) members list polynomials count i l

  size : (i : ℕ) → i < length members → word_length A (word_at members i) ≡ length (word_at members i)
  size i l = interval-length A g (word_at members w) members list i l

  -- what an element below w has, by the number of its member
  record IsMember (x : List ℕ) : Type 0 where
    i : ℕ
    inside : i < length members
    same : SameElement A x (word_at members i)
    polynomial : p x ≡ coefficient (numbered polynomials i)
    letters : word_length A x ≡ length (word_at members i)
    sum : (k : ℕ) → bar_sum A members p x k ≡ bar_sum A members p (word_at members i) k

  member : (x : List ℕ) → IsBelow A x (word_at members w) → IsMember x
  member x b =
      let place = interval-place A g (word_at members w) members list x b
      in let same : SameElement A x (word_at members place.i) = rw place.is (same-sym A g (normal_form-same A g x))
      in record {
        i = place.i;
        inside = place.within;
        same = same;
        polynomial = (λ j k. family-respects A g members polynomials x (word_at members place.i) same k j) ∙ at place.i place.within;
        letters = word_length-equal A g same ∙ size place.i place.within;
        sum = λ k. sum_over-equal members (λ y. product (r_polynomial A x y) (p y))
            (λ y. product (r_polynomial A (word_at members place.i) y) (p y)) k
            (λ y. ap (λ (f : Coefficients). product f (p y) k) (r_polynomial-same A g same (same-refl A g y)));
      }

  -- the other elements below w are shorter
  shorter : (i : ℕ) → i < length members → (i ≡ w → ⊥) → word_length A (word_at members i) < word_length A (word_at members w)
  shorter i l n = ⊎_elim (λ (less : word_length A (word_at members i) < word_length A (word_at members w)). less)
      (λ (more : word_length A (word_at members w) ≤ word_length A (word_at members i)).
      let below = (interval-at A g (word_at members w) members list i l).below
      in let same : SameElement A (word_at members i) (word_at members w)
      = below-equal_length A g below (omega (arith, more, below-length A g below))
      in absurd (n (interval-apart A g (word_at members w) members list i w l w_in
      (element-unique A g (word_at members i) (word_at members w) (interval-at A g (word_at members w) members list i l).element
      (interval-at A g (word_at members w) members list w w_in).element same))))
      (cases_lt (word_length A (word_at members i)) (word_length A (word_at members w)))

  -- the conditions, from the members to all elements
  pub members-balanced : (sums : List (List ℤ)) → AreSums A members polynomials members sums → AreBounded members w polynomials
      → AreTurned members w polynomials sums → IsBalanced A (word_at members w) (family_of A members polynomials) members
  members-balanced sums are bounded turned = record {
    top = λ k. ap (λ (f : Coefficients). f k) (at w w_in) ∙ (bounded w w_in).top refl k;
    degree = λ x k less low. ⊎_elim
        (λ (b : IsBelow A x (word_at members w)). let m = member x b
        in ap (λ (f : Coefficients). f k) m.polynomial
        ∙ (bounded m.i m.inside).degree (λ e. omega (arith, less, size w w_in, m.letters, ap (λ (i : ℕ). length (word_at members i)) e)) k
        (omega (arith, low, size w w_in, m.letters)))
        (λ (n : IsBelow A x (word_at members w) → ⊥). family-outside A g (word_at members w) members list polynomials count x n k)
        (below_or_not A g x (word_at members w));
    turned = λ x b k. let m = member x b
        in rw (m.polynomial, m.letters, size w w_in) (turned m.i m.inside k) ∙ are.value m.i k m.inside ∙ sym (m.sum k);
  }

  -- and back
  pub balanced-bounded : IsBalanced A (word_at members w) (family_of A members polynomials) members → AreBounded members w polynomials
  balanced-bounded b i l = record {
    top = λ e k. sym (ap (λ (f : Coefficients). f k) (at i l))
        ∙ ap (λ (j : ℕ). family_of A members polynomials (word_at members j) k) e ∙ b.top k;
    degree = λ n k low. sym (ap (λ (f : Coefficients). f k) (at i l))
        ∙ b.degree (word_at members i) k (shorter i l n) (omega (arith, low, size w w_in, size i l));
  }

  pub balanced-turned : (sums : List (List ℤ)) → AreSums A members polynomials members sums
      → IsBalanced A (word_at members w) (family_of A members polynomials) members → AreTurned members w polynomials sums
  balanced-turned sums are b i l k =
      sym (ap (λ (f : Coefficients). flip (length (word_at members w) - length (word_at members i)) f k) (at i l))
      ∙ ap (λ (d : ℕ). flip d (family_of A members polynomials (word_at members i)) k) (sym difference)
      ∙ b.turned (word_at members i) (interval-at A g (word_at members w) members list i l).below k
      ∙ sym (are.value i k l)
    where
      difference : word_length A (word_at members w) - word_length A (word_at members i)
          ≡ length (word_at members w) - length (word_at members i)
      difference = rw (size w w_in, size i l) refl

-- A product that is added term by term: where the sum stands after k terms, and how large it becomes.
use Rattle.std.proofs.Common.{◌≡◌, ℕ, suc, ◌+◌, ◌*◌, ◌^◌, ◌≤◌, ◌<◌, min, List, length, take, ⊎_elim}
use Rattle.std.proofs.Common.{ℤ, pos, unsigned_abs, ◌+ℤ◌, ◌*ℤ◌, refl, ap, sym, ◌∙◌, arith}
use Rattle.std.proofs.lemmas.Int.{ints}
use Rattle.std.proofs.lemmas.Bool.{cases_lt}
use Rattle.cox_poly.specs.Coefficients.{Coefficients, plus}
use Rattle.cox_poly.specs.Polynomial.{coefficient, coefficient_after, HasDegreeBelow, HasSmallCoefficients}
use Rattle.cox_poly.specs.Products.{product, times_q_power}
use Rattle.cox_poly.proofs.Products.{terms_below, terms_below-product, terms_below-all, product_of_none, product-comm}
use Rattle.cox_poly.proofs.Polynomials.{coefficient_past, coefficient-take}
use Rattle.cox_poly.proofs.Norms.{absolute_after}
use Rattle.cox_rowcheck.specs.CheckablePolynomials.{IsCheckable}
use Rattle.cox_rowcheck.specs.MemberSums.{HasAdded}

-- the terms of p below q^k, times r, were added
pub record IsAdded (old new r p : List ℤ) (k : ℕ) : Type 0 where
  pub value : (j : ℕ) → coefficient new j ≡ plus (coefficient old) (product (terms_below k (coefficient p)) (coefficient r)) j
  pub size : (j : ℕ) → unsigned_abs (coefficient new j) ≤ unsigned_abs (coefficient old j) + k * 2 ^ 94

-- at first there are none
pub added-none : (old r p : List ℤ) → IsAdded old old r p 0
added-none old r p = record {
  value = λ j. omega (arith, ints, product_of_none (terms_below 0 (coefficient p)) (coefficient r) (λ i. refl) j);
  size = λ j. omega arith;
}

-- one term adds at most 2^94
pub added-size : (old r p : List ℤ) (k j a : ℕ) → unsigned_abs (coefficient old j) ≤ a → HasSmallCoefficients r → IsCheckable p
    → unsigned_abs (coefficient_after old r (coefficient p k) k j) ≤ a + 2 ^ 94
added-size old r p k j a low narrow small =
    let bound = absolute_after (coefficient old) (coefficient r) (coefficient p k) k j a (2 ^ 63) low narrow
    in let within = small.coefficients k
    in let factor : unsigned_abs (coefficient p k) ≤ 2 ^ 31 = omega (arith, ints, within)
    in omega (arith, bound, factor)

-- one term more
pub added-more : (first old new r p : List ℤ) (k n : ℕ) → n ≡ suc k → IsAdded first old r p k → HasSmallCoefficients r → IsCheckable p
    → ((j : ℕ) → coefficient new j ≡ coefficient_after old r (coefficient p k) k j) → IsAdded first new r p n
added-more first old new r p k n e h narrow small is = rw e record {
  value = λ j.
      let more : product (terms_below (suc k) (coefficient p)) (coefficient r) j
      ≡ product (terms_below k (coefficient p)) (coefficient r) j +ℤ coefficient p k *ℤ times_q_power k (coefficient r) j
      = terms_below-product (coefficient p) (coefficient r) k j
      in is j ∙ ap (λ (a : ℤ). a +ℤ coefficient p k *ℤ times_q_power k (coefficient r) j) (h.value j)
      ∙ grouped (coefficient first j) (product (terms_below k (coefficient p)) (coefficient r) j)
      (coefficient p k *ℤ times_q_power k (coefficient r) j)
      ∙ ap (λ (a : ℤ). coefficient first j +ℤ a) (sym more);
  size = λ j. rw (is j) (
      let bound = added-size old r p k j (unsigned_abs (coefficient first j) + k * 2 ^ 94) (h.size j) narrow small
      in omega (arith, bound));
}
  where
    grouped : (a b c : ℤ) → (a +ℤ b) +ℤ c ≡ a +ℤ (b +ℤ c)
    grouped a b c = omega (arith, ints)

-- all terms of p, which has none from q^n on; and r is the first terms of f, which leave none out
pub added-all : (first new f r p : List ℤ) (n : ℕ) → IsAdded first new r p n → HasDegreeBelow p n
    → ((k : ℕ) → coefficient r k ≡ coefficient f k)
    → (j : ℕ) → coefficient new j ≡ plus (coefficient first) (product (coefficient f) (coefficient p)) j
added-all first new f r p n h low same j =
    h.value j ∙ ap (λ (a : ℤ). coefficient first j +ℤ a)
    (ap (λ (g : Coefficients). product g (coefficient r) j) (λ i k. terms_below-all (coefficient p) n low k i)
    ∙ product-comm (coefficient p) (coefficient r) j
    ∙ ap (λ (g : Coefficients). product g (coefficient p) j) (λ i k. same k i))

-- the first terms of r, where it has no others
pub first-terms : (r : List ℤ) (terms n : ℕ) → n ≡ min terms (length r) → HasDegreeBelow r terms → (k : ℕ)
    → coefficient (take n r) k ≡ coefficient r k
first-terms r terms n e low k = coefficient-take r n (λ j from. ⊎_elim
    (λ (inside : j < terms). coefficient_past r j (omega (arith, inside, from, e)))
    (λ (behind : terms ≤ j). low j behind)
    (cases_lt j terms)) k

-- where r is 0 nothing is added
pub added-nothing : (old new r p : List ℤ) → new ≡ old → ((k : ℕ) → coefficient r k ≡ pos 0) → HasAdded old new r p
added-nothing old new r p same none = rw same record {
  value = λ k. omega (arith, ints, product_of_none (coefficient r) (coefficient p) none k);
  grown = λ k. omega arith;
}

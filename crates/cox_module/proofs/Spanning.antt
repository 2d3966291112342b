-- The functions that the rows give span all functions, up to powers of -v: so operators that are equal on them are equal.
use Rattle.std.proofs.Common.{◌≡◌, ℕ, zero, suc, ◌+◌, ◌-◌, ◌≤◌, ◌<◌, List, [], length, get_or}
use Rattle.std.proofs.Common.{⊎_elim, ℤ, pos, ◌+ℤ◌, neg_ℤ, refl, ap, sym, ◌∙◌, arith}
use Rattle.std.proofs.lemmas.Int.{ints}
use Rattle.std.proofs.lemmas.Bool.{cases_lt}
use Rattle.cox_base.specs.IntegerMatrix.{IntegerMatrix}
use Rattle.cox_base.specs.Admissible.{IsAdmissible}
use Rattle.cox_base.specs.Length.{word_length}
use Rattle.cox_base.specs.Bruhat.{IsBelow}
use Rattle.cox_poly.specs.Coefficients.{Coefficients, zero_polynomial, one_polynomial, plus}
use Rattle.cox_poly.specs.Products.{product}
use Rattle.cox_poly.specs.Multiples.{negated}
use Rattle.cox_poly.proofs.Products.{product-one}
use Rattle.cox_hecke.specs.Family.{Family, RespectsElements}
use Rattle.cox_hecke.specs.ListedElements.{occurrences}
use Rattle.cox_hecke.proofs.Signed.{respected}
use Rattle.cox_hecke.proofs.AllRows.{row_of, row_of-is, row_of-same}
use Rattle.cox_reflect.proofs.Search.{word_length-equal}
use Rattle.cox_module.proofs.ActionOnFunctions.{lift, spread}
use Rattle.cox_module.proofs.Occurrences.{named-standing}
use Rattle.cox_module.proofs.LinearOperators.{IsLinear, none-linear, negated-linear, joined-linear}
use Rattle.cox_module.proofs.LinearOperators.{product-linear, lift-linear, lift-passes}
use Rattle.cox_module.proofs.PowersOfV.{spread-one, spread-none, lift-cancel}
use Rattle.cox_module.proofs.GraphRule.{raise}

-- an operator on functions: it is linear over the polynomials
pub record IsOperator (X : Family → Family) : Type 0 where
  pub linear : {T : Coefficients → Coefficients} → IsLinear T → (f : Family) → X (λ x. T (f x)) ≡ (λ x. T (X f x))
  pub sums : (f h : Family) → X (λ x. plus (f x) (h x)) ≡ (λ x. plus (X f x) (X h x))

module _ (A : IntegerMatrix) (g : IsAdmissible A) (members : List (List ℕ)) (N : ℕ)
    (complete : (y : List ℕ) → occurrences A y members ≡ 1)
    (ordered : (i j : ℕ) → i < j → j < length members → IsBelow A (get_or members j []) (get_or members i []) → ⊥) where
  -- the value at x of the function that u gives
  unfoldable pub value : List ℕ → Family
  value u x = raise A g N x (row_of A g x u)

  value-respects : (u : List ℕ) → RespectsElements A (value u)
  unfolding value raise
  value-respects u x y e k = rw (word_length-equal A g e, row_of-same A g x y e) refl

  value-self : (u : List ℕ) → value u u ≡ lift (N - word_length A u) one_polynomial
  unfolding value raise
  value-self u =
      ap (λ (f : Coefficients). lift (N - word_length A u) (spread f)) (λ i k. (row_of-is A g u).top k i)
      ∙ ap (lift (N - word_length A u)) (λ i k. spread-one k i)

  value-none : (u x : List ℕ) → (IsBelow A u x → ⊥) → value u x ≡ zero_polynomial
  unfolding value raise
  value-none u x n =
      ap (λ (f : Coefficients). lift (N - word_length A x) (spread f)) (λ i k. (row_of-is A g x).outside u n k i)
      ∙ ap (lift (N - word_length A x)) (λ i k. spread-none k i)
      ∙ (lift-linear (N - word_length A x)).of_none

  module _ (X Y : Family → Family) (x_is : IsOperator X) (y_is : IsOperator Y) (agree : (u : List ℕ) → X (value u) ≡ Y (value u)) where
    -- the function less its part along the n-th element, which is multiplied by a power of -v first
    reduced : ℕ → Coefficients → List ℕ → Family → Family
    reduced a p u f x = plus (lift a (f x)) (negated (product p (value u x)))

    minus_product : (p : Coefficients) → IsLinear (λ c. negated (product p c))
    minus_product p = joined-linear {T = negated} {U = product p} negated-linear (product-linear p)

    of_reduced : (Z : Family → Family) → IsOperator Z → (a : ℕ) (p : Coefficients) (u : List ℕ) (f : Family)
        → Z (reduced a p u f) ≡ (λ x. plus (lift a (Z f x)) (negated (product p (Z (value u) x))))
    unfolding reduced
    of_reduced Z is a p u f =
        is.sums (λ x. lift a (f x)) (λ x. negated (product p (value u x)))
        ∙ (λ i x. plus (is.linear (lift-linear a) f i x) (is.linear (minus_product p) (value u) i x))

    no_difference : (p : Coefficients) → plus p (negated p) ≡ zero_polynomial
    no_difference p = λ i k. at (p k) i
      where
        at : (c : ℤ) → c +ℤ neg_ℤ c ≡ pos 0
        at c = omega (arith, ints)

    nothing : plus zero_polynomial (negated zero_polynomial) ≡ zero_polynomial
    nothing = no_difference zero_polynomial

    claim : (d n : ℕ) → n + d ≡ length members → (f : Family) → RespectsElements A f
        → ((i : ℕ) → i < n → f (get_or members i []) ≡ zero_polynomial) → X f ≡ Y f
    unfolding reduced
    claim zero n e f r none =
        ap X zero_everywhere ∙ x_is.linear none-linear f ∙ sym (y_is.linear none-linear f) ∙ sym (ap Y zero_everywhere)
      where
        at : (x : List ℕ) → f x ≡ zero_polynomial
        at x =
            let p = named-standing A g members x (λ z. let one = complete x in omega (arith, one, z))
            in respected A g r p.same ∙ none p.place (omega (arith, e, p.within))

        zero_everywhere : f ≡ (λ x. zero_polynomial)
        zero_everywhere = λ i x. at x i
    claim (suc d) n e f r none = step (claim d (suc n) (omega (arith, e)) (reduced a p u f) respects gone)
      where
        u : List ℕ
        u = get_or members n []

        a : ℕ
        a = N - word_length A u

        p : Coefficients
        p = f u

        respects : RespectsElements A (reduced a p u f)
        respects x y same k = ap (λ (h : Coefficients). h k)
            (λ j. plus (lift a (respected A g r same j)) (negated (product p (respected A g (value-respects u) same j))))

        inside : n < length members
        inside = omega (arith, e)

        at_n : reduced a p u f u ≡ zero_polynomial
        at_n =
            let own : product p (value u u) ≡ lift a p
            = ap (product p) (value-self u) ∙ lift-passes (product-linear p) a one_polynomial ∙ ap (lift a) (λ i k. product-one p k i)
            in (λ j. plus (lift a p) (negated (own j))) ∙ no_difference (lift a p)

        gone : (i : ℕ) → i < suc n → reduced a p u f (get_or members i []) ≡ zero_polynomial
        gone i l = ⊎_elim
            (λ (less : i < n).
            let first : lift a (f (get_or members i [])) ≡ zero_polynomial = ap (lift a) (none i less) ∙ (lift-linear a).of_none
            in let second : product p (value u (get_or members i [])) ≡ zero_polynomial
            = ap (product p) (value-none u (get_or members i []) (ordered i n less inside)) ∙ (product-linear p).of_none
            in (λ j. plus (first j) (negated (second j))) ∙ nothing)
            (λ (more : n ≤ i).
            let same : i ≡ n = omega (arith, l, more)
            in ap (λ (j : ℕ). reduced a p u f (get_or members j [])) same ∙ at_n)
            (cases_lt i n)

        step : X (reduced a p u f) ≡ Y (reduced a p u f) → X f ≡ Y f
        step same = λ i x. lift-cancel a (X f x) (Y f x) (λ j k. at x k j) i
          where
            both : ◌≡◌ {A = Family} (λ x. plus (lift a (X f x)) (negated (product p (X (value u) x))))
                (λ x. plus (lift a (Y f x)) (negated (product p (Y (value u) x))))
            both = sym (of_reduced X x_is a p u f) ∙ same ∙ of_reduced Y y_is a p u f

            cancel : (b c d d' : ℤ) → d ≡ d' → b +ℤ neg_ℤ d ≡ c +ℤ neg_ℤ d' → b ≡ c
            cancel b c d d' h e = omega (arith, ints, h, e)

            at : (x : List ℕ) (k : ℕ) → lift a (X f x) k ≡ lift a (Y f x) k
            at x k = cancel (lift a (X f x) k) (lift a (Y f x) k) (product p (X (value u) x) k) (product p (Y (value u) x) k)
                (ap (λ (h : Family). product p (h x) k) (agree u)) (ap (λ (h : Family). h x k) both)

    -- operators that are equal on what the rows give are equal
    pub span : (f : Family) → RespectsElements A f → X f ≡ Y f
    span f r = claim (length members) 0 (omega arith) f r (λ i l. absurd (omega (arith, l)))

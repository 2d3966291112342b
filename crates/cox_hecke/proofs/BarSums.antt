-- Bar respects 1 + T(s). Where a list is made of pairs x, sx, each pair by itself gives the equation, by the two recursions of R.
use Rattle.std.proofs.Common.{◌≡◌, ℕ, zero, suc, Bool, true, false, not, List, [], ◌∷◌, inr}
use Rattle.std.proofs.Common.{ℤ, ◌+ℤ◌, ◌-ℤ◌, refl, ap, sym, ◌∙◌, arith}
use Rattle.std.proofs.lemmas.Int.{ints}
use Rattle.cox_base.specs.declared.side.Side.TheVariants.{Left}
use Rattle.cox_base.specs.Matrix.{IsLetter}
use Rattle.cox_base.specs.IntegerMatrix.{IntegerMatrix}
use Rattle.cox_base.specs.Admissible.{IsAdmissible}
use Rattle.cox_base.specs.Length.{word_length}
use Rattle.cox_base.specs.Descents.{IsLeftDescent}
use Rattle.cox_reflect.proofs.Elements.{same-refl, same-cons, same-square}
use Rattle.cox_poly.specs.Coefficients.{Coefficients, plus, times_q, times_q_less_one}
use Rattle.cox_poly.specs.Products.{product}
use Rattle.cox_poly.specs.Multiples.{negated}
use Rattle.cox_poly.proofs.Products.{product-plus, plus-product, negated-product, product-times_q, times_q-product}
use Rattle.cox_rpoly.specs.RPolynomial.{r_polynomial}
use Rattle.cox_rpoly.specs.InverseOperators.{shortens_left}
use Rattle.cox_rpoly.proofs.PolynomialsOfElements.{r_polynomial-same}
use Rattle.cox_hecke.specs.Family.{Family, RespectsElements}
use Rattle.cox_hecke.specs.Sums.{bar_sum}
use Rattle.cox_hecke.specs.ListedElements.{occurrences}
use Rattle.cox_hecke.specs.ClosedLists.{IsClosedUnder}
use Rattle.cox_hecke.specs.StepFamily.{step}
use Rattle.cox_hecke.proofs.Descents.{nat_lt-yes, nat_lt-no, yes-nat_lt, no-nat_lt, shortens_left-same, shortens_left-back}
use Rattle.cox_hecke.proofs.Signed.{respected}
use Rattle.cox_hecke.proofs.RPolynomials.{r-left_shorter, r-left_longer, r-left_moved}
use Rattle.cox_hecke.proofs.ListSums.{sum_over-lists}
use Rattle.cox_hecke.proofs.ElementLists.{paired, occurrences-paired}

-- ---- one pair v, sv: p and r are the polynomials at v and sv, a and b are R(x,v) and R(sx,v)

times_q_less_one-product : (f h : Coefficients) (k : ℕ) → product (times_q_less_one f) h k ≡ times_q (product f h) k -ℤ product f h k
times_q_less_one-product f h k =
    omega (arith, ints, plus-product (times_q f) (negated f) h k, times_q-product f h k, negated-product f h k)

pair-shorter : (a b p r : Coefficients) (k : ℕ)
    → product a (plus (times_q r) p) k +ℤ product b (plus p (times_q r)) k
    ≡ (product a p k +ℤ product b r k) +ℤ (product b p k +ℤ product (plus (times_q_less_one b) (times_q a)) r k)
pair-shorter a b p r k =
    omega (
      arith,
      ints,
      product-plus a (times_q r) p k,
      product-times_q a r k,
      product-plus b p (times_q r) k,
      product-times_q b r k,
      plus-product (times_q_less_one b) (times_q a) r k,
      times_q_less_one-product b r k,
      times_q-product a r k,
    )

pair-longer : (a b p r : Coefficients) (k : ℕ)
    → product a (plus (times_q r) p) k +ℤ product (plus (times_q_less_one a) (times_q b)) (plus p (times_q r)) k
    ≡ times_q (plus (plus (product a p) (product (plus (times_q_less_one a) (times_q b)) r)) (plus (product b p) (product a r))) k
pair-longer a b p r zero =
    omega (
      arith,
      ints,
      product-plus a (times_q r) p zero,
      product-times_q a r zero,
      product-plus (plus (times_q_less_one a) (times_q b)) p (times_q r) zero,
      product-times_q (plus (times_q_less_one a) (times_q b)) r zero,
      plus-product (times_q_less_one a) (times_q b) p zero,
      times_q_less_one-product a p zero,
      times_q-product b p zero,
    )
pair-longer a b p r (suc k) =
    omega (
      arith,
      ints,
      product-plus a (times_q r) p (suc k),
      product-times_q a r (suc k),
      product-plus (plus (times_q_less_one a) (times_q b)) p (times_q r) (suc k),
      product-times_q (plus (times_q_less_one a) (times_q b)) r (suc k),
      plus-product (times_q_less_one a) (times_q b) p (suc k),
      times_q_less_one-product a p (suc k),
      times_q-product b p (suc k),
    )

-- a pair more
more : (k : ℕ) (a b c d p r : Coefficients) (m n t : ℤ) → m +ℤ n ≡ times_q (plus (plus a b) (plus c d)) k → t ≡ times_q (plus p r) k
    → m +ℤ (n +ℤ t) ≡ times_q (plus (plus a (plus b p)) (plus c (plus d r))) k
more zero a b c d p r m n t e f = omega (arith, ints, e, f)
more (suc k) a b c d p r m n t e f = omega (arith, ints, e, f)

module _ (A : IntegerMatrix) (g : IsAdmissible A) where
  pub step-respects : (s : ℕ) (h : Family) → RespectsElements A h → RespectsElements A (step Left A s h)
  step-respects s h r x y e k = rw (shortens_left-same A g s e, respected A g r e, respected A g r (same-cons A g s e)) refl

  pub bar_term-respects : (x : List ℕ) (h : Family) → RespectsElements A h → RespectsElements A (λ y. product (r_polynomial A x y) (h y))
  bar_term-respects x h r y z e k = rw (r_polynomial-same A g (same-refl A g x) e, respected A g r e) refl

  pub step-shorter : (s : ℕ) (h : Family) (y : List ℕ) → shortens_left A s y ≡ true → step Left A s h y ≡ plus (h (s ∷ y)) (times_q (h y))
  step-shorter s h y e = rw e refl

  pub step-longer : (s : ℕ) (h : Family) (y : List ℕ) → shortens_left A s y ≡ false → step Left A s h y ≡ plus (times_q (h (s ∷ y))) (h y)
  step-longer s h y e = rw e refl

  -- ---- pairs

  module _ (s : ℕ) (l : IsLetter A.rank s) (h : Family) (r : RespectsElements A h) where
    back : (y : List ℕ) → shortens_left A s y ≡ false → shortens_left A s (s ∷ y) ≡ true
    back y e = shortens_left-back A g s y l ∙ ap not e

    upper : (y : List ℕ) → shortens_left A s y ≡ false → step Left A s h (s ∷ y) ≡ plus (h y) (times_q (h (s ∷ y)))
    upper y e =
        step-shorter s h (s ∷ y) (back y e)
        ∙ ap (λ (f : Coefficients). plus f (times_q (h (s ∷ y)))) (respected A g r (same-square A g s y))

    descends : (y : List ℕ) → shortens_left A s y ≡ true → IsLeftDescent A y s
    descends y e = yes-nat_lt (word_length A (s ∷ y)) (word_length A y) e

    rises : (y : List ℕ) → shortens_left A s y ≡ false → IsLeftDescent A y s → ⊥
    rises y e = no-nat_lt (word_length A (s ∷ y)) (word_length A y) e

    bar-paired_shorter : (words : List (List ℕ)) (x : List ℕ) (k : ℕ) → shortens_left A s x ≡ true
        → bar_sum A (paired A s words) (step Left A s h) x k
        ≡ bar_sum A (paired A s words) h x k +ℤ bar_sum A (paired A s words) h (s ∷ x) k
    bar-paired_shorter [] x k c = refl
    bar-paired_shorter (y ∷ words) x k c = go (shortens_left A s y) refl (bar-paired_shorter words x k c)
      where
        -- R(x,sy) = R(sx,y) and R(sx,sy) = (q-1) R(x,sy) + q R(x,y)
        one : shortens_left A s y ≡ false → r_polynomial A x (s ∷ y) ≡ r_polynomial A (s ∷ x) y
        one e =
            r-left_shorter A g x (s ∷ y) s (descends (s ∷ y) (back y e)) (descends x c)
            ∙ r_polynomial-same A g (same-refl A g (s ∷ x)) (same-square A g s y)

        two : shortens_left A s y ≡ false
            → r_polynomial A (s ∷ x) (s ∷ y) ≡ plus (times_q_less_one (r_polynomial A (s ∷ x) y)) (times_q (r_polynomial A x y))
        two e =
            r-left_longer A g (s ∷ x) (s ∷ y) s (descends (s ∷ y) (back y e)) (rises (s ∷ x) (shortens_left-back A g s x l ∙ ap not c))
            ∙ ap (λ (f : Coefficients). plus (times_q_less_one f) (times_q (r_polynomial A (s ∷ s ∷ x) (s ∷ s ∷ y))))
            (r_polynomial-same A g (same-square A g s x) (same-refl A g (s ∷ y)) ∙ one e)
            ∙ ap (λ (f : Coefficients). plus (times_q_less_one (r_polynomial A (s ∷ x) y)) (times_q f))
            (r_polynomial-same A g (same-square A g s x) (same-square A g s y))

        go : (b : Bool) → shortens_left A s y ≡ b
            → bar_sum A (paired A s words) (step Left A s h) x k
            ≡ bar_sum A (paired A s words) h x k +ℤ bar_sum A (paired A s words) h (s ∷ x) k
            → bar_sum A (paired A s (y ∷ words)) (step Left A s h) x k
            ≡ bar_sum A (paired A s (y ∷ words)) h x k +ℤ bar_sum A (paired A s (y ∷ words)) h (s ∷ x) k
        go true e rest = rw e rest
        go false e rest =
            rw (e, step-longer s h y e, upper y e, one e, two e)
            (omega (arith, ints, rest, pair-shorter (r_polynomial A x y) (r_polynomial A (s ∷ x) y) (h y) (h (s ∷ y)) k))

    bar-paired_longer : (words : List (List ℕ)) (x : List ℕ) (k : ℕ) → shortens_left A s x ≡ false
        → bar_sum A (paired A s words) (step Left A s h) x k
        ≡ times_q (plus (bar_sum A (paired A s words) h x) (bar_sum A (paired A s words) h (s ∷ x))) k
    bar-paired_longer [] x zero c = refl
    bar-paired_longer [] x (suc k) c = refl
    bar-paired_longer (y ∷ words) x k c = go (shortens_left A s y) refl (bar-paired_longer words x k c)
      where
        -- R(sx,sy) = R(x,y) and R(x,sy) = (q-1) R(sx,sy) + q R(sx,y)
        one : shortens_left A s y ≡ false → r_polynomial A (s ∷ x) (s ∷ y) ≡ r_polynomial A x y
        one e =
            r-left_moved A g x (s ∷ y) s (descends (s ∷ y) (back y e)) (rises x c)
            ∙ r_polynomial-same A g (same-refl A g x) (same-square A g s y)

        two : shortens_left A s y ≡ false
            → r_polynomial A x (s ∷ y) ≡ plus (times_q_less_one (r_polynomial A x y)) (times_q (r_polynomial A (s ∷ x) y))
        two e =
            r-left_longer A g x (s ∷ y) s (descends (s ∷ y) (back y e)) (rises x c)
            ∙ ap (λ (f : Coefficients). plus (times_q_less_one f) (times_q (r_polynomial A (s ∷ x) (s ∷ s ∷ y)))) (one e)
            ∙ ap (λ (f : Coefficients). plus (times_q_less_one (r_polynomial A x y)) (times_q f))
            (r_polynomial-same A g (same-refl A g (s ∷ x)) (same-square A g s y))

        go : (b : Bool) → shortens_left A s y ≡ b
            → bar_sum A (paired A s words) (step Left A s h) x k
            ≡ times_q (plus (bar_sum A (paired A s words) h x) (bar_sum A (paired A s words) h (s ∷ x))) k
            → bar_sum A (paired A s (y ∷ words)) (step Left A s h) x k
            ≡ times_q (plus (bar_sum A (paired A s (y ∷ words)) h x) (bar_sum A (paired A s (y ∷ words)) h (s ∷ x))) k
        go true e rest = rw e rest
        go false e rest =
            rw (e, step-longer s h y e, upper y e, one e, two e)
            (more k (product (r_polynomial A x y) (h y))
            (product (plus (times_q_less_one (r_polynomial A x y)) (times_q (r_polynomial A (s ∷ x) y))) (h (s ∷ y)))
            (product (r_polynomial A (s ∷ x) y) (h y)) (product (r_polynomial A x y) (h (s ∷ y)))
            (bar_sum A (paired A s words) h x) (bar_sum A (paired A s words) h (s ∷ x))
            (product (r_polynomial A x y) (plus (times_q (h (s ∷ y))) (h y)) k)
            (product (plus (times_q_less_one (r_polynomial A x y)) (times_q (r_polynomial A (s ∷ x) y)))
            (plus (h y) (times_q (h (s ∷ y)))) k)
            (bar_sum A (paired A s words) (step Left A s h) x k)
            (pair-longer (r_polynomial A x y) (r_polynomial A (s ∷ x) y) (h y) (h (s ∷ y)) k) rest)

    -- ---- any list that is closed under s

    module _ (words : List (List ℕ)) (c : IsClosedUnder A s words) where
      in_pairs : (x : List ℕ) (f : Family) (k : ℕ) → RespectsElements A f → bar_sum A words f x k ≡ bar_sum A (paired A s words) f x k
      in_pairs x f k rf =
          sum_over-lists A g words (paired A s words) (λ y. product (r_polynomial A x y) (f y)) k (bar_term-respects x f rf)
          (λ y. let e = same_count y (shortens_left A s y) refl in inr (sym e, omega (arith, e, c.once y)))
        where
          same_count : (y : List ℕ) (b : Bool) → shortens_left A s y ≡ b → occurrences A y (paired A s words) ≡ occurrences A y words
          same_count y true e = occurrences-paired A g s words y l ∙ rw e (c.closed y)
          same_count y false e = occurrences-paired A g s words y l ∙ rw e refl

      pub bar-shorter : (x : List ℕ) (k : ℕ) → shortens_left A s x ≡ true
          → bar_sum A words (step Left A s h) x k ≡ bar_sum A words h x k +ℤ bar_sum A words h (s ∷ x) k
      bar-shorter x k e =
          in_pairs x (step Left A s h) k (step-respects s h r) ∙ bar-paired_shorter words x k e
          ∙ sym (ap (λ (z : ℤ). bar_sum A words h x k +ℤ z) (in_pairs (s ∷ x) h k r)
          ∙ ap (λ (z : ℤ). z +ℤ bar_sum A (paired A s words) h (s ∷ x) k) (in_pairs x h k r))

      pub bar-longer : (x : List ℕ) (k : ℕ) → shortens_left A s x ≡ false
          → bar_sum A words (step Left A s h) x k ≡ times_q (plus (bar_sum A words h x) (bar_sum A words h (s ∷ x))) k
      bar-longer x k e =
          in_pairs x (step Left A s h) k (step-respects s h r) ∙ bar-paired_longer words x k e
          ∙ sym (ap (λ (f : Coefficients). times_q (plus f (bar_sum A words h (s ∷ x))) k) (λ i j. in_pairs x h j r i)
          ∙ ap (λ (f : Coefficients). times_q (plus (bar_sum A (paired A s words) h x) f) k) (λ i j. in_pairs (s ∷ x) h j r i))

      -- the same by descents
      pub bar-descent : (x : List ℕ) (k : ℕ) → IsLeftDescent A x s
          → bar_sum A words (step Left A s h) x k ≡ plus (bar_sum A words h x) (bar_sum A words h (s ∷ x)) k
      bar-descent x k d = bar-shorter x k (nat_lt-yes d)

      pub bar-ascent : (x : List ℕ) (k : ℕ) → (IsLeftDescent A x s → ⊥)
          → bar_sum A words (step Left A s h) x k ≡ times_q (plus (bar_sum A words h x) (bar_sum A words h (s ∷ x))) k
      bar-ascent x k n = bar-longer x k (nat_lt-no (word_length A (s ∷ x)) (word_length A x) n)

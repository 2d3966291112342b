-- The step from the row p of v to that of w = sv > v: (1 + T(s)) p, less mu(z,v) q^((l(w)-l(z))/2) times the row of z for each z below v
-- with sz < z. Bar respects each part. The degree bound can fail for (1 + T(s)) p at an x with sx < x alone, by one coefficient, mu(x,v);
-- the correction by z = x takes that away, and the others meet the bound.
use Rattle.std.proofs.Common.{◌≡◌, ℕ, suc, ◌+◌, ◌-◌, ◌*◌, ◌/◌, ◌%◌, Bool, true, false, not, if◌then◌else◌, List, [], ◌∷◌, ◌⊎◌, inl, inr}
use Rattle.std.proofs.Common.{⊎_elim}
use Rattle.std.proofs.Common.{ℤ, pos, ◌-ℤ◌, ◌*ℤ◌, refl, ap, sym, ◌∙◌, subst, arith}
use Rattle.std.specs.Prelude.{◌==◌}
use Rattle.std.proofs.lemmas.Int.{ints}
use Rattle.std.proofs.lemmas.Bool.Decides.{nat_tests}
use Rattle.cox_base.specs.declared.side.Side.TheVariants.{Left}
use Rattle.cox_base.specs.Matrix.{IsLetter}
use Rattle.cox_base.specs.IntegerMatrix.{IntegerMatrix}
use Rattle.cox_base.specs.Admissible.{IsAdmissible}
use Rattle.cox_base.specs.Element.{SameElement}
use Rattle.cox_base.specs.Length.{word_length}
use Rattle.cox_base.specs.Descents.{IsLeftDescent}
use Rattle.cox_base.specs.Bruhat.{IsBelow}
use Rattle.cox_reflect.proofs.Elements.{same-refl, same-square}
use Rattle.cox_reflect.proofs.Search.{word_length-equal}
use Rattle.cox_reflect.proofs.Bruhat.{below-same, below-trans, below-descent, below-cons}
use Rattle.cox_poly.specs.Coefficients.{Coefficients, zero_polynomial}
use Rattle.cox_poly.specs.Products.{times_q_power, product}
use Rattle.cox_poly.specs.Multiples.{minus, scaled}
use Rattle.cox_poly.proofs.Products.{product-zero}
use Rattle.cox_rpoly.specs.RPolynomial.{r_polynomial}
use Rattle.cox_rpoly.specs.InverseOperators.{shortens_left}
use Rattle.cox_hecke.specs.Family.{Family, RespectsElements}
use Rattle.cox_hecke.specs.Sums.{sum_over, bar_sum}
use Rattle.cox_hecke.specs.ClosedLists.{IsClosedUnder}
use Rattle.cox_hecke.specs.Row.{IsRow, middle_coefficient}
use Rattle.cox_hecke.specs.ListedElements.{occurrences}
use Rattle.cox_hecke.specs.StepFamily.{step}
use Rattle.cox_hecke.proofs.Descents.{Moves, left_moves, yes-nat_lt, shortens_left-same, shortens_left-back}
use Rattle.cox_hecke.proofs.Signed.{respected}
use Rattle.cox_hecke.proofs.ListSums.{sum_over-equal, sum_over-none}
use Rattle.cox_hecke.proofs.ElementLists.{Tells, Tells-ListsEach, below_or_not}
use Rattle.cox_hecke.proofs.BarSums.{bar-shorter, bar-longer}
use Rattle.cox_hecke.proofs.Balance.{Balanced, Balanced-none, Balanced-plus, Balanced-minus, Balanced-scaled, Balanced-times_q_power}
use Rattle.cox_hecke.proofs.Balance.{Balanced-step}
use Rattle.cox_hecke.proofs.Balance.{step_sums, bar_sum-plus, bar_sum-minus, bar_sum-scaled, bar_sum-times_q_power}
use Rattle.cox_hecke.proofs.OneRow.{row-balanced}

module _ (A : IntegerMatrix) (v : List ℕ) (s : ℕ) (p : Family) (P : List ℕ → Family) where
  -- mu(z,v) where s shortens z, else 0
  pub scale : List ℕ → ℤ
  scale z = if shortens_left A s z then middle_coefficient (word_length A v - word_length A z) (p z) else pos 0

  -- half the difference of the lengths of sv and z
  pub half : List ℕ → ℕ
  half z = (word_length A (s ∷ v) - word_length A z) / 2

  pub correction : List ℕ → Family
  correction z x = scaled (scale z) (times_q_power (half z) (P z x))

  pub corrections : List (List ℕ) → Family
  corrections words x = sum_over words (λ z. correction z x)

  pub step_row : List (List ℕ) → Family
  step_row words x = minus (step Left A s p x) (corrections words x)

  -- what z is where its correction is not 0
  pub record Corrects (z : List ℕ) : Type 0 where
    pub below : IsBelow A z v
    pub shortens : shortens_left A s z ≡ true
    pub degree : ℕ
    pub odd : word_length A v ≡ word_length A z + suc (2 * degree)

  pub scale-is : (z : List ℕ) → Corrects z → (j : ℕ) → word_length A v ≡ word_length A z + suc (2 * j) → scale z ≡ p z j
  unfolding scale
  scale-is z c j e =
      let odd : ((word_length A v - word_length A z) % 2 == 1)
      ≡ true = (let m : (word_length A v - word_length A z) % 2 ≡ 1 = omega (arith, e) in rw m refl)
      in let middle : (word_length A v - word_length A z) / 2 ≡ j = omega (arith, e)
      in rw (c.shortens, odd, middle) refl

  pub scale-shortens : (z : List ℕ) → shortens_left A s z ≡ true → scale z ≡ middle_coefficient (word_length A v - word_length A z) (p z)
  unfolding scale
  scale-shortens z e = rw e refl

  pub half-at : (z : List ℕ) → half z ≡ (word_length A (s ∷ v) - word_length A z) / 2
  unfolding half
  half-at z = refl

  scale-long : (z : List ℕ) → shortens_left A s z ≡ false → scale z ≡ pos 0
  unfolding scale
  scale-long z e = rw e refl

  scale-none : (z : List ℕ) → ((k : ℕ) → p z k ≡ pos 0) → scale z ≡ pos 0
  unfolding scale
  scale-none z none = go (shortens_left A s z) ((word_length A v - word_length A z) % 2 == 1)
    where
      go : (a b : Bool) → (if a then (if b then p z ((word_length A v - word_length A z) / 2) else pos 0) else pos 0) ≡ pos 0
      go true true = none ((word_length A v - word_length A z) / 2)
      go true false = refl
      go false b = refl

  scale-even : (z : List ℕ) → ((word_length A v - word_length A z) % 2 == 1) ≡ false → scale z ≡ pos 0
  unfolding scale
  scale-even z e = go (shortens_left A s z)
    where
      go : (a : Bool) → (if a then (if (word_length A v - word_length A z) % 2 == 1 then p z
          ((word_length A v - word_length A z) / 2) else pos 0) else pos 0) ≡ pos 0
      go true = rw e refl
      go false = refl

  pub correction-none : (z : List ℕ) → scale z ≡ pos 0 → (x : List ℕ) → correction z x ≡ zero_polynomial
  unfolding correction
  correction-none z e x = λ i k. at k i
    where
      at : (k : ℕ) → scale z *ℤ times_q_power (half z) (P z x) k ≡ pos 0
      at k = rw e (omega (arith, ints))

  pub correction-value : (z x : List ℕ) (k : ℕ) → correction z x k ≡ scale z *ℤ times_q_power (half z) (P z x) k
  unfolding correction
  correction-value z x k = refl

  pub step_row-at : (words : List (List ℕ)) (x : List ℕ) (k : ℕ) → step_row words x k ≡ step Left A s p x k -ℤ corrections words x k
  unfolding step_row
  step_row-at words x k = refl

  pub corrections-is : (words : List (List ℕ)) (x : List ℕ) (k : ℕ) → corrections words x k ≡ sum_over words (λ z. correction z x) k
  unfolding corrections
  corrections-is words x k = refl

  module _ (g : IsAdmissible A) (l : IsLetter A.rank s) (rising : shortens_left A s v ≡ false) (row : IsRow A v p)
      (rows : (z : List ℕ) → IsBelow A z v → IsRow A z (P z)) (same_rows : (y z : List ℕ) → SameElement A y z → P y ≡ P z) where
    pub size : word_length A (s ∷ v) ≡ suc (word_length A v)
    size = subst (λ (b : Bool). Moves b (word_length A v) (word_length A (s ∷ v))) rising (left_moves A g s v l)

    pub upper : shortens_left A s (s ∷ v) ≡ true
    upper = shortens_left-back A g s v l ∙ ap not rising

    pub descent : IsLeftDescent A (s ∷ v) s
    descent = yes-nat_lt (word_length A (s ∷ s ∷ v)) (word_length A (s ∷ v)) upper

    pub lower_below : IsBelow A v (s ∷ v)
    lower_below = below-same A g (same-square A g s v) (same-refl A g (s ∷ v)) (below-descent A g (s ∷ v) s descent)

    pub corrects_or_not : (z : List ℕ) → Corrects z ⊎ (scale z ≡ pos 0)
    corrects_or_not z = go (shortens_left A s z) ((word_length A v - word_length A z) % 2 == 1) refl refl
      where
        go : (a b : Bool) → shortens_left A s z ≡ a → ((word_length A v - word_length A z) % 2 == 1) ≡ b → Corrects z ⊎ (scale z ≡ pos 0)
        go true true e f = ⊎_elim
            (λ (b : IsBelow A z v). inl (record { below = b; shortens = e; degree = (word_length A v - word_length A z) / 2; odd = odd f }))
            (λ (n : IsBelow A z v → ⊥). inr (scale-none z (row.outside z n)))
            (below_or_not A g z v)
          where
            odd : ((word_length A v - word_length A z) % 2 == 1) ≡ true
                → word_length A v ≡ word_length A z + suc (2 * ((word_length A v - word_length A z) / 2))
            odd f = let m : (word_length A v - word_length A z) % 2 ≡ 1 = grind (arith, nat_tests) in omega (arith, m)
        go true false e f = inr (scale-even z f)
        go false b e f = inr (scale-long z e)

    pub half-is : (z : List ℕ) (c : Corrects z) → half z ≡ suc c.degree
    unfolding half
    half-is z c = omega (arith, size, c.odd)

    -- ---- the corrections respect elements, on either side

    pub scale-same : {y z : List ℕ} → SameElement A y z → scale y ≡ scale z
    unfolding scale
    scale-same {y} {z} e = rw (shortens_left-same A g s e, word_length-equal A g e, respected A g row.element e) refl

    half-same : {y z : List ℕ} → SameElement A y z → half y ≡ half z
    unfolding half
    half-same e = rw (word_length-equal A g e) refl

    pub correction-same : (x : List ℕ) → RespectsElements A (λ z. correction z x)
    correction-same x y z e k =
        correction-value y x k ∙ rw (scale-same e, half-same e, same_rows y z e) refl ∙ sym (correction-value z x k)

    correction-respects : (z : List ℕ) → RespectsElements A (correction z)
    correction-respects z x y e k = ⊎_elim
        (λ (c : Corrects z). correction-value z x k ∙ rw (respected A g (rows z c.below).element e) refl ∙ sym (correction-value z y k))
        (λ (n : scale z ≡ pos 0). ap (λ (f : Coefficients). f k) (correction-none z n x ∙ sym (correction-none z n y)))
        (corrects_or_not z)

    pub corrections-respects : (words : List (List ℕ)) → RespectsElements A (corrections words)
    unfolding corrections
    corrections-respects words x y e k = sum_over-equal words (λ z. correction z x) (λ z. correction z y) k
        (λ z. correction-respects z x y e k)

    -- ---- bar

    module _ (all : List (List ℕ)) (each : Tells A (λ y. IsBelow A y (s ∷ v)) all) where
      once : (y : List ℕ) → IsBelow A y (s ∷ v) → occurrences A y all ≡ 1
      once = (Tells-ListsEach A (λ y. IsBelow A y (s ∷ v)) all each).once

      closed : IsClosedUnder A s all
      closed = record {
        once = λ x. ⊎_elim (λ y. omega (arith, y.0)) (λ n. omega (arith, n.0)) (each x);
        closed = λ x. ⊎_elim
            (λ (b : IsBelow A x (s ∷ v)). once (s ∷ x) (below-cons A g x (s ∷ v) s descent b) ∙ sym (once x b))
            (λ (n : IsBelow A x (s ∷ v) → ⊥). no_other (s ∷ x)
            (λ b. n (below-same A g (same-square A g s x) (same-refl A g (s ∷ v)) (below-cons A g (s ∷ x) (s ∷ v) s descent b)))
            ∙ sym (no_other x n))
            (below_or_not A g x (s ∷ v));
      }
        where
          no_other : (y : List ℕ) → (IsBelow A y (s ∷ v) → ⊥) → occurrences A y all ≡ 0
          no_other = (Tells-ListsEach A (λ y. IsBelow A y (s ∷ v)) all each).no_other

      step-balanced : Balanced A (word_length A (s ∷ v)) (step Left A s p) (bar_sum A all (step Left A s p))
      step-balanced =
          subst (λ (n : ℕ). Balanced A n (step Left A s p) (bar_sum A all (step Left A s p))) (sym size)
          (subst (λ (G : Family). Balanced A (suc (word_length A v)) (step Left A s p) G) (λ i x k. sums x k (shortens_left A s x) refl i)
          (Balanced-step A g s l (row-balanced A g v p row all (λ y b. once y (below-trans A g b lower_below)))))
        where
          sums : (x : List ℕ) (k : ℕ) (b : Bool) → shortens_left A s x ≡ b
              → step_sums A s (bar_sum A all p) x k ≡ bar_sum A all (step Left A s p) x k
          sums x k true e = rw e (sym (bar-shorter A g s l p row.element all closed x k e))
          sums x k false e = rw e (sym (bar-longer A g s l p row.element all closed x k e))

      none-balanced : Balanced A (word_length A (s ∷ v)) (λ x. zero_polynomial) (bar_sum A all (λ y. zero_polynomial))
      none-balanced =
          subst (λ (G : Family). Balanced A (word_length A (s ∷ v)) (λ x. zero_polynomial) G)
          (λ i x k. sym (sum_over-none all (λ y. product (r_polynomial A x y) zero_polynomial) k
          (λ y. product-zero (r_polynomial A x y) k)) i)
          (Balanced-none A (word_length A (s ∷ v)))

      correction-balanced : (z : List ℕ) → Balanced A (word_length A (s ∷ v)) (correction z) (bar_sum A all (correction z))
      unfolding correction
      correction-balanced z = ⊎_elim (λ (c : Corrects z). some c)
          (λ (n : scale z ≡ pos 0). subst (λ (F : Family). Balanced A (word_length A (s ∷ v)) F (bar_sum A all F))
          (λ i x. sym (correction-none z n x) i) none-balanced)
          (corrects_or_not z)
        where
          some : Corrects z → Balanced A (word_length A (s ∷ v)) (correction z) (bar_sum A all (correction z))
          some c =
              let total : word_length A z + 2 * half z ≡ word_length A (s ∷ v) = omega (arith, half-is z c, size, c.odd)
              in subst (λ (n : ℕ). Balanced A n (correction z) (bar_sum A all (correction z))) total
              (subst (λ (G : Family). Balanced A (word_length A z + 2 * half z) (correction z) G)
              (λ i x. sym (bar_sum-scaled A all (scale z) (λ y. times_q_power (half z) (P z y)) x
              ∙ ap (scaled (scale z)) (bar_sum-times_q_power A all (half z) (P z) x)) i)
              (Balanced-scaled A (word_length A z + 2 * half z) (scale z)
              (Balanced-times_q_power A (word_length A z) (half z)
              (row-balanced A g z (P z) (rows z c.below) all (λ y b. once y (below-trans A g b (below-trans A g c.below lower_below)))))))

      corrections-balanced : (words : List (List ℕ))
          → Balanced A (word_length A (s ∷ v)) (corrections words) (bar_sum A all (corrections words))
      unfolding corrections
      corrections-balanced [] = none-balanced
      corrections-balanced (z ∷ words) =
          subst (λ (G : Family). Balanced A (word_length A (s ∷ v)) (corrections (z ∷ words)) G)
          (λ i x. sym (bar_sum-plus A all (correction z) (corrections words) x) i)
          (Balanced-plus A (word_length A (s ∷ v)) (correction-balanced z) (corrections-balanced words))

      pub step_row-balanced : (words : List (List ℕ)) → Balanced A (word_length A (s ∷ v)) (step_row words) (bar_sum A all (step_row words))
      unfolding step_row
      step_row-balanced words =
          subst (λ (G : Family). Balanced A (word_length A (s ∷ v)) (step_row words) G)
          (λ i x. sym (bar_sum-minus A all (step Left A s p) (corrections words) x) i)
          (Balanced-minus A (word_length A (s ∷ v)) step-balanced (corrections-balanced words))

-- Multiplication by the longest element w0 turns Bruhat order round, and R with it. By induction on w, with a right descent s of w: s is a
-- right descent of w0 ws, and of w0 x exactly where it is none of x.
use Rattle.std.proofs.Common.{◌≡◌, ℕ, zero, suc, List, [], ◌∷◌, ◌++◌, ◌⊎◌, inl, inr, ⊎_elim, refl, ap, sym, ◌∙◌, arith}
use Rattle.std.proofs.lemmas.Bool.{cases_lt}
use Rattle.cox_base.specs.IntegerMatrix.{IntegerMatrix}
use Rattle.cox_base.specs.Admissible.{IsAdmissible}
use Rattle.cox_base.specs.Element.{SameElement}
use Rattle.cox_base.specs.Length.{word_length}
use Rattle.cox_base.specs.Descents.{IsRightDescent}
use Rattle.cox_base.specs.Bruhat.{IsBelow}
use Rattle.cox_reflect.proofs.Elements.{same-refl, same-sym, same-trans, same-push_twice}
use Rattle.cox_reflect.proofs.Search.{word_length-equal}
use Rattle.cox_reflect.proofs.Lengths.{empty_same}
use Rattle.cox_reflect.proofs.Roots.{descent-letter}
use Rattle.cox_reflect.proofs.Bruhat.{below-same, below-refl, below-trans, below-push, below_identity, lift_down_right, lift_up_right}
use Rattle.cox_poly.specs.Coefficients.{Coefficients, plus, times_q, times_q_less_one}
use Rattle.cox_rpoly.specs.RPolynomial.{r_polynomial}
use Rattle.cox_rpoly.proofs.PolynomialsOfElements.{r_polynomial-same, r_polynomial-equal, r_polynomial-not_below}
use Rattle.cox_hecke.proofs.Descents.{some_right_descent}
use Rattle.cox_hecke.proofs.RPolynomials.{r-right_shorter, r-right_longer, r-right_moved}
use Rattle.cox_hecke.proofs.ListSums.{same_or_not}
use Rattle.cox_inverse.specs.Longest.{IsLongest}
use Rattle.cox_inverse.proofs.LongestWord.{right_descent-length, turned-push, turned-push_twice, turned-back, turned-same}
use Rattle.cox_inverse.proofs.LongestWord.{turned-descent, turned-ascent}

module _ (A : IntegerMatrix) (g : IsAdmissible A) (longest : List ℕ) (is : IsLongest A longest) where
  -- ---- a right descent s of x

  -- it is one of w0 xs, too
  shortened : (x : List ℕ) (s : ℕ) → IsRightDescent A x s → IsRightDescent A (longest ++ (x ++ s ∷ [])) s
  shortened x s d =
      turned-descent A g longest is (x ++ s ∷ []) s (descent-letter A g x s d)
      (λ e. omega (arith, d, e, word_length-equal A g (same-push_twice A g x s)))

  one_less : (x : List ℕ) (s n : ℕ) → IsRightDescent A x s → word_length A x ≡ suc n → word_length A (x ++ s ∷ []) ≡ n
  one_less x s n d e = omega (arith, e, right_descent-length A g x s d)

  -- whether s shortens x
  descends : (x : List ℕ) (s : ℕ) → IsRightDescent A x s ⊎ (IsRightDescent A x s → ⊥)
  descends x s = ⊎_elim (λ l. inl l) (λ m. inr (λ d. omega (arith, d, m))) (cases_lt (word_length A (x ++ s ∷ [])) (word_length A x))

  -- ---- order

  abbrev TurnsBelow : ℕ → Type 0
  TurnsBelow n = (x w : List ℕ) → word_length A w ≡ n → IsBelow A x w → IsBelow A (longest ++ w) (longest ++ x)

  turned_below : (n : ℕ) → TurnsBelow n
  turned_below zero x w e b =
      let none : SameElement A w [] = empty_same A g w e
      in let both = same-trans A g ((below_identity A g x).0 (below-same A g (same-refl A g x) none b)) (same-sym A g none)
      in below-refl A g (turned-same A g longest is (same-sym A g both))
  turned_below (suc n) x w e b = step (some_right_descent A g w (omega (arith, e))) (turned_below n)
    where
      step : (s : ℕ) × IsRightDescent A w s → TurnsBelow n → IsBelow A (longest ++ w) (longest ++ x)
      step (s, d) lower = ⊎_elim down up (descends x s)
        where
          size : word_length A (w ++ s ∷ []) ≡ n
          size = one_less w s n d e

          -- w0 w < w0 ws
          above : IsBelow A (longest ++ w) (longest ++ (w ++ s ∷ []))
          above =
              below-same A g (turned-push_twice A g longest is w s) (same-refl A g (longest ++ (w ++ s ∷ [])))
              (below-push A g (longest ++ (w ++ s ∷ [])) (longest ++ (w ++ s ∷ [])) s (shortened w s d)
              (below-refl A g (same-refl A g (longest ++ (w ++ s ∷ [])))))

          down : IsRightDescent A x s → IsBelow A (longest ++ w) (longest ++ x)
          down c =
              let lowered = lower (x ++ s ∷ []) (w ++ s ∷ []) size ((lift_down_right A g x w s d c).0 b)
              in below-same A g (turned-push_twice A g longest is w s) (turned-push_twice A g longest is x s)
              ((lift_down_right A g (longest ++ (w ++ s ∷ [])) (longest ++ (x ++ s ∷ [])) s (shortened x s c) (shortened w s d)).0
              lowered)

          up : (IsRightDescent A x s → ⊥) → IsBelow A (longest ++ w) (longest ++ x)
          up c = below-trans A g above (lower x (w ++ s ∷ []) size ((lift_up_right A g x w s d c).0 b))

  -- where x ≤ w, w0 w ≤ w0 x; and back
  pub turned-below : (x w : List ℕ) → IsBelow A x w → IsBelow A (longest ++ w) (longest ++ x)
  turned-below x w b = turned_below (word_length A w) x w refl b

  pub below-turned : (x w : List ℕ) → IsBelow A (longest ++ w) (longest ++ x) → IsBelow A x w
  below-turned x w b =
      below-same A g (turned-back A g longest is x) (turned-back A g longest is w) (turned-below (longest ++ w) (longest ++ x) b)

  -- ---- R

  abbrev TurnsR : ℕ → Type 0
  TurnsR n = (x w : List ℕ) → word_length A w ≡ n → r_polynomial A (longest ++ w) (longest ++ x) ≡ r_polynomial A x w

  turned_r : (n : ℕ) → TurnsR n
  turned_r zero x w e = ⊎_elim
      (λ (same : SameElement A x w). r_polynomial-equal A g (turned-same A g longest is (same-sym A g same))
      ∙ sym (r_polynomial-equal A g same))
      (λ (n : SameElement A x w → ⊥). let apart : IsBelow A x w → ⊥
      = λ b. n (same-trans A g ((below_identity A g x).0 (below-same A g (same-refl A g x) none b)) (same-sym A g none))
      in (λ i k. r_polynomial-not_below A g (longest ++ w) (longest ++ x) (λ b. apart (below-turned x w b)) k i)
      ∙ sym (λ i k. r_polynomial-not_below A g x w apart k i))
      (same_or_not A g x w)
    where
      none : SameElement A w []
      none = empty_same A g w e
  turned_r (suc n) x w e = step (some_right_descent A g w (omega (arith, e))) (turned_r n)
    where
      step : (s : ℕ) × IsRightDescent A w s → TurnsR n → r_polynomial A (longest ++ w) (longest ++ x) ≡ r_polynomial A x w
      step (s, d) lower = ⊎_elim down up (descends x s)
        where
          size : word_length A (w ++ s ∷ []) ≡ n
          size = one_less w s n d e

          -- R(w0 w, w0 x) = R(w0 ws, w0 xs) = R(xs,ws) = R(x,w)
          down : IsRightDescent A x s → r_polynomial A (longest ++ w) (longest ++ x) ≡ r_polynomial A x w
          down c =
              sym (r_polynomial-same A g (turned-push_twice A g longest is w s) (turned-push_twice A g longest is x s))
              ∙ sym (r-right_shorter A g (longest ++ (w ++ s ∷ [])) (longest ++ (x ++ s ∷ [])) s (shortened x s c)
              (shortened w s d))
              ∙ lower (x ++ s ∷ []) (w ++ s ∷ []) size ∙ sym (r-right_shorter A g x w s d c)

          -- R(w0 w, w0 x) = (q-1) R(w0 ws, w0 x) + q R(w0 ws, w0 xs) = (q-1) R(x,ws) + q R(xs,ws), and R(x,ws) = R(xs,w)
          up : (IsRightDescent A x s → ⊥) → r_polynomial A (longest ++ w) (longest ++ x) ≡ r_polynomial A x w
          up c =
              r-right_longer A g (longest ++ w) (longest ++ x) s (turned-descent A g longest is x s (descent-letter A g w s d) c)
              (turned-ascent A g longest is w s d)
              ∙ ap (λ (f : Coefficients). plus (times_q_less_one f)
              (times_q (r_polynomial A ((longest ++ w) ++ s ∷ []) ((longest ++ x) ++ s ∷ []))))
              (ap (λ (u : List ℕ). r_polynomial A u (longest ++ x)) (turned-push A g longest is w s) ∙ lower x (w ++ s ∷ []) size
              ∙ sym (r-right_moved A g x w s d c))
              ∙ ap (λ (f : Coefficients). plus (times_q_less_one (r_polynomial A (x ++ s ∷ []) w)) (times_q f))
              (ap (λ (u : List ℕ). r_polynomial A u ((longest ++ x) ++ s ∷ [])) (turned-push A g longest is w s)
              ∙ ap (r_polynomial A (longest ++ (w ++ s ∷ []))) (turned-push A g longest is x s)
              ∙ lower (x ++ s ∷ []) (w ++ s ∷ []) size)
              ∙ sym (r-right_longer A g x w s d c)

  -- R(w0 w, w0 x) = R(x,w)
  pub turned-r : (x w : List ℕ) → r_polynomial A (longest ++ w) (longest ++ x) ≡ r_polynomial A x w
  turned-r x w = turned_r (word_length A w) x w refl

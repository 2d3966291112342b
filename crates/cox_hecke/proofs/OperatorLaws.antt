-- The operators of the Hecke algebra, which are those with the sign `true`. For a reduced word of w the product of the T(s) is T(w).
use Rattle.std.proofs.Common.{◌≡◌, ℕ, zero, suc, Bool, true, false, not, if◌then◌else◌, List, [], ◌∷◌, ◌++◌, reverse, ⊎_elim, refl, ap, sym}
use Rattle.std.proofs.Common.{◌∙◌, arith}
use Rattle.std.proofs.lemmas.Int.{ints}
use Rattle.std.proofs.lemmas.Bool.{false≢true}
use Rattle.std.proofs.lemmas.List.{reverse-reverse}
use mathlib.Core.List.{reverse-cons}
use Rattle.cox_base.specs.declared.side.Side.TheVariants.{Left}
use Rattle.cox_base.specs.Matrix.{IsLetter}
use Rattle.cox_base.specs.IntegerMatrix.{IntegerMatrix}
use Rattle.cox_base.specs.Admissible.{IsAdmissible}
use Rattle.cox_base.specs.Element.{SameElement}
use Rattle.cox_base.specs.Reduced.{IsReduced}
use Rattle.cox_reflect.proofs.Elements.{same-sym, same-reverse}
use Rattle.cox_reflect.proofs.Search.{word_length-equal, word_length-length}
use Rattle.cox_base.specs.Length.{word_length}
use Rattle.cox_reflect.proofs.Lengths.{IsReduced-reverse, IsReduced-tail, empty_same}
use Rattle.cox_poly.specs.Coefficients.{Coefficients, zero_polynomial, one_polynomial, plus, times_q, times_q_less_one}
use Rattle.cox_rpoly.specs.InverseOperators.{shortens_left, left_inverse, left_inverse_word, unit}
use Rattle.cox_rpoly.proofs.Expansion.{unit-one, unit-other}
use Rattle.cox_hecke.specs.Family.{Family, RespectsElements}
use Rattle.cox_hecke.specs.ListedElements.{is_same}
use Rattle.cox_hecke.specs.Operators.{basis, left, right, right_inverse, left_word, right_word}
use Rattle.cox_hecke.specs.StepFamily.{step}
use Rattle.cox_hecke.proofs.Descents.{shortens_left-same, shortens_left-back, reduced-letter, reduced-rises}
use Rattle.cox_hecke.proofs.Signed.{at_inverses, at_inverses-respects, at_inverses-by_left, plus_signed, first_times_q, first_alone}
use Rattle.cox_hecke.proofs.Signed.{minus_signed}
use Rattle.cox_hecke.proofs.Signed.{family_times_q, left_signed-back, back-left, by_left-respects, by_right-respects}
use Rattle.cox_hecke.proofs.WordOperators.{left_along, back_along, left_along-same, back_along-same}
use Rattle.cox_hecke.proofs.ListSums.{same_or_not, same-is_same, not_same-is_same}
use Rattle.cox_hecke.proofs.ElementLists.{is_same-moved}
use Rattle.cox_hecke.proofs.Balance.{times_q-none}

left_word-append : (A : IntegerMatrix) (u v : List ℕ) (h : Family) → left_word A (u ++ v) h ≡ left_word A u (left_word A v h)
left_word-append A [] v h = refl
left_word-append A (s ∷ u) v h = ap (left A s) (left_word-append A u v h)

left_along-word : (A : IntegerMatrix) (u : List ℕ) (h : Family) → left_along A true u h ≡ left_word A (reverse u) h
left_along-word A [] h = refl
left_along-word A (s ∷ u) h =
    left_along-word A u (left A s h) ∙ sym (left_word-append A (reverse u) (s ∷ []) h)
    ∙ ap (λ (v : List ℕ). left_word A v h) (sym (reverse-cons s u))

back_along-word : (A : IntegerMatrix) (u : List ℕ) (h : Family) → left_inverse_word A u h ≡ back_along A true u h
back_along-word A [] h = refl
back_along-word A (s ∷ u) h = ap (left_inverse A s) (back_along-word A u h)

-- (1 + T(s)) h
pub step-sum : (A : IntegerMatrix) (s : ℕ) (h : Family) (x : List ℕ) (k : ℕ) → step Left A s h x k ≡ plus (h x) (left A s h x) k
step-sum A s h x k = go (shortens_left A s x) k
  where
    go : (b : Bool) (k : ℕ) → (if b then plus (h (s ∷ x)) (times_q (h x)) else plus (times_q (h (s ∷ x))) (h x)) k
        ≡ plus (h x) (if b then plus (h (s ∷ x)) (times_q_less_one (h x)) else times_q (h (s ∷ x))) k
    go true zero = omega (arith, ints)
    go true (suc k) = omega (arith, ints)
    go false zero = omega (arith, ints)
    go false (suc k) = omega (arith, ints)

module _ (A : IntegerMatrix) (g : IsAdmissible A) where
  -- ---- families that respect elements

  pub left-respects : (s : ℕ) (h : Family) → RespectsElements A h → RespectsElements A (left A s h)
  left-respects s h r = by_left-respects A g (plus_signed true) first_times_q s h r

  pub right-respects : (s : ℕ) (h : Family) → RespectsElements A h → RespectsElements A (right A s h)
  right-respects s h r = by_right-respects A g (plus_signed true) first_times_q s h r

  pub left_inverse-respects : (s : ℕ) (h : Family) → RespectsElements A h → RespectsElements A (left_inverse A s h)
  left_inverse-respects s h r = by_left-respects A g first_alone (minus_signed true) s h r

  pub right_inverse-respects : (s : ℕ) (h : Family) → RespectsElements A h → RespectsElements A (right_inverse A s h)
  right_inverse-respects s h r = by_right-respects A g first_alone (minus_signed true) s h r

  -- ---- operators of words

  left_word-along : (u : List ℕ) (h : Family) → left_word A u h ≡ left_along A true (reverse u) h
  left_word-along u h = sym (left_along-word A (reverse u) h ∙ ap (λ (v : List ℕ). left_word A v h) (reverse-reverse u))

  pub left_word-same : (u v : List ℕ) (h : Family) → IsReduced A u → IsReduced A v → SameElement A u v → RespectsElements A h
      → left_word A u h ≡ left_word A v h
  left_word-same u v h c d e r =
      left_word-along u h
      ∙ left_along-same A g true (reverse u) (reverse v) h (IsReduced-reverse A g u c) (IsReduced-reverse A g v d) (same-reverse A g e) r
      ∙ sym (left_word-along v h)

  right_along : (u : List ℕ) (h : Family) → at_inverses (left_along A true u h) ≡ right_word A u (at_inverses h)
  right_along [] h = refl
  right_along (s ∷ u) h = right_along u (left A s h) ∙ ap (right_word A u) (at_inverses-by_left A g (plus_signed true) first_times_q s h)

  twice : (h : Family) → at_inverses (at_inverses h) ≡ h
  twice h = λ i x. h (reverse-reverse x i)

  right_word-along : (u : List ℕ) (h : Family) → right_word A u h ≡ at_inverses (left_along A true u (at_inverses h))
  right_word-along u h = sym (right_along u (at_inverses h) ∙ ap (right_word A u) (twice h))

  pub right_word-same : (u v : List ℕ) (h : Family) → IsReduced A u → IsReduced A v → SameElement A u v → RespectsElements A h
      → right_word A u h ≡ right_word A v h
  right_word-same u v h c d e r =
      right_word-along u h ∙ ap at_inverses (left_along-same A g true u v (at_inverses h) c d e (at_inverses-respects A g h r))
      ∙ sym (right_word-along v h)

  pub left_inverse_word-same : (u v : List ℕ) (h : Family) → IsReduced A u → IsReduced A v → SameElement A u v → RespectsElements A h
      → left_inverse_word A u h ≡ left_inverse_word A v h
  left_inverse_word-same u v h c d e r =
      back_along-word A u h ∙ back_along-same A g true u v h c d e r ∙ sym (back_along-word A v h)

  -- ---- T(s1) .. T(sk) = T(w)

  left-basis : (s : ℕ) (u : List ℕ) → IsReduced A (s ∷ u) → left A s (basis A u) ≡ basis A (s ∷ u)
  left-basis s u c = λ i x. at x (shortens_left A s x) refl i
    where
      letter : IsLetter A.rank s
      letter = reduced-letter A g s u c

      rises : shortens_left A s u ≡ false
      rises = reduced-rises A g s u c

      other : (x : List ℕ) → shortens_left A s x ≡ true → is_same A u x ≡ false
      other x e = not_same-is_same A g u x (λ same. false≢true (sym rises ∙ shortens_left-same A g s same ∙ e))

      sum : (f : Coefficients) → plus f (times_q_less_one zero_polynomial) ≡ f
      sum f = λ i k. go k i
        where
          go : (k : ℕ) → plus f (times_q_less_one zero_polynomial) k ≡ f k
          go zero = omega (arith, ints)
          go (suc k) = omega (arith, ints)

      at : (x : List ℕ) (b : Bool) → shortens_left A s x ≡ b → left A s (basis A u) x ≡ basis A (s ∷ u) x
      at x true e = rw (e, other x e, is_same-moved A g s u x) (sum (basis A (s ∷ u) x))
      at x false e =
          let up : shortens_left A s (s ∷ x) ≡ true = shortens_left-back A g s x letter ∙ ap not e
          in rw (e, sym (is_same-moved A g s u x), other (s ∷ x) up) times_q-none

  pub left_word-basis : (u : List ℕ) → IsReduced A u → left_word A u (basis A []) ≡ basis A u
  left_word-basis [] c = refl
  left_word-basis (s ∷ u) c = ap (left A s) (left_word-basis u (IsReduced-tail A g s u c)) ∙ left-basis s u c

  is_same-reverse : (x y : List ℕ) → is_same A (reverse x) (reverse y) ≡ is_same A x y
  is_same-reverse x y = ⊎_elim (λ (e : SameElement A x y). same-is_same A g (same-reverse A g e) ∙ sym (same-is_same A g e))
      (λ (n : SameElement A x y → ⊥).
      not_same-is_same A g (reverse x) (reverse y) (λ e. n (rw (sym (reverse-reverse x), sym (reverse-reverse y)) (same-reverse A g e)))
      ∙ sym (not_same-is_same A g x y n))
      (same_or_not A g x y)

  basis-reverse : (w : List ℕ) → at_inverses (basis A (reverse w)) ≡ basis A w
  basis-reverse w = λ i x. (if is_same-reverse w x i then one_polynomial else zero_polynomial)

  pub right_word-basis : (u : List ℕ) → IsReduced A u → right_word A u (basis A []) ≡ basis A u
  right_word-basis u c =
      right_word-along u (basis A [])
      ∙ ap at_inverses
      (ap (left_along A true u) (basis-reverse []) ∙ left_along-word A u (basis A [])
      ∙ left_word-basis (reverse u) (IsReduced-reverse A g u c))
      ∙ basis-reverse u

  pub unit-basis : unit A ≡ basis A []
  unit-basis = λ i x. at x i
    where
      at : (x : List ℕ) → unit A x ≡ basis A [] x
      at x = ⊎_elim (λ (e : SameElement A [] x). rw (same-is_same A g e) (unit-one A x (identity e)))
          (λ (n : SameElement A [] x → ⊥).
          rw (not_same-is_same A g [] x n) (unit-other A x (λ z. n (same-sym A g (empty_same A g x z)))))
          (same_or_not A g [] x)
        where
          identity : SameElement A [] x → word_length A x ≡ 0
          identity e = omega (arith, word_length-equal A g e, word_length-length A g [])

  -- ---- the same on the right

  pub right-right_inverse : (s : ℕ) (h : Family) → IsLetter A.rank s → RespectsElements A h
      → right A s (right_inverse A s h) ≡ family_times_q h
  right-right_inverse s h l r =
      sym (at_inverses-by_left A g (plus_signed true) first_times_q s (left_inverse A s (at_inverses h))
      ∙ ap (right A s) (at_inverses-by_left A g first_alone (minus_signed true) s (at_inverses h) ∙ ap (right_inverse A s) (twice h)))
      ∙ ap at_inverses (left_signed-back A g true s (at_inverses h) l (at_inverses-respects A g h r)) ∙ ap family_times_q (twice h)

  pub inverse-right : (s : ℕ) (h : Family) → IsLetter A.rank s → RespectsElements A h → right_inverse A s (right A s h) ≡ family_times_q h
  inverse-right s h l r =
      sym (at_inverses-by_left A g first_alone (minus_signed true) s (left A s (at_inverses h))
      ∙ ap (right_inverse A s) (at_inverses-by_left A g (plus_signed true) first_times_q s (at_inverses h) ∙ ap (right A s) (twice h)))
      ∙ ap at_inverses (back-left A g true s (at_inverses h) l (at_inverses-respects A g h r)) ∙ ap family_times_q (twice h)

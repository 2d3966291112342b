-- R-polynomials by operators: R(x,w) is the coefficient at x of the second operators with the sign `false`, along any reduced word of w, at
-- T(e). So it obeys its recursion for every left descent; it is the same at inverses; and so it obeys the recursion for every right
-- descent.
use Rattle.std.proofs.Common.{◌≡◌, ℕ, zero, suc, Bool, true, false, not, if◌then◌else◌, List, [], ◌∷◌, ◌++◌, reverse}
use Rattle.std.proofs.Common.{refl, ap, sym, ◌∙◌, ⊎_elim, arith}
use Rattle.std.proofs.lemmas.Int.{ints}
use Rattle.std.proofs.lemmas.Bool.{cases_eq}
use Rattle.std.proofs.lemmas.List.Elements.{All-head, All-tail}
use Rattle.std.proofs.lemmas.List.{reverse-reverse}
use mathlib.Core.List.{reverse-cons}
use Rattle.cox_base.specs.Matrix.{IsLetter, IsWord}
use Rattle.cox_base.specs.IntegerMatrix.{IntegerMatrix}
use Rattle.cox_base.specs.Admissible.{IsAdmissible}
use Rattle.cox_base.specs.Element.{SameElement}
use Rattle.cox_base.specs.ShortLex.{normal_form}
use Rattle.cox_base.specs.Length.{word_length}
use Rattle.cox_base.specs.Reduced.{IsReduced}
use Rattle.cox_base.specs.Descents.{IsLeftDescent, IsRightDescent}
use Rattle.cox_reflect.proofs.Elements.{same-refl, same-sym, same-trans, same-cons, same-push, same-square, same-push_twice, same-reverse}
use Rattle.cox_reflect.proofs.Search.{normal_form-same, word_length-equal, word_length-length, IsWord-normal_form}
use Rattle.cox_reflect.proofs.Lengths.{word_length-is, word_length-reverse, IsReduced-normal_form, IsReduced-reverse, cons-word_length}
use Rattle.cox_reflect.proofs.WordsAndSubwords.{IsWord-reverse, reverse-push}
use Rattle.cox_reflect.proofs.Roots.{left_descent-letter, descent-reverse, reverse-descent}
use Rattle.cox_reflect.proofs.Lengths.{empty_same}
use Rattle.cox_poly.specs.Coefficients.{Coefficients, zero_polynomial, plus, times_q, times_q_less_one}
use Rattle.cox_poly.specs.Multiples.{minus}
use Rattle.cox_rpoly.specs.RPolynomial.{r_polynomial}
use Rattle.cox_rpoly.specs.Recursion.{r_along}
use Rattle.cox_rpoly.specs.InverseOperators.{shortens_left, unit}
use Rattle.cox_rpoly.proofs.AlongWords.{along-shorter, along-longer}
use Rattle.cox_rpoly.proofs.Expansion.{unit-other, r_polynomial-is}
use Rattle.cox_rpoly.proofs.PolynomialsOfElements.{r_polynomial-same}
use Rattle.cox_hecke.specs.Family.{Family, RespectsElements}
use Rattle.cox_hecke.specs.Operators.{shortens_right}
use Rattle.cox_hecke.proofs.Descents.{nat_lt-yes, nat_lt-no, yes-nat_lt, no-nat_lt, shortens_left-back}
use Rattle.cox_hecke.proofs.Signed.{signed, left_back, right_back, at_inverses, at_inverses-by_left, first_alone, minus_signed}
use Rattle.cox_hecke.proofs.Signed.{left_back-right_back}
use Rattle.cox_hecke.proofs.WordOperators.{back_along, back_along-respects, back_along-same}

-- ---- along a word, by these operators

longer_core : (f h : Coefficients) (k : ℕ) → plus (times_q_less_one f) (times_q h) k ≡ minus (times_q h) (signed false f) k
longer_core f h zero = omega (arith, ints)
longer_core f h (suc k) = omega (arith, ints)

pub along-operators : (A : IntegerMatrix) (u : List ℕ) (x : List ℕ) → r_along A x u ≡ back_along A false u (unit A) x
unfolding r_along
along-operators A [] x = refl
along-operators A (s ∷ u) x = go (shortens_left A s x) refl (along-operators A u x) (along-operators A u (s ∷ x))
  where
    go : (b : Bool) → shortens_left A s x ≡ b → r_along A x u ≡ back_along A false u (unit A) x
        → r_along A (s ∷ x) u ≡ back_along A false u (unit A) (s ∷ x) → r_along A x (s ∷ u) ≡ back_along A false (s ∷ u) (unit A) x
    go true e same moved = along-shorter A x s u (yes-nat_lt (word_length A (s ∷ x)) (word_length A x) e) ∙ moved ∙ rw e refl
    go false e same moved =
        along-longer A x s u (no-nat_lt (word_length A (s ∷ x)) (word_length A x) e)
        ∙ ap (λ (f : Coefficients). plus (times_q_less_one f) (times_q (r_along A (s ∷ x) u))) same
        ∙ ap (λ (h : Coefficients). plus (times_q_less_one (back_along A false u (unit A) x)) (times_q h)) moved
        ∙ (λ i k. longer_core (back_along A false u (unit A) x) (back_along A false u (unit A) (s ∷ x)) k i) ∙ rw e refl

sides_core : (b p r : Bool) (k : ℕ)
    → (if p then zero_polynomial else minus (times_q zero_polynomial) (signed b zero_polynomial)) k
    ≡ (if r then zero_polynomial else minus (times_q zero_polynomial) (signed b zero_polynomial)) k
sides_core b true true k = refl
sides_core true true false zero = refl
sides_core true true false (suc k) = refl
sides_core false true false zero = refl
sides_core false true false (suc k) = refl
sides_core true false true zero = refl
sides_core true false true (suc k) = refl
sides_core false false true zero = refl
sides_core false false true (suc k) = refl
sides_core b false false k = refl

back_along-append : (A : IntegerMatrix) (b : Bool) (u v : List ℕ) (h : Family)
    → back_along A b (u ++ v) h ≡ back_along A b u (back_along A b v h)
back_along-append A b [] v h = refl
back_along-append A b (s ∷ u) v h = ap (left_back A b s) (back_along-append A b u v h)

module _ (A : IntegerMatrix) (g : IsAdmissible A) where
  pub unit-respects : RespectsElements A (unit A)
  unit-respects x y e k = rw (word_length-equal A g e) refl

  -- by any reduced word
  pub r-word : (x w u : List ℕ) → IsReduced A u → SameElement A u w → r_polynomial A x w ≡ back_along A false u (unit A) x
  r-word x w u r e =
      r_polynomial-is A g x w ∙ along-operators A (normal_form A w) x
      ∙ ap (λ (h : Family). h x)
      (back_along-same A g false (normal_form A w) u (unit A) (IsReduced-normal_form A g w) r
      (same-trans A g (normal_form-same A g w) (same-sym A g e)) unit-respects)

  -- ---- a left descent, any

  descent-reduced : (w : List ℕ) (s : ℕ) → IsLeftDescent A w s → IsReduced A (s ∷ normal_form A (s ∷ w))
  descent-reduced w s d =
      omega (
        arith,
        word_length-equal A g (descent-same w s),
        word_length-is A (s ∷ w),
        cons-word_length A g s w,
        d,
      )
    where
      descent-same : (w : List ℕ) (s : ℕ) → SameElement A (s ∷ normal_form A (s ∷ w)) w
      descent-same w s = same-trans A g (same-cons A g s (normal_form-same A g (s ∷ w))) (same-square A g s w)

  r-left : (x w : List ℕ) (s : ℕ) → IsLeftDescent A w s → r_polynomial A x w ≡ left_back A false s (λ y. r_polynomial A y (s ∷ w)) x
  r-left x w s d =
      r-word x w (s ∷ normal_form A (s ∷ w)) (descent-reduced w s d)
      (same-trans A g (same-cons A g s (normal_form-same A g (s ∷ w))) (same-square A g s w))
      ∙ ap (λ (h : Family). left_back A false s h x)
      (λ i y. sym (r-word y (s ∷ w) (normal_form A (s ∷ w)) (IsReduced-normal_form A g (s ∷ w)) (normal_form-same A g (s ∷ w))) i)

  pub r-left_shorter : (x w : List ℕ) (s : ℕ) → IsLeftDescent A w s → IsLeftDescent A x s
      → r_polynomial A x w ≡ r_polynomial A (s ∷ x) (s ∷ w)
  r-left_shorter x w s d c = r-left x w s d ∙ rw (nat_lt-yes c) refl

  pub r-left_moved : (x w : List ℕ) (s : ℕ) → IsLeftDescent A w s → (IsLeftDescent A x s → ⊥)
      → r_polynomial A (s ∷ x) w ≡ r_polynomial A x (s ∷ w)
  r-left_moved x w s d n =
      let down : IsLeftDescent A (s ∷ x) s
      = yes-nat_lt (word_length A (s ∷ s ∷ x)) (word_length A (s ∷ x))
      (shortens_left-back A g s x (left_descent-letter A g w s d) ∙ ap not (nat_lt-no (word_length A (s ∷ x)) (word_length A x) n))
      in r-left_shorter (s ∷ x) w s d down ∙ r_polynomial-same A g (same-square A g s x) (same-refl A g (s ∷ w))

  pub r-left_longer : (x w : List ℕ) (s : ℕ) → IsLeftDescent A w s → (IsLeftDescent A x s → ⊥)
      → r_polynomial A x w ≡ plus (times_q_less_one (r_polynomial A (s ∷ x) w)) (times_q (r_polynomial A (s ∷ x) (s ∷ w)))
  r-left_longer x w s d n =
      r-left x w s d ∙ rw (nat_lt-no (word_length A (s ∷ x)) (word_length A x) n) refl
      ∙ sym (λ i k. longer_core (r_polynomial A x (s ∷ w)) (r_polynomial A (s ∷ x) (s ∷ w)) k i)
      ∙ ap (λ (f : Coefficients). plus (times_q_less_one f) (times_q (r_polynomial A (s ∷ x) (s ∷ w)))) (sym (r-left_moved x w s d n))

  -- ---- inverses

  -- at T(e) left and right are the same
  unit-sides : (b : Bool) (s : ℕ) → left_back A b s (unit A) ≡ right_back A b s (unit A)
  unit-sides b s = λ i x. at x i
    where
      -- sx = e exactly where xs = e
      left_then_right : (x : List ℕ) → word_length A (s ∷ x) ≡ 0 → word_length A (x ++ s ∷ []) ≡ 0
      left_then_right x z =
          let single : SameElement A x (s ∷ [])
          = same-trans A g (same-sym A g (same-square A g s x)) (same-cons A g s (empty_same A g (s ∷ x) z))
          in omega (
            arith,
            word_length-equal A g
                (same-trans A g (same-push A g s single) (same-square A g s [])),
            word_length-length A g [],
          )

      right_then_left : (x : List ℕ) → word_length A (x ++ s ∷ []) ≡ 0 → word_length A (s ∷ x) ≡ 0
      right_then_left x z =
          let single : SameElement A x (s ∷ [])
          = same-trans A g (same-sym A g (same-push_twice A g x s)) (same-push A g s (empty_same A g (x ++ s ∷ []) z))
          in omega (
            arith,
            word_length-equal A g
                (same-trans A g (same-cons A g s single) (same-square A g s [])),
            word_length-length A g [],
          )

      none_core : (p r : Bool) (k : ℕ)
          → (if p then zero_polynomial else minus (times_q zero_polynomial) (signed b zero_polynomial)) k
          ≡ (if r then zero_polynomial else minus (times_q zero_polynomial) (signed b zero_polynomial)) k
      none_core p r k = sides_core b p r k

      at : (x : List ℕ) → left_back A b s (unit A) x ≡ right_back A b s (unit A) x
      at x = ⊎_elim (λ (z : word_length A (s ∷ x) ≡ 0). meet z) (λ (n : word_length A (s ∷ x) ≡ 0 → ⊥).
          miss n (λ e. n (right_then_left x e))) (cases_eq (word_length A (s ∷ x)) 0)
        where
          meet : word_length A (s ∷ x) ≡ 0 → left_back A b s (unit A) x ≡ right_back A b s (unit A) x
          meet z = rw (z, left_then_right x z) refl

          miss : (word_length A (s ∷ x) ≡ 0 → ⊥) → (word_length A (x ++ s ∷ []) ≡ 0 → ⊥)
              → left_back A b s (unit A) x ≡ right_back A b s (unit A) x
          miss n m =
              ⊎_elim
              (λ (z : word_length A x ≡ 0).
              rw (
                nat_lt-no (word_length A (s ∷ x)) (word_length A x) (λ l. omega (arith, l, z)),
                nat_lt-no (word_length A (x ++ s ∷ [])) (word_length A x) (λ l. omega (arith, l, z)),
                unit-other A (s ∷ x) n,
                unit-other A (x ++ s ∷ []) m,
              ) refl)
              (λ (c : word_length A x ≡ 0 → ⊥).
              rw (unit-other A (s ∷ x) n, unit-other A (x ++ s ∷ []) m, unit-other A x c)
              (λ i k. none_core (shortens_left A s x) (shortens_right A s x) k i))
              (cases_eq (word_length A x) 0)

  unit-inverses : at_inverses (unit A) ≡ unit A
  unit-inverses = λ i x. at x i
    where
      at : (x : List ℕ) → unit A (reverse x) ≡ unit A x
      at x = rw (word_length-reverse A g x) refl

  back_along-right : (b : Bool) (u : List ℕ) (t : ℕ) (h : Family) → IsWord A.rank u → IsLetter A.rank t → RespectsElements A h
      → back_along A b u (right_back A b t h) ≡ right_back A b t (back_along A b u h)
  back_along-right b [] t h c l r = refl
  back_along-right b (s ∷ u) t h c l r =
      ap (left_back A b s) (back_along-right b u t h (All-tail (IsLetter A.rank) s u c) l r)
      ∙ left_back-right_back A g b s t (back_along A b u h) (All-head (IsLetter A.rank) s u c) l (back_along-respects A g b u h r)

  back_along-reverse : (b : Bool) (u : List ℕ) → IsWord A.rank u
      → at_inverses (back_along A b u (unit A)) ≡ back_along A b (reverse u) (unit A)
  back_along-reverse b [] c = unit-inverses
  back_along-reverse b (s ∷ u) c =
      at_inverses-by_left A g first_alone (minus_signed b) s (back_along A b u (unit A))
      ∙ ap (right_back A b s) (back_along-reverse b u (All-tail (IsLetter A.rank) s u c))
      ∙ sym (back_along-right b (reverse u) s (unit A) (IsWord-reverse u (All-tail (IsLetter A.rank) s u c))
      (All-head (IsLetter A.rank) s u c)
      unit-respects)
      ∙ ap (back_along A b (reverse u)) (sym (unit-sides b s))
      ∙ sym (back_along-append A b (reverse u) (s ∷ []) (unit A))
      ∙ ap (λ (v : List ℕ). back_along A b v (unit A)) (sym (reverse-cons s u))

  pub r-inverse : (x w : List ℕ) → r_polynomial A (reverse x) (reverse w) ≡ r_polynomial A x w
  r-inverse x w =
      r-word (reverse x) (reverse w) (reverse (normal_form A w)) (IsReduced-reverse A g (normal_form A w) (IsReduced-normal_form A g w))
      (same-reverse A g (normal_form-same A g w))
      ∙ ap (λ (h : Family). h (reverse x)) (sym (back_along-reverse false (normal_form A w) (IsWord-normal_form A g w)))
      ∙ ap (back_along A false (normal_form A w) (unit A)) (reverse-reverse x)
      ∙ sym (r-word x w (normal_form A w) (IsReduced-normal_form A g w) (normal_form-same A g w))

  -- ---- a right descent, any

  r-push : (x w : List ℕ) (s t : ℕ) → r_polynomial A (s ∷ reverse x) (t ∷ reverse w) ≡ r_polynomial A (x ++ s ∷ []) (w ++ t ∷ [])
  r-push x w s t =
      ap (λ (y : List ℕ). r_polynomial A y (t ∷ reverse w)) (sym (reverse-push x s))
      ∙ ap (r_polynomial A (reverse (x ++ s ∷ []))) (sym (reverse-push w t)) ∙ r-inverse (x ++ s ∷ []) (w ++ t ∷ [])

  r-push_one : (x w : List ℕ) (s : ℕ) → r_polynomial A (s ∷ reverse x) (reverse w) ≡ r_polynomial A (x ++ s ∷ []) w
  r-push_one x w s = ap (λ (y : List ℕ). r_polynomial A y (reverse w)) (sym (reverse-push x s)) ∙ r-inverse (x ++ s ∷ []) w

  pub r-right_shorter : (x w : List ℕ) (s : ℕ) → IsRightDescent A w s → IsRightDescent A x s
      → r_polynomial A x w ≡ r_polynomial A (x ++ s ∷ []) (w ++ s ∷ [])
  r-right_shorter x w s d c =
      sym (r-inverse x w) ∙ r-left_shorter (reverse x) (reverse w) s (descent-reverse A g w s d) (descent-reverse A g x s c)
      ∙ r-push x w s s

  pub r-right_longer : (x w : List ℕ) (s : ℕ) → IsRightDescent A w s → (IsRightDescent A x s → ⊥)
      → r_polynomial A x w ≡ plus (times_q_less_one (r_polynomial A (x ++ s ∷ []) w)) (times_q (r_polynomial A (x ++ s ∷ []) (w ++ s ∷ [])))
  r-right_longer x w s d n =
      sym (r-inverse x w)
      ∙ r-left_longer (reverse x) (reverse w) s (descent-reverse A g w s d) (λ c. n (reverse-descent A g x s c))
      ∙ ap (λ (f : Coefficients). plus (times_q_less_one f) (times_q (r_polynomial A (s ∷ reverse x) (s ∷ reverse w)))) (r-push_one x w s)
      ∙ ap (λ (f : Coefficients). plus (times_q_less_one (r_polynomial A (x ++ s ∷ []) w)) (times_q f)) (r-push x w s s)

  pub r-right_moved : (x w : List ℕ) (s : ℕ) → IsRightDescent A w s → (IsRightDescent A x s → ⊥)
      → r_polynomial A (x ++ s ∷ []) w ≡ r_polynomial A x (w ++ s ∷ [])
  r-right_moved x w s d n =
      sym (r-push_one x w s)
      ∙ r-left_moved (reverse x) (reverse w) s (descent-reverse A g w s d) (λ c. n (reverse-descent A g x s c))
      ∙ ap (r_polynomial A (reverse x)) (sym (reverse-push w s)) ∙ r-inverse x (w ++ s ∷ [])

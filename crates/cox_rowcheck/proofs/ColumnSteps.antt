-- From the column of v to that of v t, for a letter t that makes v longer: the recursion of R on the right, and one entry.
use Rattle.std.proofs.Common.{◌≡◌, ℕ, zero, suc, ◌+◌, ◌^◌, ◌<◌, ◌≤◌, List, [], ◌∷◌, ◌++◌, length, Contains, ℤ, pos}
use Rattle.std.proofs.Common.{ap, sym, ◌∙◌, arith, lit≤}
use Rattle.std.proofs.lemmas.Int.{ints}
use Rattle.cox_base.specs.Matrix.{IsLetter}
use Rattle.cox_base.specs.IntegerMatrix.{IntegerMatrix}
use Rattle.cox_base.specs.Admissible.{IsAdmissible}
use Rattle.cox_base.specs.ShortLex.{normal_form}
use Rattle.cox_base.specs.Length.{word_length}
use Rattle.cox_base.specs.Descents.{IsRightDescent}
use Rattle.cox_reflect.proofs.Elements.{same-refl, same-push_twice}
use Rattle.cox_reflect.proofs.Search.{normal_form-same, word_length-equal}
use Rattle.cox_reflect.proofs.Deletion.{right_length}
use Rattle.cox_reflect.proofs.Bruhat.{below-length}
use Rattle.cox_poly.specs.Coefficients.{Coefficients, zero_polynomial, plus, times_q, times_q_less_one}
use Rattle.cox_poly.specs.Polynomial.{coefficient, HasSmallCoefficients}
use Rattle.cox_poly.proofs.Norms.{HasNormAtMost-coefficient}
use Rattle.cox_rpoly.specs.declared.TheConstants.{MAX_DIFFERENCE}
use Rattle.cox_rpoly.specs.RPolynomial.{r_polynomial}
use Rattle.cox_rpoly.specs.Terms.{LeavesRoom, numbered}
use Rattle.cox_rpoly.proofs.PolynomialsOfElements.{r_polynomial-same, r_polynomial-norm, r_polynomial-degree, r_polynomial-not_below}
use Rattle.cox_hecke.proofs.RPolynomials.{r-right_shorter, r-right_longer, r-right_moved}
use Rattle.cox_context.specs.Closed.{IsClosed}
use Rattle.cox_context.specs.Numbers.{word_at}
use Rattle.cox_context.proofs.Shifting.{member-below, right_shift-less, right_descent-member}
use Rattle.cox_rowcheck.specs.Columns.{IsColumn}

module _ (A : IntegerMatrix) (g : IsAdmissible A) where
  -- ---- the recursion

  module _ (v : List ℕ) (t : ℕ) (down : IsRightDescent A (v ++ t ∷ []) t) where
    back : (x : List ℕ) → r_polynomial A x ((v ++ t ∷ []) ++ t ∷ []) ≡ r_polynomial A x v
    back x = r_polynomial-same A g (same-refl A g x) (same-push_twice A g v t)

    step-shorter : (x : List ℕ) → IsRightDescent A x t → r_polynomial A x (v ++ t ∷ []) ≡ r_polynomial A (x ++ t ∷ []) v
    step-shorter x d = r-right_shorter A g x (v ++ t ∷ []) t down d ∙ back (x ++ t ∷ [])

    step-longer : (x : List ℕ) → (IsRightDescent A x t → ⊥)
        → r_polynomial A x (v ++ t ∷ []) ≡ plus (times_q_less_one (r_polynomial A x v)) (times_q (r_polynomial A (x ++ t ∷ []) v))
    step-longer x n =
        r-right_longer A g x (v ++ t ∷ []) t down n
        ∙ ap (λ (f : Coefficients). plus (times_q_less_one f) (times_q (r_polynomial A (x ++ t ∷ []) ((v ++ t ∷ []) ++ t ∷ []))))
        (r-right_moved A g x (v ++ t ∷ []) t down n ∙ back x)
        ∙ ap (λ (f : Coefficients). plus (times_q_less_one (r_polynomial A x v)) (times_q f)) (back (x ++ t ∷ []))

  -- R(x,v) leaves room for q times it and for sums of three
  pub r-leaves_room : (x v : List ℕ) (p : List ℤ) → word_length A v < MAX_DIFFERENCE → ((k : ℕ) → coefficient p k ≡ r_polynomial A x v k)
      → LeavesRoom p
  r-leaves_room x v p short is = record {
    top = is MAX_DIFFERENCE ∙ r_polynomial-degree A g x v 38 (omega (arith, short)) MAX_DIFFERENCE (omega arith);
    small = λ k.
        let bound = HasNormAtMost-coefficient (r_polynomial A x v) (3 ^ 38) (r_polynomial-norm A g x v 38 (omega (arith, short))) k
        in let power : 3 ^ 38 ≤ 2 ^ 61 = lit≤ tt
        in rw (is k) (omega (arith, bound, power));
  }

  -- its coefficients have 64 bits
  pub r-narrow : (x v : List ℕ) (p : List ℤ) → word_length A v ≤ MAX_DIFFERENCE → ((k : ℕ) → coefficient p k ≡ r_polynomial A x v k)
      → HasSmallCoefficients p
  r-narrow x v p short is k =
      let bound = HasNormAtMost-coefficient (r_polynomial A x v) (3 ^ 39) (r_polynomial-norm A g x v 39 (omega (arith, short))) k
      in let power : 3 ^ 39 ≤ 2 ^ 63 = lit≤ tt
      in rw (is k) (omega (arith, bound, power))

  -- R(x,v) has no term of the degree n where l(v) < l(x) + n
  pub r-low : (x v : List ℕ) (n : ℕ) → word_length A v < word_length A x + n → (k : ℕ) → n ≤ k → r_polynomial A x v k ≡ pos 0
  r-low x v zero near k l = r_polynomial-not_below A g x v (λ b. omega (arith, near, below-length A g b)) k
  r-low x v (suc n) near k l = r_polynomial-degree A g x v n (omega (arith, near)) k (omega (arith, l))

  -- ---- an entry

  module _ (members : List (List ℕ)) (closed : IsClosed A members) (at t : ℕ) (letter : IsLetter A.rank t) (inside : at < length members)
      (ascent : IsRightDescent A (word_at members at) t → ⊥) (column : List (List ℤ))
      (is : IsColumn A members (word_at members at) column) (i : ℕ) (i_in : i < length members) where
    abbrev v : List ℕ
    v = word_at members at

    abbrev x : List ℕ
    x = word_at members i

    -- t shortens v t
    down : IsRightDescent A (v ++ t ∷ []) t
    down = omega (arith, word_length-equal A g (same-push_twice A g v t), ascent, right_length A g v t letter)

    moved : (j : ℕ) → word_at members j ≡ normal_form A (x ++ t ∷ [])
        → r_polynomial A (x ++ t ∷ []) v ≡ r_polynomial A (word_at members j) v
    moved j e = rw e (sym (r_polynomial-same A g (normal_form-same A g (x ++ t ∷ [])) (same-refl A g v)))

    -- where x t is no member it is not below v
    outside : (Contains members (normal_form A (x ++ t ∷ [])) → ⊥) → r_polynomial A (x ++ t ∷ []) v ≡ zero_polynomial
    outside n = λ i k. r_polynomial-not_below A g (x ++ t ∷ []) v
        (λ b. n (member-below A g members closed (x ++ t ∷ []) at inside b)) k i

    joined : (f h f' h' : Coefficients) → ((k : ℕ) → f k ≡ f' k) → ((k : ℕ) → h k ≡ h' k) → (k : ℕ)
        → plus (times_q_less_one f) (times_q h) k ≡ plus (times_q_less_one f') (times_q h') k
    joined f h f' h' a b zero = omega (arith, ints, a zero)
    joined f h f' h' a b (suc k) = omega (arith, ints, a (suc k), a k, b k)

    -- x t is a shorter member
    pub entry-shorter : (j : ℕ) → j < length members → j < i → word_at members j ≡ normal_form A (word_at members i ++ t ∷ [])
        → (k : ℕ) → coefficient (numbered column j) k ≡ r_polynomial A (word_at members i) (word_at members at ++ t ∷ []) k
    entry-shorter j m less e k =
        is.value j k m
        ∙ sym (ap (λ (f : Coefficients). f k)
        (step-shorter v t down x ((right_shift-less A g members closed t i j letter i_in m e).0 less) ∙ moved j e))

    -- f is R(x,v), and h is R(x t,v)
    longer : (IsRightDescent A x t → ⊥) → (p f h : List ℤ) → ((k : ℕ) → coefficient f k ≡ coefficient (numbered column i) k)
        → ((k : ℕ) → coefficient h k ≡ r_polynomial A (x ++ t ∷ []) v k)
        → ((k : ℕ) → coefficient p k ≡ plus (times_q_less_one (coefficient f)) (times_q (coefficient h)) k)
        → (k : ℕ) → coefficient p k ≡ r_polynomial A x (v ++ t ∷ []) k
    longer n p f h here there made k =
        made k
        ∙ joined (coefficient f) (coefficient h) (r_polynomial A x v) (r_polynomial A (x ++ t ∷ []) v)
        (λ k. here k ∙ is.value i k i_in) there k
        ∙ sym (ap (λ (f : Coefficients). f k) (step-longer v t down x n))

    -- x t is a longer member
    pub entry-longer : (j : ℕ) → j < length members → (j < i → ⊥) → word_at members j ≡ normal_form A (word_at members i ++ t ∷ [])
        → (p f h : List ℤ) → ((k : ℕ) → coefficient f k ≡ coefficient (numbered column i) k)
        → ((k : ℕ) → coefficient h k ≡ coefficient (numbered column j) k)
        → ((k : ℕ) → coefficient p k ≡ plus (times_q_less_one (coefficient f)) (times_q (coefficient h)) k)
        → (k : ℕ) → coefficient p k ≡ r_polynomial A (word_at members i) (word_at members at ++ t ∷ []) k
    entry-longer j m later e p f h here there made =
        longer (λ d. later ((right_shift-less A g members closed t i j letter i_in m e).1 d)) p f h here
        (λ k. there k ∙ is.value j k m ∙ sym (ap (λ (f : Coefficients). f k) (moved j e))) made

    -- x t is no member
    pub entry-outside : (Contains members (normal_form A (word_at members i ++ t ∷ [])) → ⊥) → (p f h : List ℤ)
        → ((k : ℕ) → coefficient f k ≡ coefficient (numbered column i) k) → ((k : ℕ) → coefficient h k ≡ zero_polynomial k)
        → ((k : ℕ) → coefficient p k ≡ plus (times_q_less_one (coefficient f)) (times_q (coefficient h)) k)
        → (k : ℕ) → coefficient p k ≡ r_polynomial A (word_at members i) (word_at members at ++ t ∷ []) k
    entry-outside n p f h here none made =
        longer (λ d. n (right_descent-member A g members closed t i i_in d)) p f h here
        (λ k. none k ∙ sym (ap (λ (f : Coefficients). f k) (outside n))) made

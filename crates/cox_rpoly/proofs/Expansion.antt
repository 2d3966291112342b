-- T(w^-1)^-1 by the recursion (Humphreys 7.4, 7.5): the operators q T(s)^-1 along a word of w, at T(e), give (-1)^d R(x,w) at x, where R
-- goes along the word and d is the difference of the lengths. So R-polynomials obey the recursion.
use Rattle.std.proofs.Common.{◌≡◌, ℕ, zero, suc, ◌+◌, ◌-◌, ◌<◌, ◌≤◌, false, List, [], ◌∷◌, length, pos, ⊎_elim}
use Rattle.std.proofs.Common.{refl, ap, sym, ◌∙◌, arith}
use Rattle.std.specs.Prelude.{◌==◌}
use Rattle.std.proofs.lemmas.Int.{ints}
use Rattle.std.proofs.lemmas.Bool.{cases_lt}
use Rattle.std.proofs.lemmas.Bool.Decides.{nat_tests}
use Rattle.std.proofs.lemmas.List.Elements.{All-head, All-tail}
use Rattle.cox_base.specs.Matrix.{IsLetter, IsWord}
use Rattle.cox_base.specs.IntegerMatrix.{IntegerMatrix}
use Rattle.cox_base.specs.Admissible.{IsAdmissible}
use Rattle.cox_base.specs.ShortLex.{normal_form}
use Rattle.cox_base.specs.Length.{word_length}
use Rattle.cox_base.specs.Descents.{IsLeftDescent}
use Rattle.cox_reflect.proofs.Search.{IsWord-normal_form}
use Rattle.cox_reflect.proofs.Lengths.{word_length-is, cons-word_length}
use Rattle.cox_reflect.proofs.Deletion.{left_length}
use Rattle.cox_poly.specs.Coefficients.{Coefficients, zero_polynomial, one_polynomial, plus, times_q, times_q_less_one}
use Rattle.cox_poly.specs.Multiples.{minus, negated}
use Rattle.cox_rpoly.specs.InverseOperators.{left_inverse, left_inverse_word, unit}
use Rattle.cox_rpoly.specs.Sign.{times_sign}
use Rattle.cox_rpoly.specs.RPolynomial.{r_polynomial}
use Rattle.cox_rpoly.specs.Recursion.{r_along}
use Rattle.cox_rpoly.proofs.AlongWords.{along-shorter, along-longer, along-long, shortens, longer-length}
use Rattle.cox_rpoly.proofs.AlongWords.{shortens_left-yes, shortens_left-no}
use Rattle.cox_rpoly.proofs.Signs.{times_sign-plus, times_sign-minus, times_sign-times_q, times_sign-none, times_sign-twice}

at : {f h : Coefficients} → f ≡ h → (k : ℕ) → f k ≡ h k
at e k = ap (λ (f : Coefficients). f k) e

-- ---- one operator

inverse-shorter : (A : IntegerMatrix) (s : ℕ) (h : List ℕ → Coefficients) (x : List ℕ) → IsLeftDescent A x s
    → left_inverse A s h x ≡ h (s ∷ x)
inverse-shorter A s h x d = rw (shortens_left-yes A x s d) refl

inverse-longer : (A : IntegerMatrix) (s : ℕ) (h : List ℕ → Coefficients) (x : List ℕ) → (IsLeftDescent A x s → ⊥)
    → left_inverse A s h x ≡ minus (times_q (h (s ∷ x))) (times_q_less_one (h x))
inverse-longer A s h x n = rw (shortens_left-no A x s n) refl

none_left : {f h : Coefficients} → f ≡ zero_polynomial → h ≡ zero_polynomial → minus (times_q h) (times_q_less_one f) ≡ zero_polynomial
none_left e c = rw (e, c) (λ i k. nothing k i)
  where
    nothing : (k : ℕ) → minus (times_q zero_polynomial) (times_q_less_one zero_polynomial) k ≡ pos 0
    nothing zero = refl
    nothing (suc k) = refl

-- q h - (q-1) f is, up to the sign, (q-1) f' + q h'
with_signs : (d : ℕ) (f h f' h' : Coefficients) → ((k : ℕ) → f k ≡ times_sign d f' k)
    → ((k : ℕ) → times_q h k ≡ times_sign (suc d) (times_q h') k)
    → (k : ℕ) → minus (times_q h) (times_q_less_one f) k ≡ times_sign (suc d) (plus (times_q_less_one f') (times_q h')) k
with_signs d f h f' h' e c k =
    omega (
      arith,
      ints,
      e k,
      c k,
      at (ap times_q (λ i j. e j i)) k,
      times_sign-plus d (times_q_less_one f') (times_q h') k,
      times_sign-minus d (times_q f') f' k,
      times_sign-times_q d f' k,
    )

-- ---- T(e)

pub unit-one : (A : IntegerMatrix) (x : List ℕ) → word_length A x ≡ 0 → unit A x ≡ one_polynomial
unit-one A x z = rw z refl

pub unit-other : (A : IntegerMatrix) (x : List ℕ) → (word_length A x ≡ 0 → ⊥) → unit A x ≡ zero_polynomial
unit-other A x n = let e : (word_length A x == 0) ≡ false = grind (arith, nat_tests) in rw e refl

along-unit : (A : IntegerMatrix) (x : List ℕ) → unit A x ≡ r_along A x []
unfolding r_along
along-unit A x = refl

module _ (A : IntegerMatrix) (g : IsAdmissible A) where
  -- the coefficient at an x that has more letters than u is 0
  inverse-long : (u x : List ℕ) → length u < word_length A x → left_inverse_word A u (unit A) x ≡ zero_polynomial
  inverse-long [] x l = unit-other A x (λ e. omega (arith, e, l))
  inverse-long (s ∷ u) x l =
      ⊎_elim
      (λ (d : IsLeftDescent A x s). inverse-shorter A s (left_inverse_word A u (unit A)) x d
      ∙ inverse-long u (s ∷ x) (omega (arith, l, cons-word_length A g s x)))
      (λ (n : IsLeftDescent A x s → ⊥). inverse-longer A s (left_inverse_word A u (unit A)) x n
      ∙ none_left (inverse-long u x (omega (arith, l))) (inverse-long u (s ∷ x) (omega (arith, l, longer-length A x s n))))
      (shortens A x s)

  -- up to the sign it is the recursion along u
  inverse-signed : (u x : List ℕ) (d : ℕ) → IsWord A.rank u → length u ≡ word_length A x + d
      → (k : ℕ) → left_inverse_word A u (unit A) x k ≡ times_sign d (r_along A x u) k
  inverse-signed [] x zero c e k = at (along-unit A x) k
  inverse-signed [] x (suc d) c e k = absurd (omega (arith, e))
  inverse-signed (s ∷ u) x d c e k =
      ⊎_elim
      (λ (down : IsLeftDescent A x s).
      at (inverse-shorter A s (left_inverse_word A u (unit A)) x down) k
      ∙ inverse-signed u (s ∷ x) d (All-tail (IsLetter A.rank) s u c) (omega (arith, e, down, cons-word_length A g s x)) k
      ∙ ap (λ (f : Coefficients). times_sign d f k) (sym (along-shorter A x s u down)))
      (λ (none : IsLeftDescent A x s → ⊥).
      at (inverse-longer A s (left_inverse_word A u (unit A)) x none) k
      ∙ longer d e (rises none) (λ m f. inverse-signed u x m (All-tail (IsLetter A.rank) s u c) f)
      (λ m f. inverse-signed u (s ∷ x) m (All-tail (IsLetter A.rank) s u c) f) k
      ∙ ap (λ (f : Coefficients). times_sign d f k) (sym (along-longer A x s u none)))
      (shortens A x s)
    where
      rises : (IsLeftDescent A x s → ⊥) → word_length A (s ∷ x) ≡ word_length A x + 1
      rises none = ⊎_elim (λ e. e) (λ e. absurd (none (omega (arith, e)))) (left_length A g s x (All-head (IsLetter A.rank) s u c))

      longer : (d : ℕ) → length (s ∷ u) ≡ word_length A x + d → word_length A (s ∷ x) ≡ word_length A x + 1
          → ((m : ℕ) → length u ≡ word_length A x + m
          → (k : ℕ) → left_inverse_word A u (unit A) x k ≡ times_sign m (r_along A x u) k)
          → ((m : ℕ) → length u ≡ word_length A (s ∷ x) + m
          → (k : ℕ) → left_inverse_word A u (unit A) (s ∷ x) k ≡ times_sign m (r_along A (s ∷ x) u) k)
          → (k : ℕ) → minus (times_q (left_inverse_word A u (unit A) (s ∷ x))) (times_q_less_one (left_inverse_word A u (unit A) x)) k
          ≡ times_sign d (plus (times_q_less_one (r_along A x u)) (times_q (r_along A (s ∷ x) u))) k
      longer zero e size here there k =
          at (none_left (inverse-long u x (omega (arith, e))) (inverse-long u (s ∷ x) (omega (arith, e, size)))) k
          ∙ sym (rw (none_here, none_there) (nothing k))
        where
          none_here : r_along A x u ≡ zero_polynomial
          none_here = λ i k. along-long A g x u (omega (arith, e)) k i

          none_there : r_along A (s ∷ x) u ≡ zero_polynomial
          none_there = λ i k. along-long A g (s ∷ x) u (omega (arith, e, size)) k i

          nothing : (k : ℕ) → plus (times_q_less_one zero_polynomial) (times_q zero_polynomial) k ≡ pos 0
          nothing zero = refl
          nothing (suc k) = refl
      longer (suc d) e size here there k =
          with_signs d (left_inverse_word A u (unit A) x) (left_inverse_word A u (unit A) (s ∷ x)) (r_along A x u) (r_along A (s ∷ x) u)
          (here d (omega (arith, e))) (other d e) k
        where
          other : (d : ℕ) → length (s ∷ u) ≡ word_length A x + suc d
              → (k : ℕ) → times_q (left_inverse_word A u (unit A) (s ∷ x)) k ≡ times_sign (suc d) (times_q (r_along A (s ∷ x) u)) k
          other zero e k =
              rw (inverse-long u (s ∷ x) (omega (arith, e, size)), none) (nothing k)
            where
              none : r_along A (s ∷ x) u ≡ zero_polynomial
              none = λ i k. along-long A g (s ∷ x) u (omega (arith, e, size)) k i

              nothing : (k : ℕ) → times_q zero_polynomial k ≡ negated (times_q zero_polynomial) k
              nothing zero = refl
              nothing (suc k) = refl
          other (suc j) e k =
              omega (
                arith,
                ints,
                at (ap times_q (λ i m. there j (omega (arith, e, size)) m i)) k,
                times_sign-times_q j (r_along A (s ∷ x) u) k,
              )

  -- along any word
  pub inverse-along : (u x : List ℕ) → IsWord A.rank u
      → left_inverse_word A u (unit A) x ≡ times_sign (length u - word_length A x) (r_along A x u)
  inverse-along u x c = λ i k. same k i
    where
      same : (k : ℕ) → left_inverse_word A u (unit A) x k ≡ times_sign (length u - word_length A x) (r_along A x u) k
      same k =
          ⊎_elim
          (λ (l : length u < word_length A x). at (inverse-long u x l) k
          ∙ sym (ap (λ (f : Coefficients). times_sign (length u - word_length A x) f k) (λ i j. along-long A g x u l j i)
          ∙ times_sign-none (length u - word_length A x) k))
          (λ (l : word_length A x ≤ length u). inverse-signed u x (length u - word_length A x) c (omega (arith, l)) k)
          (cases_lt (length u) (word_length A x))

  -- R(x,w) is the recursion along the normal form of w
  pub r_polynomial-is : (x w : List ℕ) → r_polynomial A x w ≡ r_along A x (normal_form A w)
  unfolding r_polynomial
  r_polynomial-is x w =
      ap (times_sign (word_length A w - word_length A x)) (inverse-along (normal_form A w) x (IsWord-normal_form A g w))
      ∙ ap (λ (n : ℕ). times_sign (word_length A w - word_length A x) (times_sign (n - word_length A x) (r_along A x (normal_form A w))))
      (sym (word_length-is A w))
      ∙ (λ i k. times_sign-twice (word_length A w - word_length A x) (r_along A x (normal_form A w)) k i)

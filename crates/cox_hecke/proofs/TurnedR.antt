-- R(x,w) turned round in degree d = l(w) - l(x) is (-1)^d R(x,w): by induction along a word of w.
use Rattle.std.proofs.Common.{◌≡◌, ℕ, zero, suc, ◌+◌, List, [], ◌∷◌, length, ⊎_elim, pos, refl, ap, ◌∙◌, arith}
use Rattle.std.proofs.lemmas.Int.{ints}
use Rattle.std.proofs.lemmas.List.Elements.{All-head, All-tail}
use Rattle.cox_base.specs.Matrix.{IsLetter, IsWord}
use Rattle.cox_base.specs.IntegerMatrix.{IntegerMatrix}
use Rattle.cox_base.specs.Admissible.{IsAdmissible}
use Rattle.cox_base.specs.ShortLex.{normal_form}
use Rattle.cox_base.specs.Length.{word_length}
use Rattle.cox_base.specs.Descents.{IsLeftDescent}
use Rattle.cox_reflect.proofs.Search.{IsWord-normal_form}
use Rattle.cox_reflect.proofs.Lengths.{word_length-is, cons-word_length}
use Rattle.cox_reflect.proofs.Deletion.{left_length}
use Rattle.cox_poly.specs.Coefficients.{Coefficients, zero_polynomial, plus, times_q, times_q_less_one}
use Rattle.cox_poly.specs.Products.{flip}
use Rattle.cox_poly.specs.Multiples.{negated}
use Rattle.cox_poly.specs.Size.{HasDegreeAtMost}
use Rattle.cox_poly.proofs.Coefficients.{flip_at, flip_above, flip-none, flip-one, flip-plus, flip-minus, flip-suc, flip-times_q}
use Rattle.cox_rpoly.specs.Sign.{times_sign}
use Rattle.cox_rpoly.specs.RPolynomial.{r_polynomial}
use Rattle.cox_rpoly.specs.Recursion.{r_along}
use Rattle.cox_rpoly.proofs.AlongWords.{along-identity, along-shorter, along-longer, along-long, along-degree, shortens}
use Rattle.cox_rpoly.proofs.Signs.{times_sign-plus, times_sign-minus, times_sign-times_q}
use Rattle.cox_rpoly.proofs.Expansion.{r_polynomial-is}

at : {f h : Coefficients} → f ≡ h → (k : ℕ) → f k ≡ h k
at e k = ap (λ (f : Coefficients). f k) e

-- (q-1) f + q h, from f turned round in degree e and h in degree e - 1
turned-longer : (e : ℕ) (f h : Coefficients) → HasDegreeAtMost f e → ((k : ℕ) → flip e f k ≡ times_sign e f k)
    → ((k : ℕ) → flip e h k ≡ negated (times_sign e (times_q h)) k)
    → (k : ℕ) → flip (suc e) (plus (times_q_less_one f) (times_q h)) k ≡ times_sign (suc e) (plus (times_q_less_one f) (times_q h)) k
turned-longer e f h low turned_f turned_h k =
    omega (
      arith,
      ints,
      at (flip-plus (suc e) (times_q_less_one f) (times_q h)) k,
      at (flip-minus (suc e) (times_q f) f) k,
      flip-times_q e f k,
      turned_f k,
      flip-suc e f low k,
      at (ap times_q (λ i j. turned_f j i)) k,
      flip-times_q e h k,
      turned_h k,
      times_sign-plus e (times_q_less_one f) (times_q h) k,
      times_sign-minus e (times_q f) f k,
      times_sign-times_q e f k,
    )

module _ (A : IntegerMatrix) (g : IsAdmissible A) where
  along-turned : (x v : List ℕ) (d : ℕ) → IsWord A.rank v → length v ≡ word_length A x + d
      → (k : ℕ) → flip d (r_along A x v) k ≡ times_sign d (r_along A x v) k
  along-turned x [] zero c e k = rw (along-identity A x (omega (arith, e))) (at flip-one k)
  along-turned x [] (suc d) c e k = absurd (omega (arith, e))
  along-turned x (s ∷ v) d c e k = ⊎_elim
      (λ (down : IsLeftDescent A x s).
      rw (along-shorter A x s v down)
      (along-turned (s ∷ x) v d (All-tail (IsLetter A.rank) s v c) (omega (arith, e, down, cons-word_length A g s x)) k))
      (λ (none : IsLeftDescent A x s → ⊥).
      rw (along-longer A x s v none)
      (longer d e (rises none) (λ m f. along-turned x v m (All-tail (IsLetter A.rank) s v c) f)
      (λ m f. along-turned (s ∷ x) v m (All-tail (IsLetter A.rank) s v c) f) k))
      (shortens A x s)
    where
      rises : (IsLeftDescent A x s → ⊥) → word_length A (s ∷ x) ≡ word_length A x + 1
      rises none = ⊎_elim (λ e. e) (λ e. absurd (none (omega (arith, e)))) (left_length A g s x (All-head (IsLetter A.rank) s v c))

      longer : (d : ℕ) → length (s ∷ v) ≡ word_length A x + d → word_length A (s ∷ x) ≡ word_length A x + 1
          → ((m : ℕ) → length v ≡ word_length A x + m → (k : ℕ) → flip m (r_along A x v) k ≡ times_sign m (r_along A x v) k)
          → ((m : ℕ) → length v ≡ word_length A (s ∷ x) + m → (k : ℕ)
          → flip m (r_along A (s ∷ x) v) k ≡ times_sign m (r_along A (s ∷ x) v) k)
          → (k : ℕ) → flip d (plus (times_q_less_one (r_along A x v)) (times_q (r_along A (s ∷ x) v))) k
          ≡ times_sign d (plus (times_q_less_one (r_along A x v)) (times_q (r_along A (s ∷ x) v))) k
      longer zero e size here there k =
          rw (none_here, none_there) (flat k)
        where
          none_here : r_along A x v ≡ zero_polynomial
          none_here = λ i k. along-long A g x v (omega (arith, e)) k i

          none_there : r_along A (s ∷ x) v ≡ zero_polynomial
          none_there = λ i k. along-long A g (s ∷ x) v (omega (arith, e, size)) k i

          flat : (k : ℕ) → flip 0 (plus (times_q_less_one zero_polynomial) (times_q zero_polynomial)) k
              ≡ plus (times_q_less_one zero_polynomial) (times_q zero_polynomial) k
          flat zero = flip_at (plus (times_q_less_one zero_polynomial) (times_q zero_polynomial)) 0 0 0 (omega arith)
          flat (suc k) = flip_above (plus (times_q_less_one zero_polynomial) (times_q zero_polynomial)) 0 (suc k) (omega arith)
      longer (suc d) e size here there k =
          turned-longer d (r_along A x v) (r_along A (s ∷ x) v) (along-degree A g x v d (omega (arith, e))) (here d (omega (arith, e)))
          (other d e) k
        where
          other : (d : ℕ) → length (s ∷ v) ≡ word_length A x + suc d
              → (k : ℕ) → flip d (r_along A (s ∷ x) v) k ≡ negated (times_sign d (times_q (r_along A (s ∷ x) v))) k
          other zero e k = rw none (at (flip-none 0) k ∙ nothing k)
            where
              none : r_along A (s ∷ x) v ≡ zero_polynomial
              none = λ i k. along-long A g (s ∷ x) v (omega (arith, e, size)) k i

              nothing : (k : ℕ) → pos 0 ≡ negated (times_q zero_polynomial) k
              nothing zero = refl
              nothing (suc k) = refl
          other (suc j) e k =
              omega (
                arith,
                ints,
                flip-suc j (r_along A (s ∷ x) v) (along-degree A g (s ∷ x) v j (omega (arith, e, size))) k,
                at (ap times_q (λ i m. there j (omega (arith, e, size)) m i)) k,
                times_sign-times_q j (r_along A (s ∷ x) v) k,
              )

  pub r-turned : (x w : List ℕ) (d : ℕ) → word_length A w ≡ word_length A x + d
      → (k : ℕ) → flip d (r_polynomial A x w) k ≡ times_sign d (r_polynomial A x w) k
  r-turned x w d e k =
      rw (r_polynomial-is A g x w) (along-turned x (normal_form A w) d (IsWord-normal_form A g w) (omega (arith, e, word_length-is A w)) k)

-- R along a word, by induction on the word.
use Rattle.std.proofs.Common.{◌≡◌, ℕ, zero, suc, ◌+◌, ◌*◌, ◌^◌, ◌<◌, ◌≤◌, Bool, true, false, if◌then◌else◌, List, [], ◌∷◌, length, pos}
use Rattle.std.proofs.Common.{refl, ap, sym, ◌∙◌, ⊎_elim, arith, inl, inr, ◌⊎◌, lit<}
use Rattle.std.specs.Prelude.{◌==◌}
use Rattle.std.proofs.lemmas.Bool.{cases_lt, cases_eq}
use Rattle.std.proofs.lemmas.Bool.Decides.{nat_tests}
use Rattle.std.proofs.Math.Nat.{pow-le-pow_right}
use Rattle.cox_base.specs.IntegerMatrix.{IntegerMatrix}
use Rattle.cox_base.specs.Admissible.{IsAdmissible}
use Rattle.cox_base.specs.Element.{SameElement}
use Rattle.cox_base.specs.Length.{word_length}
use Rattle.cox_base.specs.Reduced.{IsReduced}
use Rattle.cox_base.specs.Descents.{IsLeftDescent}
use Rattle.cox_base.specs.Bruhat.{IsBelow}
use Rattle.cox_reflect.proofs.Elements.{same-refl, same-sym, same-trans, same-cons, same-square}
use Rattle.cox_reflect.proofs.Search.{word_length-equal, word_length-length}
use Rattle.cox_reflect.proofs.Lengths.{empty_same, cons-word_length, IsReduced-tail}
use Rattle.cox_reflect.proofs.Roots.{left_descent-letter}
use Rattle.cox_reflect.proofs.Deletion.{left_length}
use Rattle.cox_reflect.proofs.Bruhat.{below-same, below-refl, below-trans, below-ascent, lift_down, lift_up}
use Rattle.cox_poly.specs.Coefficients.{Coefficients, zero_polynomial, one_polynomial, plus, times_q, times_q_less_one}
use Rattle.cox_poly.specs.Size.{HasNormAtMost, HasDegreeAtMost, absolute_sum}
use Rattle.cox_poly.proofs.Norms.{HasNormAtMost-zero, HasNormAtMost-one, HasNormAtMost-plus, HasNormAtMost-times_q}
use Rattle.cox_poly.proofs.Norms.{HasNormAtMost-times_q_less_one, HasNormAtMost-same}
use Rattle.cox_rpoly.specs.InverseOperators.{shortens_left}
use Rattle.cox_rpoly.specs.Recursion.{r_along}

-- ---- whether a letter shortens a word

pub shortens_left-yes : (A : IntegerMatrix) (x : List ℕ) (s : ℕ) → IsLeftDescent A x s → shortens_left A s x ≡ true
shortens_left-yes A x s d = grind (arith, nat_tests)

pub shortens_left-no : (A : IntegerMatrix) (x : List ℕ) (s : ℕ) → (IsLeftDescent A x s → ⊥) → shortens_left A s x ≡ false
shortens_left-no A x s n =
    let le : word_length A x ≤ word_length A (s ∷ x) = ⊎_elim (λ d. absurd (n d)) (λ (h : word_length A x ≤ word_length A (s ∷ x)). h)
    (cases_lt (word_length A (s ∷ x)) (word_length A x))
    in grind (arith, nat_tests)

-- ---- the four cases

pub along-identity : (A : IntegerMatrix) (x : List ℕ) → word_length A x ≡ 0 → r_along A x [] ≡ one_polynomial
unfolding r_along
along-identity A x e = rw e refl

pub along-other : (A : IntegerMatrix) (x : List ℕ) → 0 < word_length A x → r_along A x [] ≡ zero_polynomial
unfolding r_along
along-other A x e = go (word_length A x == 0) refl
  where
    go : (b : Bool) → (word_length A x == 0) ≡ b → (if word_length A x == 0 then one_polynomial else zero_polynomial) ≡ zero_polynomial
    go true t = absurd (grind (arith, nat_tests))
    go false t = rw t refl

pub along-shorter : (A : IntegerMatrix) (x : List ℕ) (s : ℕ) (v : List ℕ) → IsLeftDescent A x s → r_along A x (s ∷ v) ≡ r_along A (s ∷ x) v
unfolding r_along
along-shorter A x s v d = rw (shortens_left-yes A x s d) refl

pub along-longer : (A : IntegerMatrix) (x : List ℕ) (s : ℕ) (v : List ℕ) → (IsLeftDescent A x s → ⊥)
    → r_along A x (s ∷ v) ≡ plus (times_q_less_one (r_along A x v)) (times_q (r_along A (s ∷ x) v))
unfolding r_along
along-longer A x s v n = rw (shortens_left-no A x s n) refl

-- whether s shortens x
pub shortens : (A : IntegerMatrix) (x : List ℕ) (s : ℕ) → IsLeftDescent A x s ⊎ (IsLeftDescent A x s → ⊥)
shortens A x s = ⊎_elim (λ d. inl d) (λ (le : word_length A x ≤ word_length A (s ∷ x)). inr (λ d. omega (arith, le, d)))
    (cases_lt (word_length A (s ∷ x)) (word_length A x))

pub longer-length : (A : IntegerMatrix) (x : List ℕ) (s : ℕ) → (IsLeftDescent A x s → ⊥) → word_length A x ≤ word_length A (s ∷ x)
longer-length A x s n = ⊎_elim (λ d. absurd (n d)) (λ le. le) (cases_lt (word_length A (s ∷ x)) (word_length A x))

-- ---- (q-1) f + q h

pub step-none : (f h : Coefficients) → ((k : ℕ) → f k ≡ pos 0) → ((k : ℕ) → h k ≡ pos 0) → (k : ℕ)
    → plus (times_q_less_one f) (times_q h) k ≡ pos 0
step-none f h no_f no_h zero = rw (no_f 0) refl
step-none f h no_f no_h (suc k) = rw (no_f k, no_f (suc k), no_h k) refl

step-degree : (f h : Coefficients) (n : ℕ) → HasDegreeAtMost f n → HasDegreeAtMost h n
    → HasDegreeAtMost (plus (times_q_less_one f) (times_q h)) (suc n)
step-degree f h n low_f low_h zero above = absurd (omega arith)
step-degree f h n low_f low_h (suc k) above = rw (low_f k (omega arith), low_f (suc k) (omega arith), low_h k (omega arith)) refl

step-norm : (f h : Coefficients) (n : ℕ) → HasNormAtMost f (3 ^ n) → HasNormAtMost h (3 ^ n)
    → HasNormAtMost (plus (times_q_less_one f) (times_q h)) (3 ^ suc n)
step-norm f h n low_f low_h k =
    let whole = HasNormAtMost-plus (times_q_less_one f) (times_q h) (3 ^ n + 3 ^ n) (3 ^ n)
    (HasNormAtMost-times_q_less_one f (3 ^ n) low_f) (HasNormAtMost-times_q h (3 ^ n) low_h) k
    in let power : 3 ^ suc n ≡ 3 * 3 ^ n = omega arith
    in omega (arith, whole, power)

module _ (A : IntegerMatrix) (g : IsAdmissible A) where
  -- ---- 0 where x has more letters than are left

  pub along-long : (x v : List ℕ) → length v < word_length A x → (k : ℕ) → r_along A x v k ≡ pos 0
  along-long x [] long k = ap (λ (f : Coefficients). f k) (along-other A x long)
  along-long x (s ∷ v) long k =
      ⊎_elim
      (λ (d : IsLeftDescent A x s). ap (λ (f : Coefficients). f k) (along-shorter A x s v d)
      ∙ along-long (s ∷ x) v (omega (arith, long, cons-word_length A g s x)) k)
      (λ (n : IsLeftDescent A x s → ⊥). ap (λ (f : Coefficients). f k) (along-longer A x s v n)
      ∙ step-none (r_along A x v) (r_along A (s ∷ x) v) (along-long x v (omega (arith, long)))
      (along-long (s ∷ x) v (omega (arith, long, longer-length A x s n))) k)
      (shortens A x s)

  -- ---- the degree, and the sum of the absolute coefficients

  pub along-degree : (x v : List ℕ) (n : ℕ) → length v ≤ word_length A x + n → HasDegreeAtMost (r_along A x v) n
  along-degree x [] n near = λ k above. ⊎_elim (identity k above) (other k) (cases_eq (word_length A x) 0)
    where
      one_above : (k : ℕ) → 0 < k → one_polynomial k ≡ pos 0
      one_above zero h = absurd (omega arith)
      one_above (suc k) h = refl

      identity : (k : ℕ) → n < k → word_length A x ≡ 0 → r_along A x [] k ≡ pos 0
      identity k above e = ap (λ (f : Coefficients). f k) (along-identity A x e) ∙ one_above k (omega arith)

      other : (k : ℕ) → (word_length A x ≡ 0 → ⊥) → r_along A x [] k ≡ pos 0
      other k ne = ap (λ (f : Coefficients). f k) (along-other A x (omega (arith, ne)))
  along-degree x (s ∷ v) n near =
      ⊎_elim
      (λ (d : IsLeftDescent A x s). rw (along-shorter A x s v d) (along-degree (s ∷ x) v n (omega (arith, near, cons-word_length A g s x))))
      (λ (none : IsLeftDescent A x s → ⊥). rw (along-longer A x s v none)
      (longer n near none (λ m near_x. along-degree x v m near_x) (λ m near_sx. along-degree (s ∷ x) v m near_sx)))
      (shortens A x s)
    where
      longer : (n : ℕ) → length (s ∷ v) ≤ word_length A x + n → (IsLeftDescent A x s → ⊥)
          → ((m : ℕ) → length v ≤ word_length A x + m → HasDegreeAtMost (r_along A x v) m)
          → ((m : ℕ) → length v ≤ word_length A (s ∷ x) + m → HasDegreeAtMost (r_along A (s ∷ x) v) m)
          → HasDegreeAtMost (plus (times_q_less_one (r_along A x v)) (times_q (r_along A (s ∷ x) v))) n
      longer zero near none low_x low_sx =
          λ k above. step-none (r_along A x v) (r_along A (s ∷ x) v) (along-long x v (omega (arith, near)))
          (along-long (s ∷ x) v (omega (arith, near, longer-length A x s none))) k
      longer (suc n) near none low_x low_sx =
          step-degree (r_along A x v) (r_along A (s ∷ x) v) n (low_x n (omega (arith, near)))
          (low_sx n (omega (arith, near, longer-length A x s none)))

  pub along-norm : (x v : List ℕ) (n : ℕ) → length v ≤ word_length A x + n → HasNormAtMost (r_along A x v) (3 ^ n)
  along-norm x [] n near = λ k. ⊎_elim (identity k) (other k) (cases_eq (word_length A x) 0)
    where
      some : 1 ≤ 3 ^ n
      some = let none : 0 ≤ n = omega arith in let e : 3 ^ 0 ≤ 3 ^ n = pow-le-pow_right (lit< tt) none in omega (arith, e)

      identity : (k : ℕ) → word_length A x ≡ 0 → absolute_sum k (r_along A x []) ≤ 3 ^ n
      identity k e = rw (along-identity A x e) (omega (arith, some, HasNormAtMost-one k))

      other : (k : ℕ) → (word_length A x ≡ 0 → ⊥) → absolute_sum k (r_along A x []) ≤ 3 ^ n
      other k ne = rw (along-other A x (omega (arith, ne))) (omega (arith, HasNormAtMost-zero k))
  along-norm x (s ∷ v) n near =
      ⊎_elim
      (λ (d : IsLeftDescent A x s). rw (along-shorter A x s v d) (along-norm (s ∷ x) v n (omega (arith, near, cons-word_length A g s x))))
      (λ (none : IsLeftDescent A x s → ⊥). rw (along-longer A x s v none)
      (longer n near none (λ m near_x. along-norm x v m near_x) (λ m near_sx. along-norm (s ∷ x) v m near_sx)))
      (shortens A x s)
    where
      longer : (n : ℕ) → length (s ∷ v) ≤ word_length A x + n → (IsLeftDescent A x s → ⊥)
          → ((m : ℕ) → length v ≤ word_length A x + m → HasNormAtMost (r_along A x v) (3 ^ m))
          → ((m : ℕ) → length v ≤ word_length A (s ∷ x) + m → HasNormAtMost (r_along A (s ∷ x) v) (3 ^ m))
          → HasNormAtMost (plus (times_q_less_one (r_along A x v)) (times_q (r_along A (s ∷ x) v))) (3 ^ n)
      longer zero near none low_x low_sx = λ k.
          let nothing : HasNormAtMost (plus (times_q_less_one (r_along A x v)) (times_q (r_along A (s ∷ x) v))) 0
          = HasNormAtMost-same zero_polynomial (plus (times_q_less_one (r_along A x v)) (times_q (r_along A (s ∷ x) v))) 0
          (λ j. sym (step-none (r_along A x v) (r_along A (s ∷ x) v) (along-long x v (omega (arith, near)))
          (along-long (s ∷ x) v (omega (arith, near, longer-length A x s none))) j))
          HasNormAtMost-zero
          in omega (arith, nothing k)
      longer (suc n) near none low_x low_sx =
          step-norm (r_along A x v) (r_along A (s ∷ x) v) n (low_x n (omega (arith, near)))
          (low_sx n (omega (arith, near, longer-length A x s none)))

  -- ---- it depends on the element alone

  pub along-same : {x y : List ℕ} → SameElement A x y → (v : List ℕ) → r_along A x v ≡ r_along A y v
  along-same {x} {y} e [] = ⊎_elim identity other (cases_eq (word_length A x) 0)
    where
      long : word_length A x ≡ word_length A y
      long = word_length-equal A g e

      identity : word_length A x ≡ 0 → r_along A x [] ≡ r_along A y []
      identity z = along-identity A x z ∙ sym (along-identity A y (omega (arith, long, z)))

      other : (word_length A x ≡ 0 → ⊥) → r_along A x [] ≡ r_along A y []
      other ne = along-other A x (omega (arith, ne)) ∙ sym (along-other A y (omega (arith, long, ne)))
  along-same {x} {y} e (s ∷ v) =
      let long : word_length A x ≡ word_length A y = word_length-equal A g e
      in let moved : word_length A (s ∷ x) ≡ word_length A (s ∷ y) = word_length-equal A g (same-cons A g s e)
      in ⊎_elim
      (λ (d : IsLeftDescent A x s). along-shorter A x s v d ∙ along-same (same-cons A g s e) v
      ∙ sym (along-shorter A y s v (omega (arith, long, moved, d))))
      (λ (n : IsLeftDescent A x s → ⊥). along-longer A x s v n
      ∙ ap (λ (f : Coefficients). plus (times_q_less_one f) (times_q (r_along A (s ∷ x) v))) (along-same e v)
      ∙ ap (λ (h : Coefficients). plus (times_q_less_one (r_along A y v)) (times_q h)) (along-same (same-cons A g s e) v)
      ∙ sym (along-longer A y s v (λ d. n (omega (arith, long, moved, d)))))
      (shortens A x s)

  -- ---- 1 for the element of a reduced word, and 0 unless below

  first-descent : (s : ℕ) (v : List ℕ) → IsReduced A (s ∷ v) → IsLeftDescent A (s ∷ v) s
  first-descent s v r = omega (arith, r, word_length-equal A g (same-square A g s v), word_length-length A g v)

  pub along-itself : (x v : List ℕ) → IsReduced A v → SameElement A x v → r_along A x v ≡ one_polynomial
  along-itself x [] r e = along-identity A x (omega (arith, word_length-equal A g e, r))
  along-itself x (s ∷ v) r e =
      let d = first-descent s v r
      in along-shorter A x s v (omega (arith, d, word_length-equal A g e, word_length-equal A g (same-cons A g s e)))
      ∙ along-itself (s ∷ x) v (IsReduced-tail A g s v r) (same-trans A g (same-cons A g s e) (same-square A g s v))

  up : (s : ℕ) (z v : List ℕ) → IsBelow A z v → IsBelow A z (s ∷ s ∷ v)
  up s z v b = below-same A g (same-refl A g z) (same-sym A g (same-square A g s v)) b

  moved_not_below : (x : List ℕ) (s : ℕ) (v : List ℕ) → IsReduced A (s ∷ v) → IsLeftDescent A x s → (IsBelow A x (s ∷ v) → ⊥)
      → IsBelow A (s ∷ x) v → ⊥
  moved_not_below x s v r c not_below b = not_below ((lift_down A g x (s ∷ v) s (first-descent s v r) c).1 (up s (s ∷ x) v b))

  still_not_below : (x : List ℕ) (s : ℕ) (v : List ℕ) → IsReduced A (s ∷ v) → (IsLeftDescent A x s → ⊥) → (IsBelow A x (s ∷ v) → ⊥)
      → IsBelow A x v → ⊥
  still_not_below x s v r n not_below b = not_below ((lift_up A g x (s ∷ v) s (first-descent s v r) n).1 (up s x v b))

  longer_not_below : (x : List ℕ) (s : ℕ) (v : List ℕ) → IsReduced A (s ∷ v) → (IsLeftDescent A x s → ⊥) → (IsBelow A x (s ∷ v) → ⊥)
      → IsBelow A (s ∷ x) v → ⊥
  longer_not_below x s v r n not_below b =
      let l = left_descent-letter A g (s ∷ v) s (first-descent s v r)
      in let rising : word_length A x < word_length A (s ∷ x) = ⊎_elim (λ e. omega (arith, e)) (λ e. absurd (n (omega (arith, e))))
      (left_length A g s x l)
      in still_not_below x s v r n not_below (below-trans A g (below-ascent A g x s l rising) b)

  pub along-not_below : (x v : List ℕ) → IsReduced A v → (IsBelow A x v → ⊥) → (k : ℕ) → r_along A x v k ≡ pos 0
  along-not_below x [] r not_below k = ⊎_elim (λ e. absurd (not_below (below-refl A g (empty_same A g x e)))) other
      (cases_eq (word_length A x) 0)
    where
      other : (word_length A x ≡ 0 → ⊥) → r_along A x [] k ≡ pos 0
      other ne = ap (λ (f : Coefficients). f k) (along-other A x (omega (arith, ne)))
  along-not_below x (s ∷ v) r not_below k =
      ⊎_elim
      (λ (c : IsLeftDescent A x s). ap (λ (f : Coefficients). f k) (along-shorter A x s v c)
      ∙ along-not_below (s ∷ x) v (IsReduced-tail A g s v r) (moved_not_below x s v r c not_below) k)
      (λ (n : IsLeftDescent A x s → ⊥). ap (λ (f : Coefficients). f k) (along-longer A x s v n)
      ∙ step-none (r_along A x v) (r_along A (s ∷ x) v)
      (along-not_below x v (IsReduced-tail A g s v r) (still_not_below x s v r n not_below))
      (along-not_below (s ∷ x) v (IsReduced-tail A g s v r) (longer_not_below x s v r n not_below)) k)
      (shortens A x s)

-- Operators of words: those of two reduced words of one element are the same. Since left operators commute with right ones, it is enough to
-- look at the coefficient of T(e), where a word u of k letters gives q^k times the coefficient at u.
use Rattle.std.proofs.Common.{◌≡◌, ℕ, zero, suc, Bool, true, false, not, List, [], ◌∷◌, ◌++◌, length}
use Rattle.std.proofs.Common.{refl, ap, sym, ◌∙◌, subst, arith}
use Rattle.cox_base.specs.Matrix.{IsLetter}
use Rattle.cox_base.specs.IntegerMatrix.{IntegerMatrix}
use Rattle.cox_base.specs.Admissible.{IsAdmissible}
use Rattle.cox_base.specs.Element.{SameElement}
use Rattle.cox_base.specs.Length.{word_length}
use Rattle.cox_base.specs.Reduced.{IsReduced}
use Rattle.cox_base.specs.Descents.{IsRightDescent}
use Rattle.cox_reflect.proofs.Elements.{same-push_twice}
use Rattle.cox_reflect.proofs.Search.{word_length-equal}
use Rattle.cox_reflect.proofs.Lengths.{IsReduced-tail, empty_same}
use Rattle.cox_reflect.proofs.Roots.{descent-letter}
use Rattle.cox_poly.specs.Coefficients.{Coefficients, times_q}
use Rattle.cox_rpoly.specs.InverseOperators.{shortens_left}
use Rattle.cox_hecke.specs.Family.{Family, RespectsElements}
use Rattle.cox_hecke.specs.Operators.{shortens_right}
use Rattle.cox_hecke.proofs.Descents.{nat_lt-yes, Moves, right_moves, shortens_right-back, reduced-letter, reduced-rises}
use Rattle.cox_hecke.proofs.Descents.{some_right_descent}
use Rattle.cox_hecke.proofs.Signed.{left_signed, right_signed, left_back, family_times_q}
use Rattle.cox_hecke.proofs.Signed.{left_signed-times_q, left_back-times_q, by_left-respects, by_right-respects, plus_signed, first_times_q}
use Rattle.cox_hecke.proofs.Signed.{first_alone, minus_signed}
use Rattle.cox_hecke.proofs.Signed.{family_times_q-respects, left_signed-back, back-left, left-right}

-- q^n h
abbrev pub family_power : ℕ → Family → Family
family_power zero h = h
family_power (suc n) h = family_times_q (family_power n h)

-- T(sk) .. T(s1) h, for the word s1 .. sk
abbrev pub left_along : IntegerMatrix → Bool → List ℕ → Family → Family
left_along A b [] h = h
left_along A b (s ∷ u) h = left_along A b u (left_signed A b s h)

-- the other operators, the last letter first
abbrev pub back_along : IntegerMatrix → Bool → List ℕ → Family → Family
back_along A b [] h = h
back_along A b (s ∷ u) h = left_back A b s (back_along A b u h)

pub family_power-cancel : (n : ℕ) {h j : Family} → family_power n h ≡ family_power n j → h ≡ j
family_power-cancel zero e = e
family_power-cancel (suc n) {h} {j} e = family_power-cancel n (λ i x k. ap (λ (f : Family). f x (suc k)) e i)

-- one q more inside
family_power-inside : (n : ℕ) (h : Family) → family_power n (family_times_q h) ≡ family_times_q (family_power n h)
family_power-inside zero h = refl
family_power-inside (suc n) h = ap family_times_q (family_power-inside n h)

module _ (A : IntegerMatrix) (g : IsAdmissible A) where
  pub family_power-respects : (n : ℕ) (h : Family) → RespectsElements A h → RespectsElements A (family_power n h)
  family_power-respects zero h r = r
  family_power-respects (suc n) h r = family_times_q-respects A g (family_power n h) (family_power-respects n h r)

  pub left_along-respects : (b : Bool) (u : List ℕ) (h : Family) → RespectsElements A h → RespectsElements A (left_along A b u h)
  left_along-respects b [] h r = r
  left_along-respects b (s ∷ u) h r = left_along-respects b u (left_signed A b s h)
      (by_left-respects A g (plus_signed b) first_times_q s h r)

  pub back_along-respects : (b : Bool) (u : List ℕ) (h : Family) → RespectsElements A h → RespectsElements A (back_along A b u h)
  back_along-respects b [] h r = r
  back_along-respects b (s ∷ u) h r = by_left-respects A g first_alone (minus_signed b) s (back_along A b u h) (back_along-respects b u h r)

  -- ---- q passes

  left_along-times_q : (b : Bool) (u : List ℕ) (h : Family) → left_along A b u (family_times_q h) ≡ family_times_q (left_along A b u h)
  left_along-times_q b [] h = refl
  left_along-times_q b (s ∷ u) h = ap (left_along A b u) (left_signed-times_q A b s h) ∙ left_along-times_q b u (left_signed A b s h)

  left_back-power : (b : Bool) (s n : ℕ) (h : Family) → left_back A b s (family_power n h) ≡ family_power n (left_back A b s h)
  left_back-power b s zero h = refl
  left_back-power b s (suc n) h = left_back-times_q A b s (family_power n h) ∙ ap family_times_q (left_back-power b s n h)

  back_along-power : (b : Bool) (u : List ℕ) (n : ℕ) (h : Family)
      → back_along A b u (family_power n h) ≡ family_power n (back_along A b u h)
  back_along-power b [] n h = refl
  back_along-power b (s ∷ u) n h = ap (left_back A b s) (back_along-power b u n h) ∙ left_back-power b s n (back_along A b u h)

  -- ---- at e

  left_along-identity : (b : Bool) (u : List ℕ) (h : Family) → IsReduced A u → left_along A b u h [] ≡ family_power (length u) h u
  left_along-identity b [] h r = refl
  left_along-identity b (s ∷ u) h r =
      left_along-identity b u (left_signed A b s h) (IsReduced-tail A g s u r) ∙ power (length u) u (reduced-rises A g s u r)
    where
      power : (n : ℕ) (x : List ℕ) → shortens_left A s x ≡ false
          → family_power n (left_signed A b s h) x ≡ times_q (family_power n h (s ∷ x))
      power zero x e = rw e refl
      power (suc n) x e = ap times_q (power n x e)

  -- ---- right operators pass

  left_along-right : (b : Bool) (u : List ℕ) (t : ℕ) (h : Family) → IsReduced A u → IsLetter A.rank t → RespectsElements A h
      → left_along A b u (right_signed A b t h) ≡ right_signed A b t (left_along A b u h)
  left_along-right b [] t h c l r = refl
  left_along-right b (s ∷ u) t h c l r =
      ap (left_along A b u) (left-right A g b s t h (reduced-letter A g s u c) l r)
      ∙ left_along-right b u t (left_signed A b s h) (IsReduced-tail A g s u c) l (by_left-respects A g (plus_signed b) first_times_q s h r)

  -- ---- the word does not matter: at x, by a right descent of x down to e

  left_along-at : (b : Bool) (n : ℕ) (u v : List ℕ) (h : Family) → IsReduced A u → IsReduced A v → SameElement A u v → RespectsElements A h
      → (x : List ℕ) → word_length A x ≡ n → (k : ℕ) → left_along A b u h x k ≡ left_along A b v h x k
  left_along-at b zero u v h c d e r x z k =
      left_along-respects b u h r x [] identity k ∙ ap (λ (f : Coefficients). f k) (left_along-identity b u h c)
      ∙ ap (λ (n : ℕ). family_power n h u k) size ∙ family_power-respects (length v) h r u v e k
      ∙ ap (λ (f : Coefficients). f k) (sym (left_along-identity b v h d)) ∙ sym (left_along-respects b v h r x [] identity k)
    where
      size : length u ≡ length v
      size = sym c ∙ word_length-equal A g e ∙ d

      identity : SameElement A x []
      identity = empty_same A g x z
  left_along-at b (suc n) u v h c d e r x z k =
      step (some_right_descent A g x (omega (arith, z)))
      (λ t l y size. left_along-at b n u v (right_signed A b t h) c d e (by_right-respects A g (plus_signed b) first_times_q t h r) y size
      (suc k))
    where
      -- the coefficient at x is, a degree higher, that of the product with T(t) at xt
      raised : (t : ℕ) (w : List ℕ) → IsReduced A w → IsLetter A.rank t → shortens_right A t (x ++ t ∷ []) ≡ false
          → left_along A b w (right_signed A b t h) (x ++ t ∷ []) (suc k) ≡ left_along A b w h x k
      raised t w cw l q =
          ap (λ (f : Family). f (x ++ t ∷ []) (suc k)) (left_along-right b w t h cw l r)
          ∙ rw q (left_along-respects b w h r ((x ++ t ∷ []) ++ t ∷ []) x (same-push_twice A g x t) k)

      step : (t : ℕ) × IsRightDescent A x t
          → ((t : ℕ) → IsLetter A.rank t → (y : List ℕ) → word_length A y ≡ n
          → left_along A b u (right_signed A b t h) y (suc k) ≡ left_along A b v (right_signed A b t h) y (suc k))
          → left_along A b u h x k ≡ left_along A b v h x k
      step (t, down) below =
          let l = descent-letter A g x t down
          in let q : shortens_right A t (x ++ t ∷ []) ≡ false
          = shortens_right-back A g t x l ∙ ap not (nat_lt-yes down)
          in let size : word_length A (x ++ t ∷ []) ≡ n = down_one t l (nat_lt-yes down) (right_moves A g t x l)
          in sym (raised t u c l q) ∙ below t l (x ++ t ∷ []) size ∙ raised t v d l q
        where
          down_one : (t : ℕ) → IsLetter A.rank t → shortens_right A t x ≡ true
              → Moves (shortens_right A t x) (word_length A x) (word_length A (x ++ t ∷ [])) → word_length A (x ++ t ∷ []) ≡ n
          down_one t l shorter m = let f : word_length A x
              ≡ suc (word_length A (x ++ t ∷ [])) = subst (λ p. Moves p (word_length A x) (word_length A (x ++ t ∷ []))) shorter m
              in omega (arith, f, z)

  pub left_along-same : (b : Bool) (u v : List ℕ) (h : Family) → IsReduced A u → IsReduced A v → SameElement A u v → RespectsElements A h
      → left_along A b u h ≡ left_along A b v h
  left_along-same b u v h c d e r = λ i x k. left_along-at b (word_length A x) u v h c d e r x refl k i

  -- ---- the same for the other operators, which undo these but for a power of q

  back_along-left : (b : Bool) (u : List ℕ) (h : Family) → IsReduced A u → RespectsElements A h
      → back_along A b u (left_along A b u h) ≡ family_power (length u) h
  back_along-left b [] h c r = refl
  back_along-left b (s ∷ u) h c r =
      ap (left_back A b s) (back_along-left b u (left_signed A b s h) (IsReduced-tail A g s u c)
      (by_left-respects A g (plus_signed b) first_times_q s h r))
      ∙ left_back-power b s (length u) (left_signed A b s h)
      ∙ ap (family_power (length u)) (back-left A g b s h (reduced-letter A g s u c) r) ∙ family_power-inside (length u) h

  left_along-back : (b : Bool) (u : List ℕ) (h : Family) → IsReduced A u → RespectsElements A h
      → left_along A b u (back_along A b u h) ≡ family_power (length u) h
  left_along-back b [] h c r = refl
  left_along-back b (s ∷ u) h c r =
      ap (left_along A b u) (left_signed-back A g b s (back_along A b u h) (reduced-letter A g s u c) (back_along-respects b u h r))
      ∙ left_along-times_q b u (back_along A b u h) ∙ ap family_times_q (left_along-back b u h (IsReduced-tail A g s u c) r)

  pub back_along-same : (b : Bool) (u v : List ℕ) (h : Family) → IsReduced A u → IsReduced A v → SameElement A u v → RespectsElements A h
      → back_along A b u h ≡ back_along A b v h
  back_along-same b u v h c d e r = family_power-cancel (length u) whole
    where
      size : length v ≡ length u
      size = sym d ∙ sym (word_length-equal A g e) ∙ c

      whole : family_power (length u) (back_along A b u h) ≡ family_power (length u) (back_along A b v h)
      whole =
          sym (back_along-power b u (length u) h)
          ∙ ap (λ (n : ℕ). back_along A b u (family_power n h)) (sym size)
          ∙ ap (back_along A b u) (sym (left_along-back b v h d r))
          ∙ ap (back_along A b u) (sym (left_along-same b u v (back_along A b v h) c d e (back_along-respects b v h r)))
          ∙ back_along-left b u (back_along A b v h) c (back_along-respects b v h r)

-- What Need(w) is, by the least left descent s of w: w itself, what sw needs, and what the corrections of the step from sw to w need.
use Rattle.std.proofs.Common.{◌≡◌, ℕ, ◌<◌, ◌≤◌, List, ◌∷◌, ℤ, ⊎_elim, ◌⊎◌, inl, inr, suc, zero, arith}
use Rattle.std.proofs.lemmas.Bool.{cases_lt}
use Rattle.cox_base.specs.declared.side.Side.TheVariants.{Left}
use Rattle.cox_base.specs.IntegerMatrix.{IntegerMatrix}
use Rattle.cox_base.specs.Admissible.{IsAdmissible}
use Rattle.cox_base.specs.Element.{SameElement}
use Rattle.cox_base.specs.Bruhat.{IsBelow}
use Rattle.cox_base.specs.Length.{word_length}
use Rattle.cox_base.specs.Descents.{IsLeftDescent}
use Rattle.cox_reflect.specs.LeastDescent.{IsLeastLeftDescent}
use Rattle.cox_reflect.proofs.Elements.{same-refl, same-sym, same-trans, same-cons}
use Rattle.cox_reflect.proofs.Search.{word_length-equal}
use Rattle.cox_reflect.proofs.Bruhat.{below-refl, below-same, below-trans, below-descent, below-length}
use Rattle.cox_hecke.specs.Step.{IsCorrection}
use Rattle.cox_hecke.specs.Needs.{IsNeeded, itself, shorter, corrected}
use Rattle.cox_hecke.proofs.Descents.{some_left_descent}
use Rattle.cox_hecke.proofs.Descended.{mu-below}
use Rattle.cox_hecke.proofs.NeededElements.{needed-trans}
use Rattle.cox_row.proofs.MuOfElements.{mu-words}

-- z is w, or sw needs it, or a correction of the step from sw to w needs it
pub data NeedCase (A : IntegerMatrix) (w z : List ℕ) : Type 0 where
  is : SameElement A z w → NeedCase A w z
  by_shorter : {s : ℕ} → IsLeastLeftDescent A w s → IsNeeded A (s ∷ w) z → NeedCase A w z
  by_correction : {s : ℕ} {u : List ℕ} {m : ℤ} → IsLeastLeftDescent A w s → IsCorrection Left A s (s ∷ w) u m → IsNeeded A u z
      → NeedCase A w z

module _ (A : IntegerMatrix) (g : IsAdmissible A) where
  -- ---- any word of w will do

  pub least-same : (w z : List ℕ) (s : ℕ) → SameElement A z w → IsLeastLeftDescent A z s → IsLeastLeftDescent A w s
  least-same w z s e d = record {
    descent = omega (arith, d.descent, word_length-equal A g e, word_length-equal A g (same-cons A g s e));
    least = λ t f. d.least t (omega (arith, f, word_length-equal A g e, word_length-equal A g (same-cons A g t e)));
  }

  pub least-unique : (w : List ℕ) (s t : ℕ) → IsLeastLeftDescent A w s → IsLeastLeftDescent A w t → t ≡ s
  least-unique w s t d f = omega (arith, d.least t f.descent, f.least s d.descent)

  -- a correction by other words of the elements
  pub correction-words : (s : ℕ) (v v' u u' : List ℕ) (m : ℤ) → SameElement A v v' → SameElement A u u' → IsCorrection Left A s v u m
      → IsCorrection Left A s v' u' m
  correction-words s v v' u u' m e f c = record {
    shortens = omega (arith, c.shortens, word_length-equal A g f, word_length-equal A g (same-cons A g s f));
    is_mu = mu-words A g m f e c.is_mu;
    some = c.some;
  }

  pub needed-from : (v w z : List ℕ) → SameElement A v w → IsNeeded A v z → IsNeeded A w z
  needed-from v w z e n = needed-trans A g w v z (itself e) n

  -- ---- what is shorter than w

  -- what the row of w needs is below w
  pub needed-below : (w z : List ℕ) → IsNeeded A w z → IsBelow A z w
  needed-below w z (itself e) = below-refl A g e
  needed-below w v (shorter {z = z} {s = s} n d e) =
      below-trans A g (below-same A g (same-sym A g e) (same-refl A g z) (below-descent A g z s d.descent)) (needed-below w z n)
  needed-below w v (corrected {z = z} {s = s} {m = m} n d c) =
      below-trans A g (mu-below A g v (s ∷ z) m c.is_mu c.some) (below-trans A g (below-descent A g z s d.descent) (needed-below w z n))

  -- a correction of the step from sw is no longer than sw
  pub correction-length : (s : ℕ) (v u : List ℕ) (m : ℤ) → IsCorrection Left A s v u m → word_length A u ≤ word_length A v
  correction-length s v u m c = below-length A g (mu-below A g u v m c.is_mu c.some)

  -- ---- the cases

  pub need_case : (w z : List ℕ) → IsNeeded A w z → NeedCase A w z
  need_case w z (itself e) = is e
  need_case w z (shorter {z = x} {s = s} n d e) = go (need_case w x n)
    where
      go : NeedCase A w x → NeedCase A w z
      go (is f) = by_shorter (least-same w x s f d) (itself (same-trans A g e (same-cons A g s f)))
      go (by_shorter f k) = by_shorter f (shorter k d e)
      go (by_correction f c k) = by_correction f c (shorter k d e)
  need_case w z (corrected {z = x} {s = s} {m = m} n d c) = go (need_case w x n)
    where
      go : NeedCase A w x → NeedCase A w z
      go (is f) =
          by_correction (least-same w x s f d) (correction-words s (s ∷ x) (s ∷ w) z z m (same-cons A g s f) (same-refl A g z) c)
          (itself (same-refl A g z))
      go (by_shorter f k) = by_shorter f (corrected k d c)
      go (by_correction f e k) = by_correction f e (corrected k d c)

  -- and back
  pub need-shorter : (w z : List ℕ) (s : ℕ) → IsLeastLeftDescent A w s → IsNeeded A (s ∷ w) z → IsNeeded A w z
  need-shorter w z s d n = needed-trans A g w (s ∷ w) z (shorter (itself (same-refl A g w)) d (same-refl A g (s ∷ w))) n

  pub need-correction : (w u z : List ℕ) (s : ℕ) (m : ℤ) → IsLeastLeftDescent A w s → IsCorrection Left A s (s ∷ w) u m → IsNeeded A u z
      → IsNeeded A w z
  need-correction w u z s m d c n = needed-trans A g w u z (corrected (itself (same-refl A g w)) d c) n

  -- ---- the least left descent

  -- one of the letters below n is the least descent, or none of them is a descent
  least_below : (w : List ℕ) (n : ℕ) → ((s : ℕ) × IsLeastLeftDescent A w s) ⊎ ((s : ℕ) → s < n → IsLeftDescent A w s → ⊥)
  least_below w zero = inr (λ s l. absurd (omega (arith, l)))
  least_below w (suc n) = ⊎_elim
      (λ (found : (s : ℕ) × IsLeastLeftDescent A w s). inl found)
      (λ (none : (s : ℕ) → s < n → IsLeftDescent A w s → ⊥). ⊎_elim
      (λ (d : word_length A (n ∷ w) < word_length A w). inl (
        n,
        record {
          descent = d;
          least = λ t f. ⊎_elim (λ (less : t < n). absurd (none t less f)) (λ h. h) (cases_lt t n);
        },
      ))
      (λ (no : word_length A w ≤ word_length A (n ∷ w)). inr (λ s l f. ⊎_elim
      (λ (less : s < n). none s less f)
      (λ (more : n ≤ s). let e : s ≡ n = omega (arith, l, more) in let h : IsLeftDescent A w n = rw e at f in omega (arith, h, no))
      (cases_lt s n)))
      (cases_lt (word_length A (n ∷ w)) (word_length A w)))
      (least_below w n)

  pub least_left_descent : (w : List ℕ) → 0 < word_length A w → (s : ℕ) × IsLeastLeftDescent A w s
  least_left_descent w some =
      let d = some_left_descent A g w some
      in ⊎_elim (λ (found : (s : ℕ) × IsLeastLeftDescent A w s). found)
      (λ (none : (s : ℕ) → s < suc d.0 → IsLeftDescent A w s → ⊥). absurd (none d.0 (omega arith) d.1))
      (least_below w (suc d.0))

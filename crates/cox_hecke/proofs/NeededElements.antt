-- Need(w) is a set of elements, and what a needed element needs is needed.
use Rattle.std.proofs.Common.{ℕ, List, ◌∷◌, ℤ, refl, arith}
use Rattle.cox_base.specs.declared.side.Side.TheVariants.{Left}
use Rattle.cox_base.specs.IntegerMatrix.{IntegerMatrix}
use Rattle.cox_base.specs.Admissible.{IsAdmissible}
use Rattle.cox_base.specs.Element.{SameElement}
use Rattle.cox_reflect.proofs.Elements.{same-sym, same-trans, same-cons}
use Rattle.cox_reflect.proofs.Search.{word_length-equal}
use Rattle.cox_reflect.specs.LeastDescent.{IsLeastLeftDescent}
use Rattle.cox_hecke.specs.Step.{IsCorrection}
use Rattle.cox_hecke.specs.Needs.{IsNeeded, itself, shorter, corrected}
use Rattle.cox_hecke.proofs.AllRows.{mu-same}

module _ (A : IntegerMatrix) (g : IsAdmissible A) where
  -- a correction is one by any of its words
  correction-same : (s : ℕ) (v : List ℕ) {u u' : List ℕ} (m : ℤ) → SameElement A u u' → IsCorrection Left A s v u m
      → IsCorrection Left A s v u' m
  correction-same s v {u} {u'} m e is = record {
    shortens = omega (arith, is.shortens, word_length-equal A g e, word_length-equal A g (same-cons A g s e));
    is_mu = mu-same A g u u' v m e is.is_mu;
    some = is.some;
  }

  pub needed-same : (w y z : List ℕ) → SameElement A y z → IsNeeded A w y → IsNeeded A w z
  needed-same w y z e (itself f) = itself (same-trans A g (same-sym A g e) f)
  needed-same w y z e (shorter n d f) = shorter n d (same-trans A g (same-sym A g e) f)
  needed-same w y z e (corrected {z = v} {s = s} {m = m} n d is) = corrected n d (correction-same s (s ∷ v) m e is)

  pub needed-trans : (w z y : List ℕ) → IsNeeded A w z → IsNeeded A z y → IsNeeded A w y
  needed-trans w z y n (itself f) = needed-same w z y (same-sym A g f) n
  needed-trans w z y n (shorter m d f) = shorter (needed-trans w z _ n m) d f
  needed-trans w z y n (corrected m d is) = corrected (needed-trans w z _ n m) d is

-- ---- what is needed of all

module _ (A : IntegerMatrix) where
  pub needed-self : (w : List ℕ) → IsNeeded A w w
  needed-self w = itself record { equal = λ s t l k. refl }

  pub needed-shorter : (w : List ℕ) (s : ℕ) → IsLeastLeftDescent A w s → IsNeeded A w (s ∷ w)
  needed-shorter w s d = shorter (needed-self w) d record { equal = λ s t l k. refl }

  pub needed-corrected : (w : List ℕ) (s : ℕ) → IsLeastLeftDescent A w s → (u : List ℕ) (m : ℤ) → IsCorrection Left A s (s ∷ w) u m
      → IsNeeded A w u
  needed-corrected w s d u m is = corrected (needed-self w) d is
